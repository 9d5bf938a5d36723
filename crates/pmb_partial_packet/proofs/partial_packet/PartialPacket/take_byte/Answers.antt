use Rattle.std.proofs.Common.{sym, ◌∙◌}
use Rattle.pmb_partial_packet.proofs.Stands.{stands_at_byte, stands_at_lone_byte}
use Rattle.pmb_partial_packet.proofs.partial_packet.PartialPacket.take_byte.Goals as goal

pub returns-in-Absent : goal.returns-in-Absent
returns-in-Absent c = λ events stands.
    stands_at_lone_byte c.args.self.now c.pec_next-self.result c.args.byte events (sym c.last.ensures ∙ c.in-Absent.is)
    c.pec_next-self.ensures.goes_on stands

pub returns : goal.returns
returns c = λ events stands.
    stands_at_byte c.args.self.now c.take.new.self c.pec_next-self.result c.pec_next-self-2.result c.args.byte events
    c.take.ensures
    (λ absent. c.in_default.not-Absent (c.last.ensures ∙ absent)) c.pec_next-self.ensures.goes_on
    c.pec_next-self-2.ensures.goes_on stands
