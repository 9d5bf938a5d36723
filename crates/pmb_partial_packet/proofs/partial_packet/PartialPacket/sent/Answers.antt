use Rattle.std.proofs.Common.{ap, reverse, sym, ◌∙◌, List, ℕ, Some}
use Rattle.pmb_partial_packet.specs.PartialPacket.{legs}
use Rattle.pmb_partial_packet.proofs.Answers.{none_sent, sent_is, short_backwards}
use Rattle.pmb_partial_packet.proofs.partial_packet.PartialPacket.sent.Goals as goal

pub returns-in-Some-clause-bytes : goal.returns-in-Some-clause-bytes
returns-in-Some-clause-bytes c = λ profile events viable stands.
    ap (λ (bs : List ℕ). Some bs) c.written.ensures.bytes
    ∙ sent_is c.args.self.now.legs (reverse (legs events)) c.in-Some.field-0 stands.legs
    (short_backwards (legs events) (c.legs_are_short.ensures profile events viable))
    (sym c.written_address.ensures ∙ c.in-Some.is)

pub returns-in-None-clause-bytes : goal.returns-in-None-clause-bytes
returns-in-None-clause-bytes c = λ profile events viable stands.
    none_sent c.args.self.now.legs (reverse (legs events)) stands.legs
    (short_backwards (legs events) (c.legs_are_short.ensures profile events viable))
    (sym c.written_address.ensures ∙ c.in-None.is)
