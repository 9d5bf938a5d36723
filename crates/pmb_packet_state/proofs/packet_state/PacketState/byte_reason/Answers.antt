use Rattle.std.proofs.Common.{inl, inr}
use Rattle.pmb_transaction.specs.Reason.{read_first}
use Rattle.pmb_packet_state.specs.declared.packet_state.PacketPlace.TheVariants as places
use Rattle.pmb_packet_state.proofs.Steps.{at_place}
use Rattle.pmb_packet_state.proofs.Reasons.{bad_pec_late, late_here, none_between, restart_is_bad}
use Rattle.pmb_packet_state.proofs.packet_state.PacketState.byte_reason.Goals as goal

pub returns-in-Between : goal.returns-in-Between
returns-in-Between c = λ profile events stands some. elim c.in-Between.is [
  | inl is ↦
      let here = at_place profile c.args.self.now events places.Between is stands in
      absurd (none_between profile events (λ event. (c.packets_begin_with_start.ensures profile event stands.bus).0)
      here some)
  | inr is ↦ let here = at_place profile c.args.self.now events places.Start is stands in read_first here.0
]

pub returns-in-Restart : goal.returns-in-Restart
returns-in-Restart c = λ profile events stands some.
    restart_is_bad profile c.args.self.now events
    (at_place profile c.args.self.now events places.Restart c.in-Restart.is stands)

pub returns-in-Address : goal.returns-in-Address
returns-in-Address c = λ profile events stands some.
    bad_pec_late profile c.args.self.now c.args.self.now.place events (late_here c.args.self.now.place c.in-Address.is)
    stands.place
    (c.refused_events_have_a_reason.ensures.byte profile events some)
