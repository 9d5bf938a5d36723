use Rattle.std.proofs.Common.{◌≡◌, inl, inr, true, refl, sym, ◌∙◌}
use Rattle.pmb_bus.specs.declared.event.Event.TheVariants.{Byte}
use Rattle.pmb_bus.specs.Kinds.{holds}
use Rattle.pmb_packet_state.proofs.Reasons.{no_byte, some_byte}
use Rattle.pmb_packet_state.proofs.packet_state.PacketState.reason_of_byte.Goals as goal

pub returns-then-contains : goal.returns-then-contains
returns-then-contains c = λ profile events stands.
    let held : holds c.expected.result (Byte c.args.byte) ≡ true = sym c.contains.ensures ∙ c.if-contains.true in
    let some = some_byte profile events c.expected.result (c.expected.ensures profile events stands) c.args.byte held in
    inl (some, c.byte_reason.ensures profile events stands some)

pub returns-else-contains : goal.returns-else-contains
returns-else-contains c = λ profile events stands.
    inr (
      no_byte profile events c.expected.result (c.expected.ensures profile events stands) c.args.byte
          (λ held. let is : c.contains.result ≡ true = c.contains.ensures ∙ held in cc (is, c.if-contains.false)),
      refl,
    )
