use Rattle.std.proofs.Common.{◌∷◌, [], ◌++◌, List, ℕ, inl, inr, refl, sym, ap, ◌∙◌}
use Rattle.pmb_registers.specs.Apply.{bit_of_sent}
use Rattle.pmb_device.proofs.Taken.{room_of}
use Rattle.pmb_device.proofs.device_packet.refusal_noted.Goals as goal

pub returns-then-goes_on : goal.returns-then-goes_on
returns-then-goes_on c byte =
    let leg = c.args.leg.now in
    let room = room_of leg.device leg.place leg.bytes c.goes_on.result c.goes_on.ensures.inside in
    inl (
      room.0 c.if-goes_on.true,
      c.refusal_bit.ensures byte
          ∙ ap (λ (bytes : List ℕ). bit_of_sent (bytes ++ byte ∷ [])) c.bytes.ensures.value,
    )

pub returns-else-goes_on : goal.returns-else-goes_on
returns-else-goes_on c byte =
    let leg = c.args.leg.now in
    let room = room_of leg.device leg.place leg.bytes c.goes_on.result c.goes_on.ensures.inside in
    inr (λ has. cc (sym (room.1 has) ∙ c.if-goes_on.false), refl)
