use Rattle.std.proofs.Common.{◌∙◌, ◌++◌, ◌∷◌, Some, ap, option_map, refl, sym}
use Rattle.pmb_device.specs.Legs.{Outside}
use Rattle.pmb_transaction.specs.Transaction.{part_data}
use Rattle.pmb_devices.proofs.OtherWrites.{standing_at_place, stays_at_own, takes_part, written_on}
use Rattle.pmb_devices.proofs.others.take_at.Goals as goal

-- at its own address it stays
pub returns-then-address : goal.returns-then-address
returns-then-address c = λ bus legs before member behind at.
    let devices = c.args.devices.now in
    let written = option_map part_data c.written_at-written.result in
    stays_at_own bus legs devices c.args.i before member behind at c.args.address written
    (written_on bus legs devices c.args.i before member behind c.args.address written written at refl
    (c.written_at-written.ensures legs (before ++ member ∷ behind) at.ended))
    (sym (c.address.ensures (record { device = member.device; state = member.state; legs = Outside })
    (standing_at_place bus legs devices c.args.i before member behind at c.index-devices-i.result))
    ∙ c.if-address.true)

-- at another one it takes what was written there
pub returns-in-Some : goal.returns-in-Some
returns-in-Some c = λ bus legs before member behind at.
    let devices = c.args.devices.now in
    let part = part_data c.in-Some.part in
    takes_part bus legs devices c.args.i before member behind at c.args.address part c.as_slice.result.now
    c.index-devices-i-in-Some.result c.take.new.self
    (written_on bus legs devices c.args.i before member behind c.args.address
    (option_map part_data c.written_at-written.result) (Some part) at (ap (option_map part_data) c.in-Some.is)
    (c.written_at-written.ensures legs (before ++ member ∷ behind) at.ended))
    (λ same. c.if-address.false (c.address.ensures
    (record { device = member.device; state = member.state; legs = Outside })
    (standing_at_place bus legs devices c.args.i before member behind at c.index-devices-i.result)
    ∙ same))
    c.as_slice.ensures.value c.take.ensures.stands c.take.ensures.remembers
