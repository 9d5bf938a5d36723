use Rattle.std.proofs.Common.{◌≡◌, ◌∙◌, None, rules, sym}
use Rattle.pmb_command.specs.Parts.{device_with}
use Rattle.pmb_table.proofs.Places.{find-at, find-new}
use Rattle.pmb_table.proofs.profile.Profile.device.Goals as goal

pub returns-in_err-place-clause-device : goal.returns-in_err-place-clause-device
returns-in_err-place-clause-device c =
    let none : device_with c.args.address c.args.self.now ≡ None =
    find-new (λ x. x.address) c.args.self.now c.args.address c.in_err-place.ensures.absent in
    rw none (search rules)

pub returns-clause-device : goal.returns-clause-device
returns-clause-device c =
    c.device_at.ensures.device ∙ sym (find-at (λ x. x.address) c.args.self.now c.in_ok-place.place c.args.address
    c.place_of.ensures.own_addresses c.in_ok-place.ensures.found)
