use Rattle.std.proofs.Common.{arith, map}
use Rattle.std.specs.Prelude.{slice_index}
use Rattle.pmb_command.specs.Parts.{IsNew}
use Rattle.pmb_table.specs.machine.Places.{ArePlaces}
use Rattle.pmb_table.proofs.Places.{if_none, new_elsewhere, new_past, number_at}
use Rattle.pmb_table.proofs.profile.Profile.place_of.Goals as goal

pub returns-in_err-device-clause-absent : goal.returns-in_err-device-clause-absent
returns-in_err-device-clause-absent c =
    let at : ArePlaces c.self.inside.places (map (λ x. x.address) c.args.self.now) =
    rw (← c.self.view_is) c.self.invariant.places in
    if_none c.from_residual.result (IsNew c.args.address (map (λ x. x.address) c.args.self.now))
    (new_past (λ x. x.address) c.args.self.now c.self.inside.places c.args.address at
    c.in_err-device.ensures.device)

pub returns-then-address-clause-found : goal.returns-then-address-clause-found
returns-then-address-clause-found c =
    number_at (λ x. x.address) c.args.self.now (slice_index c.self.inside.places c.args.address) c.args.address
    c.in_ok-device.device.now c.in_ok-device.ensures.device (omega arith)

pub returns-else-address-clause-absent : goal.returns-else-address-clause-absent
returns-else-address-clause-absent c =
    let at : ArePlaces c.self.inside.places (map (λ x. x.address) c.args.self.now) =
    rw (← c.self.view_is) c.self.invariant.places in
    new_elsewhere (λ x. x.address) c.args.self.now c.self.inside.places c.args.address c.in_ok-device.device.now at
    c.in_ok-device.ensures.device (λ same. omega arith)
