use Rattle.std.proofs.Common.{nat_eq, sym, subst}
use Rattle.std.specs.Prelude.{IfSome}
use Rattle.pmb_command.specs.Bus.{IsCommand, IsUnitOf}
use Rattle.pmb_command.specs.Names.{IsUnit}
use Rattle.pmb_keys.specs.CommandView.{command_parts}
use Rattle.pmb_table.proofs.Accepted.{All-find, IfSome-follows, IfSome-map}
use Rattle.pmb_table.proofs.device_profile.DeviceProfile.unit.Goals as goal

-- the command that was found is one of the device's
pub returns-in-Some-clause-accepted : goal.returns-in-Some-clause-accepted
returns-in-Some-clause-accepted c =
    let found = All-find IsCommand (λ x. nat_eq x.entry.code c.args.code) c.self.inside.commands
    c.self.invariant.commands in
    let command = command_parts c.in-Some.command.now in
    let whole = (subst (λ o. IfSome o IsCommand) (sym c.in-Some.ensures) found).unit in
    let texts : IfSome command.unit IsUnit =
    IfSome-follows (IsUnitOf command.entry.kind) IsUnit command.unit (λ unit is. is.text) whole in
    IfSome-map (λ unit. unit.now) IsUnit c.unit_of.result (subst (λ o. IfSome o IsUnit) (sym c.unit_of.ensures) texts)
