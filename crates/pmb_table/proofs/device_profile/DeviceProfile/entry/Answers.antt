use Rattle.std.proofs.Common.{nat_eq, sym, subst}
use Rattle.std.specs.Prelude.{IfSome}
use Rattle.pmb_command.specs.Bus.{IsCommand}
use Rattle.pmb_table.proofs.Accepted.{All-find}
use Rattle.pmb_table.proofs.device_profile.DeviceProfile.entry.Goals as goal

-- the command that was found is one of the device's
pub returns-in-Some-clause-accepted : goal.returns-in-Some-clause-accepted
returns-in-Some-clause-accepted c =
    let found = All-find IsCommand (λ x. nat_eq x.entry.code c.args.code) c.self.inside.commands
    c.self.invariant.commands in
    (subst (λ o. IfSome o IsCommand) (sym c.in-Some.ensures) found).entry
