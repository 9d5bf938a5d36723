use Rattle.std.proofs.Common.{nat_eq, sym, subst}
use Rattle.std.specs.Prelude.{IfSome, option_map}
use Rattle.pmb_command.specs.Bus.{AreInitial, IsCommand, IsInitial}
use Rattle.pmb_keys.specs.CommandView.{command_parts, initial_parts}
use Rattle.pmb_table.proofs.Accepted.{All-find, IfSome-map, initial_at}
use Rattle.pmb_table.proofs.device_profile.DeviceProfile.initial.Goals as goal

-- the command that was found is one of the device's
pub returns-in-Some-initial-clause-accepted : goal.returns-in-Some-initial-clause-accepted
returns-in-Some-initial-clause-accepted c =
    let found = All-find IsCommand (λ x. nat_eq x.entry.code c.args.code) c.self.inside.commands
    c.self.invariant.commands in
    let entry = (command_parts c.in-Some.command.now).entry in
    let whole = (subst (λ o. IfSome o IsCommand) (sym c.in-Some.ensures) found).initial in
    let initial = initial_parts c.in-Some-initial.initial in
    let right : AreInitial entry initial =
    subst (λ o. IfSome (option_map initial_parts o) (AreInitial entry)) c.in-Some-initial.is whole in
    let here : IfSome (option_map (λ bytes. bytes.now) c.on.result) (IsInitial entry) =
    subst (λ o. IfSome o (IsInitial entry)) (sym c.on.ensures) (initial_at entry c.args.page initial right) in
    rw (← c.self.view_is, ← c.in-Some.ensures) (IfSome-map (λ bytes. bytes.now) (IsInitial entry) c.on.result here)
