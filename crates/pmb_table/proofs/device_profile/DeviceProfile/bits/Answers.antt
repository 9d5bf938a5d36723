use Rattle.std.proofs.Common.{nat_eq, sym, subst}
use Rattle.std.specs.Prelude.{IfSome}
use Rattle.pmb_command.specs.Bus.{AreBits, IsCommand}
use Rattle.pmb_keys.specs.CommandView.{command_parts}
use Rattle.pmb_table.proofs.Accepted.{All-find, bits_have_names, few_bits}
use Rattle.pmb_table.proofs.device_profile.DeviceProfile.bits.Goals as goal

-- the command that was found is one of the device's, with bits that it may have
pub returns-in-Some-clause-few : goal.returns-in-Some-clause-few
returns-in-Some-clause-few c =
    let found = All-find IsCommand (λ x. nat_eq x.entry.code c.args.code) c.self.inside.commands
    c.self.invariant.commands in
    let entry = (command_parts c.in-Some.command.now).entry in
    let whole = (subst (λ o. IfSome o IsCommand) (sym c.in-Some.ensures) found).bits in
    few_bits entry c.bits_of.result.now (subst (AreBits entry) (sym c.bits_of.ensures) whole)

pub returns-in-Some-clause-names : goal.returns-in-Some-clause-names
returns-in-Some-clause-names c =
    let found = All-find IsCommand (λ x. nat_eq x.entry.code c.args.code) c.self.inside.commands
    c.self.invariant.commands in
    let entry = (command_parts c.in-Some.command.now).entry in
    let whole = (subst (λ o. IfSome o IsCommand) (sym c.in-Some.ensures) found).bits in
    bits_have_names entry c.bits_of.result.now (subst (AreBits entry) (sym c.bits_of.ensures) whole).each
