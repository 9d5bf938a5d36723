use Rattle.std.proofs.Common.{option_map}
use Rattle.toml.specs.View.{view}
use Rattle.pmb_command.specs.Entry.{entry_parts}
use Rattle.pmb_keys.specs.CommandRules.{initial_check}
use Rattle.pmb_keys.proofs.InitialFaults.{passed, told_too}
use Rattle.pmb_keys.proofs.command_keys.command_from.Goals as goal

-- the faults of `initial`
pub returns-in-Err-clause-checked : goal.returns-in-Err-clause-checked
returns-in-Err-clause-checked c =
    let value = option_map (λ v. view v.now) c.args.given in
    told_too _ _ (initial_check (entry_parts c.args.entry) c.args.pages value) c.in-Err.fault
    c.in-Err.ensures.checked

-- what was read passed all that needs no memory
pub returns-in_err-bits-clause-checked : goal.returns-in_err-bits-clause-checked
returns-in_err-bits-clause-checked c =
    let value = option_map (λ v. view v.now) c.args.given in
    passed _ (initial_check (entry_parts c.args.entry) c.args.pages value) c.in-Ok.initial
    c.in-Ok.ensures.checked

pub returns-clause-checked : goal.returns-clause-checked
returns-clause-checked c =
    let value = option_map (λ v. view v.now) c.args.given in
    passed _ (initial_check (entry_parts c.args.entry) c.args.pages value) c.in-Ok.initial
    c.in-Ok.ensures.checked
