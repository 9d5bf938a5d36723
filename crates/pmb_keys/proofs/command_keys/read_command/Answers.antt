use Rattle.std.proofs.Common.{◌≡◌, Err, inr, option_map, rules}
use Rattle.toml.specs.View.{view}
use Rattle.pmb_command.specs.Entry.{entry_parts}
use Rattle.pmb_keys.specs.CommandRules.{command_from}
use Rattle.pmb_keys.specs.machine.FurtherView.{further_parts}
use Rattle.pmb_keys.proofs.InitialFaults.{no_other_fault}
use Rattle.pmb_keys.proofs.command_keys.read_command.Goals as goal

-- the fault of the form, where the code is none that was taken
pub returns-in_err-check_form-clause-read : goal.returns-in_err-check_form-clause-read
returns-in_err-check_form-clause-read c =
    let table = c.in_ok-table.ensures in
    let worded = c.in_ok-worded.ensures.read in
    let given = c.in_ok-given.ensures.read in
    let entry = c.in_ok-entry.ensures.read in
    let further = c.in_ok-further.ensures.read in
    let code = c.in_ok-check_code.ensures.read in
    let form = c.in_err-check_form.ensures.read in
    inr (rw (← table, ← worded, ← given, ← entry, ← further, ← code, ← form) (search rules))

-- the faults of `initial`, which are all that is left, are BadInitial
pub returns-clause-told : goal.returns-clause-told
returns-clause-told c =
    let table = c.in_ok-table.ensures in
    let worded = c.in_ok-worded.ensures.read in
    let given = c.in_ok-given.ensures.read in
    let entry = c.in_ok-entry.ensures.read in
    let further = c.in_ok-further.ensures.read in
    let code = c.in_ok-check_code.ensures.read in
    let form = c.in_ok-check_form.ensures.read in
    let parts = entry_parts c.in_ok-entry.entry in
    let value = option_map (λ v. view v.now) c.in_ok-given.given in
    rw (← table, ← worded, ← given, ← entry, ← further, ← code, ← form)
    (no_other_fault (λ what. c.command_from.result ≡ Err what) parts c.args.pages value
    (command_from parts (further_parts c.in_ok-further.further)) c.in_ok-given.ensures.typed)

-- what is left tells what needs no memory
pub returns-clause-checked : goal.returns-clause-checked
returns-clause-checked c =
    let table = c.in_ok-table.ensures in
    let worded = c.in_ok-worded.ensures.read in
    let given = c.in_ok-given.ensures.read in
    let entry = c.in_ok-entry.ensures.read in
    let further = c.in_ok-further.ensures.read in
    let code = c.in_ok-check_code.ensures.read in
    let form = c.in_ok-check_form.ensures.read in
    rw (← table, ← worded, ← given, ← entry, ← further, ← code, ← form) c.command_from.ensures.checked
