use Rattle.std.proofs.Common.{◌≡◌, Some, None, ap, sym, ◌∙◌}
use Rattle.std.specs.Prelude.{option_map}
use Rattle.pmb_command.specs.Commands.{standard_entry}
use Rattle.pmb_command.specs.Entry.{entry_parts}
use Rattle.pmb_command.specs.machine.Rows.{row_parts}
use Rattle.pmb_command.proofs.RowLemmas.{row_of_code}
use Rattle.pmb_command.proofs.StandardLemmas.{standard_entry_at}
use Rattle.pmb_command.proofs.commands.standard.Goals as goal
use Rattle.pmb_command.proofs.commands.standard.Goals.{In_ok-row}

-- the row that was found is the entry of the code
is_entry : (c : In_ok-row) → standard_entry c.args.code ≡ Some (row_parts c.in_ok-row.row.now)
is_entry c = row_of_code c.rows.result.now c.args.code (Some c.in_ok-row.row.now) c.rows.ensures c.in_ok-row.ensures

pub returns-in_err-row-clause-entry : goal.returns-in_err-row-clause-entry
returns-in_err-row-clause-entry c =
    ap (option_map entry_parts) c.from_residual.ensures
    ∙ sym (row_of_code c.rows.result.now c.args.code None c.rows.ensures c.in_err-row.ensures)

pub returns-in_err-row-clause-sound : goal.returns-in_err-row-clause-sound
returns-in_err-row-clause-sound c = rw c.from_residual.ensures tt

pub entry_of-requires : goal.entry_of-requires
entry_of-requires c = (standard_entry_at c.args.code (row_parts c.in_ok-row.row.now)
    (is_entry (goal.at.entry_of-requires c).In_ok-row)).entry.name.most

pub returns-clause-entry : goal.returns-clause-entry
returns-clause-entry c = ap Some c.entry_of.ensures ∙ sym (is_entry (goal.at.returns-clause-entry c).In_ok-row)

pub returns-clause-sound : goal.returns-clause-sound
returns-clause-sound c = rw c.entry_of.ensures
    (standard_entry_at c.args.code (row_parts c.in_ok-row.row.now)
    (is_entry (goal.at.returns-clause-sound c).In_ok-row))
