use Rattle.std.proofs.Common.{Some, None, sym, ◌∙◌}
use Rattle.pmb_command.proofs.RowLemmas.{row_of_name}
use Rattle.pmb_command.proofs.commands.by_name.Goals as goal

pub returns-in_err-row : goal.returns-in_err-row
returns-in_err-row c = c.from_residual.ensures
    ∙ sym (row_of_name c.rows.result.now c.args.name.now None c.rows.ensures c.in_err-row.ensures)

pub returns : goal.returns
returns c = sym (row_of_name c.rows.result.now c.args.name.now (Some c.in_ok-row.row.now) c.rows.ensures
    c.in_ok-row.ensures)
