use Rattle.std.proofs.Common.{arith}
use Rattle.pmb_log_data.proofs.Texts.{at_most, then}
use Rattle.pmb_log_lines.proofs.columns.append_columns.Goals as goal

pub returns-clause-says : goal.returns-clause-says
returns-clause-says g c = λ known sees.
    at_most 250 (omega arith)
    (then (then (then (then (then (then (then c.append_time.ensures c.append.ensures) c.append_address.ensures)
    c.append-2.ensures) (c.append_name.ensures.says known sees)) (c.append_page.ensures.says known sees))
    (c.append_command.ensures.says known sees)) c.append-3.ensures)
