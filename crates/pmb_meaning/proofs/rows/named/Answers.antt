use Rattle.std.proofs.Common.{Some, None}
use Rattle.pmb_meaning.proofs.RowLemmas.{named_by_row}
use Rattle.pmb_meaning.proofs.rows.named.Goals as goal

pub returns-in-Some : goal.returns-in-Some
returns-in-Some c = named_by_row c.args.names.now c.args.number (Some c.in-Some.found.now) c.in-Some.ensures

pub returns-in-None : goal.returns-in-None
returns-in-None c = named_by_row c.args.names.now c.args.number None c.in-None.ensures
