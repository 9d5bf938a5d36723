use Rattle.pmb_csv.specs.Fields.{record_of}
use Rattle.pmb_beagle.proofs.RowLemmas.{counted, not_counted}
use Rattle.pmb_beagle.proofs.row.Row.is_whole.Goals as goal

pub returns-in-Some : goal.returns-in-Some
returns-in-Some c =
    counted (record_of c.args.self.now.line.now) c.in-Some.count c.args.self.now.columns.count c.in-Some.ensures

pub returns-in-None : goal.returns-in-None
returns-in-None c = not_counted (record_of c.args.self.now.line.now) c.args.self.now.columns.count c.in-None.ensures
