use Rattle.std.proofs.Common.{ap, sym, ◌∙◌, option_map}
use Rattle.pmb_csv.specs.Columns.{value}
use Rattle.pmb_csv.specs.Fields.{record_of}
use Rattle.pmb_beagle.specs.Views.{transaction_from}
use Rattle.pmb_beagle.proofs.QuoteLemmas.{no_bytes, not_plain}
use Rattle.pmb_beagle.proofs.RowLemmas.{no_transaction}
use Rattle.pmb_beagle.proofs.row.Row.transaction.Goals as goal

-- a column of bytes with a quote
pub returns-in_err-bytes-clause-is : goal.returns-in_err-bytes-clause-is
returns-in_err-bytes-clause-is c =
    let columns = c.args.self.now.columns in
    let r = record_of c.args.self.now.line.now in
    let text = value columns.bytes r in
    ap (option_map transaction_from) c.from_residual-in_err-bytes.ensures
    ∙ sym (no_transaction c.args.reads columns r (no_bytes text (not_plain text c.in_err-bytes.ensures)))
