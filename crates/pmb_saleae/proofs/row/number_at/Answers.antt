use Rattle.std.proofs.Common.{ap, sym, ◌∙◌}
use Rattle.pmb_csv.specs.Columns.{value}
use Rattle.pmb_csv.specs.Fields.{record_of}
use Rattle.pmb_saleae.specs.Number.{number_of}
use Rattle.pmb_saleae.proofs.RowLemmas.{not_plain, number_quote, plain_is}
use Rattle.pmb_saleae.proofs.row.number_at.Goals as goal

pub returns-in-Some : goal.returns-in-Some
returns-in-Some c =
    let text = value c.args.place (record_of c.args.line.now) in
    c.read_number.ensures ∙ ap number_of (plain_is text c.in-Some.text.now c.in-Some.ensures)

pub returns-in-None : goal.returns-in-None
returns-in-None c =
    let text = value c.args.place (record_of c.args.line.now) in
    sym (number_quote text (not_plain text c.in-None.ensures))
