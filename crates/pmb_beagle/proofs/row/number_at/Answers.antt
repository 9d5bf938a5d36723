use Rattle.std.proofs.Common.{ap, sym, ◌∙◌}
use Rattle.pmb_csv.specs.Columns.{value}
use Rattle.pmb_csv.specs.Fields.{record_of}
use Rattle.pmb_beagle.proofs.QuoteLemmas.{no_decimal, not_plain, plain_is}
use Rattle.pmb_words.specs.Numbers.{decimal_of}
use Rattle.pmb_beagle.proofs.row.number_at.Goals as goal

pub returns-in-Some : goal.returns-in-Some
returns-in-Some c =
    let text = value c.args.place (record_of c.args.line.now) in
    c.decimal.ensures ∙ ap decimal_of (plain_is text c.in-Some.text.now c.in-Some.ensures)

pub returns-in-None : goal.returns-in-None
returns-in-None c =
    let text = value c.args.place (record_of c.args.line.now) in
    sym (no_decimal text (not_plain text c.in-None.ensures))
