use Rattle.std.proofs.Common.{ℕ, Option, ap, sym, ◌∙◌}
use Rattle.pmb_csv.specs.Columns.{or_none, value}
use Rattle.pmb_csv.specs.Fields.{record_of}
use Rattle.pmb_beagle.specs.Export.{field_if}
use Rattle.pmb_beagle.specs.Time.{time_of}
use Rattle.pmb_beagle.proofs.QuoteLemmas.{no_time, not_plain, plain_is}
use Rattle.pmb_beagle.proofs.row.Row.time.Goals as goal

pub returns-in-Some-value_at : goal.returns-in-Some-value_at
returns-in-Some-value_at c =
    let r = record_of c.args.self.now.line.now in
    let text = value c.in-Some.place r in
    c.time_of.ensures ∙ ap time_of (plain_is text c.in-Some-value_at.text.now c.in-Some-value_at.ensures)
    ∙ sym (ap (λ (place : Option ℕ). time_of (or_none (field_if place r))) c.in-Some.is)

pub returns-in-None : goal.returns-in-None
returns-in-None c =
    let r = record_of c.args.self.now.line.now in
    let text = value c.in-Some.place r in
    c.new-in-None.ensures ∙ sym (ap (λ (place : Option ℕ). time_of (or_none (field_if place r))) c.in-Some.is
    ∙ no_time text (not_plain text c.in-None.ensures))
