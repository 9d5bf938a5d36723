use Rattle.std.proofs.Common.{ℕ, Option, ap, sym}
use Rattle.pmb_csv.specs.Left.{text_of}
use Rattle.pmb_beagle.specs.Export.{is_count}
use Rattle.pmb_beagle.proofs.QuoteLemmas.{no_length, not_plain}
use Rattle.pmb_beagle.proofs.row.is_length.Goals as goal

pub returns-in_default : goal.returns-in_default
returns-in_default c =
    let text = text_of c.args.field.now in
    sym (ap (λ (n : Option ℕ). is_count n c.args.count) (no_length text (not_plain text c.in_default.ensures)))
