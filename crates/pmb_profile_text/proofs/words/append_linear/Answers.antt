use Rattle.std.proofs.Common.{◌∙◌, ◌++◌, List, ℕ, ap, codes, w8}
use Rattle.std.specs.Fmt.{signed_decimal}
use Rattle.std.proofs.lemmas.Int.{to_z-of_z}
use Rattle.pmb_profile_text.proofs.Texts.{then}
use Rattle.pmb_profile_text.proofs.words.append_linear.Goals as goal

pub returns-clause-text : goal.returns-clause-text
returns-clause-text c =
    let exponent = ap signed_decimal (to_z-of_z w8 c.args.exponent c.ranges.exponent) in
    then c.args.row.now.items _ _ (codes "linear, in steps of 2^") _ c.append.ensures c.append_number.ensures.text
    ∙ ap (λ (text : List ℕ). c.args.row.now.items ++ (codes "linear, in steps of 2^" ++ text)) exponent
