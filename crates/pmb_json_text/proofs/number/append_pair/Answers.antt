-- The table has both digits.
use Rattle.std.proofs.Common.{ℕ, ◌+◌, ◌*◌, List, [], ◌∷◌, ◌++◌, get_or, ap, ap₂, ◌∙◌, append_assoc}
use Rattle.pmb_json_text.specs.declared.number.TheConstants.{PAIRS}
use Rattle.pmb_json_text.proofs.Decimals.{pair_read}
use Rattle.pmb_json_text.proofs.number.append_pair.Goals as goal

pub returns-clause-text : goal.returns-clause-text
returns-clause-text g c =
    let old = c.args.out.now.items in
    let tens = get_or PAIRS (c.args.number * 2) 0 in
    let ones = get_or PAIRS (c.args.number * 2 + 1) 0 in
    let digits = pair_read c.args.number c.requires.few in
    c.push-2.ensures.items ∙ ap (λ (t : List ℕ). t ++ ones ∷ []) c.push.ensures.items
    ∙ append_assoc old (tens ∷ []) (ones ∷ [])
    ∙ ap₂ (λ (a b : ℕ). old ++ a ∷ b ∷ []) digits.0 digits.1
