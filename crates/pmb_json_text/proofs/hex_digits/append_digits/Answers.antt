-- The high digit, and the low one.
use Rattle.std.proofs.Common.{ℕ, ◌/◌, ◌%◌, List, [], ◌∷◌, ◌++◌, slice_index, ap, ◌∙◌, append_assoc}
use Rattle.hex.specs.Hex.{encode_with, lower_digits}
use Rattle.pmb_json_text.proofs.hex_digits.append_digits.Goals as goal

pub returns-clause-text : goal.returns-clause-text
unfolding encode_with
returns-clause-text g c =
    let high = slice_index lower_digits (c.args.byte / 16) in
    let low = slice_index lower_digits (c.args.byte % 16) in
    c.push-2.ensures.items ∙ ap (λ (t : List ℕ). t ++ low ∷ []) c.push.ensures.items
    ∙ append_assoc c.args.out.now.items (high ∷ []) (low ∷ [])
