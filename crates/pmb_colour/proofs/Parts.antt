-- A step of the loop that looks for a part of a text.
use Rattle.std.proofs.Common.{◌≡◌, ◌∙◌, ℕ, ◌+◌, ◌<◌, Bool, false, ◌||◌, nat_eq, List, length, drop, sym, ap}
use Rattle.std.specs.List.{starts_with}
use Rattle.std.proofs.lemmas.List.{drop_more}
use Rattle.pmb_colour.specs.Bits.{has_part}

-- a part that does not begin at a byte is in what follows, or nowhere
pub part_later : (part text : List ℕ) (i : ℕ) → i < length text → starts_with nat_eq (drop i text) part ≡ false
    → has_part part (drop (i + 1) text) ≡ has_part part (drop i text)
part_later part text i within later =
    let same = drop_more text i 0 within in
    let rest = drop (i + 1) text in
    sym (ap (λ (t : List ℕ). has_part part t) same
    ∙ ap (λ (e : Bool). e || has_part part rest) (sym (ap (λ (t : List ℕ). starts_with nat_eq t part) same) ∙ later))
