-- A text with one byte more: for `without_last_blanks`.
use Rattle.std.proofs.Common.{◌≡◌, ℕ, List, [], ◌∷◌, ◌++◌, false, nat_eq, refl, ap, ◌∙◌, arith}
use Rattle.std.proofs.lemmas.Bool.Decides.{nat_tests}
use Rattle.pmb_stats_table.specs.Row.{before_rest, without_last_blanks}

-- a blank at the end is left out
pub blank_goes : (front : List ℕ) → without_last_blanks (front ++ 0x20 ∷ []) ≡ without_last_blanks front
unfolding without_last_blanks
blank_goes [] = refl
blank_goes (byte ∷ front) = ap (before_rest byte) (blank_goes front)

before_some : (byte last : ℕ) (front : List ℕ) → before_rest byte (front ++ last ∷ []) ≡ byte ∷ (front ++ last ∷ [])
before_some byte last [] = refl
before_some byte last (next ∷ front) = refl

not_equal : (m n : ℕ) → (m ≡ n → ⊥) → nat_eq m n ≡ false
not_equal m n other = grind (arith, nat_tests)

-- a text that ends with another byte stays
pub other_stays : (front : List ℕ) (last : ℕ) → (last ≡ 0x20 → ⊥)
    → without_last_blanks (front ++ last ∷ []) ≡ front ++ last ∷ []
unfolding without_last_blanks
other_stays [] last other = rw (not_equal last 0x20 other) refl
other_stays (byte ∷ front) last other =
    ap (before_rest byte) (other_stays front last other) ∙ before_some byte last front

-- nothing is left of nothing
pub nothing_left : (text : List ℕ) → text ≡ [] → text ≡ without_last_blanks text
unfolding without_last_blanks
nothing_left [] is = refl
nothing_left (byte ∷ text) is = absurd (cc is)
