-- The digits with which a text begins, and what follows them.
use Rattle.std.proofs.Common.{◌≡◌, ◌≤◌, ℕ, List, [], ◌∷◌, length, take, drop, ap, arith, refl, inl, inr}
use Rattle.std.proofs.lemmas.Bool.{cases_Bool}
use Rattle.pmb_sample_fields.specs.Numbers.{behind_digits, digits_at}
use Rattle.pmb_words.specs.Numbers.{is_digit}

pub digits_fit : (text : List ℕ) → length (digits_at text) ≤ length text
digits_fit [] = omega arith
digits_fit (byte ∷ text) = elim (cases_Bool (is_digit byte)) [
  | inl is ↦ rw is (omega (arith, digits_fit text))
  | inr other ↦ rw other (omega arith)
]

pub digits_taken : (text : List ℕ) → take (length (digits_at text)) text ≡ digits_at text
digits_taken [] = refl
digits_taken (byte ∷ text) = elim (cases_Bool (is_digit byte)) [
  | inl is ↦ rw is (ap (λ (t : List ℕ). byte ∷ t) (digits_taken text))
  | inr other ↦ rw other refl
]

pub digits_dropped : (text : List ℕ) → drop (length (digits_at text)) text ≡ behind_digits text
digits_dropped [] = refl
digits_dropped (byte ∷ text) = elim (cases_Bool (is_digit byte)) [
  | inl is ↦ rw is (digits_dropped text)
  | inr other ↦ rw other refl
]
