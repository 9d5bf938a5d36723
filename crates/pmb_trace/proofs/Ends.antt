-- A text that ends with another: for `before_comment_end`.
use Rattle.std.proofs.Common.{◌≡◌, ◌≢◌, ◌⊎◌, ℕ, Bool, true, false, Option, Some, None, List, [], ◌∷◌, ◌++◌}
use Rattle.std.proofs.Common.{refl, sym, ◌∙◌, ap, inl, inr, arith, length, length-append, Bor, option_copied}
use Rattle.std.specs.Option.{MatchOption}
use Rattle.std.specs.Str.{bytes_eq}
use Rattle.std.proofs.lemmas.Bool.Decides.{not_from_Decides}
use Rattle.std.proofs.lemmas.Slice.Eq.{bytes_eq-Decides}
use Rattle.pmb_trace.specs.Line.{before_end, with_front}

-- what a test of two texts tells
equal_tells : (a b : List ℕ) → ((bytes_eq a b ≡ true) × (a ≡ b)) ⊎ ((bytes_eq a b ≡ false) × (a ≢ b))
equal_tells a b = by (bytes_eq a b) refl
  where
    by : (t : Bool) → bytes_eq a b ≡ t → ((bytes_eq a b ≡ true) × (a ≡ b)) ⊎ ((bytes_eq a b ≡ false) × (a ≢ b))
    by true is = inl (is, (bytes_eq-Decides a b).0 is)
    by false is = inr (is, not_from_Decides (bytes_eq a b) (bytes_eq-Decides a b) is)

module _ (first : ℕ) (others : List ℕ) where
  -- what stands before the end is found
  ends : (front : List ℕ) → before_end (first ∷ others) (front ++ first ∷ others) ≡ Some front
  ends [] = elim (equal_tells (first ∷ others) (first ∷ others)) [
    | inl same ↦ simp same.0
    | inr differs ↦ absurd (differs.1 refl)
  ]
  ends (b ∷ front) = elim (equal_tells (b ∷ (front ++ first ∷ others)) (first ∷ others)) [
    | inl same ↦ absurd (omega (arith, ap length same.1, length-append front (first ∷ others)))
    | inr differs ↦ rw differs.0 (ap (with_front b) (ends front))
  ]

  other : (text : List ℕ) → ((front : List ℕ) → text ≢ front ++ first ∷ others) → before_end (first ∷ others) text ≡ None
  other [] never = refl
  other (b ∷ text) never = elim (equal_tells (b ∷ text) (first ∷ others)) [
    | inl same ↦ absurd (never [] same.1)
    | inr differs ↦ rw differs.0 (ap (with_front b) (other text
        (λ front split. never (b ∷ front) (ap (λ (t : List ℕ). b ∷ t) split))))
  ]

  -- the answer of a search for it
  pub before_end_is : (text : List ℕ) (r : Option (Bor (List ℕ)))
      → MatchOption r ((front : List ℕ) → text ≢ front ++ first ∷ others)
      (λ (x : Bor (List ℕ)). text ≡ x.now ++ first ∷ others)
      → option_copied r ≡ before_end (first ∷ others) text
  before_end_is text None never = sym (other text never)
  before_end_is text (Some x) split = sym (ap (before_end (first ∷ others)) split ∙ ends x.now)
