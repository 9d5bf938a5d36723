-- A word that ends in a colon: for `before_colon`.
use Rattle.std.proofs.Common.{◌≡◌, ◌≢◌, ◌∙◌, ℕ, Option, Some, None, List, [], ◌∷◌, ◌++◌, codes, refl, sym, ap, inl, inr}
use Rattle.std.proofs.Common.{Bor, option_copied}
use Rattle.std.specs.Option.{MatchOption}
use Rattle.std.proofs.lemmas.Bool.Decides.{eqb_tells}
use Rattle.pmb_trace.specs.Line.{before_colon, colon, with_front}

ends : (front : List ℕ) → before_colon (front ++ codes ":") ≡ Some front
ends [] = refl
ends (b ∷ []) = refl
ends (b ∷ c ∷ front) = ap (with_front b) (ends (c ∷ front))

other : (word : List ℕ) → ((front : List ℕ) → word ≢ front ++ codes ":") → before_colon word ≡ None
other [] never = refl
other (b ∷ []) never = elim (eqb_tells b colon) [
  | inl same ↦ absurd (never [] (ap (λ (x : ℕ). x ∷ []) same.1))
  | inr differs ↦ simp differs.0
]
other (b ∷ c ∷ rest) never =
    ap (with_front b) (other (c ∷ rest) (λ front split. never (b ∷ front) (ap (λ (t : List ℕ). b ∷ t) split)))

-- the answer of a search for it
pub before_is : (word : List ℕ) (r : Option (Bor (List ℕ)))
    → MatchOption r ((front : List ℕ) → word ≢ front ++ codes ":") (λ (x : Bor (List ℕ)). word ≡ x.now ++ codes ":")
    → option_copied r ≡ before_colon word
before_is word None never = sym (other word never)
before_is word (Some x) split = sym (ap before_colon split ∙ ends x.now)
