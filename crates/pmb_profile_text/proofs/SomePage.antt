-- Whether something is so on some page, page by page: for the loop of `pages_differ`.
use Rattle.std.proofs.Common.{◌≡◌, ◌∙◌, ℕ, zero, suc, ◌+◌, ◌<◌, ◌≤◌, Bool, true, false, ◌||◌, List, [], ◌∷◌, ◌++◌}
use Rattle.std.proofs.Common.{add-one, ap, arith, refl, subst}
use Rattle.std.proofs.Common.{inl, inr}
use Rattle.std.specs.List.{list_any, range_with_len}
use Rattle.std.proofs.lemmas.Bool.{cases_lt}
use Rattle.pmb_profile_text.proofs.Texts.{numbers_more}

module _ (f : ℕ → Bool) where
  neither : (a b : Bool) → (a || b) ≡ false → (a ≡ false) × (b ≡ false)
  neither true b is = absurd (cc is)
  neither false b is = (refl, is)

  none_after : (ns : List ℕ) (n : ℕ) → list_any f ns ≡ false → f n ≡ false → list_any f (ns ++ n ∷ []) ≡ false
  none_after [] n none here = ap (λ (b : Bool). b || false) here
  none_after (m ∷ ns) n none here =
      let parts = neither (f m) (list_any f ns) none in
      ap (λ (b : Bool). b || list_any f (ns ++ n ∷ [])) parts.0 ∙ none_after ns n parts.1 here

  -- it is so on none of the first pages, with one more
  pub none_more : (n : ℕ) → list_any f (range_with_len 0 n) ≡ false → f n ≡ false
      → list_any f (range_with_len 0 (n + 1)) ≡ false
  none_more n none here =
      ap (list_any f) (ap (range_with_len 0) (add-one n) ∙ numbers_more 0 n
      ∙ ap (λ (m : ℕ). range_with_len 0 n ++ m ∷ []) (omega arith))
      ∙ none_after (range_with_len 0 n) n none here

  either : (a b : Bool) → b ≡ true → (a || b) ≡ true
  either true b is = refl
  either false b is = is

  some_from : (a n page : ℕ) → a ≤ page → page < a + n → f page ≡ true → list_any f (range_with_len a n) ≡ true
  some_from a zero page from to here = absurd (omega (arith, from, to))
  some_from a (suc n) page from to here = elim (cases_lt a page) [
    | inl less ↦ either (f a) (list_any f (range_with_len (a + 1) n))
        (some_from (a + 1) n page (omega (arith, less)) (omega (arith, to)) here)
    | inr more ↦
        let same : page ≡ a = omega (arith, from, more) in
        ap (λ (b : Bool). b || list_any f (range_with_len (a + 1) n)) (subst (λ (m : ℕ). f m ≡ true) same here)
  ]

  -- it is so on some page
  pub some_page : (n page : ℕ) → page < n → f page ≡ true → list_any f (range_with_len 0 n) ≡ true
  some_page n page within here = some_from 0 n page (omega arith) (omega (arith, within)) here
