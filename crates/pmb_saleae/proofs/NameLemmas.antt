-- A name behind whose end a quote stands: for `is_before_quote`, which looks for the quote first.
use Rattle.std.proofs.Common.{◌≡◌, ◌≢◌, ◌++◌, ◌∷◌, [], ◌∙◌, ℕ, List, Bool, true, false, Option, Some, None, Bor, ap, refl}
use Rattle.std.proofs.Common.{sym}
use Rattle.std.proofs.lemmas.List.{append_cancel_right}
use Rattle.std.proofs.lemmas.Slice.Eq.{bytes_eq-Decides}
use Rattle.std.specs.Option.{MatchOption}
use Rattle.std.specs.Str.{bytes_eq}
use Rattle.pmb_csv.specs.Fields.{quote}

one_test : (p q : Bool) → (p ≡ true → q ≡ true) → (q ≡ true → p ≡ true) → p ≡ q
one_test true q there back = sym (there refl)
one_test false true there back = back refl
one_test false false there back = refl

same_front : (before front : List ℕ) → bytes_eq before front ≡ bytes_eq (before ++ quote ∷ []) (front ++ quote ∷ [])
same_front before front =
    one_test (bytes_eq before front) (bytes_eq (before ++ quote ∷ []) (front ++ quote ∷ []))
    (λ same. (bytes_eq-Decides (before ++ quote ∷ []) (front ++ quote ∷ [])).1
    (ap (λ (t : List ℕ). t ++ quote ∷ []) ((bytes_eq-Decides before front).0 same)))
    (λ same. (bytes_eq-Decides before front).1
    (append_cancel_right before front (quote ∷ [])
    ((bytes_eq-Decides (before ++ quote ∷ []) (front ++ quote ∷ [])).0 same)))

none_test : (p : Bool) → (p ≡ true → ⊥) → false ≡ p
none_test true never = absurd (never refl)
none_test false never = refl

-- what `strip_suffix` says of the quote
abbrev Stripped : List ℕ → Option (Bor (List ℕ)) → Type 0
Stripped text found =
    MatchOption found ((before : List ℕ) → text ≢ before ++ quote ∷ []) (λ before. text ≡ before.now ++ quote ∷ [])

pub quote_behind : (text front : List ℕ) (found : Option (Bor (List ℕ))) (before : Bor (List ℕ)) → Stripped text found
    → found ≡ Some before → bytes_eq before.now front ≡ bytes_eq text (front ++ quote ∷ [])
quote_behind text front (Some other) before cut is =
    let same : other ≡ before = cc in
    same_front before.now front
    ∙ ap (λ (t : List ℕ). bytes_eq t (front ++ quote ∷ []))
    (sym (cut ∙ ap (λ (b : Bor (List ℕ)). b.now ++ quote ∷ []) same))
quote_behind text front None before cut is = absurd (cc)

pub no_quote_behind : (text front : List ℕ) (found : Option (Bor (List ℕ))) → Stripped text found → found ≡ None
    → false ≡ bytes_eq text (front ++ quote ∷ [])
no_quote_behind text front (Some other) cut is = absurd (cc)
no_quote_behind text front None cut is =
    none_test (bytes_eq text (front ++ quote ∷ []))
    (λ same. cut front ((bytes_eq-Decides text (front ++ quote ∷ [])).0 same))
