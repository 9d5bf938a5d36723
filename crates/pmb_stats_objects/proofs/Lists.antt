-- What there is of the first of some things, and of one more; whether there is anything.
use Rattle.std.proofs.Common.{◌≡◌, ◌∙◌, ◌<◌, ◌≤◌, ℕ, zero, suc, ◌+◌, Bool, true, false, cond, ◌||◌, Some, List, []}
use Rattle.std.proofs.Common.{◌∷◌, ◌++◌}
use Rattle.std.proofs.Common.{add-one, ap, arith, get_or, inl, inr, length, map, nat_eq, refl, sym, take}
use Rattle.std.specs.List.{flat_map, range_with_len, slice_get}
use Rattle.std.proofs.lemmas.Bool.{cases_Bool, eqb-false, eqb-true}
use Rattle.std.proofs.lemmas.List.{flat_map_more, take_more}
use Rattle.std.proofs.lemmas.Option.{get_or_from_slice_get, slice_get_within}
use Rattle.pmb_stats_objects.specs.machine.Written.{has_any}

pub or-true : (b : Bool) → (b || true) ≡ true
or-true true = refl
or-true false = refl

pub one_more : {X A : Type 0} (f : X → List A) (xs : List X) (i : ℕ) (d : X) → i < length xs
    → flat_map f (take i xs) ++ f (get_or xs i d) ≡ flat_map f (take (i + 1) xs)
one_more {X} {A} f xs i d within =
    flat_map_more f [] (take i xs) (get_or xs i d) ∙ ap (λ (ys : List X). flat_map f ys) (sym (take_more xs i d within))

pub one_more_at : {X A : Type 0} (f : X → List A) (xs : List X) (i : ℕ) (x : X) → slice_get xs i ≡ Some x
    → flat_map f (take i xs) ++ f x ≡ flat_map f (take (i + 1) xs)
one_more_at f xs i x is =
    ap (λ y. flat_map f (take i xs) ++ f y) (sym (get_or_from_slice_get xs i x x is))
    ∙ one_more f xs i x (slice_get_within xs i x is)

-- numbers from 0 on, with one more
numbers_more : (a n : ℕ) → range_with_len a (suc n) ≡ range_with_len a n ++ (a + n) ∷ []
numbers_more a zero = ap (λ (m : ℕ). m ∷ []) (omega arith)
numbers_more a (suc n) =
    let last : a + 1 + n ≡ a + suc n = omega arith in
    ap (λ (ms : List ℕ). a ∷ ms) (numbers_more (a + 1) n
    ∙ ap (λ (m : ℕ). range_with_len (a + 1) n ++ m ∷ []) last)

pub next_number : {A : Type 0} (f : ℕ → List A) (n : ℕ)
    → flat_map f (range_with_len 0 n) ++ f n ≡ flat_map f (range_with_len 0 (n + 1))
next_number f n = flat_map_more f [] (range_with_len 0 n) n
    ∙ ap (flat_map f) (sym (ap (range_with_len 0) (add-one n) ∙ numbers_more 0 n
    ∙ ap (λ (m : ℕ). range_with_len 0 n ++ m ∷ []) (omega arith)))

-- ---- whether there is anything

pub any_of_both : {A : Type 0} (xs ys : List A) → has_any (xs ++ ys) ≡ (has_any xs || has_any ys)
any_of_both [] ys = refl
any_of_both (x ∷ xs) ys = refl

pub any_of_map : {A B : Type 0} (f : A → B) (xs : List A) → has_any (map f xs) ≡ has_any xs
any_of_map f [] = refl
any_of_map f (x ∷ xs) = refl

pub none_at_all : {A : Type 0} (xs : List A) → has_any xs ≡ false → xs ≡ []
none_at_all [] none = refl
none_at_all (x ∷ xs) none = absurd (cc none)

-- of one of some numbers, where there is something
pub any_at : {A : Type 0} (f : ℕ → List A) (a n j : ℕ) → a ≤ j → j < a + n → has_any (f j) ≡ true
    → has_any (flat_map f (range_with_len a n)) ≡ true
any_at f a zero j from to some = absurd (omega (arith, from, to))
any_at f a (suc n) j from to some =
    elim (cases_Bool (nat_eq j a)) [
      | inl same ↦
          any_of_both (f a) (flat_map f (range_with_len (a + 1) n))
          ∙ ap (λ (any : Bool). any || has_any (flat_map f (range_with_len (a + 1) n)))
          (ap (λ (k : ℕ). has_any (f k)) (sym (eqb-true j a same)) ∙ some)
      | inr differ ↦
          let other = eqb-false j a differ in
          any_of_both (f a) (flat_map f (range_with_len (a + 1) n))
          ∙ ap (λ (any : Bool). has_any (f a) || any) (any_at f (a + 1) n j (omega (arith, from, other)) (omega (
            arith,
            to,
          )) some)
          ∙ or-true (has_any (f a))
    ]

-- of the elements up to one where there is something
pub any_in : {X A : Type 0} (f : X → List A) (xs : List X) (i : ℕ) (x : X) → slice_get xs i ≡ Some x
    → has_any (f x) ≡ true → has_any (flat_map f xs) ≡ true
any_in f [] i x is some = absurd (cc is)
any_in f (y ∷ xs) zero x is some =
    let here : y ≡ x = cc is in
    any_of_both (f y) (flat_map f xs) ∙ ap (λ (any : Bool). any || has_any (flat_map f xs))
    (ap (λ z. has_any (f z)) here ∙ some)
any_in f (y ∷ xs) (suc i) x is some =
    any_of_both (f y) (flat_map f xs) ∙ ap (λ (any : Bool). has_any (f y) || any) (any_in f xs i x is some)
    ∙ or-true (has_any (f y))

-- what holds of two things holds of the one that a test takes
pub one_of_two : {A : Type 0} (P : A → Type 0) (b : Bool) (x y : A) → P x → P y → P (cond b x y)
one_of_two P true x y one other = one
one_of_two P false x y one other = other
