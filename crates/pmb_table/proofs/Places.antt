-- Numbers of their own, addresses or codes, and the places that are kept for them: for
-- `Profile::device`, `Profile::place_of`, `CommandMap::get` and those that write places. A search
-- by number finds what stands at its kept place, and nothing where another number, or none, stands
-- there.
use Rattle.std.proofs.Common.{◌≡◌, ◌⊎◌, ℕ, zero, suc, ◌<◌, Bool, true, false, Option, Some, None, List, [], ◌∷◌, ◌++◌}
use Rattle.std.proofs.Common.{length, map, option_map, take, set, nat_eq, inl, inr, ⊎_elim, refl, sym, ap, subst, ◌∙◌}
use Rattle.std.specs.List.{AllByRecursion, IsDistinct, find, list_any, slice_get}
use Rattle.std.specs.Prelude.{IfNone, slice_index}
use Rattle.std.proofs.lemmas.Bool.{both_ways, eqb-true, eq-eqb, or_parts, or_from}
use Rattle.std.proofs.lemmas.Cmp.{nat_eq_equiv}
use Rattle.std.proofs.lemmas.List.{get_or-set_other, get_or-set_same}
use Rattle.std.proofs.lemmas.Map.Keys.{IsDistinct-head, IsDistinct-tail, any_passes_from_place}
use Rattle.std.proofs.lemmas.Option.{none-some, same_Some, slice_get-map}
use Rattle.pmb_command.specs.Parts.{IsNew}
use Rattle.pmb_table.specs.machine.Places.{ArePlaces}

-- ---- numbers of their own

-- equality of numbers goes both ways
pub same_both_ways : (a b : ℕ) → nat_eq a b ≡ nat_eq b a
same_both_ways a b = nat_eq_equiv.symm a b

-- what holds of all holds of the one at a place
all_at : {X : Type 0} (P : X → Type 0) (xs : List X) (i : ℕ) (x : X) → AllByRecursion P xs → slice_get xs i ≡ Some x
    → P x
all_at P [] i x all here = cc
all_at P (y ∷ ys) zero x all here = let same : y ≡ x = cc in subst P same all.0
all_at P (y ∷ ys) (suc i) x all here = all_at P ys i x all.1 here

-- the first number is none of the others
pub other_than_first : (m : ℕ) (ms : List ℕ) (i n : ℕ) → IsDistinct nat_eq (m ∷ ms) → slice_get ms i ≡ Some n
    → nat_eq m n ≡ false
other_than_first m ms i n own here = all_at (λ y. nat_eq m y ≡ false) ms i n (IsDistinct-head nat_eq m ms own) here

-- a number at no place is none of them
new_at_no_place : (numbers : List ℕ) (n : ℕ) → ((i : ℕ) → slice_get numbers i ≡ Some n → ⊥) → IsNew n numbers
new_at_no_place [] n nowhere = refl
new_at_no_place (m ∷ ms) n nowhere = or_from (nat_eq n m) (list_any (nat_eq n) ms) (by (nat_eq n m) refl)
    (new_at_no_place ms n (λ i. nowhere (suc i)))
  where
    by : (b : Bool) → nat_eq n m ≡ b → b ≡ false
    by true same = absurd (nowhere 0 (ap (λ k. Some k) (sym (eqb-true n m same))))
    by false other = refl

-- each is none of those before it
pub new_to_earlier : (numbers : List ℕ) (i n : ℕ) → IsDistinct nat_eq numbers → slice_get numbers i ≡ Some n
    → IsNew n (take i numbers)
new_to_earlier [] i n own here = cc
new_to_earlier (m ∷ ms) zero n own here = refl
new_to_earlier (m ∷ ms) (suc i) n own here =
    or_from (nat_eq n m) (list_any (nat_eq n) (take i ms)) (same_both_ways n m ∙ other_than_first m ms i n own here)
    (new_to_earlier ms i n (IsDistinct-tail nat_eq m ms own) here)

-- ---- a search by number

-- finds what stands at the number's place
pub find-at : {X : Type 0} (number : X → ℕ) (xs : List X) (i n : ℕ) → IsDistinct nat_eq (map number xs)
    → slice_get (map number xs) i ≡ Some n
    → find (λ x. nat_eq (number x) n) xs ≡ slice_get xs i
find-at number [] i n own here = cc
find-at number (x ∷ xs) zero n own here = let same : number x ≡ n = cc in rw (eq-eqb (number x) n same) refl
find-at number (x ∷ xs) (suc i) n own here =
    rw (other_than_first (number x) (map number xs) i n own here)
    (find-at number xs i n (IsDistinct-tail nat_eq (number x) (map number xs) own) here)

-- and finds nothing by a new one
pub find-new : {X : Type 0} (number : X → ℕ) (xs : List X) (n : ℕ) → IsNew n (map number xs)
    → find (λ x. nat_eq (number x) n) xs ≡ None
find-new number [] n new = refl
find-new number (x ∷ xs) n new =
    let parts = or_parts (nat_eq n (number x)) (list_any (nat_eq n) (map number xs)) new in
    rw (same_both_ways (number x) n ∙ parts.0) (find-new number xs n parts.1)

-- ---- places

-- a number that doesn't stand where it would stand is none of them
pub new_by_place : (places numbers : List ℕ) (n : ℕ) → ArePlaces places numbers
    → (slice_get numbers (slice_index places n) ≡ Some n → ⊥) → IsNew n numbers
new_by_place places numbers n at missing =
    new_at_no_place numbers n (λ i here. missing (subst (λ k. slice_get numbers k ≡ Some n) (sym (at i n here)) here))

-- the item at a place has its number there
pub number_at : {X : Type 0} (number : X → ℕ) (xs : List X) (i n : ℕ) (x : X) → Some x ≡ slice_get xs i → number x ≡ n
    → slice_get (map number xs) i ≡ Some n
number_at number xs i n x here same = slice_get-map number xs i ∙ ap (option_map number) (sym here)
    ∙ ap (λ k. Some k) same

-- where no item stands at the place of a number, the number is new
pub new_past : {X : Type 0} (number : X → ℕ) (xs : List X) (places : List ℕ) (n : ℕ) → ArePlaces places (map number xs)
    → None ≡ slice_get xs (slice_index places n) → IsNew n (map number xs)
new_past number xs places n at none =
    let past : slice_get (map number xs) (slice_index places n) ≡ None = slice_get-map number xs (slice_index places n)
    ∙ ap (option_map number) (sym none) in
    new_by_place places (map number xs) n at (λ here. none-some n (sym past ∙ here))

-- and where another item stands there too
pub new_elsewhere : {X : Type 0} (number : X → ℕ) (xs : List X) (places : List ℕ) (n : ℕ) (x : X)
    → ArePlaces places (map number xs) → Some x ≡ slice_get xs (slice_index places n) → (number x ≡ n → ⊥)
    → IsNew n (map number xs)
new_elsewhere number xs places n x at here other =
    let there : slice_get (map number xs) (slice_index places n) ≡ Some (number x) =
    number_at number xs (slice_index places n) (number x) x here refl in
    new_by_place places (map number xs) n at (λ found. other (same_Some (number x) n (sym there ∙ found)))

-- what is told of no place holds if it holds at all
pub if_none : (o : Option ℕ) (P : Type 0) → P → IfNone o P
if_none None P holds = holds
if_none (Some n) P holds = tt

-- a number has one place
one_place : (numbers : List ℕ) (i j n : ℕ) → IsDistinct nat_eq numbers → slice_get numbers i ≡ Some n
    → slice_get numbers j ≡ Some n → i ≡ j
one_place [] i j n own here there = cc
one_place (m ∷ ms) zero zero n own here there = refl
one_place (m ∷ ms) zero (suc j) n own here there =
    absurd (both_ways (nat_eq m n) (other_than_first m ms j n own there) (eq-eqb m n (same_Some m n here)))
one_place (m ∷ ms) (suc i) zero n own here there =
    absurd (both_ways (nat_eq m n) (other_than_first m ms i n own here) (eq-eqb m n (same_Some m n there)))
one_place (m ∷ ms) (suc i) (suc j) n own here there =
    ap suc (one_place ms i j n (IsDistinct-tail nat_eq m ms own) here there)

-- a number that is written at its place, while the others stay at theirs
pub ArePlaces-set : (places before after : List ℕ) (n place : ℕ) → ArePlaces places before → IsDistinct nat_eq after
    → slice_get after place ≡ Some n
    → ((i m : ℕ) → slice_get after i ≡ Some m → (m ≡ n → ⊥) → slice_get before i ≡ Some m) → n < length places
    → ArePlaces (set places n place) after
ArePlaces-set places before after n place at own there others within i m here = by (nat_eq m n) refl
  where
    by : (b : Bool) → nat_eq m n ≡ b → slice_index (set places n place) m ≡ i
    by true is =
        let same : m ≡ n = eqb-true m n is in
        let first : slice_get after i ≡ Some n = here ∙ ap (λ k. Some k) same in
        subst (λ k. slice_index (set places n place) k ≡ i) (sym same)
        (get_or-set_same places n place 0 within ∙ one_place after place i n own there first)
    by false is =
        let other : m ≡ n → ⊥ = λ same. both_ways (nat_eq m n) is (eq-eqb m n same) in
        get_or-set_other places n m place 0 other ∙ at i m (others i m here other)

-- what stands in a list with one more item at its end
last_or_earlier : (numbers : List ℕ) (n i m : ℕ) → slice_get (numbers ++ n ∷ []) i ≡ Some m
    → (slice_get numbers i ≡ Some m) ⊎ ((i ≡ length numbers) × (n ≡ m))
last_or_earlier [] n zero m here = inr (refl, cc)
last_or_earlier [] n (suc i) m here = cc
last_or_earlier (k ∷ ks) n zero m here = inl here
last_or_earlier (k ∷ ks) n (suc i) m here = ⊎_elim (λ earlier. inl earlier) (λ last. inr (ap suc last.0, last.1))
    (last_or_earlier ks n i m here)

-- one more number, and its place
pub ArePlaces-push : (places numbers : List ℕ) (n : ℕ) → ArePlaces places numbers → IsNew n numbers → n < length places
    → ArePlaces (set places n (length numbers)) (numbers ++ n ∷ [])
ArePlaces-push places numbers n at new within i m here = ⊎_elim earlier last (last_or_earlier numbers n i m here)
  where
    earlier : slice_get numbers i ≡ Some m → slice_index (set places n (length numbers)) m ≡ i
    earlier before =
        let other : m ≡ n → ⊥ = λ same. both_ways (list_any (nat_eq n) numbers) new
        (any_passes_from_place (nat_eq n) numbers i m before (eq-eqb n m (sym same))) in
        get_or-set_other places n m (length numbers) 0 other ∙ at i m before

    last : (i ≡ length numbers) × (n ≡ m) → slice_index (set places n (length numbers)) m ≡ i
    last (end, same) = subst (λ k. slice_index (set places n (length numbers)) k ≡ i) same
        (get_or-set_same places n (length numbers) 0 within ∙ sym end)
