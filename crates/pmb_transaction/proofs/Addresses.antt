-- Distinct addresses: those of a group's parts, one more part whose address is new, and an address
-- up to 15 that none of 15 parts has. For `viable_lists` and the laws on packets: a leg that has
-- its START alone is completed with such an address, which is refused. It is found from the bound
-- down: an address that is taken is left out of the list, which gets shorter.
use Rattle.std.proofs.Common.{◌≡◌, ℕ, ◌+◌, ◌<◌, ◌≤◌, zero, suc, Bool, true, false, ◌||◌, List, [], ◌∷◌, ◌++◌, length}
use Rattle.std.proofs.Common.{nat_eq, refl, sym, subst, arith}
use Rattle.std.specs.List.{AllByRecursion, IsDistinct, list_any}
use Rattle.std.proofs.lemmas.Bool.{eqb-true, eqb-false, ne_eqb, or_from, or_parts}
use Rattle.std.proofs.lemmas.Cmp.{nat_eq_equiv}
use Rattle.std.proofs.lemmas.List.{map-append}
use Rattle.std.proofs.lemmas.Map.Keys.{IsDistinct-push}
use Rattle.pmb_command.specs.Parts.{IsNew}
use Rattle.pmb_transaction.specs.Transaction.{PartData}
use Rattle.pmb_transaction.specs.Packet.{addresses}

-- ---- distinct numbers

pub distinct_none : IsDistinct nat_eq []
unfolding IsDistinct
distinct_none = tt

all_front : (P : ℕ → Type 0) (a b : List ℕ) → AllByRecursion P (a ++ b) → AllByRecursion P a
all_front P [] b all = tt
all_front P (x ∷ a) b all = (all.0, all_front P a b all.1)

distinct_front : (a b : List ℕ) → IsDistinct nat_eq (a ++ b) → IsDistinct nat_eq a
unfolding IsDistinct
distinct_front [] b own = tt
distinct_front (x ∷ a) b own = (all_front (λ y. nat_eq x y ≡ false) a b own.0, distinct_front a b own.1)

other_than : (x a : ℕ) (front rest : List ℕ) → AllByRecursion (λ y. nat_eq x y ≡ false) (front ++ a ∷ rest)
    → nat_eq x a ≡ false
other_than x a [] rest all = all.0
other_than x a (y ∷ front) rest all = other_than x a front rest all.1

-- of distinct numbers none is one before it
new_behind : (front : List ℕ) (a : ℕ) (rest : List ℕ) → IsDistinct nat_eq (front ++ a ∷ rest) → IsNew a front
unfolding IsDistinct
new_behind [] a rest own = refl
new_behind (x ∷ front) a rest own =
    let other : nat_eq x a ≡ false = other_than x a front rest own.0 in
    or_from (nat_eq a x) (list_any (nat_eq a) front) (ne_eqb a x (λ same. eqb-false x a other (sym same)))
    (new_behind front a rest own.1)

-- ---- parts

-- the addresses of some parts are distinct, and that of the next is new
pub parts_before : (done : List PartData) (part : PartData) (parts : List PartData)
    → IsDistinct nat_eq (addresses (done ++ part ∷ parts))
    → IsDistinct nat_eq (addresses done) × IsNew part.addr (addresses done)
parts_before done part parts own =
    let all = subst (IsDistinct nat_eq) (map-append (λ (p : PartData). p.addr) done (part ∷ parts)) own in (
      distinct_front (addresses done) (part.addr ∷ addresses parts) all,
      new_behind (addresses done) part.addr (addresses parts) all,
    )

-- and the other way round
pub distinct_with : (done : List PartData) (part : PartData) → IsDistinct nat_eq (addresses done)
    → IsNew part.addr (addresses done)
    → IsDistinct nat_eq (addresses (done ++ part ∷ []))
distinct_with done part own new =
    subst (IsDistinct nat_eq) (sym (map-append (λ (p : PartData). p.addr) done (part ∷ [])))
    (IsDistinct-push nat_eq_equiv (addresses done) part.addr own new)

-- a number that is none of some and another is none of that one and those
new_first_of : (n : ℕ) (xs : List ℕ) (x : ℕ) → IsNew n (xs ++ x ∷ []) → (nat_eq n x ≡ false) × IsNew n xs
new_first_of n [] x new = ((or_parts (nat_eq n x) false new).0, refl)
new_first_of n (y ∷ xs) x new =
    let parts = or_parts (nat_eq n y) (list_any (nat_eq n) (xs ++ x ∷ [])) new in
    let later = new_first_of n xs x parts.1 in
    (later.0, or_from (nat_eq n y) (list_any (nat_eq n) xs) parts.0 later.1)

new_last_of : (n : ℕ) (xs : List ℕ) (x : ℕ) → nat_eq n x ≡ false → IsNew n xs → IsNew n (xs ++ x ∷ [])
new_last_of n [] x other new = or_from (nat_eq n x) false other refl
new_last_of n (y ∷ xs) x other new =
    let parts = or_parts (nat_eq n y) (list_any (nat_eq n) xs) new in
    or_from (nat_eq n y) (list_any (nat_eq n) (xs ++ x ∷ [])) parts.0 (new_last_of n xs x other parts.1)

-- An address is new among some parts and one more where it is neither that one's nor one of theirs.
pub new_with : (n : ℕ) (parts : List PartData) (part : PartData)
    → (IsNew n (addresses (parts ++ part ∷ [])) → IsNew n (part.addr ∷ addresses parts))
    × (IsNew n (part.addr ∷ addresses parts) → IsNew n (addresses (parts ++ part ∷ [])))
new_with n parts part =
    let same = map-append (λ (p : PartData). p.addr) parts (part ∷ []) in (
      λ new.
          let both = new_first_of n (addresses parts) part.addr (subst (IsNew n) same new) in
          or_from (nat_eq n part.addr) (list_any (nat_eq n) (addresses parts)) both.0 both.1,
      λ new.
          let both = or_parts (nat_eq n part.addr) (list_any (nat_eq n) (addresses parts)) new in
          subst (IsNew n) (sym same) (new_last_of n (addresses parts) part.addr both.0 both.1),
    )

-- ---- an address that is free

-- a number before others, or left out
abbrev unless_same : Bool → ℕ → List ℕ → List ℕ
unless_same true x xs = xs
unless_same false x xs = x ∷ xs

-- numbers without one of them
abbrev without : ℕ → List ℕ → List ℕ
without n [] = []
without n (x ∷ xs) = unless_same (nat_eq n x) x (without n xs)

no_longer_at : (b : Bool) (x : ℕ) (xs : List ℕ) (n : ℕ) → length xs ≤ n → length (unless_same b x xs) ≤ n + 1
no_longer_at true x xs n few = omega arith
no_longer_at false x xs n few = omega arith

no_longer : (n : ℕ) (xs : List ℕ) → length (without n xs) ≤ length xs
no_longer n [] = omega arith
no_longer n (x ∷ xs) =
    let here = no_longer_at (nat_eq n x) x (without n xs) (length xs) (no_longer n xs) in
    omega (arith, here)

shorter_at : (b : Bool) (n x : ℕ) (xs : List ℕ) → (b || list_any (nat_eq n) xs) ≡ true
    → (list_any (nat_eq n) xs ≡ true → length (without n xs) < length xs)
    → length (unless_same b x (without n xs)) < length xs + 1
shorter_at true n x xs is later = omega (arith, no_longer n xs)
shorter_at false n x xs is later = let less = later is in omega (arith, less)

shorter : (n : ℕ) (xs : List ℕ) → list_any (nat_eq n) xs ≡ true → length (without n xs) < length xs
shorter n [] is = absurd (cc is)
shorter n (x ∷ xs) is =
    let here = shorter_at (nat_eq n x) n x xs is (shorter n xs) in
    omega (arith, here)

still_new_at : (b : Bool) (n m x : ℕ) (xs : List ℕ) → nat_eq m x ≡ b → nat_eq n m ≡ false
    → IsNew n (unless_same b x (without m xs))
    → (IsNew n (without m xs) → IsNew n xs) → IsNew n (x ∷ xs)
still_new_at true n m x xs is other new later =
    or_from (nat_eq n x) (list_any (nat_eq n) xs) (subst (λ (y : ℕ). nat_eq n y ≡ false) (eqb-true m x is) other)
    (later new)
still_new_at false n m x xs is other new later =
    let parts = or_parts (nat_eq n x) (list_any (nat_eq n) (without m xs)) new in
    or_from (nat_eq n x) (list_any (nat_eq n) xs) parts.0 (later parts.1)

still_new : (n m : ℕ) (xs : List ℕ) → nat_eq n m ≡ false → IsNew n (without m xs) → IsNew n xs
still_new n m [] other new = refl
still_new n m (x ∷ xs) other new = still_new_at (nat_eq m x) n m x xs refl other new (still_new n m xs other)

-- a number up to a bound that none of the others is
pub record IsFree (bound : ℕ) (xs : List ℕ) : Type 0 where
  -- the number that is free
  pub number : ℕ
  pub small : number ≤ bound
  pub new : IsNew number xs

free_at : (b : Bool) (k : ℕ) (xs : List ℕ) → list_any (nat_eq (suc k)) xs ≡ b → length xs ≤ suc k
    → (length (without (suc k) xs) ≤ k → IsFree k (without (suc k) xs)) → IsFree (suc k) xs
free_at false k xs is few later = record { number = suc k; small = omega arith; new = is }
free_at true k xs is few later =
    let less = shorter (suc k) xs is in
    let lower = later (omega (arith, less)) in
    let below : lower.number ≤ k = lower.small in
    let other : nat_eq lower.number (suc k) ≡ false =
    ne_eqb lower.number (suc k) (λ same. omega (arith, same, below)) in
    record {
      number = lower.number;
      small = omega (arith, below);
      new =
          still_new lower.number (suc k) xs other lower.new;
    }

-- there is one where the others are no more than the bound
pub free : (bound : ℕ) (xs : List ℕ) → length xs ≤ bound → IsFree bound xs
free zero [] few = record { number = 0; small = omega arith; new = refl }
free zero (x ∷ xs) few = absurd (omega arith)
free (suc k) xs few = free_at (list_any (nat_eq (suc k)) xs) k xs refl few (λ fewer. free k (without (suc k) xs) fewer)
