-- The flags of a set of addresses: for `ignored_items`, `also_items`, `named_addresses` and the functions
-- of `Addresses`. A flag is set where it was before, or where its number is marked.
use Rattle.std.proofs.Common.{◌≡◌, ℕ, zero, suc, ◌+◌, ◌<◌, ◌≤◌, Bool, true, false, cond, ◌&&◌, ◌||◌, List, [], ◌∷◌}
use Rattle.std.proofs.Common.{◌++◌, length, replicate, nat_eq, refl, sym, ap, subst, ◌∙◌, arith, zero-add, add-one, add-zero}
use Rattle.std.specs.Prelude.{slice_index_or, slice_set, filter}
use Rattle.std.specs.List.{list_any, range_with_len}
use Rattle.std.proofs.lemmas.Bool.{eqb-true, eqb-false}
use Rattle.std.proofs.lemmas.List.{length-set, length-replicate, get_or-set_same, get_or-set_other, get_or-replicate}
use Rattle.std.proofs.lemmas.List.{append-nil}
use Rattle.std.proofs.lemmas.List.Elements.{filter-append}
use Rattle.std.proofs.lemmas.Map.Views.{any-filter_same}
use Rattle.pmb_keys.specs.Addresses.{addresses_among}
use Rattle.pmb_keys.specs.machine.Addresses.{marked, marked_below, marking}

-- ---- the numbers of a range

-- tests that agree on a range keep the same numbers of it
filter_range : (p q : ℕ → Bool) (first count : ℕ) → ((n : ℕ) → n < first + count → p n ≡ q n)
    → filter p (range_with_len first count) ≡ filter q (range_with_len first count)
filter_range p q first zero same = refl
filter_range p q first (suc count) same =
    let here : p first ≡ q first = same first (omega arith) in
    let rest : filter p (range_with_len (first + 1) count) ≡ filter q (range_with_len (first + 1) count) =
    filter_range p q (first + 1) count (λ n below. same n (omega arith)) in
    ap (λ b. cond b (first ∷ filter p (range_with_len (first + 1) count)) (filter p (range_with_len (first + 1) count)))
    here ∙ ap (λ xs. cond (q first) (first ∷ xs) xs) rest

-- a number of a range is among its numbers
any_within : (n first count : ℕ) → first ≤ n → n < first + count
    → list_any (nat_eq n) (range_with_len first count) ≡ true
any_within n first zero least most = absurd (omega arith)
any_within n first (suc count) least most = by (nat_eq n first) refl (any_within n (first + 1) count)
  where
    by : (b : Bool) → nat_eq n first ≡ b
        → (first + 1 ≤ n → n < first + 1 + count → list_any (nat_eq n) (range_with_len (first + 1) count) ≡ true)
        → (b || list_any (nat_eq n) (range_with_len (first + 1) count)) ≡ true
    by true is later = refl
    by false is later =
        let other : n ≡ first → ⊥ = eqb-false n first is in
        later (omega arith) (omega arith)

-- and a greater one isn't
any_past : (n first count : ℕ) → first + count ≤ n → list_any (nat_eq n) (range_with_len first count) ≡ false
any_past n first zero past = refl
any_past n first (suc count) past = by (nat_eq n first) refl (any_past n (first + 1) count (omega arith))
  where
    by : (b : Bool) → nat_eq n first ≡ b → list_any (nat_eq n) (range_with_len (first + 1) count) ≡ false
        → (b || list_any (nat_eq n) (range_with_len (first + 1) count)) ≡ false
    by true is later =
        let same : n ≡ first = eqb-true n first is in
        absurd (omega arith)
    by false is later = later

-- one more number at the end
range_more : (first count : ℕ) → range_with_len first (suc count) ≡ range_with_len first count ++ (first + count) ∷ []
range_more first zero = rw add-zero
range_more first (suc count) =
    let same : (first + 1) + count ≡ first + suc count = omega arith in
    ap (λ xs. first ∷ xs) (range_more (first + 1) count ∙ ap (λ k. range_with_len (first + 1) count ++ k ∷ []) same)

-- a filter keeps no more than there are
length-filter_range : (p : ℕ → Bool) (first count : ℕ) → length (filter p (range_with_len first count)) ≤ count
length-filter_range p first zero = omega arith
length-filter_range p first (suc count) = by (p first) (length-filter_range p (first + 1) count)
  where
    by : (b : Bool) → length (filter p (range_with_len (first + 1) count)) ≤ count
        → length (cond b (first ∷ filter p (range_with_len (first + 1) count))
        (filter p (range_with_len (first + 1) count)))
        ≤ suc count
    by true rest = omega arith
    by false rest = omega arith

-- ---- what flags mark

and_true : (b : Bool) → (b && true) ≡ b
and_true true = refl
and_true false = refl

and_false : (b : Bool) → (b && false) ≡ false
and_false true = refl
and_false false = refl

or_false : (b : Bool) → (b || false) ≡ b
or_false true = refl
or_false false = refl

or_true : (b : Bool) → (b || true) ≡ true
or_true true = refl
or_true false = refl

-- a number is among those that are marked, if its flag is set and it is of the range
any_marked : (flags : List Bool) (n count : ℕ) → list_any (nat_eq n) (marked_below count flags)
    ≡ (slice_index_or flags n false && list_any (nat_eq n) (range_with_len 0 count))
any_marked flags n count =
    any-filter_same (nat_eq n) (λ k. slice_index_or flags k false) (slice_index_or flags n false)
    (λ k same. ap (λ m. slice_index_or flags m false) (sym (eqb-true n k same))) (range_with_len 0 count)

pub is_marked : (flags : List Bool) (n : ℕ) → n < 128
    → slice_index_or flags n false ≡ list_any (nat_eq n) (marked flags)
unfolding marked
is_marked flags n small =
    sym (any_marked flags n 128
    ∙ ap (λ b. slice_index_or flags n false && b) (any_within n 0 128 (omega arith) (omega arith))
    ∙ and_true (slice_index_or flags n false))

pub past_is_not : (flags : List Bool) (n : ℕ) → 128 ≤ n → false ≡ list_any (nat_eq n) (marked flags)
unfolding marked
past_is_not flags n large =
    sym (any_marked flags n 128 ∙ ap (λ b. slice_index_or flags n false && b) (any_past n 0 128 (omega arith))
    ∙ and_false (slice_index_or flags n false))

-- a flag after further numbers are marked
flag_after : (flags : List Bool) (numbers : List ℕ) (n : ℕ) → n < length flags
    → slice_index_or (marking flags numbers) n false ≡ (slice_index_or flags n false || list_any (nat_eq n) numbers)
flag_after flags [] n within = sym (or_false (slice_index_or flags n false))
flag_after flags (m ∷ ms) n within =
    let still : n < length (slice_set flags m true) = omega (arith, length-set flags m true) in
    flag_after (slice_set flags m true) ms n still ∙ by (nat_eq n m) refl
  where
    by : (b : Bool) → nat_eq n m ≡ b
        → (slice_index_or (slice_set flags m true) n false || list_any (nat_eq n) ms)
        ≡ (slice_index_or flags n false || (b || list_any (nat_eq n) ms))
    by true is =
        let same : n ≡ m = eqb-true n m is in
        let set : slice_index_or (slice_set flags m true) n false ≡ true =
        subst (λ k. slice_index_or (slice_set flags k true) n false ≡ true) same
        (get_or-set_same flags n true false within) in
        ap (λ b. b || list_any (nat_eq n) ms) set ∙ sym (or_true (slice_index_or flags n false))
    by false is =
        ap (λ b. b || list_any (nat_eq n) ms) (get_or-set_other flags m n true false (eqb-false n m is))

-- where none was set, those that are marked are set
marked_numbers : (count : ℕ) (numbers : List ℕ) → marked_below count (marking (replicate count false) numbers)
    ≡ filter (λ n. list_any (nat_eq n) numbers) (range_with_len 0 count)
marked_numbers count numbers =
    filter_range (λ n. slice_index_or (marking (replicate count false) numbers) n false)
    (λ n. list_any (nat_eq n) numbers) 0 count same
  where
    same : (n : ℕ) → n < 0 + count
        → slice_index_or (marking (replicate count false) numbers) n false ≡ list_any (nat_eq n) numbers
    same n small =
        let below : n < count = omega arith in
        let within : n < length (replicate count false) = omega (arith, length-replicate count false) in
        flag_after (replicate count false) numbers n within
        ∙ ap (λ b. b || list_any (nat_eq n) numbers) (get_or-replicate count n false false below)

pub marked_all : (numbers : List ℕ) → marked (marking (replicate 128 false) numbers) ≡ addresses_among numbers
unfolding marked addresses_among
marked_all numbers = marked_numbers 128 numbers

-- ---- in their order

-- there is room for what is marked
pub few_marked : (count : ℕ) (flags : List Bool) → length (marked_below count flags) ≤ count
few_marked count flags = length-filter_range (λ n. slice_index_or flags n false) 0 count

-- the next number, where its flag is set, and where it isn't
next_marked : (count : ℕ) (flags : List Bool) → marked_below (count + 1) flags
    ≡ marked_below count flags ++ cond (slice_index_or flags count false) (count ∷ []) []
next_marked count flags =
    let p : ℕ → Bool = λ n. slice_index_or flags n false in
    rw add-one (ap (filter p) (range_more 0 count ∙ ap (λ k. range_with_len 0 count ++ k ∷ []) (zero-add count))
    ∙ filter-append p (range_with_len 0 count) (count ∷ []))

pub set_next : (count : ℕ) (flags : List Bool) → slice_index_or flags count false ≡ true
    → marked_below count flags ++ count ∷ [] ≡ marked_below (count + 1) flags
set_next count flags set =
    sym (next_marked count flags ∙ ap (λ b. marked_below count flags ++ cond b (count ∷ []) []) set)

pub unset_next : (count : ℕ) (flags : List Bool) → slice_index_or flags count false ≡ false
    → marked_below count flags ≡ marked_below (count + 1) flags
unset_next count flags unset =
    sym (next_marked count flags ∙ ap (λ b. marked_below count flags ++ cond b (count ∷ []) []) unset
    ∙ append-nil (marked_below count flags))

-- all of them
pub marked_to_end : (count : ℕ) (flags : List Bool) → count ≡ 128 → marked_below count flags ≡ marked flags
unfolding marked
marked_to_end count flags all = ap (λ n. marked_below n flags) all
