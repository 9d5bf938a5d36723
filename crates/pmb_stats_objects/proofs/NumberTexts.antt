-- The texts of values and of their mean are numbers of JSON: for the law `objects_are_json`. Each is at most 2^62 - 1,
-- and so is what it is rounded to.
use Rattle.std.proofs.Common.{◌≡◌, ◌<◌, ◌≤◌, ℕ, ◌+◌, ◌*◌, ◌-◌, ◌/◌, ◌^◌, ℤ, pos, ◌+ℤ◌, unsigned_abs, Bool}
use Rattle.std.proofs.Common.{true, false, ◌&&◌, cond, Option, Some, None, List, [], ◌∷◌, ap, arith, fold, length}
use Rattle.std.proofs.Common.{refl, subst}
use Rattle.std.specs.Prelude.{IfSome}
use Rattle.std.specs.List.{AllByRecursion}
use Rattle.std.proofs.Common.{inl, inr}
use Rattle.std.proofs.Math.Nat.{div-mul_cancel, le-mul_of_pos_right, mul-le-mul_right, one-le-mul}
use Rattle.std.proofs.lemmas.Bool.{cases_lt}
use Rattle.std.proofs.lemmas.Int.{ints, unsigned_abs-mul}
use Rattle.pmb_decimal.specs.Decimal.{half_even, rounded_text}
use Rattle.pmb_json_text.specs.Json.{IsNumber}
use Rattle.pmb_mean.specs.declared.denominators.Denominators.{Denominators}
use Rattle.pmb_mean.specs.Numbers.{FitsKind, NumberData, are_over, denominator, greater, greatest, is_below, last_value}
use Rattle.pmb_mean.specs.Numbers.{least, lesser, mean, mean_over, numerator, numerator_over, same}
use Rattle.pmb_mean.proofs.JsonNumber.{fraction_is_number}
use Rattle.pmb_mean.proofs.LongDivision.{whole_below}
use Rattle.pmb_mean.proofs.Sums.{same_is}
use Rattle.pmb_quantity.specs.Fraction.{Fraction}
use Rattle.pmb_quantity.proofs.TextLemmas.{ten_positive}
use Rattle.pmb_stats_objects.proofs.Lists.{one_of_two}

-- at most 2^62 - 1, and at least its opposite
pub record IsBounded (q : Fraction) : Type 0 where
  pub positive : 0 < q.denominator
  pub bounded : unsigned_abs q.numerator ≤ q.denominator * (2 ^ 62 - 1)

pub bounded_is_number : (digits : ℕ) (q : Fraction) → IsBounded q → IsNumber (rounded_text digits q)
bounded_is_number digits q is =
    fraction_is_number digits q (half_even (unsigned_abs q.numerator * 10 ^ digits) q.denominator) refl
    (whole_below (unsigned_abs q.numerator) q.denominator (10 ^ digits) (2 ^ 62 - 1) is.positive (ten_positive digits)
    is.bounded)

-- ---- a value

-- its numerator is no greater than that over the denominator of its kind
pub value_is_bounded : (n : NumberData) → FitsKind n → IsBounded n.value
value_is_bounded n is =
    let q = n.value in
    let d = denominator n.over in
    let k = d / q.denominator in
    let whole : k * q.denominator ≡ d = div-mul_cancel q.denominator is.divides in
    let some : 0 < k = elim (cases_lt 0 k) [
      | inl above ↦ above
      | inr below ↦
          let none : k ≡ 0 = omega (arith, below) in
          absurd (let zero_whole = ap (λ (m : ℕ). m * q.denominator) none in omega (arith, whole, zero_whole, is.some))
    ] in
    let product : unsigned_abs (numerator n) ≡ unsigned_abs q.numerator * k = unsigned_abs-mul q.numerator (pos k) in
    let larger = le-mul_of_pos_right (unsigned_abs q.numerator) some in
    let few : 1 ≤ q.denominator = is.positive in
    record { positive = is.positive; bounded = omega (arith, product, larger, few, is.small) }

-- ---- the least, the greatest and the last of some values

abbrev AreBounded : List NumberData → Type 0
AreBounded numbers = AllByRecursion FitsKind numbers

least_from : (o : Option Fraction) (numbers : List NumberData) → IfSome o IsBounded → AreBounded numbers
    → IfSome (fold lesser o numbers) IsBounded
least_from o [] is are = is
least_from None (n ∷ numbers) is are = least_from (Some n.value) numbers (value_is_bounded n are.0) are.1
least_from (Some q) (n ∷ numbers) is are =
    least_from (lesser (Some q) n) numbers
    (one_of_two IsBounded (is_below n.value q) n.value q (value_is_bounded n are.0) is) are.1

pub least_is_bounded : (numbers : List NumberData) → AreBounded numbers → IfSome (least numbers) IsBounded
least_is_bounded numbers are = least_from None numbers tt are

greatest_from : (o : Option Fraction) (numbers : List NumberData) → IfSome o IsBounded → AreBounded numbers
    → IfSome (fold greater o numbers) IsBounded
greatest_from o [] is are = is
greatest_from None (n ∷ numbers) is are = greatest_from (Some n.value) numbers (value_is_bounded n are.0) are.1
greatest_from (Some q) (n ∷ numbers) is are =
    greatest_from (greater (Some q) n) numbers
    (one_of_two IsBounded (is_below q n.value) n.value q (value_is_bounded n are.0) is) are.1

pub greatest_is_bounded : (numbers : List NumberData) → AreBounded numbers → IfSome (greatest numbers) IsBounded
greatest_is_bounded numbers are = greatest_from None numbers tt are

last_from : (o : Option Fraction) (numbers : List NumberData) → IfSome o IsBounded → AreBounded numbers
    → IfSome (fold (λ _ n. Some n.value) o numbers) IsBounded
last_from o [] is are = is
last_from o (n ∷ numbers) is are = last_from (Some n.value) numbers (value_is_bounded n are.0) are.1

pub last_is_bounded : (numbers : List NumberData) → AreBounded numbers → IfSome (last_value numbers) IsBounded
last_is_bounded numbers are = last_from None numbers tt are

-- ---- the mean

abbrev HaveSmall : ℕ → List NumberData → Type 0
HaveSmall d numbers = AllByRecursion (λ n. unsigned_abs (numerator_over d n.value) ≤ 2 ^ 62 - 1) numbers

small_of : (over : Denominators) (n : NumberData) → FitsKind n → same n.over over ≡ true
    → unsigned_abs (numerator_over (denominator over) n.value) ≤ 2 ^ 62 - 1
small_of over n is test =
    let small = subst (λ (d : ℕ). unsigned_abs (numerator_over d n.value) < 2 ^ 62)
    (same_is n.over over test) is.small in
    omega (arith, small)

both : (b c : Bool) → (b && c) ≡ true → (b ≡ true) × (c ≡ true)
both true c test = (refl, test)
both false c test = absurd (cc test)

all_small : (over : Denominators) (numbers : List NumberData) → AreBounded numbers → are_over over numbers ≡ true
    → HaveSmall (denominator over) numbers
all_small over [] are test = tt
all_small over (n ∷ numbers) are test =
    let tests = both (same n.over over) (are_over over numbers) test in
    (small_of over n are.0 tests.0, all_small over numbers are.1 tests.1)

small_of_own : (n : NumberData) → FitsKind n
    → unsigned_abs (numerator_over (denominator n.over) n.value) ≤ 2 ^ 62 - 1
small_of_own n is = let small = is.small in omega (arith, small)

-- a sum is no greater than as many numerators may be
sum_from : (d : ℕ) (z : ℤ) (numbers : List NumberData) → HaveSmall d numbers
    → unsigned_abs (fold (λ y n. y +ℤ numerator_over d n.value) z numbers) ≤ unsigned_abs z + length numbers *
    (2 ^ 62 - 1)
sum_from d z [] small = omega arith
sum_from d z (n ∷ numbers) small =
    let next : ℤ = z +ℤ numerator_over d n.value in
    let rest = sum_from d next numbers small.1 in
    let here : unsigned_abs (numerator_over d n.value) ≤ 2 ^ 62 - 1 = small.0 in
    let step : unsigned_abs next ≤ unsigned_abs z + unsigned_abs (numerator_over d n.value) = omega (arith, ints) in
    omega (arith, rest, here, step)

if_over : (b : Bool) (q : Fraction) → (b ≡ true → IsBounded q) → IfSome (cond b (Some q) None) IsBounded
if_over true q is = is refl
if_over false q is = tt

pub mean_is_bounded : (numbers : List NumberData) → AreBounded numbers → IfSome (mean numbers) IsBounded
mean_is_bounded [] are = tt
mean_is_bounded (n ∷ numbers) are =
    if_over (are_over n.over numbers) (mean_over (denominator n.over) (n ∷ numbers)) (λ test.
    let over : 0 < denominator n.over = are.0.some in
    let count : ℕ = length (n ∷ numbers) in
    let small : HaveSmall (denominator n.over) (n ∷ numbers) =
    (small_of_own n are.0, all_small n.over numbers are.1 test)
    in
    let sum = sum_from (denominator n.over) (pos 0) (n ∷ numbers) small in
    let more : 1 * count ≤ denominator n.over * count = mul-le-mul_right count over in
    record {
      positive = one-le-mul over (omega arith);
      bounded = omega (arith, sum, more);
    })
