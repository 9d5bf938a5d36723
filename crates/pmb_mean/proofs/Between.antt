-- The least value, the greatest, and the mean between them: for the laws `least_is_least`,
-- `greatest_is_greatest` and `mean_is_between`. What is picked along the list is on one side of
-- each value that came, and of what it took the place of; over one denominator the sum of as many
-- numerators is on that side too. The side is an order of fractions, one way or the other.
use Rattle.std.proofs.Common.{◌≡◌, ℕ, suc, ◌/◌, ◌<◌, true, false, cond, inl, inr, Option, Some}
use Rattle.std.proofs.Common.{◌⊎◌, List, [], ◌∷◌, length, map, ℤ, pos, ◌+ℤ◌, ◌*ℤ◌, ◌≤ℤ◌, fold, All}
use Rattle.std.proofs.Common.{Contains, refl, sym, ap}
use Rattle.std.proofs.Common.{◌∙◌, subst, arith}
use Rattle.std.proofs.lemmas.Bool.{cases_Bool}
use Rattle.std.proofs.lemmas.Int.{ints}
use Rattle.std.proofs.Math.IntN.{*ℤ_comm, suc_ℤ-*ℤ, zero-*ℤ}
use Rattle.std.proofs.Math.Nat.{div-mul_cancel, mul_comm}
use Rattle.pmb_quantity.specs.Fraction.{Fraction}
use Rattle.pmb_quantity.proofs.Scaling.{scale-scale, scale-swap}
use Rattle.pmb_mean.specs.Laws.{IsAtMost, IsGreatest, IsLeast}
use Rattle.pmb_mean.specs.Numbers.{FitsKind, NumberData, denominator, greater, greatest, is_below, least}
use Rattle.pmb_mean.specs.Numbers.{lesser, mean}
use Rattle.pmb_mean.specs.Numbers.{numerator_over, sum_over}
use Rattle.pmb_mean.proofs.MeanLaws.{IsOver, all_first, all_more, all_rest, has_mean, sum_more}
use Rattle.pmb_mean.proofs.Products.{scale-sum, scale-to, scale_le, unscale_le}

-- ---- the order of fractions
at_most_self : (q : Fraction) → IsAtMost q q
at_most_self q = omega (arith, ints)

at_most_through : (p q r : Fraction) → 0 < q.denominator → IsAtMost p q → IsAtMost q r → IsAtMost p r
at_most_through p q r positive first second =
    let a = p.numerator in
    let b = q.numerator in
    let c = r.numerator in
    let left : ((a *ℤ pos q.denominator) *ℤ pos r.denominator) ≤ℤ ((b *ℤ pos p.denominator) *ℤ pos r.denominator) =
    scale_le (a *ℤ pos q.denominator) (b *ℤ pos p.denominator) r.denominator first in
    let right : ((b *ℤ pos r.denominator) *ℤ pos p.denominator) ≤ℤ ((c *ℤ pos q.denominator) *ℤ pos p.denominator) =
    scale_le (b *ℤ pos r.denominator) (c *ℤ pos q.denominator) p.denominator second in
    let swap_a = scale-swap a q.denominator r.denominator in
    let swap_b = scale-swap b p.denominator r.denominator in
    let swap_c = scale-swap c q.denominator p.denominator in
    unscale_le (a *ℤ pos r.denominator) (c *ℤ pos p.denominator) q.denominator positive
    (omega (arith, ints, left, right, swap_a, swap_b, swap_c))

-- the test of the order
below_at_most : (p q : Fraction) → is_below p q ≡ true → IsAtMost p q
below_at_most p q test = grind (arith, ints)

not_below_at_most : (p q : Fraction) → is_below p q ≡ false → IsAtMost q p
not_below_at_most p q test = grind (arith, ints)

-- at least, as at most the other way round
abbrev pub IsAtLeast : Fraction → Fraction → Type 0
IsAtLeast p q = IsAtMost q p

-- ---- what is picked along a list
abbrev pub IsPositive : NumberData → Type 0
IsPositive n = 0 < n.value.denominator

-- of what was picked so far and a value one is picked, which is on one side of both
record Picked (R : Fraction → Fraction → Type 0) (step : Option Fraction → NumberData → Option Fraction) (q : Fraction)
    (n : NumberData) : Type 0 where
  pub picked : Fraction
  pub is : step (Some q) n ≡ Some picked
  pub positive : 0 < picked.denominator
  pub first : R picked q
  pub second : R picked n.value
  pub one : (picked ≡ q) ⊎ (picked ≡ n.value)

pick_lesser : (q : Fraction) (n : NumberData) → 0 < q.denominator → IsPositive n → Picked IsAtMost lesser q n
pick_lesser q n q_positive n_positive =
    elim (cases_Bool (is_below n.value q)) [
      | inl below ↦ record {
        picked = n.value;
        is = ap (λ b. Some (cond b n.value q)) below;
        positive = n_positive;
        first = below_at_most n.value q below;
        second = at_most_self n.value;
        one = inr refl;
      }
      | inr other ↦ record {
        picked = q;
        is = ap (λ b. Some (cond b n.value q)) other;
        positive = q_positive;
        first = at_most_self q;
        second = not_below_at_most n.value q other;
        one = inl refl;
      }
    ]

pick_greater : (q : Fraction) (n : NumberData) → 0 < q.denominator → IsPositive n → Picked IsAtLeast greater q n
pick_greater q n q_positive n_positive =
    elim (cases_Bool (is_below q n.value)) [
      | inl below ↦ record {
        picked = n.value;
        is = ap (λ b. Some (cond b n.value q)) below;
        positive = n_positive;
        first = below_at_most q n.value below;
        second = at_most_self n.value;
        one = inr refl;
      }
      | inr other ↦ record {
        picked = q;
        is = ap (λ b. Some (cond b n.value q)) other;
        positive = q_positive;
        first = at_most_self q;
        second = not_below_at_most q n.value other;
        one = inl refl;
      }
    ]

-- the values
abbrev values : List NumberData → List Fraction
values = map (λ n. n.value)

-- a value of a list, with one more in front
first_value : (q : Fraction) (n : NumberData) (numbers : List NumberData) → q ≡ n.value
    → Contains (values (n ∷ numbers)) q
first_value q n numbers is = (0, omega arith, sym is)

later_value : (q : Fraction) (n : NumberData) (numbers : List NumberData) → Contains (values numbers) q
    → Contains (values (n ∷ numbers)) q
later_value q n numbers (k, inside, is) = (suc k, omega arith, is)

-- what is picked at the end is on one side of what was so far, and of each value after it
record IsPickedFrom (R : Fraction → Fraction → Type 0) (end q : Fraction) (numbers : List NumberData) : Type 0 where
  pub so_far : R end q
  pub each : All (λ n. R end n.value) numbers
  pub among : (end ≡ q) ⊎ Contains (values numbers) end

module _ (R : Fraction → Fraction → Type 0) (step : Option Fraction → NumberData → Option Fraction)
    (self : (q : Fraction) → R q q) (through : (p q r : Fraction) → 0 < q.denominator → R p q → R q r → R p r)
    (pick : (q : Fraction) (n : NumberData) → 0 < q.denominator → IsPositive n → Picked R step q n) where
  picked_from : (end q : Fraction) (numbers : List NumberData) → 0 < q.denominator → All IsPositive numbers
      → fold step (Some q) numbers ≡ Some end → IsPickedFrom R end q numbers
  picked_from end q [] positive all is =
      let same : q ≡ end = cc in
      record {
        so_far = subst (λ (p : Fraction). R p q) same (self q);
        each = λ k d inside. absurd (omega arith);
        among = inl (sym same);
      }
  picked_from end q (n ∷ numbers) positive all is =
      let one = pick q n positive (all_first IsPositive n numbers all) in
      let rest = picked_from end one.picked numbers one.positive (all_rest IsPositive n numbers all)
      (ap (λ o. fold step o numbers) (sym one.is) ∙ is) in
      record {
        so_far = through end one.picked q one.positive rest.so_far one.first;
        each = all_more (λ m. R end m.value) n numbers
            (through end one.picked n.value one.positive rest.so_far one.second) rest.each;
        among = elim rest.among [
          | inl now ↦
              elim one.one [
                | inl so_far ↦ inl (now ∙ so_far)
                | inr value ↦ inr (first_value end n numbers (now ∙ value))
              ]
          | inr later ↦ inr (later_value end n numbers later)
        ];
      }

all_positive : (numbers : List NumberData) → All FitsKind numbers → All IsPositive numbers
all_positive numbers all = λ k d inside. (all k d inside).positive

first_or_later : (end : Fraction) (n : NumberData) (numbers : List NumberData)
    → (end ≡ n.value) ⊎ Contains (values numbers) end → Contains (values (n ∷ numbers)) end
first_or_later end n numbers (inl first) = first_value end n numbers first
first_or_later end n numbers (inr later) = later_value end n numbers later

pub least_is_least : (numbers : List NumberData) (low : Fraction) → All FitsKind numbers → least numbers ≡ Some low
    → IsLeast low numbers
least_is_least [] low all is = cc
least_is_least (n ∷ numbers) low all is =
    let from = picked_from IsAtMost lesser at_most_self at_most_through pick_lesser low n.value numbers
    (all_first FitsKind n numbers all).positive (all_positive numbers (all_rest FitsKind n numbers all)) is in
    record {
      among = first_or_later low n numbers from.among;
      at_most = all_more (λ m. IsAtMost low m.value) n numbers from.so_far from.each;
    }

at_least_through : (p q r : Fraction) → 0 < q.denominator → IsAtLeast p q → IsAtLeast q r → IsAtLeast p r
at_least_through p q r positive first second = at_most_through r q p positive second first

pub greatest_is_greatest : (numbers : List NumberData) (high : Fraction) → All FitsKind numbers
    → greatest numbers ≡ Some high → IsGreatest high numbers
greatest_is_greatest [] high all is = cc
greatest_is_greatest (n ∷ numbers) high all is =
    let from = picked_from IsAtLeast greater at_most_self at_least_through pick_greater high n.value numbers
    (all_first FitsKind n numbers all).positive (all_positive numbers (all_rest FitsKind n numbers all)) is in
    record {
      among = first_or_later high n numbers from.among;
      at_least = all_more (λ m. IsAtLeast high m.value) n numbers from.so_far from.each;
    }

-- ---- sums over one denominator
one_more : (z : ℤ) (k : ℕ) → z *ℤ pos (suc k) ≡ z *ℤ pos k +ℤ z
one_more z k = *ℤ_comm z (pos (suc k)) ∙ suc_ℤ-*ℤ (pos k) z ∙ ap (λ y. y +ℤ z) (*ℤ_comm (pos k) z)

-- a value and another fraction, both over the denominator
module _ (d : ℕ) (q : Fraction) (n : NumberData) (over : IsOver d n) where
  abbrev times : ℕ
  times = d / n.value.denominator

  other_side : (q.numerator *ℤ pos n.value.denominator) *ℤ pos times ≡ q.numerator *ℤ pos d
  other_side = scale-to q.numerator n.value.denominator times d
      (mul_comm n.value.denominator times ∙ div-mul_cancel n.value.denominator over.divides)

  own_side : (n.value.numerator *ℤ pos q.denominator) *ℤ pos times ≡ numerator_over d n.value *ℤ pos q.denominator
  own_side = scale-swap n.value.numerator q.denominator times

  value_above : IsAtMost q n.value → (q.numerator *ℤ pos d) ≤ℤ (numerator_over d n.value *ℤ pos q.denominator)
  value_above order =
      let scaled = scale_le (q.numerator *ℤ pos n.value.denominator) (n.value.numerator *ℤ pos q.denominator) times
      order in
      omega (arith, ints, scaled, other_side, own_side)

  value_below : IsAtLeast q n.value → (numerator_over d n.value *ℤ pos q.denominator) ≤ℤ (q.numerator *ℤ pos d)
  value_below order =
      let scaled = scale_le (n.value.numerator *ℤ pos q.denominator) (q.numerator *ℤ pos n.value.denominator) times
      order in
      omega (arith, ints, scaled, other_side, own_side)

-- the sum, one value more
sum_scaled : (d : ℕ) (q : Fraction) (n : NumberData) (numbers : List NumberData)
    → sum_over d (n ∷ numbers) *ℤ pos q.denominator
    ≡ numerator_over d n.value *ℤ pos q.denominator +ℤ sum_over d numbers *ℤ pos q.denominator
sum_scaled d q n numbers = ap (λ z. z *ℤ pos q.denominator) (sum_more d n numbers)
    ∙ scale-sum (numerator_over d n.value) (sum_over d numbers) q.denominator

sum_above : (d : ℕ) (q : Fraction) (numbers : List NumberData) → All (IsOver d) numbers
    → All (λ n. IsAtMost q n.value) numbers
    → ((q.numerator *ℤ pos d) *ℤ pos (length numbers)) ≤ℤ (sum_over d numbers *ℤ pos q.denominator)
sum_above d q [] over all =
    let left = *ℤ_comm (q.numerator *ℤ pos d) (pos 0) in
    let none = zero-*ℤ (q.numerator *ℤ pos d) in
    let right = zero-*ℤ (pos q.denominator) in
    omega (arith, ints, left, none, right)
sum_above d q (n ∷ numbers) over all =
    let rest = sum_above d q numbers (all_rest (IsOver d) n numbers over)
    (all_rest (λ m. IsAtMost q m.value) n numbers all) in
    let first = value_above d q n (all_first (IsOver d) n numbers over)
    (all_first (λ m. IsAtMost q m.value) n numbers all) in
    let left = one_more (q.numerator *ℤ pos d) (length numbers) in
    let right = sum_scaled d q n numbers in
    omega (arith, ints, rest, first, left, right)

sum_below : (d : ℕ) (q : Fraction) (numbers : List NumberData) → All (IsOver d) numbers
    → All (λ n. IsAtLeast q n.value) numbers
    → (sum_over d numbers *ℤ pos q.denominator) ≤ℤ ((q.numerator *ℤ pos d) *ℤ pos (length numbers))
sum_below d q [] over all =
    let left = *ℤ_comm (q.numerator *ℤ pos d) (pos 0) in
    let none = zero-*ℤ (q.numerator *ℤ pos d) in
    let right = zero-*ℤ (pos q.denominator) in
    omega (arith, ints, left, none, right)
sum_below d q (n ∷ numbers) over all =
    let rest = sum_below d q numbers (all_rest (IsOver d) n numbers over)
    (all_rest (λ m. IsAtLeast q m.value) n numbers all) in
    let first = value_below d q n (all_first (IsOver d) n numbers over)
    (all_first (λ m. IsAtLeast q m.value) n numbers all) in
    let left = one_more (q.numerator *ℤ pos d) (length numbers) in
    let right = sum_scaled d q n numbers in
    omega (arith, ints, rest, first, left, right)

-- ---- the mean
pub mean_is_between : (numbers : List NumberData) (low q high : Fraction) → All FitsKind numbers
    → least numbers ≡ Some low → mean numbers ≡ Some q → greatest numbers ≡ Some high
    → IsAtMost low q × IsAtMost q high
mean_is_between [] low q high all low_is is high_is = cc
mean_is_between (n ∷ numbers) low q high all low_is is high_is =
    let has = has_mean q n numbers all is in
    let d = denominator n.over in
    let count = suc (length numbers) in
    let P : Fraction → Type 0 = λ p. IsAtMost low p × IsAtMost p high in
    let above = sum_above d low (n ∷ numbers) has.over (least_is_least (n ∷ numbers) low all low_is).at_most in
    let most = greatest_is_greatest (n ∷ numbers) high all high_is in
    let below = sum_below d high (n ∷ numbers) has.over most.at_least in
    let low_side = scale-scale low.numerator d count in
    let high_side = scale-scale high.numerator d count in
    subst P (sym has.is)
    (omega (arith, ints, above, low_side), omega (arith, ints, below, high_side))
