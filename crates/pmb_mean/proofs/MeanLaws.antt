-- The mean is the mean: for the law `mean_is_mean`. Each value has the same numerator over one
-- common denominator times the other, and so have their sums.
use Rattle.std.proofs.Common.{◌≡◌, ℕ, zero, suc, ◌*◌, ◌<◌, Bool, true, false, ◌&&◌, Some, None, List, []}
use Rattle.std.proofs.Common.{◌∷◌}
use Rattle.std.proofs.Common.{length, ℤ, pos, ◌+ℤ◌, ◌*ℤ◌, fold, All, if◌then◌else◌, refl, sym, ap, ◌∙◌}
use Rattle.std.proofs.Common.{subst, arith}
use Rattle.std.specs.Int.{◌∣◌}
use Rattle.std.proofs.Math.IntN.{+ℤ_assoc, +ℤ_idl, +ℤ_idr, zero-*ℤ}
use Rattle.pmb_quantity.specs.Fraction.{Fraction}
use Rattle.pmb_quantity.proofs.Scaling.{scale-scale}
use Rattle.pmb_mean.specs.declared.denominators.Denominators.{Denominators}
use Rattle.pmb_mean.specs.Laws.{IsMeanOf}
use Rattle.pmb_mean.specs.Numbers.{FitsKind, NumberData, are_over, denominator, mean, mean_over}
use Rattle.pmb_mean.specs.Numbers.{numerator_over, same}
use Rattle.pmb_mean.specs.Numbers.{sum_over}
use Rattle.pmb_mean.proofs.Products.{cross_numerators, scale-sum}
use Rattle.pmb_mean.proofs.Sums.{same_is}

-- a fact on the first of a list, and on each of the rest
pub all_first : (P : NumberData → Type 0) (n : NumberData) (numbers : List NumberData) → All P (n ∷ numbers) → P n
all_first P n numbers all = all 0 n (omega arith)

pub all_rest : (P : NumberData → Type 0) (n : NumberData) (numbers : List NumberData) → All P (n ∷ numbers)
    → All P numbers
all_rest P n numbers all = λ k d inside. all (suc k) d (omega arith)

pub all_more : (P : NumberData → Type 0) (n : NumberData) (numbers : List NumberData) → P n → All P numbers
    → All P (n ∷ numbers)
all_more P n numbers first rest zero d inside = first
all_more P n numbers first rest (suc k) d inside = rest k d (omega arith)

-- a value is a fraction over a denominator
pub record IsOver (d : ℕ) (n : NumberData) : Type 0 where
  pub positive : 0 < n.value.denominator
  pub divides : n.value.denominator ∣ d

both : (b c : Bool) → (b && c) ≡ true → (b ≡ true) × (c ≡ true)
both true c test = (refl, test)
both false c test = cc

-- where all are of one kind, each is a fraction over its denominator
over_of_number : (over : Denominators) (n : NumberData) → FitsKind n → same n.over over ≡ true
    → IsOver (denominator over) n
over_of_number over n is test =
    let P : ℕ → Type 0 = λ d. n.value.denominator ∣ d in
    record { positive = is.positive; divides = subst P (same_is n.over over test) is.divides }

pub all_over : (over : Denominators) (numbers : List NumberData) → All FitsKind numbers → are_over over numbers ≡ true
    → All (IsOver (denominator over)) numbers
all_over over [] all test = λ k d inside. absurd (omega arith)
all_over over (n ∷ numbers) all test =
    let tests = both (same n.over over) (are_over over numbers) test in
    all_more (IsOver (denominator over)) n numbers
    (over_of_number over n (all_first FitsKind n numbers all) tests.0)
    (all_over over numbers (all_rest FitsKind n numbers all) tests.1)

-- what a mean says of the values
pub record HasMean (q : Fraction) (n : NumberData) (numbers : List NumberData) : Type 0 where
  pub is : q ≡ mean_over (denominator n.over) (n ∷ numbers)
  pub some : 0 < denominator n.over
  pub over : All (IsOver (denominator n.over)) (n ∷ numbers)

of_some : (b : Bool) (p q : Fraction) → (if b then Some p else None) ≡ Some q → (b ≡ true) × (q ≡ p)
of_some true p q is = (refl, cc)
of_some false p q is = cc

pub has_mean : (q : Fraction) (n : NumberData) (numbers : List NumberData) → All FitsKind (n ∷ numbers)
    → mean (n ∷ numbers) ≡ Some q → HasMean q n numbers
has_mean q n numbers all is =
    let told = of_some (are_over n.over numbers) (mean_over (denominator n.over) (n ∷ numbers)) q is in
    let first = all_first FitsKind n numbers all in
    record {
      is = told.1;
      some = first.some;
      over = all_more (IsOver (denominator n.over)) n numbers
          (record { positive = first.positive; divides = first.divides })
          (all_over n.over numbers (all_rest FitsKind n numbers all) told.0);
    }

-- ---- sums, from the first value on
-- a sum that begins with more
sum_shift : (d : ℕ) (z y : ℤ) (numbers : List NumberData)
    → fold (λ x m. x +ℤ numerator_over d m.value) (z +ℤ y) numbers
    ≡ z +ℤ fold (λ x m. x +ℤ numerator_over d m.value) y numbers
sum_shift d z y [] = refl
sum_shift d z y (n ∷ numbers) =
    ap (λ x. fold (λ x m. x +ℤ numerator_over d m.value) x numbers) (+ℤ_assoc z y (numerator_over d n.value))
    ∙ sum_shift d z (y +ℤ numerator_over d n.value) numbers

pub sum_more : (d : ℕ) (n : NumberData) (numbers : List NumberData) → sum_over d (n ∷ numbers)
    ≡ numerator_over d n.value +ℤ sum_over d numbers
sum_more d n numbers =
    let x = numerator_over d n.value in
    ap (λ y. fold (λ x m. x +ℤ numerator_over d m.value) y numbers) (+ℤ_idl x ∙ sym (+ℤ_idr x))
    ∙ sum_shift d x (pos 0) numbers

-- the sums over two common denominators
cross_sums : (d e : ℕ) (numbers : List NumberData) → All (IsOver d) numbers → All (IsOver e) numbers
    → sum_over d numbers *ℤ pos e ≡ sum_over e numbers *ℤ pos d
cross_sums d e [] of_d of_e = zero-*ℤ (pos e) ∙ sym (zero-*ℤ (pos d))
cross_sums d e (n ∷ numbers) of_d of_e =
    let first_d = all_first (IsOver d) n numbers of_d in
    let first_e = all_first (IsOver e) n numbers of_e in
    let rest = cross_sums d e numbers (all_rest (IsOver d) n numbers of_d) (all_rest (IsOver e) n numbers of_e) in
    ap (λ z. z *ℤ pos e) (sum_more d n numbers)
    ∙ scale-sum (numerator_over d n.value) (sum_over d numbers) e
    ∙ ap (λ z. z +ℤ sum_over d numbers *ℤ pos e) (cross_numerators d e n.value first_d.divides first_e.divides)
    ∙ ap (λ z. numerator_over e n.value *ℤ pos d +ℤ z) rest
    ∙ sym (scale-sum (numerator_over e n.value) (sum_over e numbers) d)
    ∙ ap (λ z. z *ℤ pos d) (sym (sum_more e n numbers))

-- each value is a fraction over another common denominator
over_other : (d e : ℕ) (numbers : List NumberData) → All (IsOver d) numbers
    → All (λ n. n.value.denominator ∣ e) numbers → All (IsOver e) numbers
over_other d e numbers of_d of_e = λ k n inside. record {
  positive = (of_d k n inside).positive;
  divides = of_e k n inside;
}

pub mean_is_mean : (numbers : List NumberData) (q : Fraction) → All FitsKind numbers → mean numbers ≡ Some q
    → IsMeanOf q numbers
mean_is_mean [] q all is e positive divides = cc
mean_is_mean (n ∷ numbers) q all is e positive divides =
    let has = has_mean q n numbers all is in
    let d = denominator n.over in
    let count = suc (length numbers) in
    let others = over_other d e (n ∷ numbers) has.over divides in
    let P : Fraction → Type 0 =
    λ p. p.numerator *ℤ pos (e * count) ≡ sum_over e (n ∷ numbers) *ℤ pos p.denominator in
    subst P (sym has.is)
    (sym (scale-scale (sum_over d (n ∷ numbers)) e count)
    ∙ ap (λ z. z *ℤ pos count) (cross_sums d e (n ∷ numbers) has.over others)
    ∙ scale-scale (sum_over e (n ∷ numbers)) d count)
