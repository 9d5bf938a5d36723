-- The sum that a history holds gives the mean: for `has_mean` and `append_mean`. As long as all
-- values are of the kind of the first their numerators are added up over its denominator; the
-- first of another kind makes the sum mixed, and it stays so.
use Rattle.std.proofs.Common.{◌≡◌, ℕ, suc, ◌*◌, Bool, true, false, cond, ◌&&◌, inl, inr, Some, None, List}
use Rattle.std.proofs.Common.{[], ◌∷◌}
use Rattle.std.proofs.Common.{length, ℤ, pos, ◌+ℤ◌, fold, refl, sym, ap, ◌∙◌, if◌then◌else◌, arith}
use Rattle.std.proofs.lemmas.Bool.{cases_Bool}
use Rattle.std.proofs.lemmas.Bool.Decides.{nat_tests}
use Rattle.std.proofs.Math.IntN.{+ℤ_idl}
use Rattle.pmb_quantity.specs.Fraction.{Fraction}
use Rattle.pmb_mean.specs.declared.denominators.Denominators.{Denominators}
use Rattle.pmb_mean.specs.declared.denominators.Denominators.TheVariants.{Dyadic, Over, Vids}
use Rattle.pmb_mean.specs.declared.sum.Sum.{Sum}
use Rattle.pmb_mean.specs.declared.sum.Sum.TheVariants.{Of, Mixed}
use Rattle.pmb_mean.specs.Numbers.{NumberData, are_over, denominator, mean, numerator, numerator_over, same}
use Rattle.pmb_mean.specs.machine.History.{added, mean_of, sum_of}

-- one kind has one denominator
pub same_is : (d e : Denominators) → same d e ≡ true → denominator d ≡ denominator e
same_is Dyadic Dyadic test = refl
same_is Dyadic (Over e) test = cc
same_is Dyadic Vids test = cc
same_is (Over d) Dyadic test = cc
same_is (Over d) (Over e) test = grind (arith, nat_tests)
same_is (Over d) Vids test = cc
same_is Vids Dyadic test = cc
same_is Vids (Over e) test = cc
same_is Vids Vids test = refl

mixed_stays : (numbers : List NumberData) → fold added Mixed numbers ≡ Mixed
mixed_stays [] = refl
mixed_stays (n ∷ numbers) = mixed_stays numbers

-- the next step of a sum over one denominator
abbrev with_numerator : ℕ → ℤ → NumberData → ℤ
with_numerator d z n = z +ℤ numerator_over d n.value

abbrev sum_or_mixed : Bool → Denominators → ℤ → Sum
sum_or_mixed b over z = if b then Of over z else Mixed

sum_from : (over : Denominators) (z : ℤ) (numbers : List NumberData) → fold added (Of over z) numbers
    ≡ sum_or_mixed (are_over over numbers) over (fold (with_numerator (denominator over)) z numbers)
sum_from over z [] = refl
sum_from over z (n ∷ numbers) =
    let next = z +ℤ numerator n in
    let rest = fold (with_numerator (denominator over)) (with_numerator (denominator over) z n) numbers in
    elim (cases_Bool (same n.over over)) [
      | inl is ↦
          ap (λ b. fold added (cond b (Of over next) Mixed) numbers) is
          ∙ ap (λ d. fold added (Of over (z +ℤ numerator_over d n.value)) numbers) (same_is n.over over is)
          ∙ sum_from over (with_numerator (denominator over) z n) numbers
          ∙ ap (λ b. sum_or_mixed (b && are_over over numbers) over rest) (sym is)
      | inr other ↦
          ap (λ b. fold added (cond b (Of over next) Mixed) numbers) other ∙ mixed_stays numbers
          ∙ ap (λ b. sum_or_mixed (b && are_over over numbers) over rest) (sym other)
    ]

-- the fraction of a sum and a count
abbrev fraction_of : Denominators → ℤ → ℕ → Fraction
fraction_of over z count = record { numerator = z; denominator = denominator over * count }

mean_by_test : (b : Bool) (over : Denominators) (z y : ℤ) (count : ℕ) → z ≡ y
    → (if b then Some (fraction_of over z count) else None)
    ≡ mean_of (sum_or_mixed b over y) count
mean_by_test true over z y count is = ap (λ x. mean_of (Of over x) count) is
mean_by_test false over z y count is = refl

pub mean_is : (numbers : List NumberData) → mean numbers ≡ mean_of (sum_of numbers) (length numbers)
mean_is [] = refl
mean_is (n ∷ numbers) =
    let d = denominator n.over in
    let sum = fold (with_numerator d) (numerator n) numbers in
    mean_by_test (are_over n.over numbers) n.over (fold (with_numerator d) (pos 0 +ℤ numerator n) numbers) sum
    (suc (length numbers)) (ap (λ z. fold (with_numerator d) z numbers) (+ℤ_idl (numerator n)))
    ∙ ap (λ s. mean_of s (suc (length numbers))) (sym (sum_from n.over (numerator n) numbers))
