-- Whole numbers times a natural number: sums, order, and the numerators of one fraction over two
-- denominators. For the laws, and the values of words.
use Rattle.std.proofs.Common.{◌≡◌, ℕ, zero, suc, ◌*◌, ◌/◌, ◌<◌, ℤ, pos, ◌+ℤ◌, ◌*ℤ◌, ◌≤ℤ◌, sym, ap, ◌∙◌}
use Rattle.std.proofs.Common.{arith}
use Rattle.std.specs.Int.{◌∣◌}
use Rattle.std.proofs.lemmas.Int.{ints, by_lt_z}
use Rattle.std.proofs.Math.IntN.{*ℤ_comm, zero-*ℤ}
use Rattle.std.proofs.Math.Nat.{div-mul_cancel, mul_assoc, mul_comm}
use Rattle.pmb_quantity.specs.Fraction.{Fraction}
use Rattle.pmb_quantity.proofs.Scaling.{scale_lt, scale-scale}
use Rattle.pmb_format.proofs.Products.{product-sum}
use Rattle.pmb_mean.specs.Numbers.{numerator_over}

-- a sum
pub scale-sum : (x y : ℤ) (d : ℕ) → (x +ℤ y) *ℤ pos d ≡ x *ℤ pos d +ℤ y *ℤ pos d
scale-sum x y d =
    *ℤ_comm (x +ℤ y) (pos d) ∙ product-sum d x y ∙ ap (λ z. z +ℤ pos d *ℤ y) (*ℤ_comm (pos d) x)
    ∙ ap (λ z. x *ℤ pos d +ℤ z) (*ℤ_comm (pos d) y)

-- two factors that are one
pub scale-to : (m : ℤ) (a b c : ℕ) → a * b ≡ c → (m *ℤ pos a) *ℤ pos b ≡ m *ℤ pos c
scale-to m a b c is = scale-scale m a b ∙ ap (λ k. m *ℤ pos k) is

-- a factor keeps the order, and a positive one is taken off again
pub scale_le : (x y : ℤ) (d : ℕ) → x ≤ℤ y → (x *ℤ pos d) ≤ℤ (y *ℤ pos d)
scale_le x y zero order =
    let none_x = *ℤ_comm x (pos 0) in
    let none_y = *ℤ_comm y (pos 0) in
    let zero_x = zero-*ℤ x in
    let zero_y = zero-*ℤ y in
    omega (arith, ints)
scale_le x y (suc d) order =
    by_lt_z x y
    (λ less. let product = scale_lt x y (suc d) (omega arith) less in omega (arith, ints))
    (λ at_least.
    let same : x ≡ y = omega (arith, ints) in
    let products : x *ℤ pos (suc d) ≡ y *ℤ pos (suc d) = ap (λ z. z *ℤ pos (suc d)) same in
    omega (arith, ints))

pub unscale_le : (x y : ℤ) (d : ℕ) → 0 < d → (x *ℤ pos d) ≤ℤ (y *ℤ pos d) → x ≤ℤ y
unscale_le x y d positive order =
    by_lt_z y x
    (λ more. let product = scale_lt y x d positive more in absurd (omega (arith, ints)))
    (λ at_most. at_most)

-- the quotients of two multiples
pub cross_quotients : (d e m : ℕ) → m ∣ d → m ∣ e → d / m * e ≡ e / m * d
cross_quotients d e m of_d of_e =
    ap (λ x. d / m * x) (sym (div-mul_cancel m of_e)) ∙ sym (mul_assoc (d / m) (e / m) m)
    ∙ ap (λ x. x * m) (mul_comm (d / m) (e / m)) ∙ mul_assoc (e / m) (d / m) m
    ∙ ap (λ x. e / m * x) (div-mul_cancel m of_d)

-- the numerators of one fraction over two denominators
pub cross_numerators : (d e : ℕ) (q : Fraction) → q.denominator ∣ d → q.denominator ∣ e
    → numerator_over d q *ℤ pos e ≡ numerator_over e q *ℤ pos d
cross_numerators d e q of_d of_e =
    scale-scale q.numerator (d / q.denominator) e
    ∙ ap (λ k. q.numerator *ℤ pos k) (cross_quotients d e q.denominator of_d of_e)
    ∙ sym (scale-scale q.numerator (e / q.denominator) d)
