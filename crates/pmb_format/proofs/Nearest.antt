-- The best of all written codes is the nearest of all codes; and no quantity is both below and
-- above a format. For `fault_of` and, through `OneNearest` and `Neighbours`, for `nearest`.
-- Between two equally near numbers any other is nearer than both.
use Rattle.std.proofs.Common.{◌≡◌, ℕ, suc, ◌*◌, ◌<◌, ℤ, pos, negsuc, ◌-ℤ◌, ◌*ℤ◌, ◌<ℤ◌, unsigned_abs, sym, arith}
use Rattle.std.proofs.lemmas.Int.{ints}
use Rattle.std.proofs.Math.Nat.{mul-lt-mul_of_pos_left}
use Rattle.pmb_quantity.specs.Fraction.{Fraction}
use Rattle.pmb_format.specs.Coding.{Coding, IsBelow, IsAbove, ReachesSome, IsReachedBySome, scaled, scaled_code}
use Rattle.pmb_format.specs.Coding.{distance}
use Rattle.pmb_format.specs.Written.{HasCode}

-- what lies between two equally near numbers is nearer than both
pub nearer_between : (a x y z : ℤ) → x <ℤ z → z <ℤ y → unsigned_abs (a -ℤ x) ≡ unsigned_abs (a -ℤ y)
    → unsigned_abs (a -ℤ z) < unsigned_abs (a -ℤ x)
nearer_between a x y z low high tie = grind (arith, ints)

-- a positive factor keeps the order
pub scale_lt : (d : ℕ) (m n : ℤ) → 0 < d → m <ℤ n → (pos d *ℤ m) <ℤ (pos d *ℤ n)
scale_lt d (pos a) (pos b) positive less =
    let product : d * a < d * b = mul-lt-mul_of_pos_left (omega (arith, ints)) positive in
    omega (arith, ints)
scale_lt d (pos a) (negsuc b) positive less = absurd (omega (arith, ints))
scale_lt d (negsuc a) (pos b) positive less =
    let product : d * 0 < d * suc a = mul-lt-mul_of_pos_left (omega arith) positive in
    omega (arith, ints)
scale_lt d (negsuc a) (negsuc b) positive less =
    let product : d * suc b < d * suc a = mul-lt-mul_of_pos_left (omega (arith, ints)) positive in
    omega (arith, ints)

-- the first of two equally near codes with another between them is not best
pub not_best : (f : Coding) (q : Fraction) (c k j : ℕ) → 0 < q.denominator → distance f q k ≡ distance f q c
    → f.numerator c <ℤ f.numerator j → f.numerator j <ℤ f.numerator k → distance f q j < distance f q c
not_best f q c k j positive tie low high =
    nearer_between (scaled f q) (scaled_code f q c) (scaled_code f q k) (scaled_code f q j)
    (scale_lt q.denominator (f.numerator c) (f.numerator j) positive low)
    (scale_lt q.denominator (f.numerator j) (f.numerator k) positive high) (sym tie)

-- no quantity is both below and above a format that has a code
pub not_both : (f : Coding) (q : Fraction) → HasCode f → IsBelow f q → IsAbove f q → ⊥
unfolding HasCode
not_both f q has below above = omega (arith, ints, below has.0 has.1, above has.0 has.1)

pub not_below : (f : Coding) (q : Fraction) → ReachesSome f q → IsBelow f q → ⊥
not_below f q reaches below = omega (arith, ints, reaches.2, below reaches.0 reaches.1)

pub not_above : (f : Coding) (q : Fraction) → IsReachedBySome f q → IsAbove f q → ⊥
not_above f q reached above = omega (arith, ints, reached.2, above reached.0 reached.1)
