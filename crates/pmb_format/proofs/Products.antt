-- Whole numbers times a natural number in front: sums, signs and order. For the range tests of
-- codes (`is_above`, `is_below`) and the lemmas on nearest codes.
use Rattle.std.proofs.Common.{◌≡◌, ℕ, zero, suc, ◌<◌, ℤ, pos, neg_ℤ, ◌+ℤ◌, ◌*ℤ◌, ◌≤ℤ◌, ap, arith}
use Rattle.std.proofs.lemmas.Int.{ints, by_lt_z}
use Rattle.std.proofs.Math.IntN.{suc_ℤ-*ℤ, zero-*ℤ}
use Rattle.pmb_format.proofs.Nearest.{scale_lt}

-- one more of a number
more : (d : ℕ) (x : ℤ) → pos (suc d) *ℤ x ≡ pos d *ℤ x +ℤ x
more d x = suc_ℤ-*ℤ (pos d) x

-- a sum
pub product-sum : (d : ℕ) (x y : ℤ) → pos d *ℤ (x +ℤ y) ≡ pos d *ℤ x +ℤ pos d *ℤ y
product-sum zero x y =
    let none = zero-*ℤ (x +ℤ y) in
    let none_x = zero-*ℤ x in
    let none_y = zero-*ℤ y in
    omega (arith, ints)
product-sum (suc d) x y =
    let smaller = product-sum d x y in
    let whole = more d (x +ℤ y) in
    let of_x = more d x in
    let of_y = more d y in
    omega (arith, ints)

-- the other sign
pub product-neg : (d : ℕ) (x : ℤ) → pos d *ℤ neg_ℤ x ≡ neg_ℤ (pos d *ℤ x)
product-neg zero x =
    let none = zero-*ℤ x in
    let none_neg = zero-*ℤ (neg_ℤ x) in
    omega (arith, ints)
product-neg (suc d) x =
    let smaller = product-neg d x in
    let whole = more d (neg_ℤ x) in
    let of_x = more d x in
    omega (arith, ints)

-- a factor keeps the order
pub product_le : (d : ℕ) (x y : ℤ) → 0 < d → x ≤ℤ y → (pos d *ℤ x) ≤ℤ (pos d *ℤ y)
product_le d x y positive order =
    by_lt_z x y
    (λ less. let product = scale_lt d x y positive less in omega (arith, ints))
    (λ at_least.
    let same : x ≡ y = omega (arith, ints) in
    let products : pos d *ℤ x ≡ pos d *ℤ y = ap (λ z. pos d *ℤ z) same in
    omega (arith, ints))
