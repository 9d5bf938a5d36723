-- Whole numbers times a natural number: products of two numbers are at least the factor apart, and
-- even numbers are not neighbours. For the laws `decimals_are_nearest` and
-- `one_decimal_is_nearest`, by Nearest and OneNearest.
use Rattle.std.proofs.Common.{◌≡◌, ℕ, suc, ◌*◌, ◌%◌, ◌≤◌, ℤ, pos, negsuc, ◌+ℤ◌, ◌*ℤ◌, ◌<ℤ◌, ◌≤ℤ◌, unsigned_abs, arith}
use Rattle.std.proofs.lemmas.Int.{ints}
use Rattle.std.proofs.lemmas.Nat.{mul-le}
use Rattle.std.proofs.Math.Nat.{suc-mul}

-- the products of two numbers are at least the factor apart
pub apart : (m n : ℤ) (d : ℕ) → m <ℤ n → (m *ℤ pos d +ℤ pos d) ≤ℤ (n *ℤ pos d)
apart (pos a) (pos b) d less =
    let product : suc a * d ≤ b * d = mul-le (suc a) d b d (omega (arith, ints)) (omega arith) in
    let one_more = suc-mul a d in
    omega (arith, ints)
apart (pos a) (negsuc b) d less = absurd (omega (arith, ints))
apart (negsuc a) (pos b) d less =
    let one_more = suc-mul a d in
    omega (arith, ints)
apart (negsuc a) (negsuc b) d less =
    let product : suc b * d ≤ a * d = mul-le (suc b) d a d (omega (arith, ints)) (omega arith) in
    let one_more = suc-mul a d in
    omega (arith, ints)

-- two even numbers are not neighbours
pub even_apart : (m n : ℤ) → unsigned_abs m % 2 ≡ 0 → unsigned_abs n % 2 ≡ 0 → m <ℤ n → (m +ℤ pos 1) <ℤ n
even_apart (pos a) (pos b) m_even n_even less = omega (arith, ints)
even_apart (pos a) (negsuc b) m_even n_even less = absurd (omega (arith, ints))
even_apart (negsuc a) (pos b) m_even n_even less = omega (arith, ints)
even_apart (negsuc a) (negsuc b) m_even n_even less = omega (arith, ints)
