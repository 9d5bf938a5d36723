-- Numbers of few bits and of few bytes. For `picked` and `number` of `src/bits.rt`.
use Rattle.std.proofs.Common.{◌≡◌, ℕ, ◌+◌, ◌-◌, ◌*◌, ◌%◌, ◌^◌, ◌<◌, ◌≤◌, List, [], ◌∷◌, length, take, drop, ap, ◌∙◌}
use Rattle.std.proofs.Common.{arith}
use Rattle.std.proofs.Math.Nat.{pow-le-pow_right}
use Rattle.std.proofs.Math.Pow.{pow_mono}
use Rattle.std.proofs.Math.Seq.{take-length}
use Rattle.std.proofs.lemmas.Nat.{one_shl, pow_pos}

-- ---- bits

-- what a shift of 1 is, in 64 bits
pub one_shifted : (width : ℕ) → width ≤ 24 → 1 * 2 ^ width % 2 ^ 64 ≡ 2 ^ width
one_shifted width few = one_shl width 64 (omega arith)

pub remainder_small : (n width : ℕ) → width ≤ 24 → n % 2 ^ width < 2 ^ 24
remainder_small n width few =
    let below : 2 ^ width ≤ 2 ^ 24 = pow_mono few in
    let some : 0 < 2 ^ width = pow_pos width in
    omega arith

-- ---- bytes

rest_is : (first : ℕ) (rest : List ℕ) → take (length (first ∷ rest) - 1) rest ≡ rest
rest_is first rest =
    let same : length (first ∷ rest) - 1 ≡ length rest = omega arith in
    ap (λ (n : ℕ). take n rest) same ∙ take-length rest

-- what comes after the first of seven bytes at most
pub rest_short : (bytes : List ℕ) → 1 ≤ length bytes → length bytes ≤ 7
    → length (take (length bytes - 1) (drop 1 bytes)) ≤ 6
rest_short [] some few = absurd (omega (arith, some))
rest_short (first ∷ rest) some few =
    let same : length (take (length (first ∷ rest) - 1) rest) ≡ length rest = ap length (rest_is first rest) in
    omega (arith, few)

-- six bytes and one more are 56 bits
pub six_bytes : (n many : ℕ) → n < 256 ^ many → many ≤ 6 → 256 * n + 255 < 2 ^ 56
six_bytes n many small few =
    let most : 256 ^ many ≤ 256 ^ 6 = pow-le-pow_right {n = 256} (omega arith) {i = many} {j = 6} few in
    omega arith
