-- Powers of ten as twos and fives: for `Quantity::from_decimal`, `places_of`, `unit_of` and
-- `push_magnitude`. 10^p is 5^p * 2^p, in whatever parts the fives and twos are taken.
use Rattle.std.proofs.Common.{◌≡◌, ℕ, ◌+◌, ◌-◌, ◌*◌, ◌%◌, ◌^◌, ◌<◌, ◌≤◌, sym, ap, ◌∙◌, arith}
use Rattle.std.proofs.lemmas.Nat.{pow_pos, pow-add, mul-pow, mul-le, shl_whole}
use Rattle.std.proofs.Math.Nat.{mul_assoc, mul_comm, one-le-pow, pow-le-pow_right}

-- the order of four factors
swap_factors : (a b c d : ℕ) → (a * b) * (c * d) ≡ (a * c) * (b * d)
swap_factors a b c d =
    mul_assoc a b (c * d) ∙ ap (λ x. a * x) (sym (mul_assoc b c d) ∙ ap (λ x. x * d) (mul_comm b c) ∙ mul_assoc c b d)
    ∙ sym (mul_assoc a c (b * d))

-- so many fives and twos, and those that ten to the p has besides
pub ten_parts : (p l t : ℕ) → l ≤ p → t ≤ p → (5 ^ l * 2 ^ t) * (5 ^ (p - l) * 2 ^ (p - t)) ≡ 10 ^ p
ten_parts p l t few_fives few_twos =
    let fives : l + (p - l) ≡ p = omega arith in
    let twos : t + (p - t) ≡ p = omega arith in
    swap_factors (5 ^ l) (2 ^ t) (5 ^ (p - l)) (2 ^ (p - t))
    ∙ ap (λ x. x * (2 ^ t * 2 ^ (p - t))) (sym (pow-add 5 l (p - l)) ∙ ap (λ x. 5 ^ x) fives)
    ∙ ap (λ x. 5 ^ p * x) (sym (pow-add 2 t (p - t)) ∙ ap (λ x. 2 ^ x) twos)
    ∙ sym (mul-pow 5 2 p)

pub fives_positive : (k : ℕ) → 0 < 5 ^ k
fives_positive k = omega (arith, one-le-pow k 5 (omega arith))

pub parts_positive : (l t : ℕ) → 0 < 5 ^ l * 2 ^ t
parts_positive l t = omega (
  arith,
  mul-le 1 1 (5 ^ l) (2 ^ t) (omega (arith, fives_positive l))
      (omega (arith, pow_pos t)),
)

-- a factor is no greater than the product
pub factor_at_most : (a k : ℕ) → 0 < k → a ≤ a * k
factor_at_most a k some = omega (arith, mul-le a 1 a k (omega arith) (omega arith))

-- few fives fit beside few twos
pub shifted_fives : (l k : ℕ) → l ≤ 18 → k ≤ 18 → (5 ^ l * 2 ^ k) % 2 ^ 64 ≡ 5 ^ l * 2 ^ k
shifted_fives l k few_fives few_twos =
    let most : 5 ^ l ≤ 5 ^ 18 = pow-le-pow_right {n = 5} (omega arith) {i = l} {j = 18} few_fives in
    shl_whole (5 ^ l) 42 k 64 (omega (arith, most)) (omega arith)
