-- The digits after the point of a number that is halved p times, as digit by digit ten times the
-- rest over 2^p: for `push_halved` and `push_halves`. n over 2^p is n * 5^p over 10^p, whose first
-- digit is 5 n over 2^(p-1).
use Rattle.std.proofs.Common.{◌≡◌, ℕ, zero, suc, ◌+◌, ◌*◌, ◌/◌, ◌%◌, ◌^◌, ◌<◌, [], ◌∷◌, ◌++◌, refl, sym, ap, ◌∙◌, arith}
use Rattle.std.proofs.Math.Nat.{pow-suc, pow-succ', mul_assoc, mul_comm, div-one, div-div-eq-div-mul, mul-add-div_right}
use Rattle.std.proofs.Math.Nat.{mul-add-mod_self_right, mul-div-mul_right, mul-div_cancel, div-lt_iff_lt-mul}
use Rattle.std.proofs.Math.Nat.{one-le-pow, add-mul}
use Rattle.std.proofs.lemmas.Nat.{mul-pow, pow_pos, div-add-mod'}
use Rattle.pmb_quantity.specs.QuantityText.{padded, after_point}

-- the first digit, and the others
padded_first : (p n : ℕ) → padded (suc p) n ≡ (48 + n / 10 ^ p % 10) ∷ padded p n
padded_first zero n = ap (λ x. (48 + x % 10) ∷ []) (sym (div-one n))
padded_first (suc p) n =
    let quotient : n / 10 / 10 ^ p ≡ n / 10 ^ suc p = div-div-eq-div-mul n 10 (10 ^ p)
    ∙ ap (λ x. n / x) (sym (pow-succ' 10 p)) in
    ap (λ ds. ds ++ (48 + n % 10) ∷ []) (padded_first p (n / 10)) ∙ ap (λ x. (48 + x % 10) ∷ padded (suc p) n) quotient

-- digits before the last ones count for nothing
padded_last : (p q r : ℕ) → padded p (q * 10 ^ p + r) ≡ padded p r
padded_last zero q r = refl
padded_last (suc p) q r =
    let n = q * 10 ^ suc p + r in
    let tens : n ≡ q * 10 ^ p * 10 + r = ap (λ x. q * x + r) (pow-suc 10 p)
    ∙ ap (λ x. x + r) (sym (mul_assoc q (10 ^ p) 10)) in
    let front : n / 10 ≡ q * 10 ^ p + r / 10 = ap (λ x. x / 10) tens ∙ mul-add-div_right {m = 10} (omega arith)
    (q * 10 ^ p) r in
    let last : n % 10 ≡ r % 10 = ap (λ x. x % 10) tens ∙ mul-add-mod_self_right (q * 10 ^ p) 10 r in
    ap (λ x. padded p x ++ (48 + n % 10) ∷ []) front ∙ ap (λ ds. ds ++ (48 + n % 10) ∷ []) (padded_last p q (r / 10))
    ∙ ap (λ x. padded p (r / 10) ++ (48 + x) ∷ []) last

-- the first digit is the whole part of ten times the number, and the others are of what that leaves
pub halves_digit : (p n : ℕ) → n < 2 ^ suc p → padded (suc p) (n * 5 ^ suc p) ≡ (48 + 5 * n / 2 ^ p)
    ∷ padded p (5 * n % 2 ^ p * 5 ^ p)
halves_digit p n below =
    let q = 5 * n / 2 ^ p in
    let r = 5 * n % 2 ^ p in
    let number : n * 5 ^ suc p ≡ 5 * n * 5 ^ p = ap (λ x. n * x) (pow-succ' 5 p) ∙ sym (mul_assoc n 5 (5 ^ p))
    ∙ ap (λ x. x * 5 ^ p) (mul_comm n 5) in
    let ten : 10 ^ p ≡ 2 ^ p * 5 ^ p = mul-pow 2 5 p in
    let digit : 5 * n * 5 ^ p / 10 ^ p ≡ q = ap (λ x. 5 * n * 5 ^ p / x) ten
    ∙ mul-div-mul_right (5 * n) (2 ^ p) (omega (arith, one-le-pow p 5 (omega arith))) in
    let small : q < 10 = (div-lt_iff_lt-mul {k = 2 ^ p} {x = 5 * n} {y = 10} (pow_pos p)).1
    (omega (arith, below, pow-suc 2 p)) in
    let parts : 5 * n * 5 ^ p ≡ q * 10 ^ p + r * 5 ^ p = ap (λ x. x * 5 ^ p) (sym (div-add-mod' (5 * n) (2 ^ p)))
    ∙ add-mul (q * 2 ^ p) r (5 ^ p) ∙ ap (λ x. x + r * 5 ^ p)
    (mul_assoc q (2 ^ p) (5 ^ p) ∙ ap (λ x. q * x) (sym ten)) in
    ap (padded (suc p)) number ∙ padded_first p (5 * n * 5 ^ p)
    ∙ ap (λ x. (48 + x % 10) ∷ padded p (5 * n * 5 ^ p)) digit ∙ ap (λ x. (48 + x) ∷ padded p (5 * n * 5 ^ p))
    (omega (arith, small)) ∙ ap (λ ds. (48 + q) ∷ ds) (ap (padded p) parts ∙ padded_last p q (r * 5 ^ p))

-- what a number halved so many times has after the point
pub fives : (p : ℕ) → 10 ^ p / 2 ^ p ≡ 5 ^ p
fives p = ap (λ x. x / 2 ^ p) (mul-pow 5 2 p) ∙ mul-div_cancel (5 ^ p) (pow_pos p)

-- 46 is the point
pub after_point-some : (p n : ℕ) → 0 < p → after_point p n ≡ 46 ∷ padded p n
after_point-some zero n some = absurd (omega arith)
after_point-some (suc p) n some = refl
