-- Numbers without a factor two or five, and what they have in common with its powers: nothing. For
-- `places_of`, `without_fives` and the other functions that take twos and fives out of a number. A
-- prime that divides a product divides a factor (`Cancels`).
use Rattle.std.proofs.Common.{◌≡◌, ◌≢◌, ℕ, zero, suc, inl, inr, ◌-◌, ◌*◌, ◌/◌, ◌%◌, ◌^◌, ◌<◌, ◌≤◌, sym, ap, ◌∙◌, subst}
use Rattle.std.proofs.Common.{arith}
use Rattle.std.specs.Int.{◌∣◌}
use Rattle.std.proofs.lemmas.Bool.{cases_eq}
use Rattle.std.proofs.lemmas.Nat.{mod_below, mul-mod_second}
use Rattle.std.proofs.lemmas.Nat.Gcd.{dvd_refl, dvd_trans, le_of_dvd, dvd_of_mod-eq-zero, mod-eq-zero_of_dvd}
use Rattle.std.proofs.Math.Nat.{mul_assoc, mul_comm, mul-div_cancel, div-mul_cancel, pow-zero, pow-suc, one-dvd}
use Rattle.std.proofs.Math.Nat.{dvd-mul_left, eq-one_of_dvd-one}
use Rattle.pmb_quantity.specs.Fraction.{gcd}
use Rattle.pmb_quantity.proofs.FractionLemmas.{IsGcd-gcd, gcd_is}

-- a factor less than b takes no b out of a product
abbrev Cancels : ℕ → Type 0
Cancels b = (m r : ℕ) → r ≢ 0 → r < b → (m * r) % b ≡ 0 → m % b ≡ 0

module _ (b : ℕ) (some : 0 < b) (cancels : Cancels b) where
  -- what it divides as a product, it divides as a factor
  factor : (m d : ℕ) → b ∣ m * d → (b ∣ d → ⊥) → b ∣ m
  factor m d product other =
      let rest : (m * (d % b)) % b ≡ 0 = mul-mod_second m d b ∙ mod-eq-zero_of_dvd b product in
      dvd_of_mod-eq-zero b (cancels m (d % b) (λ none. other (dvd_of_mod-eq-zero b none)) (mod_below d b some) rest)

  -- a number without it that divides its power is 1
  power_divisor : (j d : ℕ) → (b ∣ d → ⊥) → d ∣ b ^ j → d ≡ 1
  power_divisor zero d other divides = eq-one_of_dvd-one (subst (λ (x : ℕ). d ∣ x) (pow-zero b) divides)
  power_divisor (suc j) d other divides =
      let m = b ^ suc j / d in
      let whole : m * d ≡ b ^ j * b = div-mul_cancel d divides ∙ pow-suc b j in
      let inside : b ∣ m = factor m d (subst (λ (x : ℕ). b ∣ x) (sym whole) (dvd-mul_left b (b ^ j))) other in
      let parted : m / b * b ≡ m = div-mul_cancel b inside in
      let swapped : m / b * d * b ≡ b ^ j * b = mul_assoc (m / b) d b ∙ ap (λ x. m / b * x) (mul_comm d b)
      ∙ sym (mul_assoc (m / b) b d) ∙ ap (λ x. x * d) parted ∙ whole in
      let less : m / b * d ≡ b ^ j = sym (mul-div_cancel (m / b * d) some) ∙ ap (λ x. x / b) swapped
      ∙ mul-div_cancel (b ^ j) some in
      power_divisor j d other (subst (λ (x : ℕ). d ∣ x) less (dvd-mul_left d (m / b)))

  pub coprime_power : (n j : ℕ) → (b ∣ n → ⊥) → gcd n (b ^ j) ≡ 1
  coprime_power n j other =
      gcd_is n (b ^ j) 1 (
        one-dvd n,
        one-dvd (b ^ j),
        λ d of_n of_power.
            subst (λ (x : ℕ). x ∣ 1) (sym (power_divisor j d (λ of_d. other (dvd_trans b of_d of_n)) of_power))
            (dvd_refl 1),
      )

-- two and five
two_cancels : Cancels 2
two_cancels m r some small none =
    let one : r ≡ 1 = omega arith in
    omega (arith, ap (λ x. (m * x) % 2) one)

five_cancels : Cancels 5
five_cancels m r some small none =
    elim (cases_eq r 1) [
      | inl is ↦ omega (arith, ap (λ x. (m * x) % 5) is)
      | inr other ↦
          elim (cases_eq r 2) [
            | inl is ↦ omega (arith, ap (λ x. (m * x) % 5) is)
            | inr more ↦
                elim (cases_eq r 3) [
                  | inl is ↦ omega (arith, ap (λ x. (m * x) % 5) is)
                  | inr last ↦ let four : r ≡ 4 = omega arith in omega (arith, ap (λ x. (m * x) % 5) four)
                ]
          ]
    ]

pub two_coprime : (n j : ℕ) → (2 ∣ n → ⊥) → gcd n (2 ^ j) ≡ 1
two_coprime n j other = coprime_power 2 (omega arith) two_cancels n j other

pub five_coprime : (n j : ℕ) → (5 ∣ n → ⊥) → gcd n (5 ^ j) ≡ 1
five_coprime n j other = coprime_power 5 (omega arith) five_cancels n j other

-- fives that are not in a number
pub five_apart : (n j : ℕ) → 0 < j → gcd n (5 ^ j) ≡ 1 → 5 ∣ n → ⊥
five_apart n j some one inside =
    let more : suc (j - 1) ≡ j = omega arith in
    let power : 5 ^ (j - 1) * 5 ≡ 5 ^ j = sym (pow-suc 5 (j - 1)) ∙ ap (λ x. 5 ^ x) more in
    let of_power : 5 ∣ 5 ^ j = subst (λ (x : ℕ). 5 ∣ x) power (dvd-mul_left 5 (5 ^ (j - 1))) in
    let small : 5 ≤ 1 = le_of_dvd (omega arith)
    (subst (λ (g : ℕ). 5 ∣ g) one ((IsGcd-gcd n (5 ^ j)).2 5 inside of_power)) in
    omega arith
