-- The magnitudes of the codes of half precision rise with their lower 15 bits: for `code_at` and
-- all that follows. Each index m below 31,744 is a power p and a count i, as m = p * 1,024 + i,
-- where i is below 2,048, and at least 1,024 if p is not 0; its magnitude is i * 2^p, and that of
-- the next (i + 1) * 2^p.
use Rattle.std.proofs.Common.{◌≡◌, ℕ, zero, suc, ◌+◌, ◌-◌, ◌*◌, ◌/◌, ◌%◌, ◌^◌, ◌<◌, ◌≤◌, ◌==◌, inl, inr, pos}
use Rattle.std.proofs.Common.{if◌then◌else◌, neg_ℤ, refl, sym, ap, ◌∙◌, arith}
use Rattle.std.proofs.lemmas.Bool.{cases_lt, cond-true, cond-false, eq-eqb, ne_eqb}
use Rattle.std.proofs.lemmas.Nat.{pow_pos, pow-add}
use Rattle.std.proofs.Math.Nat.{suc-mul}
use Rattle.pmb_half.specs.Half.{exponent_field, fraction, magnitude, half_numerator, half}

-- where the field is 0, and where it is not
subnormal : (k : ℕ) → exponent_field k ≡ 0 → magnitude k ≡ fraction k
subnormal k none = cond-true _ _ _ (eq-eqb (exponent_field k) 0 none)

normal : (k e : ℕ) → exponent_field k ≡ e + 1 → magnitude k ≡ (1024 + fraction k) * 2 ^ e
normal k e field =
    let power : exponent_field k - 1 ≡ e = omega (arith, field) in
    cond-false _ _ _ (ne_eqb (exponent_field k) 0 (λ none. omega (arith, none, field)))
    ∙ ap (λ n. (1024 + fraction k) * 2 ^ n) power

-- a magnitude by its fields
of_fields : (k j : ℕ) → exponent_field k ≡ exponent_field j → fraction k ≡ fraction j → magnitude k ≡ magnitude j
of_fields k j same_field same_fraction =
    ap (λ e. if e == 0 then fraction k else (1024 + fraction k) * 2 ^ (e - 1)) same_field
    ∙ ap (λ f. if exponent_field j == 0 then f else (1024 + f) * 2 ^ (exponent_field j - 1)) same_fraction

-- half as much at twice the power
doubled : (p : ℕ) → 1024 * 2 ^ (p + 1) ≡ 2048 * 2 ^ p
doubled p = omega (arith, pow-add 2 p 1)

-- a count below 1,024 has field 0, one below 2,048 the next after the power, and 2,048 one more
pub magnitude_at : (p i : ℕ) → p ≤ 29 → i ≤ 2048 → (0 < p → 1024 ≤ i) → magnitude (p * 1024 + i) ≡ i * 2 ^ p
magnitude_at p i power fits large =
    elim (cases_lt i 1024) [
      | inl small ↦
          let least : p ≡ 0 = grind arith in
          let same : i ≡ i * 2 ^ p = omega (arith, ap (λ e. i * 2 ^ e) least) in
          subnormal (p * 1024 + i) (omega (arith, least, small)) ∙ omega (arith, least, small) ∙ same
      | inr more ↦
          elim (cases_lt i 2048) [
            | inl below ↦
                let count : 1024 + fraction (p * 1024 + i) ≡ i = omega (arith, more, below) in
                normal (p * 1024 + i) p (omega (arith, power, more, below)) ∙ ap (λ n. n * 2 ^ p) count
            | inr last ↦
                let is : i ≡ 2048 = omega (arith, fits, last) in
                let count : 1024 + fraction (p * 1024 + i) ≡ 1024 = omega (arith, is) in
                normal (p * 1024 + i) (p + 1) (omega (arith, power, is)) ∙ ap (λ n. n * 2 ^ (p + 1)) count ∙ doubled p
                ∙ ap (λ n. n * 2 ^ p) (sym is)
          ]
    ]

-- the magnitude of a word is that of its lower 15 bits
without_sign : (m : ℕ) → m < 32768 → magnitude (32768 + m) ≡ magnitude m
without_sign m low = of_fields (32768 + m) m (omega (arith, low)) (omega (arith, low))

-- a power and a count
record IsAt (m p i : ℕ) : Type 0 where
  power : p ≤ 29
  count : i < 2048
  large : 0 < p → 1024 ≤ i
  index : m ≡ p * 1024 + i

place : (m : ℕ) → m < 31744 → (p : ℕ) × (i : ℕ) × IsAt m p i
place m low =
    elim (cases_lt m 1024) [
      | inl small ↦ (
        0,
        m,
        record {
          power = omega arith;
          count = omega arith;
          large = λ some. omega (arith, some);
          index = omega arith;
        },
      )
      | inr more ↦ (
        m / 1024 - 1,
        m % 1024 + 1024,
        record {
          power = omega arith;
          count = omega arith;
          large = λ some. omega arith;
          index = omega arith;
        },
      )
    ]

-- the next magnitude is greater
rises_by_one : (m : ℕ) → m < 31744 → magnitude m < magnitude (m + 1)
rises_by_one m low =
    let at = place m low in
    let p = at.0 in
    let i = at.1 in
    let is = at.2 in
    let own : magnitude m ≡ i * 2 ^ p = ap magnitude is.index
    ∙ magnitude_at p i is.power (omega (arith, is.count)) is.large in
    let next : magnitude (m + 1) ≡ (i + 1) * 2 ^ p = ap magnitude (omega (arith, is.index))
    ∙ magnitude_at p (i + 1) is.power (omega (arith, is.count)) (λ some. omega (arith, is.large some)) in
    omega (arith, own, next, suc-mul i (2 ^ p), pow_pos p)

pub rises : (a b : ℕ) → a < b → b < 31744 → magnitude a < magnitude b
rises a zero less low = absurd (omega (arith, less))
rises a (suc b) less low =
    let next : b + 1 ≡ suc b = omega arith in
    let last : magnitude b < magnitude (suc b) = omega (arith, rises_by_one b (omega (arith, low)), ap magnitude next) in
    elim (cases_lt a b) [
      | inl before ↦ omega (arith, rises a b before (omega (arith, low)), last)
      | inr behind ↦ let same : a ≡ b = omega (arith, less, behind) in omega (arith, ap magnitude same, last)
    ]

pub rises_le : (a b : ℕ) → a ≤ b → b < 31744 → magnitude a ≤ magnitude b
rises_le a b order low =
    elim (cases_lt a b) [
      | inl less ↦ omega (arith, rises a b less low)
      | inr more ↦ let same : a ≡ b = omega (arith, order, more) in omega (arith, ap magnitude same)
    ]

-- a greater magnitude has a greater index
pub order_of : (a b : ℕ) → a < 31744 → magnitude a < magnitude b → a < b
order_of a b low less =
    elim (cases_lt a b) [
      | inl before ↦ before
      | inr behind ↦ absurd (omega (arith, rises_le b a behind low, less))
    ]

pub same_index : (a b : ℕ) → a < 31744 → b < 31744 → magnitude a ≡ magnitude b → a ≡ b
same_index a b a_low b_low same =
    elim (cases_lt a b) [
      | inl less ↦ absurd (omega (arith, rises a b less b_low, same))
      | inr more ↦ elim (cases_lt b a) [
        | inl less ↦ absurd (omega (arith, rises b a less a_low, same))
        | inr order ↦ omega (arith, more, order)
      ]
    ]

-- ---- codes with their sign

pub positive_value : (m : ℕ) → m < 31744 → half_numerator m ≡ pos (magnitude m)
positive_value m low = cond-false _ _ _ (ne_eqb (m / 2 ^ 15) 1 (λ one. omega (arith, one, low)))

pub negative_value : (m : ℕ) → m < 31744 → half_numerator (32768 + m) ≡ neg_ℤ (pos (magnitude m))
negative_value m low =
    cond-true _ _ _ (eq-eqb ((32768 + m) / 2 ^ 15) 1 (omega (arith, low)))
    ∙ ap (λ n. neg_ℤ (pos n)) (without_sign m (omega (arith, low)))

pub is_code : (m : ℕ) → m < 31744 → half.IsCode m
is_code m low = (omega arith, λ last. omega arith)

pub is_negative_code : (m : ℕ) → m < 31744 → half.IsCode (32768 + m)
is_negative_code m low = (omega arith, λ last. omega arith)

-- a code is its lower 15 bits, with or without a sign
pub data Sides (k : ℕ) : Type 0 where
  plus : (m : ℕ) → m < 31744 → k ≡ m → half_numerator k ≡ pos (magnitude m) → Sides k
  minus : (m : ℕ) → m < 31744 → k ≡ 32768 + m → half_numerator k ≡ neg_ℤ (pos (magnitude m)) → Sides k

pub sides : (k : ℕ) → half.IsCode k → Sides k
sides k code =
    elim (cases_lt k 32768) [
      | inl low ↦
          let inside : k < 31744 = grind arith in
          plus k inside refl (positive_value k inside)
      | inr high ↦
          let m = k - 32768 in
          let is : k ≡ 32768 + m = omega (arith, high) in
          let inside : m < 31744 = grind arith in
          minus m inside is (ap half_numerator is ∙ negative_value m inside)
    ]
