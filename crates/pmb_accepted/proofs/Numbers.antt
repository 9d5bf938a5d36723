-- Numbers that a profile gives: for the ranges of addresses, pages, bytes, coefficients and exponents.
use Rattle.std.proofs.Common.{◌≡◌, ◌≢◌, ◌≤◌, ◌<◌, ℕ, ℤ, pos, negsuc, Bool, true, false, not, ◌&&◌, Some, None}
use Rattle.std.proofs.Common.{List, refl, sym, subst, arith, T}
use Rattle.std.specs.Prelude.{IfOk, ◌≤ℤ◌, ◌^◌, codes, if◌then◌else◌, int_le, nat_le, unsigned_abs}
use Rattle.std.specs.Int.Signed.{le_z_yes}
use Rattle.std.specs.Ordering.{int_eq}
use Rattle.std.proofs.lemmas.Bool.{and_parts, leb-true}
use Rattle.std.proofs.lemmas.Int.{ints}
use Rattle.std.proofs.lemmas.Result.{IfOk-weaker}
use Rattle.toml.specs.Data.{Data, Members, as_integer}
use Rattle.pmb_coefficients.specs.Exponent.{IsExponent}
use Rattle.pmb_keys.specs.declared.fault.FaultKind.{FaultKind}
use Rattle.pmb_keys.specs.declared.fault.FaultKind.TheVariants as faults
use Rattle.pmb_keys.specs.CommandRules.{byte_rule, coefficient, coefficients, exponent_value, is_exponent, is_offset}
use Rattle.pmb_keys.specs.CommandRules.{is_scale, is_slope}
use Rattle.pmb_keys.specs.Rules.{bind, or_fault, natural_within, typed}
use Rattle.pmb_keys.proofs.Steps.{if_bind, if_required, if_steps, if_tested}
use Rattle.pmb_json_objects.specs.Laws.{AreOfWords}

-- ---- natural numbers

-- a number that is within the two
pub record IsWithin (first last n : ℕ) : Type 0 where
  pub least : first ≤ n
  pub most : n ≤ last

pub if_within : (e : FaultKind) (first last : ℕ) (z : ℤ)
    → IfOk (or_fault e (natural_within first last z)) (IsWithin first last)
if_within e first last (negsuc n) = tt
if_within e first last (pos n) = by (nat_le first n && nat_le n last) refl
  where
    by : (b : Bool) → (nat_le first n && nat_le n last) ≡ b
        → IfOk (or_fault e (if b then Some n else None)) (IsWithin first last)
    by false is = tt
    by true is =
        let parts = and_parts (nat_le first n) (nat_le n last) is in
        record { least = leb-true first n parts.0; most = leb-true n last parts.1 }

-- .. of a value
pub if_natural : (e : FaultKind) (first last : ℕ) (d : Data)
    → IfOk (bind (typed as_integer d) (λ z. or_fault e (natural_within first last z))) (IsWithin first last)
if_natural e first last d = if_bind (typed as_integer d) _ _ (λ z is. if_within e first last z)

-- a byte
pub if_byte : (d : Data) → IfOk (byte_rule d) (λ n. n < 256)
if_byte d =
    IfOk-weaker (byte_rule d) (IsWithin 0 255) (λ n. n < 256) (λ n is. omega arith) (if_natural faults.BadValue 0 255 d)

-- ---- integers

in_order : (a b : ℤ) → int_le a b ≡ true → a ≤ℤ b
in_order a b is = le_z_yes (subst T (sym is) tt)

-- an integer of 16 bits
word_abs : (z : ℤ) → negsuc 32767 ≤ℤ z → z ≤ℤ pos 32767 → unsigned_abs z ≤ 2 ^ 15
word_abs z least most = omega (arith, ints)

pub offset_abs : (z : ℤ) → is_offset z ≡ true → unsigned_abs z ≤ 2 ^ 15
offset_abs z is =
    let parts = and_parts (int_le (negsuc 32767) z) (int_le z (pos 32767)) is in
    word_abs z (in_order (negsuc 32767) z parts.0) (in_order z (pos 32767) parts.1)

not_zero : (z : ℤ) → not (int_eq z (pos 0)) ≡ true → z ≢ pos 0
not_zero z is =
    λ same. let zero_too : not (int_eq (pos 0) (pos 0)) ≡ true = subst (λ x. not (int_eq x (pos 0)) ≡ true) same is in
    cc

-- A slope: it has 16 bits, and is not 0.
record IsSlope (z : ℤ) : Type 0 where
  word : unsigned_abs z ≤ 2 ^ 15
  some : z ≢ pos 0

slope_parts : (z : ℤ) → is_slope z ≡ true → IsSlope z
slope_parts z is =
    let parts = and_parts (int_le (negsuc 32767) z && int_le z (pos 32767)) (not (int_eq z (pos 0))) is in
    record { word = offset_abs z parts.0; some = not_zero z parts.1 }

-- an exponent of ten
record IsScale (z : ℤ) : Type 0 where
  least : negsuc 8 ≤ℤ z
  most : z ≤ℤ pos 9

scale_parts : (z : ℤ) → is_scale z ≡ true → IsScale z
scale_parts z is =
    let parts = and_parts (int_le (negsuc 8) z) (int_le z (pos 9)) is in
    record { least = in_order (negsuc 8) z parts.0; most = in_order z (pos 9) parts.1 }

-- an exponent of two
pub exponent_parts : (z : ℤ) → is_exponent z ≡ true → IsExponent z
exponent_parts z is =
    let parts = and_parts (int_le (negsuc 15) z) (int_le z (pos 15)) is in
    (in_order (negsuc 15) z parts.0, in_order z (pos 15) parts.1)

pub if_exponent : (d : Data) → IfOk (exponent_value d) IsExponent
if_exponent d =
    if_bind (typed as_integer d) _ _
    (λ z is. if_tested faults.BadValue (is_exponent z) _ _ (λ fits. exponent_parts z fits))

-- ---- coefficients

if_coefficient : (fits : ℤ → Bool) (P : ℤ → Type 0) (key : List ℕ) (ms : Members) → ((z : ℤ) → fits z ≡ true → P z)
    → IfOk (coefficient fits key ms) P
if_coefficient fits P key ms all =
    if_required _ key ms P (λ d. if_bind (typed as_integer d) _ _
    (λ z is. if_tested faults.BadCoefficients (fits z) _ _ (λ passed. all z passed)))

-- m, b and r have 16 bits, and make a format
pub if_coefficients : (ms : Members) → IfOk (coefficients ms) AreOfWords
if_coefficients ms =
    if_steps (coefficient is_slope (codes "m") ms) _ IsSlope _
    (if_coefficient is_slope IsSlope (codes "m") ms slope_parts)
    (λ m slope. if_steps (coefficient is_offset (codes "b") ms) _ (λ z. unsigned_abs z ≤ 2 ^ 15) _
    (if_coefficient is_offset (λ z. unsigned_abs z ≤ 2 ^ 15) (codes "b") ms offset_abs)
    (λ b offset. if_steps (coefficient is_scale (codes "r") ms) _ IsScale _
    (if_coefficient is_scale IsScale (codes "r") ms scale_parts)
    (λ r scale. record {
      slope = slope.word;
      offset = offset;
      format = record { slope = slope.some; least = scale.least; greatest = scale.most };
    })))
