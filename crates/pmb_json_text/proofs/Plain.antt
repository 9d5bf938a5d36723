-- Bytes that a string has as they are (plain ones); hexadecimal digits are among them. For
-- `is_plain` of `src/text.rt` and `append_quoted_digits`. The table `PLAIN` is computed as a whole
-- for all 256 bytes, and so are the digits.
use Rattle.std.proofs.Common.{◌≡◌, ℕ, zero, suc, ◌/◌, ◌%◌, ◌<◌, ◌==◌, Bool, true, cond, ◌&&◌, codes, List, [], ◌∷◌}
use Rattle.std.proofs.Common.{◌++◌, get_or, slice_index, refl, ap, ap₂, arith, inl, inr}
use Rattle.std.proofs.lemmas.Bool.{agree_below, agree_below_at, and_parts, and_from, cases_lt}
use Rattle.hex.specs.Hex.{IsBytes, encode_lower, encode_with, lower_digits}
use Rattle.pmb_json_text.specs.Spelling.{is_plain, escaped, all_escaped, AreBytes}
use Rattle.pmb_json_text.specs.Member.{all_plain}
use Rattle.pmb_json_text.specs.declared.text.TheConstants.{PLAIN}

pub plain_as_it_is : (byte : ℕ) → is_plain byte ≡ true → escaped byte ≡ byte ∷ []
plain_as_it_is byte plain = ap (λ (b : Bool). cond b (byte ∷ []) (codes "\\u00" ++ encode_lower (byte ∷ []))) plain

pub all_plain_as_they_are : (bytes : List ℕ) → all_plain bytes ≡ true → all_escaped bytes ≡ bytes
all_plain_as_they_are [] plain = refl
all_plain_as_they_are (byte ∷ more) plain =
    let here = and_parts (is_plain byte) (all_plain more) plain in
    ap₂ (λ (front back : List ℕ). front ++ back) (plain_as_it_is byte here.0) (all_plain_as_they_are more here.1)

-- ---- the table of plain bytes

-- the whole table, computed
table_is_right : agree_below (λ b. get_or PLAIN b 0 == 1) is_plain 256 ≡ true
table_is_right = refl

-- a byte, by the table
pub plain_read : (b : ℕ) → b < 256 → (get_or PLAIN b 0 == 1) ≡ is_plain b
plain_read b byte = agree_below_at (λ b. get_or PLAIN b 0 == 1) is_plain 256 b table_is_right byte

-- ---- each number below another

abbrev pub all_below : (ℕ → Bool) → ℕ → Bool
all_below test zero = true
all_below test (suc n) = test n && all_below test n

-- a test that each number below n passes
pub below : (test : ℕ → Bool) (n k : ℕ) → all_below test n ≡ true → k < n → test k ≡ true
below test zero k all less = absurd (omega arith)
below test (suc n) k all less =
    let here = and_parts (test n) (all_below test n) all in
    elim (cases_lt k n) [
      | inl lower ↦ below test n k here.1 lower
      | inr top ↦
          let same : k ≡ n = omega arith in
          rw same here.0
    ]

-- ---- bytes and their digits

pub are_bytes : (bytes : List ℕ) → IsBytes bytes → AreBytes bytes
are_bytes [] fit = tt
are_bytes (byte ∷ more) fit = (fit 0, are_bytes more (λ i. fit (suc i)))

pub digit_is_plain : (digit : ℕ) → digit < 16 → is_plain (slice_index lower_digits digit) ≡ true
digit_is_plain digit less = below (λ (d : ℕ). is_plain (slice_index lower_digits d)) 16 digit refl less

pub digits_are_plain : (bytes : List ℕ) → AreBytes bytes → all_plain (encode_lower bytes) ≡ true
unfolding encode_with
digits_are_plain [] fit = refl
digits_are_plain (byte ∷ more) fit =
    let less : byte < 256 = fit.0 in
    and_from _ _ (digit_is_plain (byte / 16) (omega arith))
    (and_from _ _ (digit_is_plain (byte % 16) (omega arith)) (digits_are_plain more fit.1))

-- the digits of bytes and of more bytes
pub digits_append : (bytes more : List ℕ) → encode_lower (bytes ++ more) ≡ encode_lower bytes ++ encode_lower more
unfolding encode_with
digits_append [] more = refl
digits_append (byte ∷ bytes) more = ap (λ (rest : List ℕ). slice_index lower_digits (byte / 16)
    ∷ slice_index lower_digits (byte % 16) ∷ rest) (digits_append bytes more)
