-- The bytes of a time are bytes of a text. For the law `each_line_is_json`, by JsonSpans: a time is
-- digits and a few marks, and each of them is below 128.
use Rattle.std.proofs.Common.{◌≡◌, ℕ, ◌<◌, ◌==◌, ◌||◌, true, inl, inr, List, [], ◌∷◌, arith}
use Rattle.std.specs.Prelude.{nat_le}
use Rattle.std.specs.Char.{is_ascii_digit}
use Rattle.std.specs.List.{list_all}
use Rattle.std.proofs.lemmas.Bool.{and_parts, eqb-true, leb-true, or_cases}
use Rattle.pmb_json_text.specs.Spelling.{AreBytes}
use Rattle.pmb_times.specs.Line.{is_point, is_seconds_byte, is_time_byte, is_time_mark}

digit_is_byte : (b : ℕ) → is_ascii_digit b ≡ true → b < 256
digit_is_byte b is = let parts = and_parts (nat_le 48 b) (nat_le b 57) is in omega (arith, leb-true b 57 parts.1)

seconds_are_bytes : (b : ℕ) → is_seconds_byte b ≡ true → b < 256
seconds_are_bytes b is =
    elim (or_cases (is_ascii_digit b) (is_point b) is) [
      | inl digit ↦ digit_is_byte b digit
      | inr point ↦ omega (arith, eqb-true b 46 point)
    ]

-- one mark of five: `:`, `-`, `+`, `T` and `Z`
mark_is_byte : (b : ℕ) → is_time_mark b ≡ true → b < 256
mark_is_byte b is =
    elim (or_cases (b == 58 || b == 45 || b == 43 || b == 84) (b == 90) is) [
      | inl others ↦ elim (or_cases (b == 58 || b == 45 || b == 43) (b == 84) others) [
        | inl signs ↦ elim (or_cases (b == 58 || b == 45) (b == 43) signs) [
          | inl two ↦ elim (or_cases (b == 58) (b == 45) two) [
            | inl colon ↦ omega (arith, eqb-true b 58 colon)
            | inr minus ↦ omega (arith, eqb-true b 45 minus)
          ]
          | inr plus ↦ omega (arith, eqb-true b 43 plus)
        ]
        | inr letter ↦ omega (arith, eqb-true b 84 letter)
      ]
      | inr letter ↦ omega (arith, eqb-true b 90 letter)
    ]

time_is_byte : (b : ℕ) → is_time_byte b ≡ true → b < 256
time_is_byte b is =
    elim (or_cases (is_seconds_byte b) (is_time_mark b) is) [
      | inl seconds ↦ seconds_are_bytes b seconds
      | inr mark ↦ mark_is_byte b mark
    ]

pub times_have_bytes : (time : List ℕ) → list_all is_time_byte time ≡ true → AreBytes time
times_have_bytes [] are = tt
times_have_bytes (b ∷ time) are =
    let parts = and_parts (is_time_byte b) (list_all is_time_byte time) are in
    (time_is_byte b parts.0, times_have_bytes time parts.1)
