-- The least and the greatest code of half precision: for `HalfCodes::least` and `greatest`, and
-- `nearest`. They are FBFFh (64,511) and 7BFFh (31,743), whose magnitude is 2,047 * 2^29.
use Rattle.std.proofs.Common.{◌≡◌, ◌*◌, ◌^◌, refl, arith}
use Rattle.std.proofs.lemmas.Int.{ints}
use Rattle.pmb_format.specs.Row.{IsLeast, IsGreatest}
use Rattle.pmb_half.specs.Half.{magnitude, half}
use Rattle.pmb_half.proofs.Magnitudes.{rises_le, positive_value, negative_value, is_code, is_negative_code}
use Rattle.pmb_half.proofs.Magnitudes.{plus, minus, sides}

pub greatest_magnitude : magnitude 31743 ≡ 2047 * 2 ^ 29
greatest_magnitude = refl

pub IsLeast-half : IsLeast half 64511
IsLeast-half = record {
  is_code = is_negative_code 31743 (omega arith);
  least = λ k code.
      let end = negative_value 31743 (omega arith) in
      elim (sides k code) [
        | plus m low is value ↦ omega (arith, ints, end, value)
        | minus m low is value ↦ omega (arith, ints, end, value, rises_le m 31743 (omega (arith, low)) (omega arith))
      ];
}

pub IsGreatest-half : IsGreatest half 31743
IsGreatest-half = record {
  is_code = is_code 31743 (omega arith);
  greatest = λ k code.
      let end = positive_value 31743 (omega arith) in
      elim (sides k code) [
        | plus m low is value ↦ omega (arith, ints, end, value, rises_le m 31743 (omega (arith, low)) (omega arith))
        | minus m low is value ↦ omega (arith, ints, end, value)
      ];
}
