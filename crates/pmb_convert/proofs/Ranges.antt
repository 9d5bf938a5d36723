-- A format that a text names is one of its type: its exponent is from -16 to 15, R from -9 to 9,
-- and m is not 0. For the law `one_format`. Each is tested where the format is made.
use Rattle.std.proofs.Common.{◌≡◌, ◌≢◌, ℕ, ◌<◌, ◌≤◌, ◌/◌, ◌%◌, ◌^◌, ◌==◌, Bool, true, false, cond, if◌then◌else◌}
use Rattle.std.proofs.Common.{nat_lt, Result, Ok, Err, ℤ, pos, negsuc, ◌≤ℤ◌, ◌-ℤ◌, List, sym, subst, arith}
use Rattle.std.proofs.lemmas.Int.{ints}
use Rattle.std.proofs.lemmas.Bool.Decides.{nat_tests}
use Rattle.pmb_value.specs.Linear.{IsExponent}
use Rattle.pmb_value.specs.Linear.{twos_complement}
use Rattle.pmb_value.specs.declared.vout.ModeFault.TheVariants.{Relative, Vid, Ieee, NoCoefficients}
use Rattle.pmb_value.specs.declared.vout.VoutFormat.TheVariants.{Unsigned, Signed, Direct}
use Rattle.pmb_convert.specs.declared.format_fault.FormatFault.{FormatFault}
use Rattle.pmb_convert.specs.declared.format_fault.FormatFault.TheVariants.{BadExponent, BadScale, ZeroSlope}
use Rattle.pmb_value.specs.declared.number_format.NumberFormat.{NumberFormat}
use Rattle.pmb_value.specs.declared.number_format.NumberFormat.TheVariants.{Linear11Fixed, Word}
use Rattle.pmb_value.specs.NumberFormat.{IsFormat}
use Rattle.pmb_convert.proofs.Choices.{picks}
use Rattle.pmb_convert.specs.Spelling.{Names, Saying, named_direct, is_from_to, is_zero, linear11, linear11_fixed}
use Rattle.pmb_convert.specs.Spelling.{ulinear16, slinear16, vout, half, vid, direct, named_linear, other, mode_format, said}
use Rattle.pmb_convert.specs.Spelling.{spelled, vout_of}

-- a format, where there is one
abbrev IsFormatIn : Result NumberFormat FormatFault → Type 0
IsFormatIn (Ok format) = IsFormat format
IsFormatIn (Err fault) = Unit {0}

from_to : (e : ℤ) → is_from_to 16 15 e ≡ true → (negsuc 15 ≤ℤ e) × (e ≤ℤ pos 15)
from_to (pos n) inside = let small : n < 16 = grind (arith, nat_tests) in (omega (arith, ints), omega (arith, ints))
from_to (negsuc n) inside = let small : n < 16 = grind (arith, nat_tests) in (omega (arith, ints), omega (arith, ints))

scale : (e : ℤ) → is_from_to 9 9 e ≡ true → (negsuc 8 ≤ℤ e) × (e ≤ℤ pos 9)
scale (pos n) inside = let small : n < 10 = grind (arith, nat_tests) in (omega (arith, ints), omega (arith, ints))
scale (negsuc n) inside = let small : n < 9 = grind (arith, nat_tests) in (omega (arith, ints), omega (arith, ints))

fixed : (e : ℤ) → IsFormatIn (named_linear Linear11Fixed e)
fixed e = picks IsFormatIn (is_from_to 16 15 e) (Ok (Linear11Fixed e)) (Err BadExponent) (from_to e) (λ _. tt)

unsigned : (e : ℤ) → IsFormatIn (named_linear (λ n. Word (Unsigned n)) e)
unsigned e = picks IsFormatIn (is_from_to 16 15 e) (Ok (Word (Unsigned e))) (Err BadExponent) (from_to e) (λ _. tt)

signed : (e : ℤ) → IsFormatIn (named_linear (λ n. Word (Signed n)) e)
signed e = picks IsFormatIn (is_from_to 16 15 e) (Ok (Word (Signed e))) (Err BadExponent) (from_to e) (λ _. tt)

not_zero : (m : ℤ) → is_zero m ≡ false → m ≢ pos 0
not_zero (pos n) test is = grind (arith, ints, nat_tests)
not_zero (negsuc n) test is = cc

coefficients : (u : Bool) (m b r : ℤ) → IsFormatIn (named_direct u m b r)
coefficients u m b r =
    let made : NumberFormat = Word (Direct (record { m = m; b = b; r = r; unsigned = u })) in
    picks IsFormatIn (is_zero m) (Err ZeroSlope) (cond (is_from_to 9 9 r) (Ok made) (Err BadScale)) (λ _. tt)
    (λ slope. picks IsFormatIn (is_from_to 9 9 r) (Ok made) (Err BadScale)
    (λ inside. record { slope = not_zero m slope; least = (scale r inside).0; greatest = (scale r inside).1 })
    (λ _. tt))

-- the exponent of a VOUT_MODE
exponent_in : (field : ℕ) → field < 32 → IsExponent (twos_complement 5 field)
unfolding twos_complement
exponent_in field small = picks IsExponent (nat_lt field 16) (pos field) (pos field -ℤ pos 32) (λ is. low field is)
    (λ is. high field small is)
  where
    low : (n : ℕ) → nat_lt n 16 ≡ true → IsExponent (pos n)
    low n is = let less : n < 16 = grind (arith, nat_tests) in (omega (arith, ints), omega (arith, ints))

    high : (n : ℕ) → n < 32 → nat_lt n 16 ≡ false → IsExponent (pos n -ℤ pos 32)
    high n below is = let more : 16 ≤ n = grind (arith, nat_tests) in (omega (arith, ints), omega (arith, ints))

mode : (m : ℕ) → IsFormatIn (vout_of m)
mode m = by (m / 2 ^ 7 == 1) (m / 2 ^ 5 % 2 ^ 2 == 1) (m / 2 ^ 5 % 2 ^ 2 == 3) (m / 2 ^ 5 % 2 ^ 2 == 2)
  where
    by : (relative by_vid ieee coded : Bool) → IsFormatIn
        (mode_format (if relative then Err Relative else
        (if by_vid then Err Vid else (if ieee then Err Ieee else
        (if coded then Err NoCoefficients else Ok (Unsigned (twos_complement 5 (m % 2 ^ 5))))))))
    by true by_vid ieee coded = tt
    by false true ieee coded = tt
    by false false true coded = tt
    by false false false true = tt
    by false false false false = exponent_in (m % 2 ^ 5) (omega arith)

pub said_in : (saying : Saying) → IsFormatIn (said saying)
said_in linear11 = tt
said_in (linear11_fixed e) = fixed e
said_in (ulinear16 e) = unsigned e
said_in (slinear16 e) = signed e
said_in (vout m) = mode m
said_in half = tt
said_in (vid table) = tt
said_in (direct u m b r) = coefficients u m b r

pub named_in : (text : List ℕ) (format : NumberFormat) → Names text (Ok format) → IsFormat format
named_in text format (spelled saying says is) = subst IsFormatIn (sym is) (said_in saying)
named_in text format (other none is) = cc
