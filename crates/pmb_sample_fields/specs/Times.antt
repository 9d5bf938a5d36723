-- Times of samples, in femtoseconds from a time 10 ^ 9 s in front of 0 on.
use Rattle.std.specs.Prelude.{ℕ, ◌*◌, ◌/◌, ◌%◌, ◌^◌, ◌==◌, ◌||◌, Bool, not, nat_le, Option, Some, None}
use Rattle.std.specs.Prelude.{if◌then◌else◌, option_and_then, List}
use Rattle.pmb_sample_fields.specs.Scaled.{from_least, most, scaled_of}
use Rattle.pmb_sample_fields.specs.declared.scaled.Scaled.{Scaled}
use Rattle.pmb_sample_fields.specs.declared.time.Unit.{Unit}
use Rattle.pmb_sample_fields.specs.declared.time.Unit.TheVariants as unit

-- ---- in a unit

-- 10 to this number of femtoseconds are one of the unit
abbrev pub places_of : Unit → ℕ
places_of unit.Seconds = 15
places_of unit.Milliseconds = 12
places_of unit.Microseconds = 9
places_of unit.Nanoseconds = 6

-- a time under 10 ^ 9 s, rounded down to a femtosecond
abbrev pub if_within : Scaled → Option ℕ
if_within s = if nat_le most s.whole then None else Some (from_least s)

abbrev pub time_in : Unit → List ℕ → Option ℕ
time_in u text = option_and_then if_within (scaled_of (places_of u) text)

-- ---- at a rate

abbrev pub second : ℕ
second = 10 ^ 15

-- so many samples behind 0, or in front of it, at a rate
abbrev pub at_samples : ℕ → Bool → ℕ → ℕ
at_samples rate is_negative count = from_least (record {
  is_negative = is_negative;
  whole = count * second / rate;
  has_rest = not (count * second % rate == 0);
})

-- a whole number of samples, in under 10 ^ 9 s
abbrev pub if_samples : ℕ → Scaled → Option ℕ
if_samples rate s =
    if s.has_rest || nat_le (10 ^ 9 * rate) s.whole then None else Some (at_samples rate s.is_negative s.whole)

abbrev pub time_at_rate : ℕ → List ℕ → Option ℕ
time_at_rate rate text = option_and_then (if_samples rate) (scaled_of 0 text)
