-- The digits of a number, one by one: those in front of the point make a number, at most so great, and of those behind
-- it counts whether one is not 0.
use Rattle.std.specs.Prelude.{ℕ, ◌+◌, ◌-◌, ◌*◌, ◌^◌, ◌==◌, ◌||◌, Bool, false, not, min, if◌then◌else◌, List, [], ◌∷◌}
use Rattle.std.specs.Prelude.{length}
use Rattle.pmb_sample_fields.specs.Numbers.{Number}
use Rattle.pmb_sample_fields.specs.Scaled.{down, most, up}
use Rattle.pmb_sample_fields.specs.declared.scaled.Scaled.{Scaled}
use Rattle.pmb_sample_fields.specs.declared.scaled.Taken.{Taken}

abbrev pub taken_at : ℕ → ℕ → Bool → Taken
taken_at left whole has_rest = record { left = left; whole = whole; has_rest = has_rest }

abbrev pub digit_taken : ℕ → Taken → ℕ → Taken
digit_taken limit t value =
    if t.left == 0 then taken_at 0 t.whole (t.has_rest || not (value == 0)) else
    taken_at (t.left - 1) (min (t.whole * 10 + value) limit) t.has_rest

abbrev pub all_taken : ℕ → Taken → List ℕ → Taken
all_taken limit t [] = t
all_taken limit t (digit ∷ digits) = all_taken limit (digit_taken limit t (digit - 48)) digits

-- a number with so many zeros behind it
abbrev pub grown : ℕ → ℕ → ℕ → ℕ
grown limit whole zeros = min (whole * 10 ^ zeros) limit

-- ---- of a number

-- how many digits, and zeros behind them, stand in front of the point where it has moved
abbrev pub in_front : ℕ → Number → ℕ
in_front places n = length n.whole + places + up n.exponent - down n.exponent

abbrev pub start : ℕ → Number → Taken
start places n = taken_at (in_front places n) 0 false

abbrev pub ended : Bool → Taken → Scaled
ended is_negative t = record {
  is_negative = is_negative;
  whole = grown most t.whole t.left;
  has_rest = t.has_rest;
}

abbrev pub by_digits : ℕ → Number → Scaled
by_digits places n = ended n.is_negative (all_taken most (all_taken most (start places n) n.whole) n.fraction)
