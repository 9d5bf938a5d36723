-- Levels of samples: `0` and `1`, or volts.
use Rattle.std.specs.Prelude.{ℕ, ◌+◌, ◌*◌, ◌^◌, ◌==◌, ◌||◌, ◌&&◌, Bool, not, nat_le, nat_lt, Option, Some, None}
use Rattle.std.specs.Prelude.{if◌then◌else◌, option_and_then, option_map, List, codes}
use Rattle.std.specs.Str.{bytes_eq}
use Rattle.pmb_sample_fields.specs.Scaled.{from_least, most, scaled_of}
use Rattle.pmb_sample_fields.specs.declared.level.Volts.{Volts}
use Rattle.pmb_sample_fields.specs.declared.scaled.Scaled.{Scaled}
use Rattle.pmb_wires.specs.declared.level.Level.{Level}
use Rattle.pmb_wires.specs.declared.level.Level.TheVariants.{Low, High}

-- ---- digits

abbrev pub digital_of : List ℕ → Option Level
digital_of text =
    if bytes_eq text (codes "0") then Some Low else
    if bytes_eq text (codes "1") then Some High else None

-- ---- volts, in femtovolts from -10 ^ 9 V on

-- 10 to this number of femtovolts are a volt
abbrev pub volt_places : ℕ
volt_places = 15

-- A number is at most a whole number where its whole part is below that, or is it with nothing behind it; and at least
-- a whole number where its whole part is.
abbrev pub is_at_most : ℕ → Scaled → Bool
is_at_most low s = nat_lt (from_least s) low || (from_least s == low && not s.has_rest)

abbrev pub is_at_least : ℕ → Scaled → Bool
is_at_least high s = nat_le high (from_least s)

-- at most LOW is 0, at least HIGH is 1, and what is between is as before
abbrev pub level_at : Volts → Level → Scaled → Level
level_at v before s = if is_at_most v.low s then Low else if is_at_least v.high s then High else before

abbrev pub volts_level : Volts → Level → List ℕ → Option Level
volts_level v before text = option_map (level_at v before) (scaled_of volt_places text)

-- ---- LOW and HIGH

-- a number under 10 ^ 9, with at most 15 digits behind its point that count
abbrev pub if_exact : Scaled → Option ℕ
if_exact s = if s.has_rest || nat_le most s.whole then None else Some (from_least s)

abbrev pub threshold_of : List ℕ → Option ℕ
threshold_of text = option_and_then if_exact (scaled_of volt_places text)

-- HIGH is not below LOW
abbrev pub volts_with : Option ℕ → Option ℕ → Option Volts
volts_with None high = None
volts_with (Some low) None = None
volts_with (Some low) (Some high) = if nat_lt high low then None else Some (record { low = low; high = high })

abbrev pub volts_of : List ℕ → List ℕ → Option Volts
volts_of low high = volts_with (threshold_of low) (threshold_of high)

-- 0.8 and 1.35
abbrev pub usual_volts : Volts
usual_volts = record { low = most + 8 * 10 ^ 14; high = most + 135 * 10 ^ 13 }
