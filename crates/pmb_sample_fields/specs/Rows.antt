-- Rows, worked by hand.
use Rattle.std.specs.Prelude.{◌≡◌, ◌+◌, ◌-◌, ◌*◌, ◌^◌, Some, None, [], ◌∷◌, codes, refl}
use Rattle.std.specs.Prelude.{option_map}
use Rattle.pmb_sample_fields.specs.Fields.{comma, fields_of}
use Rattle.pmb_sample_fields.specs.Levels.{digital_of, threshold_of, usual_volts, volts_level, volts_of}
use Rattle.pmb_sample_fields.specs.Row.{row_of}
use Rattle.pmb_sample_fields.specs.Scaled.{most}
use Rattle.pmb_sample_fields.specs.Times.{time_at_rate, time_in}
use Rattle.pmb_sample_fields.specs.Units.{unit_said}
use Rattle.pmb_sample_fields.specs.declared.time.Unit.TheVariants as unit
use Rattle.pmb_wires.specs.declared.level.Level.TheVariants.{Low, High, Unknown}

-- ---- fields

pub blanks_are_dropped : fields_of comma (codes " Time ,\tSCL,SDA ") ≡ Some (codes "Time" ∷ codes "SCL" ∷ codes "SDA" ∷ [])
blanks_are_dropped = refl

pub empty_ones_at_the_end_are_dropped : fields_of comma (codes "0,,1,, ,") ≡ Some (codes "0" ∷ [] ∷ codes "1" ∷ [])
empty_ones_at_the_end_are_dropped = refl

pub quotes : fields_of comma (codes "\"a, b\" , \"x\"\"y\",c\"d") ≡ Some (codes "a, b" ∷ codes "x\"y" ∷ codes "c\"d" ∷ [])
quotes = refl

pub blanks_in_quotes : fields_of comma (codes "\" 1 \"") ≡ Some (codes "1" ∷ [])
blanks_in_quotes = refl

pub an_open_quote : fields_of comma (codes "a,\"b") ≡ None
an_open_quote = refl

pub more_behind_a_quote : fields_of comma (codes "\"a\" b,c") ≡ None
more_behind_a_quote = refl

pub a_semicolon_for_commas : fields_of 59 (codes "Time;SCL, SDA") ≡ Some (codes "Time" ∷ codes "SCL" ∷ codes "SDA" ∷ [])
a_semicolon_for_commas = refl

-- a TAB ends a field where it stands for commas, and is a blank elsewhere
pub a_tab_for_commas : fields_of 9 (codes "Time\tSCL\t\tSDA") ≡ Some (codes "Time" ∷ codes "SCL" ∷ [] ∷ codes "SDA" ∷ [])
a_tab_for_commas = refl

pub no_fields : fields_of comma (codes " , ,") ≡ Some []
no_fields = refl

-- ---- numbers

pub a_whole_number : time_in unit.Seconds (codes "3") ≡ Some (most + 3 * 10 ^ 15)
a_whole_number = refl

pub in_any_form : time_in unit.Seconds (codes "+0.03e1") ≡ time_in unit.Seconds (codes ".3")
in_any_form = refl

pub a_point_at_the_end : time_in unit.Microseconds (codes "12.") ≡ Some (most + 12 * 10 ^ 9)
a_point_at_the_end = refl

pub exponents : time_in unit.Nanoseconds (codes "1.5E-3") ≡ Some (most + 1500)
exponents = refl

-- rounded down, in front of 0 as well
pub half_a_femtosecond : time_in unit.Seconds (codes "0.5e-15") ≡ Some most
half_a_femtosecond = refl

pub half_a_femtosecond_before_0 : time_in unit.Seconds (codes "-0.5e-15") ≡ Some (most - 1)
half_a_femtosecond_before_0 = refl

pub exactly_before_0 : time_in unit.Milliseconds (codes "-2") ≡ Some (most - 2 * 10 ^ 12)
exactly_before_0 = refl

pub nothing_before_0 : time_in unit.Seconds (codes "-0") ≡ Some most
nothing_before_0 = refl

pub the_last_digit_counts : time_in unit.Seconds (codes "-1.0000000000000000000000000000000000000000000000001")
    ≡ Some (most - 10 ^ 15 - 1)
the_last_digit_counts = refl

pub under_a_billion_seconds : time_in unit.Seconds (codes "999999999.9999999999999999") ≡ Some (most + 10 ^ 24 - 1)
under_a_billion_seconds = refl

pub a_billion_seconds : time_in unit.Seconds (codes "1e9") ≡ None
a_billion_seconds = refl

pub no_digit : time_in unit.Seconds (codes "-.e5") ≡ None
no_digit = refl

pub no_exponent : time_in unit.Seconds (codes "1e") ≡ None
no_exponent = refl

pub a_blank_inside : time_in unit.Seconds (codes "1 2") ≡ None
a_blank_inside = refl

pub two_points : time_in unit.Seconds (codes "1.2.3") ≡ None
two_points = refl

pub nothing : time_in unit.Seconds [] ≡ None
nothing = refl

pub of_64_bytes : time_in unit.Seconds (codes "0000000000000000000000000000000000000000000000000000000000000001")
    ≡ Some (most + 10 ^ 15)
of_64_bytes = refl

pub of_65_bytes : time_in unit.Seconds (codes "00000000000000000000000000000000000000000000000000000000000000001") ≡ None
of_65_bytes = refl

-- ---- samples at a rate

pub a_sample : time_at_rate 100000 (codes "3") ≡ Some (most + 3 * 10 ^ 10)
a_sample = refl

pub a_third_of_a_second : time_at_rate 3 (codes "1") ≡ Some (most + 333333333333333)
a_third_of_a_second = refl

pub a_third_of_a_second_before_0 : time_at_rate 3 (codes "-1") ≡ Some (most - 333333333333334)
a_third_of_a_second_before_0 = refl

pub samples_are_whole : time_at_rate 3 (codes "1.5") ≡ None
samples_are_whole = refl

pub ten_samples : time_at_rate 10 (codes "1e1") ≡ Some (most + 10 ^ 15)
ten_samples = refl

pub too_late_a_sample : time_at_rate 2 (codes "2000000000") ≡ None
too_late_a_sample = refl

-- ---- units

pub microseconds : unit_said (codes "Time [us]") ≡ Some unit.Microseconds
microseconds = refl

pub in_capitals : unit_said (codes "TIME (MS)") ≡ Some unit.Milliseconds
in_capitals = refl

pub whole_words : unit_said (codes "status, bonus, ns2") ≡ Some unit.Nanoseconds
whole_words = refl

pub a_part_of_a_word : unit_said (codes "Times") ≡ None
a_part_of_a_word = refl

pub seconds : unit_said (codes "Time in seconds, not ms") ≡ Some unit.Seconds
seconds = refl

-- ---- levels

pub a_high_digit : digital_of (codes "1") ≡ Some High
a_high_digit = refl

pub another_number : digital_of (codes "1.0") ≡ None
another_number = refl

pub at_most_low : volts_level usual_volts High (codes "0.80") ≡ Some Low
at_most_low = refl

pub a_little_more : volts_level usual_volts High (codes "0.8000000000000000000001") ≡ Some High
a_little_more = refl

pub at_least_high : volts_level usual_volts Low (codes "1.35") ≡ Some High
at_least_high = refl

pub a_little_less : volts_level usual_volts Unknown (codes "1.3499999999999999999999") ≡ Some Unknown
a_little_less = refl

pub below_0 : volts_level usual_volts High (codes "-3e8") ≡ Some Low
below_0 = refl

pub many_volts : volts_level usual_volts Low (codes "1e60") ≡ Some High
many_volts = refl

pub many_volts_below_0 : volts_level usual_volts High (codes "-1e60") ≡ Some Low
many_volts_below_0 = refl

pub thresholds : volts_of (codes "8e-1") (codes "1.35") ≡ Some usual_volts
thresholds = refl

pub high_below_low : volts_of (codes "1") (codes "0.9") ≡ None
high_below_low = refl

pub too_fine_a_threshold : threshold_of (codes "0.8000000000000001") ≡ None
too_fine_a_threshold = refl

-- ---- rows

pub a_row : option_map (row_of (record { scl = 1; sda = 2; time = 0 })) (fields_of comma (codes "5, 1 ,\"0\",,")) ≡ Some (record {
  count = 3;
  scl = Some (codes "1");
  sda = Some (codes "0");
  time = Some (codes "5");
})
a_row = refl

pub a_short_row : option_map (row_of (record { scl = 1; sda = 4; time = 0 })) (fields_of comma (codes "\"5\"\"\",1")) ≡ Some (record {
  count = 2;
  scl = Some (codes "1");
  sda = Some [];
  time = None;
})
a_short_row = refl
