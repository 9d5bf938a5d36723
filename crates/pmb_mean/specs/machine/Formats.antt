-- Values by a format's formula.
use Rattle.std.specs.Prelude.{ℕ, Bool}
use Rattle.pmb_format.specs.Coding.{value_of}
use Rattle.pmb_value.specs.NumberFormat.{number_coding}
use Rattle.pmb_value.specs.declared.number_format.NumberFormat.{NumberFormat}
use Rattle.pmb_mean.specs.Numbers.{NumberData}
use Rattle.pmb_mean.specs.Words.{denominators_of}

-- what the formula gives for a word, also for one that has no value
abbrev pub coded_number : NumberFormat → ℕ → Bool → NumberData
coded_number format word assumed = record {
  value = value_of (number_coding format) word;
  over = denominators_of format;
  assumed = assumed;
}
