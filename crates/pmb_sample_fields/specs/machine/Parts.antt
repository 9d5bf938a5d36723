-- A number, as it is kept in parts of its text.
use Rattle.pmb_sample_fields.specs.Numbers as numbers
use Rattle.pmb_sample_fields.specs.declared.numbers.Exponent.{Exponent}
use Rattle.pmb_sample_fields.specs.declared.numbers.Number.{Number}

abbrev pub exponent_in : Exponent → numbers.Exponent
exponent_in e = record { is_negative = e.is_negative; size = e.size }

abbrev pub number_in : Number → numbers.Number
number_in n = record {
  is_negative = n.is_negative;
  whole = n.whole.now;
  fraction = n.fraction.now;
  exponent = exponent_in n.exponent;
}
