-- All codes up to a table's last, in the order of their numbers, also those before its first.
use Rattle.std.specs.Prelude.{◌≤◌, ℤ, pos, neg_ℤ, Bool, true, false}
use Rattle.pmb_format.specs.Coding.{Coding, IsAnyCode}
use Rattle.pmb_format.specs.Row.{Row}
use Rattle.pmb_vid.specs.declared.table.VidTable.{VidTable}
use Rattle.pmb_vid.specs.declared.table.VidTable.TheVariants.{Vr11, Vr12, Vr13, Imvp9, Amd625mv, Nvidia195mv}
use Rattle.pmb_vid.specs.Vid.{last_code, numerator, denominator}

abbrev pub all_codes : VidTable → Coding
all_codes table = record {
  IsCode = λ code. code ≤ last_code table;
  numerator = numerator table;
  denominator = denominator table;
  IsCanonical = IsAnyCode;
}

-- greater codes have less voltage
abbrev pub falls : VidTable → Bool
falls Vr11 = true
falls Vr12 = false
falls Vr13 = false
falls Imvp9 = false
falls Amd625mv = true
falls Nvidia195mv = false

-- the numerator of code 0, with the other sign where voltages fall
abbrev pub first_of : VidTable → ℤ
first_of Vr11 = neg_ℤ (pos 258)
first_of Vr12 = pos 49
first_of Vr13 = pos 49
first_of Imvp9 = pos 19
first_of Amd625mv = neg_ℤ (pos 248)
first_of Nvidia195mv = pos 38

-- the code of each index is the index
abbrev pub code_row : VidTable → Row
code_row table = record { first = first_of table; spacing = 1; last = last_code table; code_at = λ index. index }
