-- The VID tables (VID codes under VOUT_MODE: PMBus Part II revision 1.3, section 8.4.2): voltages that a
-- supplier of processors fixes, as Linux's drivers know them. The whole word is the code.
use Rattle.std.specs.Prelude.{ℕ, ◌≤◌, ◌==◌, nat_le, ◌&&◌, Bool, true, false, ℤ, pos, ◌+ℤ◌, ◌-ℤ◌}
use Rattle.pmb_format.specs.Coding.{Coding, IsAnyCode}
use Rattle.pmb_vid.specs.declared.table.VidTable.{VidTable}
use Rattle.pmb_vid.specs.declared.table.VidTable.TheVariants.{Vr11, Vr12, Vr13, Imvp9, Amd625mv, Nvidia195mv}

-- the first code with a voltage, and the last
abbrev pub first_code : VidTable → ℕ
first_code Vr11 = 2
first_code Vr12 = 1
first_code Vr13 = 1
first_code Imvp9 = 1
first_code Amd625mv = 0
first_code Nvidia195mv = 1

abbrev pub last_code : VidTable → ℕ
last_code Vr11 = 178
last_code Vr12 = 255
last_code Vr13 = 255
last_code Imvp9 = 255
last_code Amd625mv = 216
last_code Nvidia195mv = 255

-- voltages are whole numbers over this
abbrev pub denominator : VidTable → ℕ
denominator Vr11 = 160
denominator Vr12 = 200
denominator Vr13 = 100
denominator Imvp9 = 100
denominator Amd625mv = 160
denominator Nvidia195mv = 200

-- The voltage of a code over that: 1.6 - (code - 2) * 0.00625; 0.25 + (code - 1) * 0.005;
-- 0.5 + (code - 1) * 0.01; 0.2 + (code - 1) * 0.01; 1.55 - code * 0.00625;
-- 0.195 + (code - 1) * 0.005.
abbrev pub numerator : VidTable → ℕ → ℤ
numerator Vr11 code = pos 258 -ℤ pos code
numerator Vr12 code = pos 49 +ℤ pos code
numerator Vr13 code = pos 49 +ℤ pos code
numerator Imvp9 code = pos 19 +ℤ pos code
numerator Amd625mv code = pos 248 -ℤ pos code
numerator Nvidia195mv code = pos 38 +ℤ pos code

-- a code with a voltage
abbrev pub has_voltage : VidTable → ℕ → Bool
has_voltage table word = nat_le (first_code table) word && nat_le word (last_code table)

-- the table has a code that is off: 0
abbrev pub has_off : VidTable → Bool
has_off Vr11 = false
has_off Vr12 = true
has_off Vr13 = true
has_off Imvp9 = true
has_off Amd625mv = false
has_off Nvidia195mv = true

abbrev pub is_off : VidTable → ℕ → Bool
is_off table word = has_off table && (word == 0)

-- a table as a number format: the codes with a voltage
abbrev pub vid : VidTable → Coding
vid table = record {
  IsCode = λ code. (first_code table ≤ code) × (code ≤ last_code table);
  numerator = numerator table;
  denominator = denominator table;
  IsCanonical = IsAnyCode;
}
