-- What is known in a part of a capture agrees with what is known in the whole.
use Rattle.std.specs.Prelude.{◌≡◌, ◌⊎◌, ℕ, true, Option, Some, Err}
use Rattle.pmb_unknown_start.specs.Certain.{StaysKnown}
use Rattle.pmb_unknown_start.specs.declared.mode.KnownMode.{KnownMode}
use Rattle.pmb_command.specs.Parts.{DeviceParts}
use Rattle.pmb_value.specs.declared.sign.Sign.{Sign}
use Rattle.pmb_voltage.specs.declared.voltage.NoVoltage.TheVariants.{Unknown}
use Rattle.pmb_voltage.specs.Voltage.{VoltagesData, is_open, voltage_format, voltages_of}

-- By less that is known, the format of a voltage is not known, or it is the same.
abbrev pub KnowsNoOther : DeviceParts → Type 0
KnowsNoOther device =
    (mode more : KnownMode) (page whole : Option ℕ) (code : ℕ) (sign : Sign)
    → StaysKnown mode more → ((number : ℕ) → page ≡ Some number → whole ≡ Some number)
    → (voltage_format (voltages_of device mode page) code sign ≡ Err Unknown)
    ⊎ (voltage_format (voltages_of device mode page) code sign
    ≡ voltage_format (voltages_of device more whole) code sign)

-- Where a command's format is not known, that of output voltages is not.
abbrev pub IsOpenIfUnknown : VoltagesData → Type 0
IsOpenIfUnknown v = (code : ℕ) (sign : Sign) → voltage_format v code sign ≡ Err Unknown → is_open v ≡ true
