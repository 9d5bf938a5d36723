-- The names of the bits of the status commands (PMBus Part II section 17).
use Rattle.std.specs.Prelude.{ℕ, ◌==◌, Option, Some, None, if◌then◌else◌, List, [], ◌∷◌, ◌++◌, reverse, slice_get}
use Rattle.std.specs.Prelude.{codes}
use Rattle.std.specs.Option.{option_flatten}

-- The names of some bits, from the highest down; `None` for a bit without one.
abbrev pub BitNames : Type 0
BitNames = List (Option (List ℕ))

-- begin: written by tools/commands from docs/profiles.md

-- STATUS_BYTE, which is the low byte of STATUS_WORD too
abbrev pub byte_bits : BitNames
byte_bits = Some (codes "BUSY") ∷ Some (codes "OFF") ∷ Some (codes "VOUT_OV_FAULT") ∷ Some (codes "IOUT_OC_FAULT")
    ∷ Some (codes "VIN_UV_FAULT") ∷ Some (codes "TEMPERATURE") ∷ Some (codes "CML") ∷ Some (codes "NONE_OF_THE_ABOVE")
    ∷ []

-- the high byte of STATUS_WORD
abbrev pub word_high_bits : BitNames
word_high_bits = Some (codes "VOUT") ∷ Some (codes "IOUT_POUT") ∷ Some (codes "INPUT") ∷ Some (codes "MFR_SPECIFIC")
    ∷ Some (codes "POWER_GOOD_N") ∷ Some (codes "FANS") ∷ Some (codes "OTHER") ∷ Some (codes "UNKNOWN") ∷ []

-- STATUS_VOUT
abbrev pub vout_bits : BitNames
vout_bits = Some (codes "VOUT_OV_FAULT") ∷ Some (codes "VOUT_OV_WARN") ∷ Some (codes "VOUT_UV_WARN")
    ∷ Some (codes "VOUT_UV_FAULT") ∷ Some (codes "VOUT_MAX_MIN") ∷ Some (codes "TON_MAX_FAULT")
    ∷ Some (codes "TOFF_MAX_WARN") ∷ Some (codes "TRACKING") ∷ []

-- STATUS_IOUT
abbrev pub iout_bits : BitNames
iout_bits = Some (codes "IOUT_OC_FAULT") ∷ Some (codes "IOUT_OC_LV_FAULT") ∷ Some (codes "IOUT_OC_WARN")
    ∷ Some (codes "IOUT_UC_FAULT") ∷ Some (codes "CURRENT_SHARE") ∷ Some (codes "POWER_LIMITING")
    ∷ Some (codes "POUT_OP_FAULT") ∷ Some (codes "POUT_OP_WARN") ∷ []

-- STATUS_INPUT
abbrev pub input_bits : BitNames
input_bits = Some (codes "VIN_OV_FAULT") ∷ Some (codes "VIN_OV_WARN") ∷ Some (codes "VIN_UV_WARN")
    ∷ Some (codes "VIN_UV_FAULT") ∷ Some (codes "LOW_INPUT_OFF") ∷ Some (codes "IIN_OC_FAULT")
    ∷ Some (codes "IIN_OC_WARN") ∷ Some (codes "PIN_OP_WARN") ∷ []

-- STATUS_TEMPERATURE
abbrev pub temperature_bits : BitNames
temperature_bits = Some (codes "OT_FAULT") ∷ Some (codes "OT_WARN") ∷ Some (codes "UT_WARN") ∷ Some (codes "UT_FAULT")
    ∷ None ∷ None ∷ None ∷ None ∷ []

-- STATUS_CML
abbrev pub cml_bits : BitNames
cml_bits = Some (codes "BAD_COMMAND") ∷ Some (codes "BAD_VALUE") ∷ Some (codes "PEC_FAILED")
    ∷ Some (codes "MEMORY_FAULT") ∷ Some (codes "PROCESSOR_FAULT") ∷ None ∷ Some (codes "OTHER_COMM")
    ∷ Some (codes "OTHER_LOGIC") ∷ []

-- STATUS_FANS_1_2
abbrev pub fans_1_2_bits : BitNames
fans_1_2_bits = Some (codes "FAN_1_FAULT") ∷ Some (codes "FAN_2_FAULT") ∷ Some (codes "FAN_1_WARN")
    ∷ Some (codes "FAN_2_WARN") ∷ Some (codes "FAN_1_OVERRIDE") ∷ Some (codes "FAN_2_OVERRIDE")
    ∷ Some (codes "AIRFLOW_FAULT") ∷ Some (codes "AIRFLOW_WARN") ∷ []

-- the bits of the command of a code, from the highest down; none where it is no status command
unfoldable pub status_bits : ℕ → BitNames
status_bits code =
    if code == 0x78 then byte_bits
    else if code == 0x79 then word_high_bits ++ byte_bits
    else if code == 0x7a then vout_bits
    else if code == 0x7b then iout_bits
    else if code == 0x7c then input_bits
    else if code == 0x7d then temperature_bits
    else if code == 0x7e then cml_bits
    else if code == 0x81 then fans_1_2_bits
    else []

-- end

-- the name of a bit, counted from 0 at the lowest
unfoldable pub bit_text : ℕ → ℕ → Option (List ℕ)
bit_text code bit = option_flatten (slice_get (reverse (status_bits code)) bit)
