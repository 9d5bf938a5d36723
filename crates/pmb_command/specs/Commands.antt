-- The standard commands (PMBus Part II Appendix I): their codes, names and forms, and what their
-- data stand for.
use Rattle.std.specs.Prelude.{ℕ, ◌+◌, ◌-◌, ◌==◌, Bool, false, Option, Some, None, if◌then◌else◌, List, [], ◌∷◌, ◌++◌}
use Rattle.std.specs.Prelude.{map, find, codes}
use Rattle.std.specs.List.{list_any, range_with_len}
use Rattle.std.specs.Str.{bytes_eq}
use Rattle.pmb_value.specs.declared.number_format.NumberFormat.TheVariants.{Linear11}
use Rattle.pmb_command.specs.declared.form.Form.{Form}
use Rattle.pmb_command.specs.declared.form.Form.TheVariants.{Zero, One, Two, Block}
use Rattle.pmb_command.specs.declared.form.Shape.{Shape}
use Rattle.pmb_command.specs.declared.entry.Kind.{Kind}
use Rattle.pmb_command.specs.declared.entry.Kind.TheVariants.{Raw, Number, Vout, VoutSigned, Status}
use Rattle.pmb_command.specs.Entry.{EntryParts}

-- A row of the standard's table: a command's code, its name, and the forms in which it is written,
-- read and called.
pub record StandardRow : Type 0 where
  pub code : ℕ
  pub name : List ℕ
  pub shape : Shape

-- a row, from its cells
abbrev pub row : ℕ → List ℕ → Shape → StandardRow
row code name shape = record { code = code; name = name; shape = shape }

-- only written, in a form
abbrev pub written : Form → Shape
written form = record { write = Some form; read = None; call = None }

-- only read
abbrev pub read : Form → Shape
read form = record { write = None; read = Some form; call = None }

-- written and read in one form
abbrev pub register : Form → Shape
register form = record { write = Some form; read = Some form; call = None }

-- only called
abbrev pub called : Form → Shape
called form = record { write = None; read = None; call = Some form }

-- SMBALERT_MASK is set by a word, and asked for by a block.
abbrev pub mask_shape : Shape
mask_shape = record { write = Some Two; read = None; call = Some Block }

-- begin: written by tools/commands from docs/profiles.md

-- The table, in the order of the codes. A code without a row has no standard command.
unfoldable pub standard_rows : List StandardRow
standard_rows =
    row 0x00 (codes "PAGE") (register One)
    ∷ row 0x01 (codes "OPERATION") (register One)
    ∷ row 0x02 (codes "ON_OFF_CONFIG") (register One)
    ∷ row 0x03 (codes "CLEAR_FAULTS") (written Zero)
    ∷ row 0x04 (codes "PHASE") (register One)
    ∷ row 0x05 (codes "PAGE_PLUS_WRITE") (written Block)
    ∷ row 0x06 (codes "PAGE_PLUS_READ") (called Block)
    ∷ row 0x10 (codes "WRITE_PROTECT") (register One)
    ∷ row 0x11 (codes "STORE_DEFAULT_ALL") (written Zero)
    ∷ row 0x12 (codes "RESTORE_DEFAULT_ALL") (written Zero)
    ∷ row 0x13 (codes "STORE_DEFAULT_CODE") (written One)
    ∷ row 0x14 (codes "RESTORE_DEFAULT_CODE") (written One)
    ∷ row 0x15 (codes "STORE_USER_ALL") (written Zero)
    ∷ row 0x16 (codes "RESTORE_USER_ALL") (written Zero)
    ∷ row 0x17 (codes "STORE_USER_CODE") (written One)
    ∷ row 0x18 (codes "RESTORE_USER_CODE") (written One)
    ∷ row 0x19 (codes "CAPABILITY") (read One)
    ∷ row 0x1a (codes "QUERY") (called Block)
    ∷ row 0x1b (codes "SMBALERT_MASK") mask_shape
    ∷ row 0x20 (codes "VOUT_MODE") (register One)
    ∷ row 0x21 (codes "VOUT_COMMAND") (register Two)
    ∷ row 0x22 (codes "VOUT_TRIM") (register Two)
    ∷ row 0x23 (codes "VOUT_CAL_OFFSET") (register Two)
    ∷ row 0x24 (codes "VOUT_MAX") (register Two)
    ∷ row 0x25 (codes "VOUT_MARGIN_HIGH") (register Two)
    ∷ row 0x26 (codes "VOUT_MARGIN_LOW") (register Two)
    ∷ row 0x27 (codes "VOUT_TRANSITION_RATE") (register Two)
    ∷ row 0x28 (codes "VOUT_DROOP") (register Two)
    ∷ row 0x29 (codes "VOUT_SCALE_LOOP") (register Two)
    ∷ row 0x2a (codes "VOUT_SCALE_MONITOR") (register Two)
    ∷ row 0x2b (codes "VOUT_MIN") (register Two)
    ∷ row 0x30 (codes "COEFFICIENTS") (called Block)
    ∷ row 0x31 (codes "POUT_MAX") (register Two)
    ∷ row 0x32 (codes "MAX_DUTY") (register Two)
    ∷ row 0x33 (codes "FREQUENCY_SWITCH") (register Two)
    ∷ row 0x35 (codes "VIN_ON") (register Two)
    ∷ row 0x36 (codes "VIN_OFF") (register Two)
    ∷ row 0x37 (codes "INTERLEAVE") (register Two)
    ∷ row 0x38 (codes "IOUT_CAL_GAIN") (register Two)
    ∷ row 0x39 (codes "IOUT_CAL_OFFSET") (register Two)
    ∷ row 0x3a (codes "FAN_CONFIG_1_2") (register One)
    ∷ row 0x3b (codes "FAN_COMMAND_1") (register Two)
    ∷ row 0x3c (codes "FAN_COMMAND_2") (register Two)
    ∷ row 0x3d (codes "FAN_CONFIG_3_4") (register One)
    ∷ row 0x3e (codes "FAN_COMMAND_3") (register Two)
    ∷ row 0x3f (codes "FAN_COMMAND_4") (register Two)
    ∷ row 0x40 (codes "VOUT_OV_FAULT_LIMIT") (register Two)
    ∷ row 0x41 (codes "VOUT_OV_FAULT_RESPONSE") (register One)
    ∷ row 0x42 (codes "VOUT_OV_WARN_LIMIT") (register Two)
    ∷ row 0x43 (codes "VOUT_UV_WARN_LIMIT") (register Two)
    ∷ row 0x44 (codes "VOUT_UV_FAULT_LIMIT") (register Two)
    ∷ row 0x45 (codes "VOUT_UV_FAULT_RESPONSE") (register One)
    ∷ row 0x46 (codes "IOUT_OC_FAULT_LIMIT") (register Two)
    ∷ row 0x47 (codes "IOUT_OC_FAULT_RESPONSE") (register One)
    ∷ row 0x48 (codes "IOUT_OC_LV_FAULT_LIMIT") (register Two)
    ∷ row 0x49 (codes "IOUT_OC_LV_FAULT_RESPONSE") (register One)
    ∷ row 0x4a (codes "IOUT_OC_WARN_LIMIT") (register Two)
    ∷ row 0x4b (codes "IOUT_UC_FAULT_LIMIT") (register Two)
    ∷ row 0x4c (codes "IOUT_UC_FAULT_RESPONSE") (register One)
    ∷ row 0x4f (codes "OT_FAULT_LIMIT") (register Two)
    ∷ row 0x50 (codes "OT_FAULT_RESPONSE") (register One)
    ∷ row 0x51 (codes "OT_WARN_LIMIT") (register Two)
    ∷ row 0x52 (codes "UT_WARN_LIMIT") (register Two)
    ∷ row 0x53 (codes "UT_FAULT_LIMIT") (register Two)
    ∷ row 0x54 (codes "UT_FAULT_RESPONSE") (register One)
    ∷ row 0x55 (codes "VIN_OV_FAULT_LIMIT") (register Two)
    ∷ row 0x56 (codes "VIN_OV_FAULT_RESPONSE") (register One)
    ∷ row 0x57 (codes "VIN_OV_WARN_LIMIT") (register Two)
    ∷ row 0x58 (codes "VIN_UV_WARN_LIMIT") (register Two)
    ∷ row 0x59 (codes "VIN_UV_FAULT_LIMIT") (register Two)
    ∷ row 0x5a (codes "VIN_UV_FAULT_RESPONSE") (register One)
    ∷ row 0x5b (codes "IIN_OC_FAULT_LIMIT") (register Two)
    ∷ row 0x5c (codes "IIN_OC_FAULT_RESPONSE") (register One)
    ∷ row 0x5d (codes "IIN_OC_WARN_LIMIT") (register Two)
    ∷ row 0x5e (codes "POWER_GOOD_ON") (register Two)
    ∷ row 0x5f (codes "POWER_GOOD_OFF") (register Two)
    ∷ row 0x60 (codes "TON_DELAY") (register Two)
    ∷ row 0x61 (codes "TON_RISE") (register Two)
    ∷ row 0x62 (codes "TON_MAX_FAULT_LIMIT") (register Two)
    ∷ row 0x63 (codes "TON_MAX_FAULT_RESPONSE") (register One)
    ∷ row 0x64 (codes "TOFF_DELAY") (register Two)
    ∷ row 0x65 (codes "TOFF_FALL") (register Two)
    ∷ row 0x66 (codes "TOFF_MAX_WARN_LIMIT") (register Two)
    ∷ row 0x68 (codes "POUT_OP_FAULT_LIMIT") (register Two)
    ∷ row 0x69 (codes "POUT_OP_FAULT_RESPONSE") (register One)
    ∷ row 0x6a (codes "POUT_OP_WARN_LIMIT") (register Two)
    ∷ row 0x6b (codes "PIN_OP_WARN_LIMIT") (register Two)
    ∷ row 0x78 (codes "STATUS_BYTE") (register One)
    ∷ row 0x79 (codes "STATUS_WORD") (register Two)
    ∷ row 0x7a (codes "STATUS_VOUT") (register One)
    ∷ row 0x7b (codes "STATUS_IOUT") (register One)
    ∷ row 0x7c (codes "STATUS_INPUT") (register One)
    ∷ row 0x7d (codes "STATUS_TEMPERATURE") (register One)
    ∷ row 0x7e (codes "STATUS_CML") (register One)
    ∷ row 0x7f (codes "STATUS_OTHER") (register One)
    ∷ row 0x80 (codes "STATUS_MFR_SPECIFIC") (register One)
    ∷ row 0x81 (codes "STATUS_FANS_1_2") (register One)
    ∷ row 0x82 (codes "STATUS_FANS_3_4") (register One)
    ∷ row 0x86 (codes "READ_EIN") (read Block)
    ∷ row 0x87 (codes "READ_EOUT") (read Block)
    ∷ row 0x88 (codes "READ_VIN") (read Two)
    ∷ row 0x89 (codes "READ_IIN") (read Two)
    ∷ row 0x8a (codes "READ_VCAP") (read Two)
    ∷ row 0x8b (codes "READ_VOUT") (read Two)
    ∷ row 0x8c (codes "READ_IOUT") (read Two)
    ∷ row 0x8d (codes "READ_TEMPERATURE_1") (read Two)
    ∷ row 0x8e (codes "READ_TEMPERATURE_2") (read Two)
    ∷ row 0x8f (codes "READ_TEMPERATURE_3") (read Two)
    ∷ row 0x90 (codes "READ_FAN_SPEED_1") (read Two)
    ∷ row 0x91 (codes "READ_FAN_SPEED_2") (read Two)
    ∷ row 0x92 (codes "READ_FAN_SPEED_3") (read Two)
    ∷ row 0x93 (codes "READ_FAN_SPEED_4") (read Two)
    ∷ row 0x94 (codes "READ_DUTY_CYCLE") (read Two)
    ∷ row 0x95 (codes "READ_FREQUENCY") (read Two)
    ∷ row 0x96 (codes "READ_POUT") (read Two)
    ∷ row 0x97 (codes "READ_PIN") (read Two)
    ∷ row 0x98 (codes "PMBUS_REVISION") (read One)
    ∷ row 0x99 (codes "MFR_ID") (register Block)
    ∷ row 0x9a (codes "MFR_MODEL") (register Block)
    ∷ row 0x9b (codes "MFR_REVISION") (register Block)
    ∷ row 0x9c (codes "MFR_LOCATION") (register Block)
    ∷ row 0x9d (codes "MFR_DATE") (register Block)
    ∷ row 0x9e (codes "MFR_SERIAL") (register Block)
    ∷ row 0xa0 (codes "MFR_VIN_MIN") (read Two)
    ∷ row 0xa1 (codes "MFR_VIN_MAX") (read Two)
    ∷ row 0xa2 (codes "MFR_IIN_MAX") (read Two)
    ∷ row 0xa3 (codes "MFR_PIN_MAX") (read Two)
    ∷ row 0xa4 (codes "MFR_VOUT_MIN") (read Two)
    ∷ row 0xa5 (codes "MFR_VOUT_MAX") (read Two)
    ∷ row 0xa6 (codes "MFR_IOUT_MAX") (read Two)
    ∷ row 0xa7 (codes "MFR_POUT_MAX") (read Two)
    ∷ row 0xa8 (codes "MFR_TAMBIENT_MAX") (read Two)
    ∷ row 0xa9 (codes "MFR_TAMBIENT_MIN") (read Two)
    ∷ row 0xaa (codes "MFR_EFFICIENCY_LL") (read Block)
    ∷ row 0xab (codes "MFR_EFFICIENCY_HL") (read Block)
    ∷ row 0xad (codes "IC_DEVICE_ID") (read Block)
    ∷ row 0xae (codes "IC_DEVICE_REV") (read Block)
    ∷ row 0xb0 (codes "USER_DATA_00") (register Block)
    ∷ row 0xb1 (codes "USER_DATA_01") (register Block)
    ∷ row 0xb2 (codes "USER_DATA_02") (register Block)
    ∷ row 0xb3 (codes "USER_DATA_03") (register Block)
    ∷ row 0xb4 (codes "USER_DATA_04") (register Block)
    ∷ row 0xb5 (codes "USER_DATA_05") (register Block)
    ∷ row 0xb6 (codes "USER_DATA_06") (register Block)
    ∷ row 0xb7 (codes "USER_DATA_07") (register Block)
    ∷ row 0xb8 (codes "USER_DATA_08") (register Block)
    ∷ row 0xb9 (codes "USER_DATA_09") (register Block)
    ∷ row 0xba (codes "USER_DATA_10") (register Block)
    ∷ row 0xbb (codes "USER_DATA_11") (register Block)
    ∷ row 0xbc (codes "USER_DATA_12") (register Block)
    ∷ row 0xbd (codes "USER_DATA_13") (register Block)
    ∷ row 0xbe (codes "USER_DATA_14") (register Block)
    ∷ row 0xbf (codes "USER_DATA_15") (register Block)
    ∷ row 0xc0 (codes "MFR_MAX_TEMP_1") (register Two)
    ∷ row 0xc1 (codes "MFR_MAX_TEMP_2") (register Two)
    ∷ row 0xc2 (codes "MFR_MAX_TEMP_3") (register Two)
    ∷ []

-- end

-- the codes from the first to the last
abbrev pub from_to : ℕ → ℕ → List ℕ
from_to first last = range_with_len first (last + 1 - first)

-- begin: written by tools/commands from docs/profiles.md

-- output voltages
abbrev pub vout_codes : List ℕ
vout_codes = 0x21 ∷ 0x24 ∷ 0x25 ∷ 0x26 ∷ 0x2b ∷ 0x40 ∷ 0x42 ∷ 0x43 ∷ 0x44 ∷ 0x48 ∷ 0x5e ∷ 0x5f ∷ 0x8b ∷ 0xa4 ∷ 0xa5 ∷ []

-- corrections of the output voltage, which may be negative
abbrev pub vout_signed_codes : List ℕ
vout_signed_codes = 0x22 ∷ 0x23 ∷ []

-- status bits
abbrev pub status_codes : List ℕ
status_codes = from_to 0x78 0x82

-- other numbers
abbrev pub linear11_codes : List ℕ
linear11_codes = from_to 0x27 0x2a ++ (0x31 ∷ 0x32 ∷ 0x33 ∷ 0x35 ∷ 0x36 ∷ 0x38 ∷ 0x39 ∷ 0x3b ∷ 0x3c ∷ 0x3e ∷ 0x3f ∷ [])
    ++ (0x46 ∷ 0x4a ∷ 0x4b ∷ 0x4f ∷ []) ++ (0x51 ∷ 0x52 ∷ 0x53 ∷ 0x55 ∷ 0x57 ∷ 0x58 ∷ 0x59 ∷ 0x5b ∷ 0x5d ∷ [])
    ++ (0x60 ∷ 0x61 ∷ 0x62 ∷ 0x64 ∷ 0x65 ∷ 0x66 ∷ 0x68 ∷ 0x6a ∷ 0x6b ∷ []) ++ (0x88 ∷ 0x89 ∷ 0x8a ∷ [])
    ++ from_to 0x8c 0x97 ++ from_to 0xa0 0xa3 ++ from_to 0xa6 0xa9 ++ (0xc0 ∷ 0xc1 ∷ 0xc2 ∷ [])

-- commands that have a value for each page
abbrev pub paged_codes : List ℕ
paged_codes = (0x01 ∷ 0x02 ∷ 0x04 ∷ []) ++ from_to 0x20 0x2b ++ (0x31 ∷ 0x32 ∷ 0x33 ∷ []) ++ from_to 0x35 0x4c
    ++ from_to 0x4f 0x66 ++ from_to 0x68 0x6b ++ from_to 0x78 0x82 ++ from_to 0x86 0x97 ++ from_to 0xa0 0xa9
    ++ (0xc0 ∷ 0xc1 ∷ 0xc2 ∷ [])

-- end

-- whether a code stands in a list
abbrev pub is_among : List ℕ → ℕ → Bool
is_among listed code = list_any (λ c. c == code) listed

-- what the data of a standard command stand for, where no profile says otherwise
abbrev pub default_kind : ℕ → Kind
default_kind code =
    if is_among vout_codes code then Vout
    else if is_among vout_signed_codes code then VoutSigned
    else if is_among status_codes code then Status
    else if is_among linear11_codes code then Number Linear11
    else Raw

-- a row as an entry, with its defaults
abbrev pub entry_of_row : StandardRow → EntryParts
entry_of_row r = record {
  code = r.code;
  name = r.name;
  shape = r.shape;
  kind = default_kind r.code;
  paged =
      is_among paged_codes r.code;
}

-- all standard entries, in the order of their codes
unfoldable pub standard_entries : List EntryParts
standard_entries = map entry_of_row standard_rows

-- the standard entry of a code, if it has one
unfoldable pub standard_entry : ℕ → Option EntryParts
standard_entry code = find (λ e. e.code == code) standard_entries

-- whether there is an entry, and it has the name
abbrev pub has_name : List ℕ → Option EntryParts → Bool
has_name name None = false
has_name name (Some e) = bytes_eq e.name name

-- the first code whose standard entry has the name
unfoldable pub code_of_name : List ℕ → Option ℕ
code_of_name name = find (λ code. has_name name (standard_entry code)) (from_to 0x00 0xff)
