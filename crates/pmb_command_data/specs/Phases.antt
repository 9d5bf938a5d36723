-- Commands that have a value for each phase (PMBus Part II 1.3, PHASE).
use Rattle.std.specs.Prelude.{ℕ, Bool, ◌&&◌, ◌||◌, nat_eq, List, [], ◌∷◌}
use Rattle.std.specs.List.{list_any}
use Rattle.std.specs.Option.{is_some}
use Rattle.pmb_command.specs.Entry.{EntryParts}
use Rattle.pmb_command.specs.Parts.{CommandParts, DeviceParts}
use Rattle.pmb_command_data.specs.Standard.{has_standard_name}

-- IOUT_CAL_GAIN, IOUT_CAL_OFFSET, READ_IOUT
abbrev pub phase_codes : List ℕ
phase_codes = 0x38 ∷ 0x39 ∷ 0x8c ∷ []

abbrev pub is_phase_code : ℕ → Bool
is_phase_code code = list_any (nat_eq code) phase_codes

-- the standard gives the command a value for each phase
abbrev pub is_of_phases : EntryParts → Bool
is_of_phases e = is_phase_code e.code && has_standard_name e

-- the device has phases, and the standard or the profile gives the command a value for each
abbrev pub has_phases : DeviceParts → CommandParts → Bool
has_phases device command = is_some device.phases && (command.phased || is_of_phases command.entry)
