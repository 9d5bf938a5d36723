-- The widths of the columns that a profile and a capture fix.
use Rattle.std.specs.Prelude.{ℕ, ◌≤◌, if◌then◌else◌, is_some, max, Option, List, length, map}
use Rattle.pmb_command.specs.Parts.{DeviceParts}
use Rattle.pmb_log_data.specs.Text.{or_nothing}
use Rattle.pmb_log_lines.specs.Layout.{command_width, greatest}
use Rattle.pmb_stats_table.specs.declared.widths.Widths.{Widths}

-- of phases for a device: 0, which is no column, if it has none
abbrev pub device_phase_width : DeviceParts → ℕ
device_phase_width device = if is_some device.phases then 5 else 0

-- the widest: there is such a column only if a device of the profile has phases
abbrev pub phase_width : List DeviceParts → ℕ
phase_width profile = greatest (map device_phase_width profile)

-- of names of commands that of the longest in the profile, at least 7; of times that of the last, at least 10
abbrev pub widths_of : List DeviceParts → Option (List ℕ) → Widths
widths_of profile last =
    record {
      phase = phase_width profile;
      command = max 7 (command_width profile);
      time = max 10 (length (or_nothing last));
    }

-- no wider than phases, names and times are
pub record IsNarrow (widths : Widths) : Type 0 where
  pub phase : widths.phase ≤ 5
  pub command : widths.command ≤ 32
  pub time : widths.time ≤ 40
