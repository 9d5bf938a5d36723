-- What the profile fixes of the lines: how wide each column is.
use Rattle.std.specs.Prelude.{ℕ, ◌≤◌, max, nat_le, if◌then◌else◌, List, [], ◌∷◌, length, map}
use Rattle.pmb_command.specs.Parts.{CommandParts, DeviceParts}
use Rattle.pmb_log_lines.specs.declared.layout.Layout.{Layout}
use Rattle.pmb_log_data.specs.Text.{or_nothing}

-- the greatest of some numbers, 0 of none
abbrev pub greatest : List ℕ → ℕ
greatest [] = 0
greatest (n ∷ ns) = max n (greatest ns)

abbrev pub name_length : DeviceParts → ℕ
name_length device = length (or_nothing device.name)

-- the longest name of a device; 0 where none has one
abbrev pub name_width : List DeviceParts → ℕ
name_width profile = greatest (map name_length profile)

abbrev pub page_count : DeviceParts → ℕ
page_count device = device.pages

-- as many as the greatest page has digits; 0 where no device has two pages
abbrev pub width_of_pages : ℕ → ℕ
width_of_pages pages = if nat_le pages 1 then 0 else if nat_le pages 10 then 1 else 2

abbrev pub page_width : List DeviceParts → ℕ
page_width profile = width_of_pages (greatest (map page_count profile))

abbrev pub entry_length : CommandParts → ℕ
entry_length command = length command.entry.name

-- the longest name of a command
abbrev pub device_command_width : DeviceParts → ℕ
device_command_width device = greatest (map entry_length device.commands)

abbrev pub command_width : List DeviceParts → ℕ
command_width profile = greatest (map device_command_width profile)

-- the widths of the columns of names and pages, of which one of 0 is left out, and of commands
abbrev pub layout_of : List DeviceParts → Layout
layout_of profile =
    record { name = name_width profile; page = page_width profile; command = command_width profile }

-- no wider than names are
pub record IsNarrow (layout : Layout) : Type 0 where
  pub name : layout.name ≤ 32
  pub page : layout.page ≤ 2
  pub command : layout.command ≤ 32
