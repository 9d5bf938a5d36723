-- The columns before what a line says.
use Rattle.std.specs.Prelude.{ℕ, ◌&&◌, Bool, false, if◌then◌else◌, nat_eq, nat_lt, Option, Some, None, List, []}
use Rattle.std.specs.Prelude.{◌++◌, codes}
use Rattle.std.specs.Prelude.{decimal}
use Rattle.pmb_command.specs.Entry.{EntryParts}
use Rattle.pmb_command.specs.Parts.{DeviceParts, device_with}
use Rattle.pmb_json_objects.specs.Seen.{SeenData, entry_at, page_at}
use Rattle.pmb_note.specs.Paging.{all_pages}
use Rattle.pmb_facts.specs.declared.fact.CommandAt.{CommandAt}
use Rattle.pmb_log_data.specs.Text.{at_left, at_right, byte_digits, or_nothing}
use Rattle.pmb_log_lines.specs.declared.layout.Layout.{Layout}

-- two blanks between columns
abbrev pub gap : List ℕ
gap = codes "  "

-- the time of the packet, at the right of ten columns
abbrev pub time_column : Option (List ℕ) → List ℕ
time_column time = at_right 10 (or_nothing time)

abbrev pub address_column : Option ℕ → List ℕ
address_column None = codes "  "
address_column (Some addr) = byte_digits addr

-- ---- names

abbrev pub name_of : Option DeviceParts → List ℕ
name_of None = []
name_of (Some device) = or_nothing device.name

abbrev pub name_at : List DeviceParts → Option ℕ → List ℕ
name_at profile None = []
name_at profile (Some addr) = name_of (device_with addr profile)

-- a column of no width is left out
abbrev pub name_column : ℕ → List ℕ → List ℕ
name_column width name = if nat_eq width 0 then [] else at_left width name ++ gap

-- ---- pages

-- the selected page
abbrev pub page_says : Option ℕ → List ℕ
page_says None = codes "?"
page_says (Some page) = if nat_eq page all_pages then codes "*" else decimal page

-- whether a command is one of several pages
abbrev pub is_of_pages : Option DeviceParts → Option EntryParts → Bool
is_of_pages None entry = false
is_of_pages (Some device) None = false
is_of_pages (Some device) (Some entry) = entry.paged && nat_lt 1 device.pages

abbrev pub command_page : SeenData → Option CommandAt → List ℕ
command_page seen None = []
command_page seen (Some at) =
    if is_of_pages (device_with at.addr seen.profile) (entry_at seen at.addr at.code)
    then page_says (page_at seen at.addr) else []

abbrev pub page_column : ℕ → List ℕ → List ℕ
page_column width page = if nat_eq width 0 then [] else at_right width page ++ gap

-- ---- commands

-- a code that the device lacks as two digits
abbrev pub entry_name : ℕ → Option EntryParts → List ℕ
entry_name code None = byte_digits code
entry_name code (Some entry) = entry.name

abbrev pub command_name : SeenData → Option CommandAt → List ℕ
command_name seen None = []
command_name seen (Some at) = entry_name at.code (entry_at seen at.addr at.code)

-- ---- all

abbrev pub columns : Layout → SeenData → Option (List ℕ) → Option ℕ → Option CommandAt → List ℕ
columns layout seen time device command =
    time_column time ++ gap ++ address_column device ++ gap
    ++ name_column layout.name (name_at seen.profile device)
    ++ page_column layout.page (command_page seen command)
    ++ at_left layout.command (command_name seen command) ++ gap
