-- Whether a command of a device is the standard's.
use Rattle.std.specs.Prelude.{ℕ, Bool, false, ◌&&◌, Option, Some, None, List}
use Rattle.std.specs.Str.{bytes_eq}
use Rattle.pmb_command.specs.Commands.{standard_entry}
use Rattle.pmb_command.specs.Entry.{EntryParts}
use Rattle.pmb_command.specs.Fitting.{is_raw}

-- there is a standard command, and it has this name
abbrev pub has_name : Option EntryParts → List ℕ → Bool
has_name None name = false
has_name (Some standard) name = bytes_eq standard.name name

-- the command has the name that the standard gives its code
abbrev pub has_standard_name : EntryParts → Bool
has_standard_name e = has_name (standard_entry e.code) e.name

-- .. and the profile says no more of its data than that they are bytes
abbrev pub is_plain_standard : EntryParts → Bool
is_plain_standard e = is_raw e.kind && has_standard_name e
