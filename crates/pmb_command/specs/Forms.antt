-- The forms in which a device takes its commands, and which writes it has.
use Rattle.std.specs.Prelude.{ℕ, Bool, false, not, ◌&&◌, ◌||◌, if◌then◌else◌, Option, Some, None, List, [], ◌∷◌}
use Rattle.std.specs.Prelude.{length, nat_eq, nat_lt}
use Rattle.pmb_command.specs.declared.form.Form.{Form}
use Rattle.pmb_command.specs.declared.form.Form.TheVariants.{Zero}
use Rattle.pmb_command.specs.declared.form.Shape.{Shape}
use Rattle.pmb_command.specs.Fitting.{is_form, is_length}
use Rattle.pmb_command.specs.Parts.{CommandParts, DeviceParts, command_with}

-- the forms of a command; none where there is no command
abbrev pub shape_of : Option CommandParts → Shape
shape_of None = record { write = None; read = None; call = None }
shape_of (Some command) = command.entry.shape

-- the forms in which a device takes a command code
abbrev pub forms : DeviceParts → ℕ → Shape
forms device code = shape_of (command_with code device.commands)

-- a command that is written in a form takes so many bytes of data
abbrev pub takes_data : Option Form → ℕ → Bool
takes_data form n = if is_form Zero form then nat_eq n 0 else is_length form n

-- the value of PAGE is a page of the device, or ffh for all of them
abbrev pub is_own_page : DeviceParts → List ℕ → Bool
is_own_page device [] = false
is_own_page device (page ∷ bytes) = nat_lt page device.pages || nat_eq page 0xff

-- The device has such a write: it has the command, in a form that takes these data, and a value of PAGE is
-- one of its own.
abbrev pub has_write : DeviceParts → ℕ → List ℕ → Bool
has_write device code bytes =
    takes_data (forms device code).write (length bytes) && (not (nat_eq code 0x00) || is_own_page device bytes)
