-- How many bytes a body has whose first bytes are known.
use Rattle.std.specs.Prelude.{ℕ, ◌+◌, Bool, false, ◌&&◌, ◌||◌, Option, Some, None, List, length, nat_eq, nat_lt}
use Rattle.std.specs.Prelude.{is_some}
use Rattle.pmb_command.specs.declared.form.Form.{Form}
use Rattle.pmb_command.specs.declared.form.Shape.{Shape}
use Rattle.pmb_command.specs.declared.pec_mode.PecMode.{PecMode}
use Rattle.pmb_command.specs.declared.pec_mode.PecMode.TheVariants.{Off, On, Optional}
use Rattle.pmb_command.specs.Wire.{wire_length}

-- How many bytes may follow the wire of a write: a packet error code where the mode allows one.
abbrev pub pec_length : PecMode → ℕ
pec_length Off = 0
pec_length On = 1
pec_length Optional = 1

-- There is a form, and its wire, with so many bytes after it, is longer than the bytes.
abbrev pub leaves_room : Option Form → ℕ → List ℕ → Bool
leaves_room None more bytes = false
leaves_room (Some form) more bytes = nat_lt (length bytes) (wire_length form bytes + more)

-- There is a form, and the bytes are as long as its wire.
abbrev pub is_whole_wire : Option Form → List ℕ → Bool
is_whole_wire None bytes = false
is_whole_wire (Some form) bytes = nat_eq (length bytes) (wire_length form bytes)

-- A body may continue after a code and some bytes: that of a write, or in a first leg of a call.
abbrev pub may_go_on : Bool → PecMode → Shape → List ℕ → Bool
may_go_on first mode shape bytes = leaves_room shape.write (pec_length mode) bytes
    || (first && leaves_room shape.call 0 bytes)

-- A code and some bytes are the body of a read or a call.
abbrev pub is_request : Shape → List ℕ → Bool
is_request shape bytes = (is_some shape.read && nat_eq (length bytes) 0) || is_whole_wire shape.call bytes

-- A body may begin with the code of a command of these forms.
abbrev pub may_begin : Bool → Shape → Bool
may_begin first shape = is_some shape.write || (first && (is_some shape.read || is_some shape.call))
