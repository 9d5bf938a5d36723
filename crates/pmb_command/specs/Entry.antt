-- What contracts see of a command: its parts, the name as its bytes.
use Rattle.std.specs.Prelude.{ℕ, Bool, List}
use Rattle.pmb_command.specs.declared.form.Shape.{Shape}
use Rattle.pmb_command.specs.declared.entry.Kind.{Kind}
use Rattle.pmb_command.specs.declared.entry.Entry.{Entry}

pub record EntryParts : Type 0 where
  pub code : ℕ
  pub name : List ℕ
  pub shape : Shape
  pub kind : Kind
  pub paged : Bool

abbrev pub entry_parts : Entry → EntryParts
entry_parts e = record { code = e.code; name = e.name.bytes; shape = e.shape; kind = e.kind; paged = e.paged }
