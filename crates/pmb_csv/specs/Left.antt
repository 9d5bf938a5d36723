-- What is left of the fields of a line, and what a call takes of it.
use Rattle.std.specs.Prelude.{◌≡◌, ℕ, ◌+◌, ◌==◌, ◌&&◌, true, false, Bool, Option, Some, None, if◌then◌else◌, List, []}
use Rattle.std.specs.Prelude.{◌∷◌}
use Rattle.std.specs.Prelude.{option_copied}
use Rattle.pmb_csv.specs.Fields.{Record, quote, record_of}
use Rattle.std.specs.Str.{bytes_eq}
use Rattle.pmb_csv.specs.declared.columns.Column.{Column}
use Rattle.pmb_csv.specs.declared.columns.Column.TheVariants.{Absent, At, Unclear}
use Rattle.pmb_csv.specs.declared.fields.Field.{Field}
use Rattle.pmb_csv.specs.declared.fields.Fields.{Fields}
use Rattle.pmb_csv.specs.declared.fields.Next.{Next}
use Rattle.pmb_csv.specs.declared.fields.Next.TheVariants as next

-- nothing is left, or nothing that can be read
abbrev pub ended : Record
ended = record { fields = []; is_whole = true }

abbrev pub broken : Record
broken = record { fields = []; is_whole = false }

-- one more field in front
abbrev pub with_field : List ℕ → Record → Record
with_field field r = record r { fields = field ∷ r.fields }

-- what follows a field
abbrev pub behind_field : Option (List ℕ) → Record
behind_field (Some rest) = record_of rest
behind_field None = ended

abbrev pub left : Fields → Record
left fields = behind_field (option_copied fields.rest)

-- ---- quotes

-- a text whose quotes are doubled, with each of them once: the byte in front may be the first of two
abbrev pub undoubled_from : Bool → List ℕ → List ℕ
undoubled_from is_first [] = []
undoubled_from is_first (byte ∷ text) =
    if is_first && (byte == quote) then undoubled_from false text else byte ∷ undoubled_from (byte == quote) text

abbrev pub undoubled : List ℕ → List ℕ
undoubled text = undoubled_from false text

-- the bytes of a field
abbrev pub text_if : Bool → List ℕ → List ℕ
text_if true raw = undoubled raw
text_if false raw = raw

abbrev pub text_of : Field → List ℕ
text_of field = text_if field.is_quoted field.raw.now

-- The place behind the quote that closes a text, whose quotes are doubled, from a place on. The byte in front may be a
-- quote that closes it, where none follows.
abbrev pub closing_of : Bool → ℕ → List ℕ → Option ℕ
closing_of true at [] = Some at
closing_of false at [] = None
closing_of true at (byte ∷ text) = if byte == quote then closing_of false (at + 1) text else Some at
closing_of false at (byte ∷ text) = closing_of (byte == quote) (at + 1) text

-- ---- a call

-- The next field is taken. At the end, and at a field that can't be read, nothing is.
abbrev pub Takes : Record → Next → Record → Type 0
Takes old (next.Field field) new = old ≡ with_field (text_of field) new
Takes old next.End new = (old ≡ ended) × (new ≡ ended)
Takes old next.Broken new = (old ≡ broken) × (new ≡ broken)

-- ---- columns

-- a column behind one more field, which names it or not
abbrev pub column_with : Column → ℕ → Bool → Column
column_with column place false = column
column_with Absent place true = At place
column_with (At before) place true = Unclear
column_with Unclear place true = Unclear

-- a column behind the fields from a place on
abbrev pub column_from : List ℕ → Column → ℕ → List (List ℕ) → Column
column_from name column place [] = column
column_from name column place (field ∷ fields) =
    column_from name (column_with column place (bytes_eq field name)) (place + 1) fields
