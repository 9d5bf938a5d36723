-- Columns and values, by their names and places.
use Rattle.std.specs.Prelude.{ℕ, zero, suc, ◌+◌, ◌==◌, ◌&&◌, ◌||◌, true, false, Bool, Option, Some, None, nat_lt}
use Rattle.std.specs.Prelude.{if◌then◌else◌}
use Rattle.std.specs.Prelude.{List, [], ◌∷◌, length, option_and_then}
use Rattle.std.specs.Str.{bytes_eq}
use Rattle.pmb_csv.specs.Fields.{Record, quote}
use Rattle.pmb_csv.specs.declared.columns.Column.{Column}
use Rattle.pmb_csv.specs.declared.columns.Column.TheVariants.{Absent, At, Unclear}

-- ---- by its name

abbrev pub times_named : List ℕ → List (List ℕ) → ℕ
times_named name [] = 0
times_named name (column ∷ columns) =
    if bytes_eq column name then suc (times_named name columns) else times_named name columns

abbrev pub each_once : List (List ℕ) → List (List ℕ) → Bool
each_once [] columns = true
each_once (name ∷ names) columns = times_named name columns == 1 && each_once names columns

-- the place of a column, or of none behind the last
abbrev pub place_of : List ℕ → List (List ℕ) → ℕ
place_of name [] = 0
place_of name (column ∷ columns) = if bytes_eq column name then 0 else place_of name columns + 1

-- a column that is named so often
abbrev pub named : ℕ → ℕ → Column
named zero place = Absent
named (suc zero) place = At place
named (suc (suc more)) place = Unclear

-- A line that can't be read names none.
abbrev pub column_of : List ℕ → Record → Column
column_of name r = if r.is_whole then named (times_named name r.fields) (place_of name r.fields) else Unclear

-- its place where it is named once
abbrev pub needed_place : List ℕ → Record → Option ℕ
needed_place name r =
    if r.is_whole && (times_named name r.fields == 1) then Some (place_of name r.fields) else None

-- of one that may be missing
abbrev pub place_if_named : List ℕ → List (List ℕ) → Option ℕ
place_if_named name columns = if times_named name columns == 0 then None else Some (place_of name columns)

abbrev pub optional_place : List ℕ → Record → Option (Option ℕ)
optional_place name r =
    if r.is_whole && nat_lt (times_named name r.fields) 2 then Some (place_if_named name r.fields) else None

-- one step behind another, where that has a result
infixl 10 ◌>>=◌
abbrev pub ◌>>=◌ : {A B : Type 0} → Option A → (A → Option B) → Option B
found >>= next = option_and_then next found

-- ---- by its place

-- the field at a place, where there is one
abbrev pub field : ℕ → List (List ℕ) → Option (List ℕ)
field place [] = None
field zero (value ∷ fields) = Some value
field (suc place) (value ∷ fields) = field place fields

-- or nothing
abbrev pub or_none : Option (List ℕ) → List ℕ
or_none (Some text) = text
or_none None = []

abbrev pub value : ℕ → Record → List ℕ
value place r = or_none (field place r.fields)

-- as many fields as there are columns
abbrev pub has_fields : ℕ → Record → Bool
has_fields count r = r.is_whole && (length r.fields == count)

-- how many fields a line has that can be read
abbrev pub count_of : Record → Option ℕ
count_of r = if r.is_whole then Some (length r.fields) else None

-- ---- quotes in a text

abbrev pub has_quote : List ℕ → Bool
has_quote [] = false
has_quote (byte ∷ text) = byte == quote || has_quote text

-- a text that has none
abbrev pub plain_of : List ℕ → Option (List ℕ)
plain_of text = if has_quote text then None else Some text
