-- A row field by field: how many fields it has, and what stands in a column.
use Rattle.std.specs.Prelude.{ℕ, ◌+◌, ◌==◌, not, Bool, true, Option, Some, None, if◌then◌else◌, List, [], ◌∷◌, length}
use Rattle.std.specs.Prelude.{option_copied}
use Rattle.pmb_sample_fields.specs.Row.{RowText, plain_of}
use Rattle.pmb_sample_fields.specs.declared.row.Row.{Row}

abbrev pub row_in : Row → RowText
row_in row = record {
  count = row.count;
  scl = option_copied row.scl;
  sda = option_copied row.sda;
  time = option_copied row.time;
}

abbrev pub is_used : Option (List ℕ) → Bool
is_used (Some text) = not (length text == 0)
is_used None = true

-- so many fields behind one at a place, which has bytes or not
abbrev pub count_with : ℕ → ℕ → Bool → ℕ
count_with count place is_used = if is_used then place + 1 else count

abbrev pub count_from : ℕ → ℕ → List (List ℕ) → ℕ
count_from count place [] = count
count_from count place (field ∷ fields) =
    count_from (count_with count place (is_used (plain_of field))) (place + 1) fields

-- what stands in a column, behind some fields
abbrev pub column_from : ℕ → Option (List ℕ) → ℕ → List (List ℕ) → Option (List ℕ)
column_from column text place [] = text
column_from column text place (field ∷ fields) =
    column_from column (if place == column then plain_of field else text) (place + 1) fields
