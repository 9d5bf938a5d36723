-- What a row of samples has in its columns.
use Rattle.std.specs.Prelude.{ℕ, zero, suc, ◌==◌, ◌||◌, Bool, false, Option, Some, None, if◌then◌else◌, List, [], ◌∷◌, length}
use Rattle.pmb_sample_fields.specs.Fields.{quote}
use Rattle.pmb_sample_fields.specs.declared.row.Columns.{Columns}

-- the field at a place, nothing behind the last
abbrev pub value : ℕ → List (List ℕ) → List ℕ
value place [] = []
value zero (field ∷ fields) = field
value (suc place) (field ∷ fields) = value place fields

abbrev pub has_quote : List ℕ → Bool
has_quote [] = false
has_quote (byte ∷ text) = byte == quote || has_quote text

-- a text that has no quote: no level and no time has one
abbrev pub plain_of : List ℕ → Option (List ℕ)
plain_of text = if has_quote text then None else Some text

pub record RowText : Type 0 where
  -- how many fields it has
  pub count : ℕ
  pub scl : Option (List ℕ)
  pub sda : Option (List ℕ)
  pub time : Option (List ℕ)

abbrev pub row_of : Columns → List (List ℕ) → RowText
row_of columns fields = record {
  count = length fields;
  scl = plain_of (value columns.scl fields);
  sda = plain_of (value columns.sda fields);
  time = plain_of (value columns.time fields);
}
