-- The fields of a line of comma-separated values.
use Rattle.std.specs.Prelude.{ℕ, ◌==◌, true, false, Bool, if◌then◌else◌, List, [], ◌∷◌, codes, slice_index}

abbrev pub comma : ℕ
comma = slice_index (codes ",") 0

abbrev pub quote : ℕ
quote = slice_index (codes "\"") 0

-- The fields of a line that can be read, and whether all can: a line with an open quote, or with more between a closing
-- quote and the comma, has its fields in front of that alone.
pub record Record : Type 0 where
  pub fields : List (List ℕ)
  pub is_whole : Bool

-- one byte more in the first field
abbrev pub longer_first : ℕ → List (List ℕ) → List (List ℕ)
longer_first byte [] = []
longer_first byte (field ∷ fields) = (byte ∷ field) ∷ fields

abbrev pub longer : ℕ → Record → Record
longer byte r = record r { fields = longer_first byte r.fields }

-- a field that has ended, in front of others
abbrev pub behind_empty : Record → Record
behind_empty r = record r { fields = [] ∷ r.fields }

-- where a line stands: at the start of a field, in one without quotes, in quotes, behind a quote in these
pub data Place : Type 0 where
  Begins : Place
  Plain : Place
  Quoted : Place
  Closed : Place

-- the fields of what is left of a line, of which the first may have begun
abbrev pub fields_from : Place → List ℕ → Record
fields_from Begins [] = record { fields = [] ∷ []; is_whole = true }
fields_from Plain [] = record { fields = [] ∷ []; is_whole = true }
fields_from Closed [] = record { fields = [] ∷ []; is_whole = true }
fields_from Quoted [] = record { fields = []; is_whole = false }
fields_from Begins (byte ∷ line) =
    if byte == quote then fields_from Quoted line else
    if byte == comma then behind_empty (fields_from Begins line) else longer byte (fields_from Plain line)
fields_from Plain (byte ∷ line) =
    if byte == comma then behind_empty (fields_from Begins line) else longer byte (fields_from Plain line)
fields_from Quoted (byte ∷ line) =
    if byte == quote then fields_from Closed line else longer byte (fields_from Quoted line)
fields_from Closed (byte ∷ line) =
    if byte == quote then longer byte (fields_from Quoted line) else
    if byte == comma then behind_empty (fields_from Begins line) else record { fields = []; is_whole = false }

abbrev pub record_of : List ℕ → Record
record_of line = fields_from Begins line
