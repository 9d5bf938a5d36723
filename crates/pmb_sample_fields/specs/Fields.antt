-- The fields of a line of samples. They stand between commas, and in some lines between commas and another mark.
-- Blanks around a field are none of it; in quotes a field has commas, and each quote is doubled.
use Rattle.std.specs.Prelude.{ℕ, ◌==◌, ◌||◌, true, false, Bool, Option, Some, None, if◌then◌else◌, List, [], ◌∷◌, map}
use Rattle.pmb_sample_fields.specs.declared.fields.Mark.{Mark}
use Rattle.pmb_sample_fields.specs.declared.fields.Mark.TheVariants as marks

abbrev pub quote : ℕ
quote = 34

abbrev pub comma : ℕ
comma = 44

-- a blank or a TAB
abbrev pub is_blank : ℕ → Bool
is_blank byte = byte == 32 || byte == 9

-- what ends a field: a comma, or the mark that the line has for commas
abbrev pub ends : ℕ → ℕ → Bool
ends mark byte = byte == comma || byte == mark

abbrev pub mark_byte : Mark → ℕ
mark_byte marks.Comma = comma
mark_byte marks.Semicolon = 59
mark_byte marks.Tab = 9

-- ---- the bytes of all fields

-- The fields of a line that can be read, and whether all can: a line with an open quote, or with more between a closing
-- quote and the comma, has its fields in front of that alone.
pub record Record : Type 0 where
  pub fields : List (List ℕ)
  pub is_whole : Bool

-- where a line stands: at the start of a field, in one without quotes, in quotes, behind a quote in these, and behind
-- the closing one
pub data Place : Type 0 where
  Begins : Place
  Plain : Place
  Quoted : Place
  Closed : Place
  Behind : Place

abbrev pub broken : Record
broken = record { fields = []; is_whole = false }

-- one more field in front
abbrev pub with_field : List ℕ → Record → Record
with_field field r = record { fields = field ∷ r.fields; is_whole = r.is_whole }

-- a line of one field without bytes
abbrev pub one_empty : Record
one_empty = record { fields = [] ∷ []; is_whole = true }

-- one byte more in the first field
abbrev pub longer_first : ℕ → List (List ℕ) → List (List ℕ)
longer_first byte [] = []
longer_first byte (field ∷ fields) = (byte ∷ field) ∷ fields

abbrev pub longer : ℕ → Record → Record
longer byte r = record { fields = longer_first byte r.fields; is_whole = r.is_whole }

-- the fields of what is left of a line, of which the first may have begun
abbrev pub fields_from : ℕ → Place → List ℕ → Record
fields_from mark Begins [] = one_empty
fields_from mark Plain [] = one_empty
fields_from mark Quoted [] = broken
fields_from mark Closed [] = one_empty
fields_from mark Behind [] = one_empty
fields_from mark Begins (byte ∷ line) =
    if byte == quote then fields_from mark Quoted line else
    if ends mark byte then with_field [] (fields_from mark Begins line) else
    if is_blank byte then fields_from mark Begins line else longer byte (fields_from mark Plain line)
fields_from mark Plain (byte ∷ line) =
    if ends mark byte then with_field [] (fields_from mark Begins line) else longer byte (fields_from mark Plain line)
fields_from mark Quoted (byte ∷ line) =
    if byte == quote then fields_from mark Closed line else longer byte (fields_from mark Quoted line)
fields_from mark Closed (byte ∷ line) =
    if byte == quote then longer byte (fields_from mark Quoted line) else
    if ends mark byte then with_field [] (fields_from mark Begins line) else
    if is_blank byte then fields_from mark Behind line else broken
fields_from mark Behind (byte ∷ line) =
    if ends mark byte then with_field [] (fields_from mark Begins line) else
    if is_blank byte then fields_from mark Behind line else broken

abbrev pub record_of : ℕ → List ℕ → Record
record_of mark line = fields_from mark Begins line

-- a line from its first byte on that is no blank in front of a field
abbrev pub at_field : ℕ → List ℕ → List ℕ
at_field mark [] = []
at_field mark (byte ∷ line) =
    if ends mark byte then byte ∷ line else if is_blank byte then at_field mark line else byte ∷ line

-- ---- without blanks around them

abbrev pub behind_blanks : List ℕ → List ℕ
behind_blanks [] = []
behind_blanks (byte ∷ text) = if is_blank byte then behind_blanks text else byte ∷ text

-- a byte in front of a text without blanks at its end
abbrev pub with_first : ℕ → List ℕ → List ℕ
with_first byte [] = if is_blank byte then [] else byte ∷ []
with_first byte (next ∷ text) = byte ∷ next ∷ text

abbrev pub without_last_blanks : List ℕ → List ℕ
without_last_blanks [] = []
without_last_blanks (byte ∷ text) = with_first byte (without_last_blanks text)

abbrev pub trimmed : List ℕ → List ℕ
trimmed text = without_last_blanks (behind_blanks text)

-- ---- the fields of a line

-- a field in front of fields without empty ones at the end
abbrev pub with_first_field : List ℕ → List (List ℕ) → List (List ℕ)
with_first_field [] [] = []
with_first_field (byte ∷ field) [] = (byte ∷ field) ∷ []
with_first_field field (next ∷ fields) = field ∷ next ∷ fields

abbrev pub without_last_empty : List (List ℕ) → List (List ℕ)
without_last_empty [] = []
without_last_empty (field ∷ fields) = with_first_field field (without_last_empty fields)

-- The fields of a line, where all can be read.
abbrev pub fields_of : ℕ → List ℕ → Option (List (List ℕ))
fields_of mark line =
    if (record_of mark line).is_whole then Some (without_last_empty (map trimmed (record_of mark line).fields)) else None
