-- What is left of the fields of a line, and what a call takes of it.
use Rattle.std.specs.Prelude.{◌≡◌, ℕ, suc, ◌+◌, ◌==◌, ◌&&◌, true, false, Bool, Option, Some, None, if◌then◌else◌}
use Rattle.std.specs.Prelude.{List, [], ◌∷◌, option_copied}
use Rattle.pmb_sample_fields.specs.Fields.{Record, broken, ends, mark_byte, quote, record_of, trimmed, with_field}
use Rattle.pmb_sample_fields.specs.declared.fields.Field.{Field}
use Rattle.pmb_sample_fields.specs.declared.fields.Fields.{Fields}
use Rattle.pmb_sample_fields.specs.declared.fields.Next.{Next}
use Rattle.pmb_sample_fields.specs.declared.fields.Next.TheVariants as next

-- nothing is left
abbrev pub ended : Record
ended = record { fields = []; is_whole = true }

-- what follows a field
abbrev pub behind_field : ℕ → Option (List ℕ) → Record
behind_field mark (Some rest) = record_of mark rest
behind_field mark None = ended

abbrev pub left : Fields → Record
left fields = behind_field (mark_byte fields.mark) (option_copied fields.rest)

-- How many bytes of a text stand in front of the blanks at its end: so many so far, or those up to a place and so many
-- behind it, if there are any.
abbrev pub used_with : ℕ → ℕ → ℕ → ℕ
used_with used at more = if more == 0 then used else at + more

-- ---- quotes

-- a text whose quotes are doubled, with each of them once: the byte in front may be the first of two
abbrev pub undoubled_from : Bool → List ℕ → List ℕ
undoubled_from is_first [] = []
undoubled_from is_first (byte ∷ text) =
    if is_first && (byte == quote) then undoubled_from false text else byte ∷ undoubled_from (byte == quote) text

abbrev pub undoubled : List ℕ → List ℕ
undoubled text = undoubled_from false text

-- the bytes of a field, with blanks around them
abbrev pub text_if : Bool → List ℕ → List ℕ
text_if true raw = undoubled raw
text_if false raw = raw

abbrev pub raw_text : Field → List ℕ
raw_text field = text_if field.is_quoted field.raw.now

-- and without these
abbrev pub text_of : Field → List ℕ
text_of field = trimmed (raw_text field)

-- The place behind the quote that closes a text, whose quotes are doubled, from a place on. The byte in front may be a
-- quote that closes it, where none follows.
abbrev pub closing_of : Bool → ℕ → List ℕ → Option ℕ
closing_of true at [] = Some at
closing_of false at [] = None
closing_of true at (byte ∷ text) = if byte == quote then closing_of false (at + 1) text else Some at
closing_of false at (byte ∷ text) = closing_of (byte == quote) (at + 1) text

-- how many bytes stand in front of the end of a field without quotes
abbrev pub plain_length : ℕ → List ℕ → ℕ
plain_length mark [] = 0
plain_length mark (byte ∷ text) = if ends mark byte then 0 else suc (plain_length mark text)

-- what follows the byte that ends a field, with which a text begins
abbrev pub behind_mark : List ℕ → Option (List ℕ)
behind_mark [] = None
behind_mark (byte ∷ text) = Some text

-- ---- a call

-- The next field is taken, at the end none.
abbrev pub Takes : Record → Next → Record → Type 0
Takes old (next.Field field) new = old ≡ with_field (raw_text field) new
Takes old next.End new = old ≡ ended
Takes old next.Broken new = old ≡ broken
