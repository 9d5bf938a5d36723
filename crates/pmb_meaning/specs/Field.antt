-- A field of a command's data: its name, and what it says.
use Rattle.std.specs.Prelude.{ℕ, ℤ, Bool, List, [], ◌∷◌, map}
use Rattle.std.specs.Borrow.{Bor}
use Rattle.arrayvec.specs.ArrayVec.{ArrayVec}
use Rattle.pmb_meaning.specs.declared.field.Field.{Field}
use Rattle.pmb_meaning.specs.declared.field.Value.{Value}
use Rattle.pmb_meaning.specs.declared.field.Value.TheVariants.{Word, Number, Truth, Words, Bits, Code, Bytes}

pub data Said : Type 0 where
  word : List ℕ → Said
  number : ℤ → Said
  truth : Bool → Said
  words : List (List ℕ) → Said
  -- the bits that a byte has of the status register with a code
  masked : ℕ → ℕ → Said
  hex : List ℕ → Said

pub record SaidField : Type 0 where
  pub key : List ℕ
  pub value : Said

abbrev pub field : List ℕ → Said → SaidField
field key value = record { key = key; value = value }

-- ---- what contracts see of a value and of a field of the code

abbrev pub texts : List (Bor (List ℕ)) → List (List ℕ)
texts names = map (λ name. name.now) names

abbrev pub value_parts : Value → Said
value_parts (Word text) = word text.now
value_parts (Number n) = number n
value_parts (Truth holds) = truth holds
value_parts (Words names) = words (texts names.now)
value_parts (Bits register mask) = masked register mask
value_parts (Code byte) = hex (byte ∷ [])
value_parts (Bytes all) = hex all.now

abbrev pub field_parts : Field → SaidField
field_parts f = field f.key.now (value_parts f.value)

abbrev pub all_parts : List Field → List SaidField
all_parts fields = map field_parts fields

abbrev pub fields_parts : ArrayVec Field → List SaidField
fields_parts fields = all_parts fields.items
