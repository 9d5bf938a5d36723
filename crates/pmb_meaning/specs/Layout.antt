-- What a table says of the fields of a command's data.
use Rattle.std.specs.Prelude.{ℕ, List}
use Rattle.pmb_meaning.specs.Field.{Said}
use Rattle.pmb_meaning.specs.declared.layout.Way.{Way}

-- a number that a field may have, and what it says
pub record NamedValue : Type 0 where
  pub number : ℕ
  pub value : Said

abbrev pub is : ℕ → Said → NamedValue
is number value = record { number = number; value = value }

-- What the bits of a field say, as a number:
pub data Sense : Type 0 where
  -- yes if it is 1
  flag : Sense
  -- a number in two's complement
  signed : Sense
  -- the number, but some are named
  number_or : List NamedValue → Sense
  -- some are named, and others are reserved
  choice : List NamedValue → Sense
  -- a command code
  command_code : Sense
  -- a status register in the low byte, and some of its bits in the high byte
  mask : Sense

-- when there is the field
pub data Condition : Type 0 where
  always : Condition
  -- if other bits, counted as those of the field, are one of these numbers
  among : ℕ → ℕ → List ℕ → Condition

-- A field: its name, its lowest bit, how many bits it has, what they say, and when.
pub record FieldRow : Type 0 where
  pub key : List ℕ
  pub low : ℕ
  pub width : ℕ
  pub sense : Sense
  pub condition : Condition

abbrev pub row : List ℕ → ℕ → ℕ → Sense → FieldRow
row key low width sense =
    record { key = key; low = low; width = width; sense = sense; condition = always }

abbrev pub row_if : Condition → List ℕ → ℕ → ℕ → Sense → FieldRow
row_if condition key low width sense =
    record { key = key; low = low; width = width; sense = sense; condition = condition }

-- The fields of a command's data of some length that go in some way.
pub record CommandLayout : Type 0 where
  pub code : ℕ
  pub way : Way
  pub rows : List FieldRow

abbrev pub layout : ℕ → Way → List FieldRow → CommandLayout
layout code way rows = record { code = code; way = way; rows = rows }
