-- Columns by their numbers, and what tells them from one another.
use Rattle.std.specs.Prelude.{ℕ, ◌+◌, ◌-◌, ◌*◌, ◌/◌, ◌%◌, ◌&&◌, nat_le, nat_lt, Option, Some, None, if◌then◌else◌}
use Rattle.std.specs.Prelude.{List, [], ◌∷◌}
use Rattle.pmb_words.specs.Numbers.{decimal_of}

-- A line has no more bytes than this, so no name stands in a column behind so many.
abbrev pub most_columns : ℕ
most_columns = 65536

-- the column of a number, counted from 0: `1` is the first
abbrev pub column_if : ℕ → Option ℕ
column_if number = if nat_lt 0 number && nat_le number most_columns then Some (number - 1) else None

abbrev pub column_by : Option ℕ → Option ℕ
column_by (Some number) = column_if number
column_by None = None

abbrev pub number_of : List ℕ → Option ℕ
number_of name = column_by (decimal_of name)

-- ---- what tells a column: no name and no number has one that is over 65535

abbrev pub id_of : ℕ → List ℕ
id_of column = column / 256 % 256 ∷ column % 256 ∷ []

abbrev pub column_of : List ℕ → ℕ
column_of [] = 0
column_of (byte ∷ []) = 0
column_of (high ∷ low ∷ []) = high * 256 + low
column_of (high ∷ low ∷ more ∷ bytes) = 0
