-- Characters by the texts that show them.
use Rattle.std.specs.Prelude.{ℕ, List, [], ◌∷◌, codes}

-- the first character of a text
abbrev pub first : List ℕ → ℕ
first [] = 0
first (c ∷ cs) = c

abbrev pub minus_sign : ℕ
minus_sign = first (codes "-")

abbrev pub decimal_point : ℕ
decimal_point = first (codes ".")

abbrev pub slash_mark : ℕ
slash_mark = first (codes "/")

abbrev pub zero_digit : ℕ
zero_digit = first (codes "0")
