-- A line cut into cells, between which at least two blanks stand, and into words.
use Rattle.std.specs.Prelude.{ℕ, ◌==◌, ◌&&◌, Bool, not, nat_eq, if◌then◌else◌, List, [], ◌∷◌, ◌++◌, codes}
use Rattle.std.specs.List.{ends_with}
use Rattle.pmb_colour.specs.declared.cut.Cut.{Cut}
use Rattle.pmb_colour.specs.declared.cut.Cut.TheVariants.{Cells, Words}

abbrev pub is_blank : ℕ → Bool
is_blank byte = byte == 0x20

-- Whether a piece ends before a byte. The blanks behind a cell are part of it; those behind a word are a piece of their
-- own.
abbrev pub ends : Cut → List ℕ → ℕ → Bool
ends Cells piece byte = not (is_blank byte) && ends_with nat_eq piece (codes "  ")
ends Words piece byte = if is_blank byte then not (ends_with nat_eq piece (codes " ")) else ends_with nat_eq piece (codes " ")

-- the pieces of a text, of which the first begins with these bytes
abbrev pub cut_from : Cut → List ℕ → List ℕ → List (List ℕ)
cut_from at piece [] = piece ∷ []
cut_from at piece (byte ∷ text) =
    if ends at piece byte then piece ∷ cut_from at (byte ∷ []) text else cut_from at (piece ++ byte ∷ []) text

-- the first of them
abbrev pub first_from : Cut → List ℕ → List ℕ → List ℕ
first_from at piece [] = piece
first_from at piece (byte ∷ text) = if ends at piece byte then piece else first_from at (piece ++ byte ∷ []) text

abbrev pub first : Cut → List ℕ → List ℕ
first at text = first_from at [] text

-- ---- the last cell

-- the last cell of a line, the one before it, and what stands before both
pub record Parts : Type 0 where
  pub front : List ℕ
  pub cell : List ℕ
  pub tail : List ℕ

abbrev pub parts_from : Parts → List ℕ → Parts
parts_from parts [] = parts
parts_from parts (byte ∷ text) =
    if ends Cells parts.tail byte
    then parts_from (record { front = parts.front ++ parts.cell; cell = parts.tail; tail = byte ∷ [] }) text
    else parts_from (record { front = parts.front; cell = parts.cell; tail = parts.tail ++ byte ∷ [] }) text

abbrev pub parts_of : List ℕ → Parts
parts_of line = parts_from (record { front = []; cell = []; tail = [] }) line
