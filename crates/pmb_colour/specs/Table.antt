-- The colours of a line of the table of `stats`.
use Rattle.std.specs.Prelude.{ℕ, ◌||◌, min, if◌then◌else◌, Option, Some, None, List, [], ◌∷◌, codes, drop}
use Rattle.std.specs.Prelude.{length, map, take}
use Rattle.pmb_colour.specs.declared.colour.Colour.{Colour}
use Rattle.pmb_colour.specs.declared.colour.Colour.TheVariants.{Red, Yellow}
use Rattle.pmb_colour.specs.declared.cut.Cut.TheVariants.{Cells, Words}
use Rattle.pmb_colour.specs.Bits.{bit_colour}
use Rattle.pmb_colour.specs.Cut.{cut_from, first}
use Rattle.pmb_colour.specs.Log.{begins}
use Rattle.pmb_colour.specs.Pieces.{Piece, in_colour, plain}

-- ---- counts

abbrev pub count_colour : List ℕ → Option Colour
count_colour cell =
    if begins (codes "refusals ") cell || begins (codes "bad tokens ") cell then Some Red else
    if begins (codes "nacks ") cell then Some Yellow else
    None

abbrev pub count_piece : List ℕ → Piece
count_piece cell = in_colour (count_colour cell) cell

-- ---- lines of bits and of numbers

-- where the command's column begins: behind that of phases, if there is one, which begins with blanks
abbrev pub command_place : List ℕ → ℕ
command_place line = min (length line) (if begins (codes " ") (drop (min (length line) 8) line) then 15 else 8)

-- what stands behind the command, in a bit's line its name, and in a number's its count, and what follows
abbrev pub behind_pieces : List ℕ → List Piece
behind_pieces line =
    in_colour (bit_colour (first Words line)) (first Words line) ∷ plain (drop (length (first Words line)) line) ∷ []

abbrev pub command_pieces : List ℕ → List Piece
command_pieces line = plain (first Cells line) ∷ behind_pieces (drop (length (first Cells line)) line)

abbrev pub row_pieces : List ℕ → List Piece
row_pieces line = plain (take (command_place line) line) ∷ command_pieces (drop (command_place line) line)

-- ---- a line

-- Counts stand in the line of the whole, and in lines that begin with two blanks; lines of bits and of numbers begin
-- with three.
abbrev pub table_pieces : List ℕ → List Piece
table_pieces line =
    if begins (codes "   ") line then row_pieces line else
    if begins (codes "total  ") line || begins (codes "  ") line then map count_piece (cut_from Cells [] line) else
    plain line ∷ []
