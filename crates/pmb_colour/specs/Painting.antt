-- What goes out of a text that is told byte by byte.
use Rattle.std.specs.Prelude.{ℕ, ◌==◌, ◌&&◌, ◌||◌, Bool, false, not, nat_lt, if◌then◌else◌, List, [], ◌∷◌, ◌++◌, length}
use Rattle.pmb_colour.specs.declared.lines.Lines.{Lines}
use Rattle.pmb_colour.specs.declared.lines.Lines.TheVariants.{Log, Table}
use Rattle.pmb_colour.specs.Log.{log_pieces}
use Rattle.pmb_colour.specs.Pieces.{Piece, has_escape, plain}
use Rattle.pmb_colour.specs.Table.{table_pieces}

-- ---- a line

abbrev pub of_lines : Lines → List ℕ → List Piece
of_lines Log line = log_pieces line
of_lines Table line = table_pieces line

-- the pieces of a whole line, without its LF; a line with ESC in it has no colour
abbrev pub line_pieces : Lines → List ℕ → List Piece
line_pieces lines line = if has_escape line then plain line ∷ [] else of_lines lines line

-- ---- a text

-- the most bytes of a line that has a colour
abbrev pub most : ℕ
most = 3072

-- the line under way as far as it is held, and whether its front went out already
pub record Held : Type 0 where
  pub line : List ℕ
  pub is_rest : Bool

abbrev pub nothing_held : Held
nothing_held = record { line = []; is_rest = false }

abbrev pub is_end : ℕ → Bool
is_end byte = byte == 0x0a

-- Whether a byte goes out as it is, and what is held before it: in a line whose front went out, and in one that would
-- be too long.
abbrev pub passes : Held → ℕ → Bool
passes held byte = held.is_rest || (not (is_end byte) && not (nat_lt (length held.line) most))

-- the pieces that go out with a byte
abbrev pub byte_pieces : Lines → Held → ℕ → List Piece
byte_pieces lines held byte =
    if passes held byte then plain held.line ∷ plain (byte ∷ []) ∷ [] else
    if is_end byte then line_pieces lines held.line ++ plain (byte ∷ []) ∷ [] else
    []

-- what is held after it
abbrev pub held_with : Held → ℕ → Held
held_with held byte =
    if passes held byte then record { line = []; is_rest = not (is_end byte) } else
    if is_end byte then nothing_held else
    record { line = held.line ++ byte ∷ []; is_rest = false }

-- the pieces that go out with a text, and what is held after it
abbrev pub pieces_of : Lines → Held → List ℕ → List Piece
pieces_of lines held [] = []
pieces_of lines held (byte ∷ text) = byte_pieces lines held byte ++ pieces_of lines (held_with held byte) text

abbrev pub held_after : Held → List ℕ → Held
held_after held [] = held
held_after held (byte ∷ text) = held_after (held_with held byte) text
