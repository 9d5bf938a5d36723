-- Pieces of a text, each with its colour, and what a terminal is sent for them.
use Rattle.std.specs.Prelude.{ℕ, ◌==◌, Bool, true, false, Option, Some, None, if◌then◌else◌, List, [], ◌∷◌, ◌++◌, codes}
use Rattle.std.specs.List.{flat_map, list_any}
use Rattle.pmb_colour.specs.declared.colour.Colour.{Colour}
use Rattle.pmb_colour.specs.declared.colour.Colour.TheVariants.{Red, Yellow}

-- ---- sequences

-- ESC, with which each sequence begins
abbrev pub escape : ℕ
escape = 0x1b

abbrev pub is_escape : ℕ → Bool
is_escape byte = byte == escape

-- whether a text has a byte that could begin a sequence
abbrev pub has_escape : List ℕ → Bool
has_escape text = list_any is_escape text

-- what sets the colour of the text that follows
abbrev pub sequence : Colour → List ℕ
sequence Red = escape ∷ codes "[31m"
sequence Yellow = escape ∷ codes "[33m"

-- what ends it
abbrev pub reset : List ℕ
reset = escape ∷ codes "[0m"

-- ---- pieces

-- a piece of a text, in a colour or in none
pub record Piece : Type 0 where
  pub colour : Option Colour
  pub text : List ℕ

abbrev pub plain : List ℕ → Piece
plain text = record { colour = None; text = text }

abbrev pub in_colour : Option Colour → List ℕ → Piece
in_colour colour text = record { colour = colour; text = text }

-- what is sent for a text in a colour
abbrev pub painted : Option Colour → List ℕ → List ℕ
painted None text = text
painted (Some colour) text = sequence colour ++ text ++ reset

abbrev pub piece_shown : Piece → List ℕ
piece_shown piece = painted piece.colour piece.text

abbrev pub piece_text : Piece → List ℕ
piece_text piece = piece.text

-- what is sent for pieces, and their texts
abbrev pub shown : List Piece → List ℕ
shown pieces = flat_map piece_shown pieces

abbrev pub texts : List Piece → List ℕ
texts pieces = flat_map piece_text pieces

-- ---- the sequences taken out

-- What a text is without its sequences: ESC begins one, which ends with `m`. `inside` says whether one has begun.
abbrev pub taken_out : (inside : Bool) → List ℕ → List ℕ
taken_out inside [] = []
taken_out true (byte ∷ text) = taken_out (if byte == 0x6d then false else true) text
taken_out false (byte ∷ text) = if is_escape byte then taken_out true text else byte ∷ taken_out false text
