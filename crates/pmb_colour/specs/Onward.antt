-- What goes on of all that a writer was told since it holds anything.
use Rattle.std.specs.Prelude.{ℕ, Option, Some, None, List, [], ◌∷◌, ◌++◌}
use Rattle.pmb_colour.specs.declared.lines.Lines.{Lines}
use Rattle.pmb_colour.specs.Painting.{Held, held_after, nothing_held, pieces_of}
use Rattle.pmb_colour.specs.Pieces.{Piece, plain}

-- The pieces that have gone on: those of whole lines, where lines are painted, and else the text as it is.
abbrev pub told_pieces : Option Lines → List ℕ → List Piece
told_pieces None text = plain text ∷ []
told_pieces (Some lines) text = pieces_of lines nothing_held text

-- what is held of the line under way
abbrev pub told_held : Option Lines → List ℕ → Held
told_held None text = nothing_held
told_held (Some lines) text = held_after nothing_held text

-- all pieces of a text that has ended, where what is held goes on as it is
abbrev pub all_pieces : Option Lines → List ℕ → List Piece
all_pieces lines text = told_pieces lines text ++ plain (told_held lines text).line ∷ []
