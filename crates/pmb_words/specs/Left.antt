-- What is left of the words of a text.
use Rattle.std.specs.Prelude.{ℕ, List}
use Rattle.std.specs.Prelude.{option_copied}
use Rattle.std.specs.Prelude.{◌≡◌, ◌∷◌}
use Rattle.pmb_words.specs.Parts.{blank, from_first, pieces, pieces_behind, with_bytes, words}
use Rattle.pmb_words.specs.declared.words.Pieces.{Pieces}
use Rattle.pmb_words.specs.declared.words.Words.{Words}

abbrev pub words_left : Words → List (List ℕ)
words_left left = words left.rest.now

-- the pieces from the next word on
abbrev pub from_next : Words → List (List ℕ)
from_next left = from_first (pieces blank left.rest.now)

-- A word was taken, and what follows it is left.
pub record TakesWord (word : List ℕ) (old new : Words) : Type 0 where
  -- the pieces that follow it
  pub behind : List (List ℕ)
  pub whole : from_next old ≡ word ∷ behind
  pub left : from_next new ≡ from_first behind
  pub words : words_left new ≡ with_bytes behind

-- the pieces that are left
abbrev pub pieces_left : Pieces → List (List ℕ)
pieces_left left = pieces_behind blank (option_copied left.rest)
