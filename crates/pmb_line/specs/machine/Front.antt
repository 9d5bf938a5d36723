-- The first word of a text.
use Rattle.std.specs.Prelude.{◌≡◌, ℕ, ◌+◌, ◌<◌, ◌≤◌, true, Some, List, ◌∷◌, drop, length, map, slice_index}
use Rattle.pmb_line.specs.Words.{words_from}
use Rattle.pmb_line.specs.declared.front_word.FrontWord.{FrontWord}
use Rattle.pmb_line.specs.declared.token.Token.TheVariants.{Byte}
use Rattle.pmb_line.specs.machine.Reading.{ends_line_word, located}

-- a text at whose front a word ends
abbrev pub EndsWord : List ℕ → Type 0
EndsWord text = 0 < length text → ends_line_word (slice_index text 0) ≡ true

-- The words of the text are this one and those after its end.
pub record IsFront (text : List ℕ) (front : FrontWord) : Type 0 where
  pub ordered : front.start ≤ front.end
  pub within : front.end ≤ length text
  pub first : (at : ℕ) → map located (words_from at text) ≡ record { at = at + front.start; token = Some front.token }
      ∷ map located (words_from (at + front.end) (drop front.end text))

-- a byte of two digits after a space
abbrev pub common_byte : ℕ → FrontWord
common_byte byte = record { start = 1; end = 3; token = Byte byte }
