-- Texts cut at a byte, and the words of a text.
use Rattle.std.specs.Prelude.{ℕ, ◌==◌, Option, Some, None, if◌then◌else◌, List, [], ◌∷◌, slice_index}
use Rattle.std.specs.Prelude.{codes}

-- the byte of a blank
abbrev pub blank : ℕ
blank = slice_index (codes " ") 0

-- what stands in front of a byte, and what follows it, where the byte is there
pub record Parted : Type 0 where
  pub front : List ℕ
  pub rest : Option (List ℕ)

-- A text at its first such byte: `front` is all of it where it has none.
abbrev pub parted : ℕ → List ℕ → Parted
parted at [] = record { front = []; rest = None }
parted at (byte ∷ bytes) =
    if byte == at then record { front = []; rest = Some bytes } else
    record { front = byte ∷ (parted at bytes).front; rest = (parted at bytes).rest }

-- ---- words

-- one more byte in front of some pieces, which are one at least
abbrev pub longer : ℕ → List (List ℕ) → List (List ℕ)
longer byte [] = (byte ∷ []) ∷ []
longer byte (piece ∷ pieces) = (byte ∷ piece) ∷ pieces

-- the pieces of a text between such bytes: one where it has none of them
abbrev pub pieces : ℕ → List ℕ → List (List ℕ)
pieces at [] = [] ∷ []
pieces at (byte ∷ bytes) = if byte == at then [] ∷ pieces at bytes else longer byte (pieces at bytes)

-- those that are not empty
abbrev pub with_bytes : List (List ℕ) → List (List ℕ)
with_bytes [] = []
with_bytes ([] ∷ rest) = with_bytes rest
with_bytes ((byte ∷ bytes) ∷ rest) = (byte ∷ bytes) ∷ with_bytes rest

-- the words of a text, of which each stands between blanks, the text's start and its end
abbrev pub words : List ℕ → List (List ℕ)
words text = with_bytes (pieces blank text)

-- those from the first word on
abbrev pub from_first : List (List ℕ) → List (List ℕ)
from_first [] = []
from_first ([] ∷ rest) = from_first rest
from_first ((byte ∷ word) ∷ rest) = (byte ∷ word) ∷ rest

-- those that follow a piece
abbrev pub pieces_behind : ℕ → Option (List ℕ) → List (List ℕ)
pieces_behind at (Some rest) = pieces at rest
pieces_behind at None = []

-- ---- what a text begins with

-- what follows a text at the start of another, or nothing where that doesn't begin so
abbrev pub after : List ℕ → List ℕ → Option (List ℕ)
after [] text = Some text
after (byte ∷ front) [] = None
after (byte ∷ front) (other ∷ text) = if byte == other then after front text else None
