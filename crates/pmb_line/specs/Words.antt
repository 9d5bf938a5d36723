-- The words of a line, and where they stand.
use Rattle.std.specs.Prelude.{ℕ, ◌+◌, ◌==◌, ◌||◌, Bool, Option, Some, None, if◌then◌else◌, nat_lt, List, [], ◌∷◌}
use Rattle.std.specs.Prelude.{length, map}
use Rattle.pmb_bus.specs.Event.{character}

-- A line without the CR at its end; of two, the other one stays.
abbrev pub without_cr : List ℕ → List ℕ
without_cr [] = []
without_cr (b ∷ []) = if b == character "\r" then [] else (b ∷ [])
without_cr (b ∷ c ∷ rest) = b ∷ without_cr (c ∷ rest)

-- spaces and tabs separate words
abbrev pub is_blank : ℕ → Bool
is_blank b = b == character " " || b == character "\t"

-- a comment begins, up to the end of the line
abbrev pub is_comment : ℕ → Bool
is_comment b = b == character "#"

-- a word, and the offset of its first byte
pub record Word : Type 0 where
  pub at : ℕ
  pub text : List ℕ

-- Words with one byte more in front, at the offset `at`: it lengthens a word that begins directly
-- after it, or is a word alone.
abbrev pub lengthened : ℕ → ℕ → List Word → List Word
lengthened at b [] = record { at = at; text = b ∷ [] } ∷ []
lengthened at b (word ∷ words) =
    if word.at == at + 1 then record { at = at; text = b ∷ word.text } ∷ words else record { at = at; text = b ∷ [] }
    ∷ word ∷ words

-- the words of a text whose first byte has the offset `at`
abbrev pub words_from : ℕ → List ℕ → List Word
words_from at [] = []
words_from at (b ∷ rest) =
    if is_comment b then [] else
    if is_blank b then words_from (at + 1) rest else
    lengthened at b (words_from (at + 1) rest)

-- the words of a line
abbrev pub line_words : List ℕ → List Word
line_words line = words_from 0 (without_cr line)

-- their texts
abbrev pub texts : List Word → List (List ℕ)
texts ws = map (λ w. w.text) ws

-- the first word that begins at an offset or after it
abbrev pub word_behind : ℕ → List Word → Option Word
word_behind from [] = None
word_behind from (word ∷ words) = if nat_lt word.at from then word_behind from words else Some word

-- where a word begins and ends: the offset of its first byte, and that after its last
abbrev pub bounds : Word → ℕ × ℕ
bounds word = (word.at, word.at + length word.text)
