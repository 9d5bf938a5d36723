-- The words of a line of a VCD, which stand between blanks and TABs.
use Rattle.std.specs.Prelude.{ℕ, ◌==◌, ◌||◌, false, not, Bool, if◌then◌else◌, List, [], ◌∷◌}

abbrev pub is_blank : ℕ → Bool
is_blank byte = byte == 32 || byte == 9

-- whether a text begins with a word
abbrev pub begins_word : List ℕ → Bool
begins_word [] = false
begins_word (byte ∷ text) = not (is_blank byte)

-- one more byte in front of the first word
abbrev pub longer : ℕ → List (List ℕ) → List (List ℕ)
longer byte [] = (byte ∷ []) ∷ []
longer byte (word ∷ others) = (byte ∷ word) ∷ others

abbrev pub words : List ℕ → List (List ℕ)
words [] = []
words (byte ∷ text) =
    if is_blank byte then words text else
    if begins_word text then longer byte (words text) else (byte ∷ []) ∷ words text

-- a text behind the blanks with which it begins
abbrev pub behind_blanks : List ℕ → List ℕ
behind_blanks [] = []
behind_blanks (byte ∷ text) = if is_blank byte then behind_blanks text else byte ∷ text

-- the word with which a text begins
abbrev pub word_at : List ℕ → List ℕ
word_at [] = []
word_at (byte ∷ text) = if is_blank byte then [] else byte ∷ word_at text
