-- How many bytes a field may take at most, as a member and in words.
use Rattle.std.specs.Prelude.{ℕ, ◌+◌, ◌*◌, List, [], ◌∷◌, length}
use Rattle.pmb_meaning.specs.Field.{Said, word, number, truth, words, masked, hex, SaidField}

abbrev pub words_room : List (List ℕ) → ℕ
words_room [] = 0
words_room (name ∷ more) = (3 + 6 * length name) + words_room more

-- with the key and what stands around it
abbrev pub said_room : Said → ℕ
said_room (word text) = 22 + 6 * length text
said_room (number n) = 31
said_room (truth holds) = 25
said_room (words names) = 24 + words_room names
-- eight names of 32 characters
said_room (masked register byte) = 24 + 8 * 195
said_room (hex all) = 24 + 3 * length all

abbrev pub fields_room : List SaidField → ℕ
fields_room [] = 0
fields_room (f ∷ more) = said_room f.value + fields_room more
