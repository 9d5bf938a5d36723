-- What is left of a line, word by word.
use Rattle.std.specs.Prelude.{ℕ, ◌+◌, List, length}
use Rattle.pmb_line.specs.declared.words.TextWord.{TextWord}
use Rattle.pmb_line.specs.declared.words.Words.{Words}
use Rattle.pmb_line.specs.Words.{Word, words_from}

-- a word as it is taken
abbrev pub text_word : TextWord → Word
text_word word = record { at = word.at; text = word.text.now }

-- the words that are left
abbrev pub words_left : Words → List Word
words_left w = words_from w.at w.rest.now

-- where the line ends: after its last byte, that of a comment too
abbrev pub end : Words → ℕ
end w = w.at + length w.rest.now
