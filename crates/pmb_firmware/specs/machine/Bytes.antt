-- What one byte more makes of a lexer's numbers.
use Rattle.std.specs.Prelude.{◌≡◌, ℕ, ◌+◌, ◌≤◌, ◌==◌, ◌||◌, Bool, false, not, if◌then◌else◌, List, length}
use Rattle.pmb_bus.specs.Count.{capped}
use Rattle.pmb_bus.specs.Event.{character}
use Rattle.pmb_bus.specs.Text.{ends_in_comment, is_separator, open_word, WordBeginsAt}
use Rattle.pmb_firmware.specs.declared.lexer.PmbLexer.{PmbLexer}
use Rattle.pmb_firmware.specs.machine.Standing.{IsPlace}

-- whether a word can have a byte: it is no separator, and begins no comment
abbrev pub is_of_word : ℕ → Bool
is_of_word b = not (is_separator b || b == character "#")

-- after one more byte of a word
abbrev pub longer : PmbLexer → ℕ → PmbLexer
longer lexer b =
    if lexer.place == 0 then record lexer { place = 2; at = lexer.used; first = b } else (
    if lexer.place == 2 then record lexer { place = 3; second = b } else
    record lexer { place = 4 })

-- where it goes over a byte, not counted
abbrev pub over : PmbLexer → ℕ → PmbLexer
over lexer b =
    if lexer.place == 1 then (if b == character "\n" then record lexer { place = 0 } else lexer) else (
    if b == character "#" then record lexer { place = 1 } else (
    if is_separator b then record lexer { place = 0 } else longer lexer b))

abbrev pub behind : PmbLexer → ℕ → PmbLexer
behind lexer b = record (over lexer b) { used = capped (lexer.used + 1) }

-- a word of more than two bytes is under way
pub record IsLong (lexer : PmbLexer) (n : ℕ) (text : List ℕ) : Type 0 where
  pub place : lexer.place ≡ 4
  pub long : 3 ≤ length (open_word text)
  pub outside : ends_in_comment text ≡ false
  pub at : WordBeginsAt n text lexer.at

-- what the numbers say of the end of a text of n bytes, of which some may be no text's
pub data IsEnd (lexer : PmbLexer) (n : ℕ) (text : List ℕ) : Type 0 where
  short : lexer.used ≡ capped n → IsPlace lexer n text → IsEnd lexer n text
  long : lexer.used ≡ capped n → IsLong lexer n text → IsEnd lexer n text

-- the word under way is no token
abbrev pub faulted : PmbLexer → PmbLexer
faulted lexer =
    if (lexer.place == 0) || (lexer.place == 1) then record lexer { place = 4; at = lexer.used }
    else record lexer { place = 4 }
