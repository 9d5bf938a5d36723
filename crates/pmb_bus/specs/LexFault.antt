-- Which word a fault is of: the first of a text that is no token.
use Rattle.std.specs.Prelude.{◌≡◌, ℕ, ◌+◌, List, length}
use Rattle.pmb_bus.specs.declared.event.Event.{Event}
use Rattle.pmb_bus.specs.declared.lexer.LexFault.{LexFault}
use Rattle.pmb_bus.specs.declared.lexer.LexFault.TheVariants.{BadToken}
use Rattle.pmb_bus.specs.Text.{open_word, WordBeginsAt, FirstBadWord}

-- the fault of the word under way at the end of a text
abbrev pub IsFaultOf : ℕ → List ℕ → LexFault → Type 0
IsFaultOf n text (BadToken at) = WordBeginsAt n text at

-- The word under way at the end of the part of a text that was used is the text's first that is no
-- token.
abbrev pub OpenWordIsBad : List ℕ → List ℕ → List Event → Type 0
OpenWordIsBad used text events = (place : ℕ) × (place + length (open_word used) ≡ length used)
    × FirstBadWord text events place
