-- Where a lexer stands in a text.
use Rattle.std.specs.Prelude.{◌≡◌, ℕ, true, false, Some, List, [], ◌∷◌}
use Rattle.pmb_bus.specs.declared.event.Event.{Event}
use Rattle.pmb_bus.specs.declared.event.Event.TheVariants.{Byte}
use Rattle.pmb_bus.specs.declared.lexer.LexFault.{LexFault}
use Rattle.pmb_bus.specs.declared.lexer.LexerState.{LexerState}
use Rattle.pmb_bus.specs.declared.lexer.LexerState.TheVariants as places
use Rattle.pmb_bus.specs.declared.lexer.Lexer.{Lexer}
use Rattle.pmb_bus.specs.Count.{capped}
use Rattle.pmb_bus.specs.Event.{event_of}
use Rattle.pmb_bus.specs.Text.{ends_in_comment, open_word, EndsBetween, WordBeginsAt, EndedWordsSpell, BeginsText}

-- what each place of a lexer says of the text
abbrev pub IsPlace : LexerState → ℕ → List ℕ → Type 0
IsPlace places.Between n text = EndsBetween text
IsPlace places.Comment n text = (open_word text ≡ []) × (ends_in_comment text ≡ true)
IsPlace (places.One at first) n text = (open_word text ≡ first ∷ []) × (ends_in_comment text ≡ false)
    × WordBeginsAt n text at
IsPlace (places.Two at byte) n text =
    (a : ℕ) × (b : ℕ) × (open_word text ≡ a ∷ b ∷ []) × (event_of (a ∷ b ∷ []) ≡ Some (Byte byte))
    × (ends_in_comment text ≡ false) × WordBeginsAt n text at
IsPlace (places.Faulted fault) n text = ⊥

-- A lexer stands at a text: n bytes of it were given since `new` (a `finish` counts as a space of
-- no bytes), and the words that have ended in it are the tokens of the events.
pub record LexerStandsAt (lexer : Lexer) (n : ℕ) (text : List ℕ) (events : List Event) : Type 0 where
  pub ended : EndedWordsSpell text events
  pub begins : BeginsText text
  pub counted : lexer.used ≡ capped n
  pub place : IsPlace lexer.place n text

-- a lexer has met a fault, which it answers from then on
pub record IsFaulted (lexer : Lexer) (fault : LexFault) : Type 0 where
  pub kept : lexer.place ≡ places.Faulted fault
