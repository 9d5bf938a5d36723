-- What one byte more comes to.
use Rattle.std.specs.Prelude.{◌≡◌, ◌⊎◌, ℕ, ◌+◌, ◌==◌, if◌then◌else◌, true, Option, Some, None, Result, Ok, Err, List}
use Rattle.std.specs.Prelude.{[], ◌∷◌, ◌++◌, codes}
use Rattle.pmb_bus.specs.declared.event.Event.{Event}
use Rattle.pmb_bus.specs.declared.lexer.LexFault.{LexFault}
use Rattle.pmb_bus.specs.declared.lexer.Step.{Step}
use Rattle.pmb_bus.specs.declared.lexer.Step.TheVariants as answers
use Rattle.pmb_bus.specs.declared.lexer.LexerState.{LexerState}
use Rattle.pmb_bus.specs.declared.lexer.LexerState.TheVariants as places
use Rattle.pmb_bus.specs.declared.lexer.Lexer.{Lexer}
use Rattle.pmb_bus.specs.Event.{character, event_of}
use Rattle.pmb_bus.specs.Text.{is_word, open_word, BeginsText}
use Rattle.pmb_bus.specs.LexFault.{IsFaultOf, OpenWordIsBad}
use Rattle.pmb_bus.specs.machine.Standing.{IsPlace, LexerStandsAt, IsFaulted}

-- some token begins with a word: the word itself, or that and a digit 0
abbrev pub BeginsToken : List ℕ → Type 0
BeginsToken word = (event : Event) × ((event_of word ≡ Some event) ⊎ (event_of (word ++ codes "0") ≡ Some event))

-- the place after a byte that ends a word
abbrev pub place_behind_word : ℕ → LexerState
place_behind_word byte = if byte == character "#" then places.Comment else places.Between

-- what the word under way at the end of a text comes to if it ends there: there is none, its event,
-- or a fault
abbrev pub OpenWordComesTo : ℕ → List ℕ → Result (Option Event) LexFault → Type 0
OpenWordComesTo n text (Ok None) = open_word text ≡ []
OpenWordComesTo n text (Ok (Some event)) = event_of (open_word text) ≡ Some event
OpenWordComesTo n text (Err fault) = (is_word (open_word text) ≡ true) × (event_of (open_word text) ≡ None)
    × IsFaultOf n text fault

-- what one more byte of a word comes to: a place after it, where some token begins so, or a fault,
-- since no token does
abbrev pub Lengthens : ℕ → List ℕ → ℕ → Result LexerState LexFault → Type 0
Lengthens n text byte (Ok place) = IsPlace place (n + 1) (text ++ byte ∷ []) × BeginsToken (open_word text ++ byte ∷ [])
Lengthens n text byte (Err fault) = ((more : List ℕ) → event_of (open_word text ++ byte ∷ more) ≡ None)
    × IsFaultOf n text fault

-- With one more byte no text that spells events begins so.
pub record Stops (n : ℕ) (text : List ℕ) (events : List Event) (byte : ℕ) (after : Lexer)
    (fault : LexFault) : Type 0 where
  pub stops : BeginsText (text ++ byte ∷ []) → ⊥
  pub at : IsFaultOf n text fault
  pub bad : (more : List ℕ) → OpenWordIsBad text (text ++ byte ∷ more) events
  pub faulted : IsFaulted after fault

-- what one byte more comes to for a lexer that stands at a text
abbrev pub Steps : ℕ → List ℕ → List Event → ℕ → Step → Lexer → Type 0
Steps n text events byte answers.Need after = LexerStandsAt after (n + 1) (text ++ byte ∷ []) events
Steps n text events byte (answers.Event event) after = LexerStandsAt after (n + 1) (text ++ byte ∷ [])
    (events ++ event ∷ [])
Steps n text events byte (answers.Fault fault) after = Stops n text events byte after fault
