-- What a lexer answers for a piece more of a text, and at its end: what `Lexer` of `pmb_bus` answers.
--
-- `StandsAt lexer n text events` says that since `new` the lexer was given the bytes of `text`, n in
-- number, and answered `events`: the tokens of these are the words that have ended in it, and some
-- text that spells events begins so. The end of the input stands in `text` as a space, and doesn't
-- count in n. What it says of the lexer's numbers is in `machine`.
use Rattle.std.specs.Prelude.{◌≡◌, ℕ, ◌+◌, ◌-◌, ◌<◌, ◌≤◌, Option, Some, None, Result, Ok, Err, List, [], ◌∷◌, ◌++◌}
use Rattle.std.specs.Prelude.{length, take, codes}
use Rattle.pmb_bus.specs.declared.event.Event.{Event}
use Rattle.pmb_bus.specs.declared.lexer.LexFault.{LexFault}
use Rattle.pmb_bus.specs.declared.lexer.Step.{Step}
use Rattle.pmb_bus.specs.declared.lexer.Step.TheVariants as answers
use Rattle.pmb_bus.specs.Count.{capped}
use Rattle.pmb_bus.specs.LexFault.{IsFaultOf, OpenWordIsBad}
use Rattle.pmb_bus.specs.Text.{EndedWordsSpell, Spells, BeginsText}
use Rattle.pmb_firmware.specs.declared.lexer.PmbLexer.{PmbLexer}
pub use Rattle.pmb_firmware.specs.machine.Standing.{StandsAt, IsFaulted}

-- It stands at some text of n bytes, with no end of the input in it: what it answers from here on is what a
-- lexer answers that was given that text. Its `used` is n, or stays at the greatest u64, as StandsAt says.
pub record StandsSomewhere (lexer : PmbLexer) : Type 0 where
  pub n : ℕ
  pub text : List ℕ
  pub events : List Event
  pub long : n ≡ length text
  pub stands : StandsAt lexer n text events

-- `Need`: all of the piece is used, and no further word has ended.
pub record NeedsMore (n : ℕ) (text : List ℕ) (events : List Event) (piece : List ℕ) (used : ℕ)
    (after : PmbLexer) : Type 0 where
  pub all : used ≡ length piece
  pub stands : StandsAt after (n + used) (text ++ piece) events

-- `Event`: the last byte used ends the word of that event.
pub record EndsWord (n : ℕ) (text : List ℕ) (events : List Event) (piece : List ℕ) (used : ℕ) (after : PmbLexer)
    (event : Event) : Type 0 where
  pub some : 0 < used
  pub within : used ≤ length piece
  pub before : EndedWordsSpell (text ++ take (used - 1) piece) events
  pub stands : StandsAt after (n + used) (text ++ take used piece) (events ++ event ∷ [])

-- `Fault`: with the next byte, which is not used, no text that spells events begins so.
pub record Refuses (n : ℕ) (text : List ℕ) (events : List Event) (piece : List ℕ) (used : ℕ) (after : PmbLexer)
    (fault : LexFault) : Type 0 where
  pub within : used < length piece
  pub before : EndedWordsSpell (text ++ take used piece) events
  pub begins : BeginsText (text ++ take used piece)
  pub stops : BeginsText (text ++ take (used + 1) piece) → ⊥
  pub at : IsFaultOf (n + used) (text ++ take used piece) fault
  pub bad : (more : List ℕ) → OpenWordIsBad (text ++ take used piece) ((text ++ piece) ++ more) events
  pub counted : after.used ≡ capped (n + used)
  pub faulted : IsFaulted after fault

-- what `feed` answers for a piece to a lexer that stands at a text, and where it then stands
abbrev pub Feeds : ℕ → List ℕ → List Event → List ℕ → ℕ → Step → PmbLexer → Type 0
Feeds n text events piece used answers.Need after = NeedsMore n text events piece used after
Feeds n text events piece used (answers.Event event) after = EndsWord n text events piece used after event
Feeds n text events piece used (answers.Fault fault) after = Refuses n text events piece used after fault

-- what `finish` answers to a lexer that stands at a text: no word is under way, the word under way
-- ends, or it is no token
pub record FinishesBetween (n : ℕ) (text : List ℕ) (events : List Event) (after : PmbLexer) : Type 0 where
  pub spells : Spells text events
  pub stands : StandsAt after n (text ++ codes " ") events

pub record FinishesWord (n : ℕ) (text : List ℕ) (events : List Event) (after : PmbLexer) (event : Event) : Type 0 where
  pub spells : Spells text (events ++ event ∷ [])
  pub stands : StandsAt after n (text ++ codes " ") (events ++ event ∷ [])

pub record FinishRefuses (n : ℕ) (text : List ℕ) (events : List Event) (after : PmbLexer)
    (fault : LexFault) : Type 0 where
  pub spells_none : (others : List Event) → Spells text others → ⊥
  pub at : IsFaultOf n text fault
  pub bad : OpenWordIsBad text text events
  pub counted : after.used ≡ capped n
  pub faulted : IsFaulted after fault

abbrev pub Finishes : ℕ → List ℕ → List Event → Result (Option Event) LexFault → PmbLexer → Type 0
Finishes n text events (Ok None) after = FinishesBetween n text events after
Finishes n text events (Ok (Some event)) after = FinishesWord n text events after event
Finishes n text events (Err fault) after = FinishRefuses n text events after fault
