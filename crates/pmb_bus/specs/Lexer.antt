-- What a lexer answers for a piece more of a text, and at its end.
--
-- `LexerStandsAt lexer n text events` says that since `new` the lexer was given the bytes of
-- `text`, n in number, and answered `events`: the tokens of these are the words that have ended in
-- it, and some text that spells events begins so. The end of the input stands in `text` as a space,
-- and doesn't count in n. `IsFaulted lexer fault` says that the lexer has met a fault. What both
-- say of a lexer's own fields is in `machine`, and nothing here needs it to be understood.
use Rattle.std.specs.Prelude.{◌≡◌, ℕ, ◌+◌, ◌-◌, ◌<◌, ◌≤◌, true, Option, Some, None, Result, Ok, Err, List, [], ◌∷◌}
use Rattle.std.specs.Prelude.{◌++◌, length, take, drop, codes}
use Rattle.hex.specs.Hex.{is_hex_digit}
use Rattle.pmb_bus.specs.declared.event.Event.{Event}
use Rattle.pmb_bus.specs.declared.event.Event.TheVariants.{Byte, Ack}
use Rattle.pmb_bus.specs.declared.lexer.LexFault.{LexFault}
use Rattle.pmb_bus.specs.declared.lexer.Step.{Step}
use Rattle.pmb_bus.specs.declared.lexer.Step.TheVariants as answers
use Rattle.pmb_bus.specs.declared.lexer.Lexer.{Lexer}
use Rattle.pmb_bus.specs.Text.{EndedWordsSpell, Spells, BeginsText}
pub use Rattle.pmb_bus.specs.LexFault.{IsFaultOf, OpenWordIsBad}
pub use Rattle.pmb_bus.specs.machine.Standing.{LexerStandsAt, IsFaulted}

-- `Need`: all of the piece is used, and no further word has ended.
pub record NeedsMore (n : ℕ) (text : List ℕ) (events : List Event) (piece : List ℕ) (used : ℕ)
    (after : Lexer) : Type 0 where
  pub all : used ≡ length piece
  pub stands : LexerStandsAt after (n + used) (text ++ piece) events

-- `Event`: the last byte used ends the word of that event.
pub record EndsWord (n : ℕ) (text : List ℕ) (events : List Event) (piece : List ℕ) (used : ℕ) (after : Lexer)
    (event : Event) : Type 0 where
  pub some : 0 < used
  pub within : used ≤ length piece
  pub before : EndedWordsSpell (text ++ take (used - 1) piece) events
  pub stands : LexerStandsAt after (n + used) (text ++ take used piece) (events ++ event ∷ [])

-- `Fault`: with the next byte, which is not used, no text that spells events begins so.
pub record Refuses (n : ℕ) (text : List ℕ) (events : List Event) (piece : List ℕ) (used : ℕ) (after : Lexer)
    (fault : LexFault) : Type 0 where
  pub within : used < length piece
  pub before : EndedWordsSpell (text ++ take used piece) events
  pub begins : BeginsText (text ++ take used piece)
  pub stops : BeginsText (text ++ take (used + 1) piece) → ⊥
  pub at : IsFaultOf (n + used) (text ++ take used piece) fault
  pub bad : (more : List ℕ) → OpenWordIsBad (text ++ take used piece) ((text ++ piece) ++ more) events
  pub faulted : IsFaulted after fault

-- what `feed` answers for a piece to a lexer that stands at a text, and where it then stands
abbrev pub Feeds : ℕ → List ℕ → List Event → List ℕ → ℕ → Step → Lexer → Type 0
Feeds n text events piece used answers.Need after = NeedsMore n text events piece used after
Feeds n text events piece used (answers.Event event) after = EndsWord n text events piece used after event
Feeds n text events piece used (answers.Fault fault) after = Refuses n text events piece used after fault

-- A piece begins with a byte and its ACK and a space after each: two hexadecimal digits, a space,
-- `A` and a space.
pub record BeginsAcked (piece : List ℕ) : Type 0 where
  pub high : ℕ
  pub low : ℕ
  pub rest : List ℕ
  pub split : piece ≡ (high ∷ low ∷ codes " A ") ++ rest
  pub high_digit : is_hex_digit high ≡ true
  pub low_digit : is_hex_digit low ≡ true

-- A byte and its ACK are at the front of a piece, five bytes with what ends each word: what two
-- calls of `feed` answer.
pub record FeedsAcked (n : ℕ) (text : List ℕ) (events : List Event) (piece : List ℕ) (byte : ℕ)
    (after : Lexer) : Type 0 where
  pub between : Lexer
  pub ends_byte : EndsWord n text events piece 3 between (Byte byte)
  pub ends_ack : EndsWord (n + 3) (text ++ take 3 piece) (events ++ Byte byte ∷ []) (drop 3 piece) 2 after Ack

-- what `finish` answers to a lexer that stands at a text: no word is under way, the word under way
-- ends, or it is no token
pub record FinishesBetween (n : ℕ) (text : List ℕ) (events : List Event) (after : Lexer) : Type 0 where
  pub spells : Spells text events
  pub stands : LexerStandsAt after n (text ++ codes " ") events

pub record FinishesWord (n : ℕ) (text : List ℕ) (events : List Event) (after : Lexer) (event : Event) : Type 0 where
  pub spells : Spells text (events ++ event ∷ [])
  pub stands : LexerStandsAt after n (text ++ codes " ") (events ++ event ∷ [])

pub record FinishRefuses (n : ℕ) (text : List ℕ) (events : List Event) (after : Lexer) (fault : LexFault) : Type 0 where
  pub spells_none : (others : List Event) → Spells text others → ⊥
  pub at : IsFaultOf n text fault
  pub bad : OpenWordIsBad text text events
  pub faulted : IsFaulted after fault

abbrev pub Finishes : ℕ → List ℕ → List Event → Result (Option Event) LexFault → Lexer → Type 0
Finishes n text events (Ok None) after = FinishesBetween n text events after
Finishes n text events (Ok (Some event)) after = FinishesWord n text events after event
Finishes n text events (Err fault) after = FinishRefuses n text events after fault
