-- What is written for the bytes of a capture.
use Rattle.std.specs.Prelude.{◌≡◌, ℕ, ◌+◌, ◌⊎◌, List, ◌++◌}
use Rattle.pmb_bus.specs.declared.event.Event.{Event}
use Rattle.pmb_bus.specs.Text.{Spells, EndedWordsSpell, BeginsText, FirstBadWord}
use Rattle.pmb_command.specs.Parts.{DeviceParts}
use Rattle.pmb_io.specs.declared.tally.Tally.{Tally}
use Rattle.pmb_io.specs.Count.{capped}
use Rattle.pmb_io.specs.Runs.{Job}
use Rattle.pmb_io.specs.Tally.{IsTallyOf}
use Rattle.pmb_transaction.specs.Reading.{Outcome, Reading}
use Rattle.pmb_capture.specs.Lines.{bad_token_line}
use Rattle.pmb_capture.specs.Output.{OutputText, but_truncation, packets_in, refusals_in, outcomes_text}

module _ (output : OutputText) (profile : List DeviceParts) where
  -- The bytes spell events: the text of their outcomes is written, and that of the end.
  pub record WritesAll (bytes : List ℕ) (text : List ℕ) (tally : Tally) : Type 0 where
    pub events : List Event
    pub outcomes : List Outcome
    pub spells : Spells bytes events
    pub reads : Reading profile events outcomes
    pub lines : text ≡ outcomes_text output outcomes ++ output.at_end tally
    pub counts : IsTallyOf (packets_in outcomes) (refusals_in outcomes) tally

  -- A word of the bytes is no token: the events are those of the words before the first such word.
  -- Its line comes after theirs, and it counts as a refusal. A packet under way there is not
  -- reported.
  pub record WritesUpToBadWord (bytes : List ℕ) (text : List ℕ) (tally : Tally) : Type 0 where
    pub events : List Event
    pub outcomes : List Outcome
    pub place : ℕ
    pub bad : FirstBadWord bytes events place
    pub reads : Reading profile events outcomes
    pub lines : text ≡ outcomes_text output (but_truncation outcomes)
        ++ (bad_token_line (capped place) ++ output.at_end tally)
    pub counts : IsTallyOf (packets_in (but_truncation outcomes)) (refusals_in (but_truncation outcomes) + 1) tally

  -- the text that is written for bytes, and the tally
  abbrev pub Writes : List ℕ → List ℕ → Tally → Type 0
  Writes bytes text tally = WritesAll bytes text tally ⊎ WritesUpToBadWord bytes text tally

  -- What is written for bytes that have ended, and of which at most the last word is no token.
  pub record WritesAtEnd (bytes : List ℕ) (text : List ℕ) (tally : Tally) : Type 0 where
    pub begins : BeginsText bytes
    pub writes : Writes bytes text tally

  -- A word of the bytes is no token, and this is all that is written, whatever follows them.
  pub record WritesUpToStop (bytes : List ℕ) (text : List ℕ) (tally : Tally) : Type 0 where
    pub writes : WritesUpToBadWord bytes text tally
    pub whatever_follows : (more : List ℕ) → WritesUpToBadWord (bytes ++ more) text tally

  -- What is written for bytes that more may follow, and that begin some text that spells events:
  -- the text of each packet and each refusal of the words that have ended.
  pub record WritesSoFar (bytes : List ℕ) (text : List ℕ) : Type 0 where
    pub events : List Event
    pub outcomes : List Outcome
    pub begins : BeginsText bytes
    pub spells : EndedWordsSpell bytes events
    pub reads : Reading profile events outcomes
    pub lines : text ≡ outcomes_text output (but_truncation outcomes)

  -- What is written so far for bytes: the beginning of what is written for them.
  pub record WritesFront (bytes : List ℕ) (text : List ℕ) : Type 0 where
    pub rest : List ℕ
    pub tally : Tally
    pub so_far : WritesSoFar bytes text
    pub writes : Writes bytes (text ++ rest) tally

  -- What a command is to write of a capture. More bytes are wanted while those so far begin some
  -- text that spells events.
  abbrev pub writing : Job Tally
  writing = record {
    Whole = λ tally bytes text. WritesAtEnd bytes text tally;
    Stops = λ tally bytes text. WritesUpToStop bytes text tally;
    Front = WritesFront;
    IsOpen = BeginsText;
  }
