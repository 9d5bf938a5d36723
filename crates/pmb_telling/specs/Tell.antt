-- What `tell` is to write.
use Rattle.std.specs.Prelude.{◌≡◌, ◌⊎◌, ◌<◌, ℕ, List, ◌++◌, length}
use Rattle.pmb_bus.specs.declared.event.Event.{Event}
use Rattle.pmb_bus.specs.Text.{BeginsText, FirstBadWord, front_word}
use Rattle.pmb_command.specs.Parts.{DeviceParts}
use Rattle.pmb_io.specs.Runs.{Job}
use Rattle.pmb_io.specs.declared.tally.Tally.{Tally}
use Rattle.pmb_scan.specs.declared.after_bad_token.AfterBadToken.{AfterBadToken}
use Rattle.pmb_scan.specs.declared.after_bad_token.AfterBadToken.TheVariants.{End, Continue}
use Rattle.pmb_telling.specs.SoFar.{HasTold}
use Rattle.pmb_telling.specs.Text.{WritesTold}
use Rattle.pmb_fact_stream.specs.Choice.{ChoiceData}

-- The word under way at the end of the bytes is their first that is no token, and has fewer than 32
-- bytes.
pub record EndsInShortBadWord (bytes : List ℕ) : Type 0 where
  pub front : List ℕ
  pub word : List ℕ
  pub events : List Event
  pub split : bytes ≡ front ++ word
  pub bad : FirstBadWord bytes events (length front)
  pub under_way : front_word word ≡ word
  pub short : length word < 32

-- More is wanted of bytes that begin some text that spells events, and of those that end in such a
-- word; and always where reading continues after bad words.
abbrev pub IsOpenCapture : AfterBadToken → List ℕ → Type 0
IsOpenCapture End bytes = BeginsText bytes ⊎ EndsInShortBadWord bytes
IsOpenCapture Continue bytes = Unit {0}

module _ (choice : ChoiceData) (profile : List DeviceParts) (after : AfterBadToken) where
  -- No more is wanted: this is all that is written, whatever follows.
  pub record StopsTold (bytes : List ℕ) (text : List ℕ) (tally : Tally) : Type 0 where
    pub ends : after ≡ End
    pub writes : WritesTold choice profile after bytes text tally
    pub whatever_follows : (more : List ℕ) → WritesTold choice profile after (bytes ++ more) text tally

  -- What is written so far for bytes, a front of what is written for them.
  pub record WritesToldFront (bytes : List ℕ) (text : List ℕ) : Type 0 where
    pub rest : List ℕ
    pub tally : Tally
    pub so_far : HasTold choice profile after bytes text
    pub writes : WritesTold choice profile after bytes (text ++ rest) tally

  abbrev pub telling_job : Job Tally
  telling_job = record {
    Whole = λ tally bytes text. WritesTold choice profile after bytes text tally;
    Stops = λ tally bytes text. StopsTold bytes text tally;
    Front = WritesToldFront;
    IsOpen = IsOpenCapture after;
  }
