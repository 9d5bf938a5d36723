-- What is written for a recording: the text of each line in turn, and that of its end.
use Rattle.std.specs.Prelude.{◌≡◌, ℕ, List, [], ◌∷◌, ◌++◌}
use Rattle.pmb_io.specs.Lines.{TextLine, ended_lines, lines_of}
use Rattle.pmb_io.specs.Runs.{Job}
use Rattle.pmb_io.specs.declared.tally.Tally.{Tally}
use Rattle.pmb_recording.specs.Content.{most_line}
use Rattle.pmb_recording.specs.Recording.{Step, quietly, tally_of as recording_tally}
use Rattle.pmb_recording.specs.declared.recording.Recording.{Recording}

module _ {S : Type 0} (take : S → TextLine → Step S) (end : S → Step S) (recording : S → Recording) where
  -- a step behind a text
  abbrev pub told_before : List ℕ → Step S → Step S
  told_before text step = record { now = step.now; text = text ++ step.text }

  -- the lines, one after the other
  abbrev pub run : S → List TextLine → Step S
  run start [] = quietly start
  run start (line ∷ lines) = told_before (take start line).text (run (take start line).now lines)

  -- what follows what was told
  abbrev pub ended : Step S → Step S
  ended step = told_before step.text (end step.now)

  -- the lines of a whole recording, and its end
  abbrev pub whole : S → List TextLine → Step S
  whole start lines = ended (run start lines)

  -- packets, and what tells that something is missing
  abbrev pub tally_of : S → Tally
  tally_of now = recording_tally (recording now)

  -- The text and the tally of a recording are those of its bytes.
  pub record Imports (start : S) (tally : Tally) (bytes text : List ℕ) : Type 0 where
    pub text_is : text ≡ (whole start (lines_of most_line bytes)).text
    pub tally_is : tally ≡ tally_of (whole start (lines_of most_line bytes)).now

  -- What is to be written. More is always wanted.
  abbrev pub importing : S → Job Tally
  importing start = record {
    Whole = Imports start;
    Stops = λ tally bytes text. ⊥;
    Front = λ bytes text. text ≡ (run start (ended_lines most_line bytes)).text;
    IsOpen = λ bytes. Unit {0};
  }

  -- A machine stands where the lines brought it, and told their text.
  pub record Stands (start now : S) (lines : List TextLine) (text : List ℕ) : Type 0 where
    pub state : now ≡ (run start lines).now
    pub told : text ≡ (run start lines).text

  -- And their end.
  pub record Ends (start now : S) (lines : List TextLine) (text : List ℕ) : Type 0 where
    pub state : now ≡ (whole start lines).now
    pub told : text ≡ (whole start lines).text
