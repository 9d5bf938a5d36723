-- What is answered to the lines of an input.
use Rattle.std.specs.Prelude.{ℕ, List, [], ◌∷◌}
use Rattle.pmb_command.specs.Parts.{DeviceParts}
use Rattle.pmb_io.specs.Answers.{AnswersCounted, AnswersLines, answers_after, answers_job}
use Rattle.pmb_io.specs.Lines.{TextLine, ended_lines, lines_of}
use Rattle.pmb_io.specs.Runs.{Job}
use Rattle.pmb_io.specs.declared.tally.Tally.{Tally}
use Rattle.pmb_build.specs.Answer.{BuildAnswer, BuildsLine, answer_text, is_built, is_refused, most_build_line}

-- the texts of the answers to lines that come after some others
abbrev pub answers_behind : ℕ → List BuildAnswer → List ℕ
answers_behind = answers_after answer_text

module _ (profile : List DeviceParts) where
  -- each line has its answer, in their order
  abbrev pub BuildsEach : List TextLine → List BuildAnswer → Type 0
  BuildsEach [] [] = Unit {0}
  BuildsEach [] (answer ∷ answers) = ⊥
  BuildsEach (line ∷ rest) [] = ⊥
  BuildsEach (line ∷ rest) (answer ∷ answers) = BuildsLine profile line answer × BuildsEach rest answers

  -- A text is the answers to some lines.
  abbrev pub BuildsLines : List TextLine → List ℕ → Type 0
  BuildsLines = AnswersLines answer_text BuildsEach

  -- And so many of them are packets, and so many are faults.
  abbrev pub BuildsCounted : Tally → List TextLine → List ℕ → Type 0
  BuildsCounted = AnswersCounted answer_text BuildsEach is_built is_refused

  -- the answers to all lines of an input
  abbrev pub BuildsInput : Tally → List ℕ → List ℕ → Type 0
  BuildsInput tally bytes text = BuildsCounted tally (lines_of most_build_line bytes) text

  -- the answers to the lines that have ended in it
  abbrev pub BuildsEnded : List ℕ → List ℕ → Type 0
  BuildsEnded bytes text = BuildsLines (ended_lines most_build_line bytes) text

-- What `build` is to write: the answers to the lines of its input. More is always wanted.
abbrev pub building : List DeviceParts → Job Tally
building profile = answers_job answer_text (BuildsEach profile) is_built is_refused most_build_line
