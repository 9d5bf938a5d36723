-- What is answered to the lines of an input.
use Rattle.std.specs.Prelude.{◌≡◌, ℕ, List, count_by, is_ok, is_err}
use Rattle.std.specs.List.{flat_map}
use Rattle.pmb_io.specs.Lines.{TextLine, ended_lines, lines_of}
use Rattle.pmb_io.specs.Runs.{Job}
use Rattle.pmb_io.specs.Tally.{IsTallyOf}
use Rattle.pmb_io.specs.declared.tally.Tally.{Tally}
use Rattle.pmb_convert.specs.declared.conversion.Conversion.{Conversion}
use Rattle.pmb_convert.specs.Answer.{Answer, AnswersEach, answer_line}

-- the most bytes of a line, a CR at its end counted
abbrev pub most_conversion_line : ℕ
most_conversion_line = 256

-- A text is the answers to some lines, a line for each.
pub record AnswersLines (conversion : Conversion) (lines : List TextLine) (text : List ℕ) : Type 0 where
  pub answers : List Answer
  pub each : AnswersEach conversion lines answers
  pub whole : text ≡ flat_map answer_line answers

-- And so many of them have a text, and so many are faults.
pub record AnswersCounted (conversion : Conversion) (tally : Tally) (lines : List TextLine)
    (text : List ℕ) : Type 0 where
  pub given : AnswersLines conversion lines text
  pub counts : IsTallyOf (count_by is_ok given.answers) (count_by is_err given.answers) tally

-- the answers to all lines of an input
abbrev pub AnswersInput : Conversion → Tally → List ℕ → List ℕ → Type 0
AnswersInput conversion tally bytes text = AnswersCounted conversion tally (lines_of most_conversion_line bytes) text

-- the answers to the lines that have ended in it
abbrev pub AnswersEnded : Conversion → List ℕ → List ℕ → Type 0
AnswersEnded conversion bytes text = AnswersLines conversion (ended_lines most_conversion_line bytes) text

-- What a conversion is to write: the answers to the lines of its input. More is always wanted.
abbrev pub converting : Conversion → Job Tally
converting conversion = record {
  Whole = AnswersInput conversion;
  Stops = λ tally bytes text. ⊥;
  Front = AnswersEnded conversion;
  IsOpen = λ bytes. Unit {0};
}
