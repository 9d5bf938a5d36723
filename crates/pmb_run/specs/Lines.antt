-- What is answered to the request lines of an input.
use Rattle.std.specs.Prelude.{ℕ, Result, Ok, Err, List, [], ◌∷◌, ◌++◌}
use Rattle.pmb_command.specs.Parts.{DeviceParts}
use Rattle.pmb_io.specs.Answers.{AnswersCounted, AnswersLines, answers_after, answers_job}
use Rattle.pmb_io.specs.Lines.{TextLine, ended_lines, lines_of}
use Rattle.pmb_io.specs.Runs.{Job}
use Rattle.pmb_io.specs.declared.fault.ToolFault.{ToolFault}
use Rattle.pmb_io.specs.declared.fault.ToolFault.TheVariants as tool
use Rattle.pmb_io.specs.declared.tally.Tally.{Tally}
use Rattle.pmb_transaction.specs.Transaction.{TransactionData}
use Rattle.pmb_run.specs.Answer.{RunAnswer, Recorded, Refusal, Nothing, RunsLine, answer_text, is_done, is_failed}
use Rattle.pmb_run.specs.Answer.{most_request_line}

-- the texts of the answers to lines that come after some others
abbrev pub answers_behind : ℕ → List RunAnswer → List ℕ
answers_behind = answers_after answer_text

-- the transaction that was recorded for an answer, if there was one
abbrev pub recorded_by : RunAnswer → List TransactionData
recorded_by (Recorded t events result) = t ∷ []
recorded_by (Refusal why) = []
recorded_by Nothing = []

abbrev pub all_recorded : List RunAnswer → List TransactionData
all_recorded [] = []
all_recorded (answer ∷ answers) = recorded_by answer ++ all_recorded answers

module _ (profile : List DeviceParts) where
  -- Each line has its answer, in their order, by the transactions that were recorded before it.
  abbrev pub RunsEach : List TransactionData → List TextLine → List RunAnswer → Type 0
  RunsEach before [] [] = Unit {0}
  RunsEach before [] (answer ∷ answers) = ⊥
  RunsEach before (line ∷ rest) [] = ⊥
  RunsEach before (line ∷ rest) (answer ∷ answers) = RunsLine profile before line answer
      × RunsEach (before ++ recorded_by answer) rest answers

  -- A text is the answers to some lines.
  abbrev pub RunsLines : List TextLine → List ℕ → Type 0
  RunsLines = AnswersLines answer_text (RunsEach [])

  -- And so many of the requests were done, and so many were refused, bad or failed.
  abbrev pub RunsCounted : Tally → List TextLine → List ℕ → Type 0
  RunsCounted = AnswersCounted answer_text (RunsEach []) is_done is_failed

  -- the answers to all lines of an input
  abbrev pub RunsInput : Tally → List ℕ → List ℕ → Type 0
  RunsInput tally bytes text = RunsCounted tally (lines_of most_request_line bytes) text

  -- the answers to the lines that have ended in it
  abbrev pub RunsEnded : List ℕ → List ℕ → Type 0
  RunsEnded bytes text = RunsLines (ended_lines most_request_line bytes) text

-- What `run` is to write: the answers to the requests of its input. More is always wanted.
abbrev pub running : List DeviceParts → Job Tally
running profile = answers_job answer_text (RunsEach profile []) is_done is_failed most_request_line

-- There was no memory for the devices, and then this holds; or another fact holds of the result.
abbrev pub OrNoMemory : {A : Type 0} → Type 0 → (Result A ToolFault → Type 0) → Result A ToolFault → Type 0
OrNoMemory NoMemory Holds (Ok answer) = Holds (Ok answer)
OrNoMemory NoMemory Holds (Err tool.Read) = Holds (Err tool.Read)
OrNoMemory NoMemory Holds (Err tool.Write) = Holds (Err tool.Write)
OrNoMemory NoMemory Holds (Err tool.TooManyReads) = Holds (Err tool.TooManyReads)
OrNoMemory NoMemory Holds (Err tool.ProfileTooLong) = Holds (Err tool.ProfileTooLong)
OrNoMemory NoMemory Holds (Err tool.Memory) = NoMemory
