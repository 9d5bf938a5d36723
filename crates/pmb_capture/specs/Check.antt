-- What `check` writes for the bytes of a capture: a line for each refusal, one for a word that is no
-- token, and last the tally's.
use Rattle.std.specs.Prelude.{ℕ, List, []}
use Rattle.pmb_bus.specs.Text.{BeginsText}
use Rattle.pmb_command.specs.Parts.{DeviceParts}
use Rattle.pmb_io.specs.Runs.{Job}
use Rattle.pmb_io.specs.declared.tally.Tally.{Tally}
use Rattle.pmb_capture.specs.Lines.{tally_line}
use Rattle.pmb_capture.specs.Output.{OutputText}
use Rattle.pmb_capture.specs.Written.{Writes, WritesAtEnd, WritesFront, WritesUpToStop}

abbrev pub checked_output : OutputText
checked_output = record { of_packet = λ before t. []; at_end = tally_line }

-- what is written for bytes, and the tally
abbrev pub Checks : List DeviceParts → List ℕ → List ℕ → Tally → Type 0
Checks profile bytes text tally = Writes checked_output profile bytes text tally

-- for bytes that have ended
abbrev pub ChecksAtEnd : List DeviceParts → List ℕ → List ℕ → Tally → Type 0
ChecksAtEnd profile bytes text tally = WritesAtEnd checked_output profile bytes text tally

-- for bytes up to a word that is no token
abbrev pub ChecksUpToBadWord : List DeviceParts → List ℕ → List ℕ → Tally → Type 0
ChecksUpToBadWord profile bytes text tally = WritesUpToStop checked_output profile bytes text tally

-- for bytes that more may follow
abbrev pub ChecksFront : List DeviceParts → List ℕ → List ℕ → Type 0
ChecksFront profile bytes text = WritesFront checked_output profile bytes text

-- what `check` is to write
abbrev pub checking : List DeviceParts → Job Tally
checking profile = record {
  Whole = λ tally bytes text. ChecksAtEnd profile bytes text tally;
  Stops = λ tally bytes text. ChecksUpToBadWord profile bytes text tally;
  Front = ChecksFront profile;
  IsOpen = BeginsText;
}
