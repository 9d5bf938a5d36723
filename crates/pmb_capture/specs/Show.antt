-- What `show` writes for the bytes of a capture: a line with a note for each packet, a line for
-- each refusal, and one for a word that is no token.
use Rattle.std.specs.Prelude.{ℕ, List, [], ◌∷◌, ◌++◌, codes}
use Rattle.pmb_bus.specs.Text.{BeginsText}
use Rattle.pmb_command.specs.Parts.{DeviceParts}
use Rattle.pmb_io.specs.Runs.{Job}
use Rattle.pmb_io.specs.declared.tally.Tally.{Tally}
use Rattle.pmb_line.specs.Spelling.{line}
use Rattle.pmb_note.specs.Note.{note}
use Rattle.pmb_transaction.specs.Transaction.{TransactionData}
use Rattle.pmb_capture.specs.Output.{OutputText}
use Rattle.pmb_capture.specs.Written.{Writes, WritesAtEnd, WritesFront, WritesUpToStop}

-- The line of a transaction, and as a comment its note, which says what the transaction means under
-- the PAGE and VOUT_MODE that those before it set.
abbrev pub noted_line : List DeviceParts → List TransactionData → TransactionData → List ℕ
noted_line profile before t = line t ++ (codes " # " ++ (note profile before t ++ codes "\n"))

-- the lines of transactions in order, after others
abbrev pub noted_behind : List DeviceParts → List TransactionData → List TransactionData → List ℕ
noted_behind profile before [] = []
noted_behind profile before (t ∷ ts) = noted_line profile before t ++ noted_behind profile (before ++ t ∷ []) ts

-- the lines of transactions, before which there were none
abbrev pub noted_lines : List DeviceParts → List TransactionData → List ℕ
noted_lines profile ts = noted_behind profile [] ts

abbrev pub shown_output : List DeviceParts → OutputText
shown_output profile = record { of_packet = noted_line profile; at_end = λ tally. [] }

-- what is shown of bytes, and the tally
abbrev pub Shows : List DeviceParts → List ℕ → List ℕ → Tally → Type 0
Shows profile bytes text tally = Writes (shown_output profile) profile bytes text tally

-- of bytes that have ended
abbrev pub ShowsAtEnd : List DeviceParts → List ℕ → List ℕ → Tally → Type 0
ShowsAtEnd profile bytes text tally = WritesAtEnd (shown_output profile) profile bytes text tally

-- of bytes up to a word that is no token
abbrev pub StopsAtBadWord : List DeviceParts → List ℕ → List ℕ → Tally → Type 0
StopsAtBadWord profile bytes text tally = WritesUpToStop (shown_output profile) profile bytes text tally

-- of bytes that more may follow
abbrev pub ShowsFront : List DeviceParts → List ℕ → List ℕ → Type 0
ShowsFront profile bytes text = WritesFront (shown_output profile) profile bytes text

-- what `show` is to write
abbrev pub showing : List DeviceParts → Job Tally
showing profile = record {
  Whole = λ tally bytes text. ShowsAtEnd profile bytes text tally;
  Stops = λ tally bytes text. StopsAtBadWord profile bytes text tally;
  Front = ShowsFront profile;
  IsOpen = BeginsText;
}
