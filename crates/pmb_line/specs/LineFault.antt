-- What is wrong with a line under a profile, and how that is written.
use Rattle.std.specs.Prelude.{ℕ, List, ◌++◌, codes, decimal}
use Rattle.pmb_command.specs.Parts.{DeviceParts}
use Rattle.pmb_transaction.specs.Transaction.{TransactionData}
use Rattle.pmb_writer.specs.declared.invalid.Invalid.{Invalid}
use Rattle.pmb_writer.specs.declared.invalid.Invalid.TheVariants.{NoParts, UnknownDevice, AddressTwice, UnknownCommand}
use Rattle.pmb_writer.specs.declared.invalid.Invalid.TheVariants.{NotAllowed, WrongLength, PecMode}
use Rattle.pmb_writer.specs.Invalid.{HasPacket, IsFirstFault}
use Rattle.pmb_line.specs.declared.line_fault.LineFault.{LineFault}
use Rattle.pmb_line.specs.declared.line_fault.LineFault.TheVariants as fault
use Rattle.pmb_line.specs.declared.word_fault.WordFault.{WordFault}
use Rattle.pmb_line.specs.declared.word_fault.WordFault.TheVariants.{Blank, BadWord, TooLong}
use Rattle.pmb_line.specs.Words.{texts, line_words}
use Rattle.pmb_line.specs.Spelling.{SpellsTransaction}
use Rattle.pmb_line.specs.Fault.{IsFault, IsWithin}

-- the fault of a line's words
abbrev pub word_fault : WordFault → LineFault
word_fault Blank = fault.Blank
word_fault (BadWord at) = fault.BadWord at
word_fault (TooLong at) = fault.TooLong at

-- the name of why a transaction has no packet
abbrev pub invalid_name : Invalid → List ℕ
invalid_name NoParts = codes "NoParts"
invalid_name UnknownDevice = codes "UnknownDevice"
invalid_name AddressTwice = codes "AddressTwice"
invalid_name UnknownCommand = codes "UnknownCommand"
invalid_name NotAllowed = codes "NotAllowed"
invalid_name WrongLength = codes "WrongLength"
invalid_name PecMode = codes "PecMode"

-- a fault as it is written
abbrev pub fault_text : LineFault → List ℕ
fault_text fault.Blank = codes "Blank"
fault_text (fault.BadWord at) = codes "BadWord at " ++ decimal at
fault_text (fault.TooLong at) = codes "TooLong at " ++ decimal at
fault_text (fault.Invalid invalid) = invalid_name invalid

-- The line spells the transaction, and it has a packet.
pub record Parses (profile : List DeviceParts) (line : List ℕ) (t : TransactionData) : Type 0 where
  pub spells : SpellsTransaction (texts (line_words line)) t
  pub packet : HasPacket profile t

-- The line spells a transaction that is not too large, with this first fault.
pub record IsInvalid (profile : List DeviceParts) (line : List ℕ) (invalid : Invalid) : Type 0 where
  pub t : TransactionData
  pub spells : SpellsTransaction (texts (line_words line)) t
  pub within : IsWithin t
  pub first : IsFirstFault profile t invalid

-- the first fault of a line: of its words, or of the transaction that it spells
abbrev pub IsLineFault : List DeviceParts → List ℕ → LineFault → Type 0
IsLineFault profile line fault.Blank = IsFault line Blank
IsLineFault profile line (fault.BadWord at) = IsFault line (BadWord at)
IsLineFault profile line (fault.TooLong at) = IsFault line (TooLong at)
IsLineFault profile line (fault.Invalid invalid) = IsInvalid profile line invalid
