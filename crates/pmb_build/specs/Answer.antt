-- What is answered to a line: a packet, a fault, or nothing.
use Rattle.std.specs.Prelude.{◌≡◌, ◌≢◌, ℕ, Bool, true, false, List, [], ◌++◌, codes, decimal}
use Rattle.pmb_bus.specs.Event.{canonical_text}
use Rattle.pmb_bus.specs.declared.event.Event.{Event}
use Rattle.pmb_command.specs.Parts.{DeviceParts}
use Rattle.pmb_io.specs.Lines as lines
use Rattle.pmb_transaction.specs.Packet.{Packet}
use Rattle.pmb_transaction.specs.Transaction.{TransactionData}
use Rattle.pmb_line.specs.LineFault as names
use Rattle.pmb_line.specs.LineFault.{IsLineFault}
use Rattle.pmb_line.specs.Spelling.{SpellsTransaction}
use Rattle.pmb_line.specs.Words.{texts, line_words}
use Rattle.pmb_line.specs.declared.line_fault.LineFault.{LineFault}
use Rattle.pmb_line.specs.declared.line_fault.LineFault.TheVariants as fault

-- the events of a packet, or why there is none, or nothing
pub data BuildAnswer : Type 0 where
  Built : List Event → BuildAnswer
  Refused : LineFault → BuildAnswer
  Nothing : BuildAnswer

-- ---- how it is written

-- the text of a fault, after the number of its line
abbrev pub numbered_text : ℕ → List ℕ → List ℕ
numbered_text number why = codes "# line " ++ (decimal number ++ (codes ": " ++ (why ++ codes "\n")))

abbrev pub numbered_fault : ℕ → LineFault → List ℕ
numbered_fault number why = numbered_text number (names.fault_text why)

-- the answer to the line with a number
abbrev pub answer_text : ℕ → BuildAnswer → List ℕ
answer_text number (Built events) = canonical_text events
answer_text number (Refused why) = numbered_fault number why
answer_text number Nothing = []

-- which answers count as packets, and which as refusals
abbrev pub is_built : BuildAnswer → Bool
is_built (Built events) = true
is_built (Refused why) = false
is_built Nothing = false

abbrev pub is_refused : BuildAnswer → Bool
is_refused (Built events) = false
is_refused (Refused why) = true
is_refused Nothing = false

-- ---- which answer it is

-- the most bytes of a line, a CR at its end counted
abbrev pub most_build_line : ℕ
most_build_line = 32768

module _ (profile : List DeviceParts) where
  -- the canonical text of a transaction's packet
  pub record IsPacketText (t : TransactionData) (text : List ℕ) : Type 0 where
    pub events : List Event
    pub packet : Packet profile t events
    pub whole : text ≡ canonical_text events

  -- The line spells a transaction, and the events are its packet.
  pub record Builds (line : List ℕ) (events : List Event) : Type 0 where
    pub t : TransactionData
    pub spells : SpellsTransaction (texts (line_words line)) t
    pub packet : Packet profile t events

  -- The line has words, and this is their first fault, or that of the transaction that they spell.
  pub record IsRefused (line : List ℕ) (why : LineFault) : Type 0 where
    pub first : IsLineFault profile line why
    pub has_words : why ≢ fault.Blank

  -- what is answered to what a line says
  abbrev pub BuildsText : List ℕ → BuildAnswer → Type 0
  BuildsText line (Built events) = Builds line events
  BuildsText line (Refused why) = IsRefused line why
  BuildsText line Nothing = line_words line ≡ []

  -- What is answered to a line. One of more bytes is too long after the last that it may have,
  -- whatever it says.
  abbrev pub BuildsLine : lines.TextLine → BuildAnswer → Type 0
  BuildsLine (lines.Ended line) answer = BuildsText line answer
  BuildsLine (lines.Last line) answer = BuildsText line answer
  BuildsLine lines.TooLong answer = answer ≡ Refused (fault.TooLong most_build_line)
