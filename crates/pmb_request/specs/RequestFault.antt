-- Which request a line spells, or what is wrong with it, and how that is written.
use Rattle.std.specs.Prelude.{◌≡◌, ℕ, Option, Ok, Err, List, codes}
use Rattle.pmb_quantity.specs.Fraction.{Fraction}
use Rattle.pmb_quantity.specs.Reading.{reading}
use Rattle.pmb_quantity.specs.declared.quantity.QuantityFault.{QuantityFault}
use Rattle.pmb_quantity.specs.declared.quantity.QuantityFault.TheVariants.{Empty, BadDigit, ZeroDenominator, TooLarge}
use Rattle.pmb_line.specs.declared.line_fault.LineFault.TheVariants as line_fault
use Rattle.pmb_line.specs.declared.word_fault.WordFault.{WordFault}
use Rattle.pmb_line.specs.declared.word_fault.WordFault.TheVariants.{Blank, BadWord, TooLong}
use Rattle.pmb_line.specs.LineFault.{fault_text as line_fault_text, word_fault}
use Rattle.pmb_line.specs.Words.{texts, line_words}
use Rattle.pmb_request.specs.declared.request_fault.RequestFault.{RequestFault}
use Rattle.pmb_request.specs.declared.request_fault.RequestFault.TheVariants.{Line, Quantity}
use Rattle.pmb_request.specs.Request.{Command, RequestData, WriteParts, ReadBytes, CallBytes, Set, Get}
use Rattle.pmb_request.specs.Spelling.{Wording, Write, Ask, to_read, to_call, to_set, to_get, Spells}
use Rattle.pmb_request.specs.Fault.{IsFault, IsWithin}

-- The request of a wording, where each device has this VOUT_MODE. A Set and a Get take it for each
-- command, also where that is no output voltage.
abbrev pub Means : (ℕ → Option ℕ) → Wording → RequestData → Type 0
Means mode (Write parts) request = request ≡ WriteParts parts
Means mode (Ask command to_read) request = request ≡ ReadBytes command
Means mode (Ask command (to_call bytes)) request = request ≡ CallBytes command bytes
Means mode (Ask command (to_set text)) request = (q : Fraction) × (reading text ≡ Ok q)
    × (request ≡ Set command q (mode command.addr))
Means mode (Ask command to_get) request = request ≡ Get command (mode command.addr)

-- The line spells the request.
pub record SpellsRequest (mode : ℕ → Option ℕ) (line : List ℕ) (request : RequestData) : Type 0 where
  pub wording : Wording
  pub spells : Spells (texts (line_words line)) wording
  pub within : IsWithin wording
  pub means : Means mode wording request

-- All words fit, but the text of the quantity is none.
pub record IsBadQuantity (line : List ℕ) (fault : QuantityFault) : Type 0 where
  pub command : Command
  pub text : List ℕ
  pub spells : Spells (texts (line_words line)) (Ask command (to_set text))
  pub bad : reading text ≡ Err fault

-- the first fault of a line: of its words, or else of its quantity
abbrev pub IsRequestFault : List ℕ → RequestFault → Type 0
IsRequestFault line (Line line_fault.Blank) = IsFault line Blank
IsRequestFault line (Line (line_fault.BadWord at)) = IsFault line (BadWord at)
IsRequestFault line (Line (line_fault.TooLong at)) = IsFault line (TooLong at)
IsRequestFault line (Line (line_fault.Invalid invalid)) = ⊥
IsRequestFault line (Quantity fault) = IsBadQuantity line fault

-- the fault of a line's words
abbrev pub of_words : WordFault → RequestFault
of_words fault = Line (word_fault fault)

-- ---- how a fault is written

abbrev pub quantity_fault_name : QuantityFault → List ℕ
quantity_fault_name Empty = codes "Empty"
quantity_fault_name BadDigit = codes "BadDigit"
quantity_fault_name ZeroDenominator = codes "ZeroDenominator"
quantity_fault_name TooLarge = codes "TooLarge"

abbrev pub fault_text : RequestFault → List ℕ
fault_text (Line fault) = line_fault_text fault
fault_text (Quantity fault) = quantity_fault_name fault
