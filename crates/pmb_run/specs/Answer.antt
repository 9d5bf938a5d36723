-- What is answered to a request line: what is recorded of the request and its result, a fault, or nothing.
use Rattle.std.specs.Prelude.{◌≡◌, ◌≢◌, ℕ, Bool, true, false, Option, List, [], ◌∷◌, ◌++◌, codes, decimal, flat_map}
use Rattle.hex.specs.Hex.{encode_lower}
use Rattle.pmb_bus.specs.Event.{canonical_text}
use Rattle.pmb_bus.specs.declared.event.Event.{Event}
use Rattle.pmb_command.specs.Parts.{DeviceParts}
use Rattle.pmb_format.specs.declared.format.RangeFault.{RangeFault}
use Rattle.pmb_format.specs.declared.format.RangeFault.TheVariants.{Below, Above}
use Rattle.pmb_build.specs.Answer.{numbered_text}
use Rattle.pmb_io.specs.Lines as lines
use Rattle.pmb_line.specs.LineFault.{invalid_name}
use Rattle.pmb_line.specs.Words.{line_words}
use Rattle.pmb_line.specs.declared.line_fault.LineFault.TheVariants as line_fault
use Rattle.pmb_note.specs.Context.{mode}
use Rattle.pmb_quantity.specs.QuantityText.{spelling}
use Rattle.pmb_transaction.specs.Packet.{Packet}
use Rattle.pmb_transaction.specs.Transaction.{TransactionData, Write, Read, Call, Refused, Alert, NoAlert}
use Rattle.pmb_value.specs.declared.vout.ModeFault.{ModeFault}
use Rattle.pmb_value.specs.declared.vout.ModeFault.TheVariants.{Relative, Vid, Ieee, NoCoefficients}
use Rattle.pmb_devices.specs.Runs.{all_after, first_members}
use Rattle.pmb_registers.specs.State.{InState}
use Rattle.pmb_request.specs.Request.{RequestData}
use Rattle.pmb_request.specs.RequestFault.{IsRequestFault, SpellsRequest, fault_text}
use Rattle.pmb_request.specs.declared.request_fault.RequestFault.{RequestFault}
use Rattle.pmb_request.specs.declared.request_fault.RequestFault.TheVariants.{Line}
use Rattle.pmb_value.specs.declared.number_format.NumberFormat.{NumberFormat}
use Rattle.pmb_host.specs.declared.step.HostFault.{HostFault}
use Rattle.pmb_host.specs.declared.step.HostFault.TheVariants as fault
use Rattle.pmb_host.specs.declared.step.HostStep.{HostStep}
use Rattle.pmb_host.specs.declared.step.HostStep.TheVariants.{Send, Done, Failed}
use Rattle.pmb_host.specs.Rules.{IsAllowed, IsFault}
use Rattle.pmb_host.specs.Steps.{ReplyData, AllWritten, AllBytes, OneValue, NoQuantity, reply_data}
use Rattle.pmb_host.specs.Task.{task_of}
use Rattle.pmb_exchange.specs.Exchange.{EndsWith, Exchanges}

-- the transaction that was recorded, its events, and the text of the result; the name of a fault; or nothing
pub data RunAnswer : Type 0 where
  Recorded : TransactionData → List Event → List ℕ → RunAnswer
  Refusal : List ℕ → RunAnswer
  Nothing : RunAnswer

-- ---- how a result is written

-- two digits for each byte, with a space between two
abbrev pub bytes_text : List ℕ → List ℕ
bytes_text [] = codes "empty"
bytes_text (b ∷ bytes) = encode_lower (b ∷ []) ++ flat_map (λ c. codes " " ++ encode_lower (c ∷ [])) bytes

abbrev pub reply_text : ReplyData → List ℕ
reply_text AllWritten = codes "done"
reply_text (AllBytes bytes) = bytes_text bytes
reply_text (OneValue value) = spelling value
reply_text NoQuantity = codes "raw"

-- where a byte was refused
abbrev pub place_text : ℕ → ℕ → Bool → List ℕ
place_text leg byte true = codes "refused: read address"
place_text leg byte false = codes "refused: leg " ++ (decimal leg ++ (codes " byte " ++ decimal byte))

abbrev pub mode_fault_name : ModeFault → List ℕ
mode_fault_name Relative = codes "Relative"
mode_fault_name Vid = codes "Vid"
mode_fault_name Ieee = codes "Ieee"
mode_fault_name NoCoefficients = codes "NoCoefficients"

abbrev pub range_fault_name : RangeFault → List ℕ
range_fault_name Below = codes "Below"
range_fault_name Above = codes "Above"

-- the name of the innermost variant, and of a refused byte its place
abbrev pub host_fault_text : HostFault → List ℕ
host_fault_text (fault.Invalid invalid) = invalid_name invalid
host_fault_text fault.NotAQuantity = codes "NotAQuantity"
host_fault_text fault.ModeUnknown = codes "ModeUnknown"
host_fault_text (fault.Mode why) = mode_fault_name why
host_fault_text (fault.Range why) = range_fault_name why
host_fault_text (fault.Refused leg byte at_read) = place_text leg byte at_read
host_fault_text fault.NoByte = codes "NoByte"
host_fault_text fault.BadPec = codes "BadPec"

-- how a host told the end of a request
abbrev pub end_text : HostStep → List ℕ
end_text (Send signal) = []
end_text (Done reply) = reply_text (reply_data reply)
end_text (Failed why) = host_fault_text why

-- ---- how an answer is written

-- the line of a result
abbrev pub result_line : List ℕ → List ℕ
result_line result = codes "# " ++ (result ++ codes "\n")

-- the answer to the line with a number
abbrev pub answer_text : ℕ → RunAnswer → List ℕ
answer_text number (Recorded t events result) = canonical_text events ++ result_line result
answer_text number (Refusal why) = numbered_text number why
answer_text number Nothing = []

-- a request was done, where its transaction is none that was refused
abbrev pub is_done_transaction : TransactionData → Bool
is_done_transaction (Write parts) = true
is_done_transaction (Read t) = true
is_done_transaction (Call t) = true
is_done_transaction (Refused t) = false
is_done_transaction (Alert t) = false
is_done_transaction NoAlert = false

abbrev pub is_refused_transaction : TransactionData → Bool
is_refused_transaction (Write parts) = false
is_refused_transaction (Read t) = false
is_refused_transaction (Call t) = false
is_refused_transaction (Refused t) = true
is_refused_transaction (Alert t) = true
is_refused_transaction NoAlert = true

-- which answers count as packets, and which as refusals
abbrev pub is_done : RunAnswer → Bool
is_done (Recorded t events result) = is_done_transaction t
is_done (Refusal why) = false
is_done Nothing = false

abbrev pub is_failed : RunAnswer → Bool
is_failed (Recorded t events result) = is_refused_transaction t
is_failed (Refusal why) = true
is_failed Nothing = false

-- ---- which answer it is

-- the most bytes of a line, a CR at its end counted
abbrev pub most_request_line : ℕ
most_request_line = 32768

-- The line spells a request that a host can be made for, by what these transactions told, and this is what it
-- comes to on devices in these states, with what the host tells of it.
pub record RunsWith (profile : List DeviceParts) (members : List InState) (before : List TransactionData)
    (line : List ℕ) (t : TransactionData) (events : List Event) (result : List ℕ) : Type 0 where
  pub request : RequestData
  pub spells : SpellsRequest (mode profile before) line request
  pub word : ℕ
  pub number : Option NumberFormat
  pub allowed : IsAllowed profile request word number
  pub exchanges : Exchanges members (task_of request word) t
  pub packet : Packet profile t events
  pub end : HostStep
  pub ends : EndsWith number t end
  pub told : result ≡ end_text end

module _ (profile : List DeviceParts) (before : List TransactionData) where
  -- The first fault of a line with words: of the line, or of the request that it spells.
  pub data IsRefused (line : List ℕ) (why : List ℕ) : Type 0 where
    no_request : (because : RequestFault) → IsRequestFault line because → because ≢ Line line_fault.Blank
        → why ≡ fault_text because → IsRefused line why
    no_host : (request : RequestData) (because : HostFault) → SpellsRequest (mode profile before) line request
        → IsFault profile request because
        → why ≡ host_fault_text because → IsRefused line why

  -- what is answered to what a line says, on devices in these states
  abbrev pub RunsTextWith : List InState → List ℕ → RunAnswer → Type 0
  RunsTextWith members line (Recorded t events result) = RunsWith profile members before line t events result
  RunsTextWith members line (Refusal why) = IsRefused line why
  RunsTextWith members line Nothing = line_words line ≡ []

  -- and on the devices as the transactions before left them
  abbrev pub Runs : List ℕ → TransactionData → List Event → List ℕ → Type 0
  Runs line t events result = RunsWith profile (all_after before (first_members profile)) before line t events result

  abbrev pub RunsText : List ℕ → RunAnswer → Type 0
  RunsText line answer = RunsTextWith (all_after before (first_members profile)) line answer

  -- What is answered to a line. One of more bytes is too long after the last that it may have, whatever
  -- it says.
  abbrev pub RunsLineWith : List InState → lines.TextLine → RunAnswer → Type 0
  RunsLineWith members (lines.Ended line) answer = RunsTextWith members line answer
  RunsLineWith members (lines.Last line) answer = RunsTextWith members line answer
  RunsLineWith members lines.TooLong answer = answer ≡ Refusal (fault_text (Line (line_fault.TooLong most_request_line)))

  abbrev pub RunsLine : lines.TextLine → RunAnswer → Type 0
  RunsLine line answer = RunsLineWith (all_after before (first_members profile)) line answer
