-- What is told of a recording, beside its packets: a line of the output each.
use Rattle.std.specs.Prelude.{ℕ, ◌/◌, ◌%◌, ◌==◌, true, false, Bool, Option, Some, None, if◌then◌else◌, List, [], ◌∷◌}
use Rattle.std.specs.Prelude.{◌++◌, codes, decimal}
use Rattle.std.specs.List.{flat_map}
use Rattle.hex.specs.Hex.{encode_lower}
use Rattle.pmb_bus.specs.Event.{canonical_text}
use Rattle.pmb_bus.specs.declared.event.Event.{Event}
use Rattle.pmb_bus.specs.declared.event.Event.TheVariants.{Start, Byte, Ack, Nack, Stop}
use Rattle.pmb_recording.specs.declared.fault.Fault.{Fault}
use Rattle.pmb_recording.specs.declared.fault.Fault.TheVariants as code
use Rattle.pmb_recording.specs.declared.passed.Kind.{Kind}
use Rattle.pmb_recording.specs.declared.passed.Kind.TheVariants.{I2c, Smbus}
use Rattle.pmb_recording.specs.declared.wire_byte.WireByte.{WireByte}

-- a line of the output
abbrev pub comment : List ℕ → List ℕ
comment text = codes "# " ++ (text ++ codes "\n")

-- what is told at the line of the recording with a number
abbrev pub at_line : ℕ → List ℕ → List ℕ
at_line line text = comment (codes "line " ++ (decimal line ++ (codes ": " ++ text)))

-- ---- faults

-- why a line is a fault
pub data Reason : Type 0 where
  -- It can't be read, contradicts itself, is out of range, too long or without its LF.
  MakesNoSense : Reason
  -- It contradicts lines before it.
  DoesNotFollow : Reason
  -- It shows so many bytes, and fewer than a number.
  Shows : ℕ → List ℕ → Reason
  -- Its flags change what is on the wire.
  ChangesTheWire : List ℕ → Reason
  -- Rows are missing in front of it.
  RowsAreMissing : Reason
  -- The analyser marks it as an error.
  IsMarked : Reason

abbrev pub reason_of : Fault → Reason
reason_of code.MakesNoSense = MakesNoSense
reason_of code.DoesNotFollow = DoesNotFollow
reason_of (code.Shows count number) = Shows count number.now
reason_of (code.ChangesTheWire flags) = ChangesTheWire flags.now
reason_of code.RowsAreMissing = RowsAreMissing
reason_of code.IsMarked = IsMarked

-- numbers and flags are told as the recording writes them
abbrev pub reason_text : Reason → List ℕ
reason_text MakesNoSense = codes "makes no sense"
reason_text DoesNotFollow = codes "does not follow"
reason_text (Shows count number) = codes "shows " ++ (decimal count ++ (codes " of " ++ (number ++ codes " bytes")))
reason_text (ChangesTheWire flags) = codes "flags " ++ (flags ++ codes " change what is on the wire")
reason_text RowsAreMissing = codes "rows are missing in front"
reason_text IsMarked = codes "is marked as an error"

-- ---- packets that are not there

-- what is told of the packet that began in a line
abbrev pub of_packet : ℕ → ℕ → List ℕ → List ℕ
of_packet line first text = at_line line (codes "the packet from line " ++ (decimal first ++ text))

abbrev pub cut_line : ℕ → ℕ → List ℕ
cut_line last first = of_packet last first (codes " is cut")

abbrev pub too_long_line : ℕ → ℕ → List ℕ
too_long_line line first = of_packet line first (codes " is too long")

-- lost events, with their number as the recording writes it, or without one
abbrev pub lost_text : Option (List ℕ) → List ℕ
lost_text (Some count) = count ++ codes " events were lost"
lost_text None = codes "events were lost"

abbrev pub lost_line : ℕ → Option (List ℕ) → List ℕ
lost_line line count = at_line line (lost_text count)

-- the legs of a transfer that failed, each with its direction and address: the bytes behind a START say both
abbrev pub direction : ℕ → List ℕ
direction byte = if byte % 2 == 0 then codes "write " else codes "read "

abbrev pub leg_text : ℕ → List ℕ
leg_text byte = direction byte ++ encode_lower (byte / 2 ∷ [])

abbrev pub leg_bytes : List WireByte → List ℕ
leg_bytes [] = []
leg_bytes (b ∷ wire) = if b.follows_start then b.byte ∷ leg_bytes wire else leg_bytes wire

abbrev pub listed : List ℕ → List ℕ
listed [] = []
listed (byte ∷ []) = leg_text byte
listed (byte ∷ next ∷ bytes) = leg_text byte ++ (codes ", " ++ listed (next ∷ bytes))

abbrev pub failed_line : ℕ → List ℕ → List WireByte → List ℕ
failed_line line result wire =
    at_line line (codes "a transfer failed with " ++ (result ++ (codes ": " ++ listed (leg_bytes wire))))

abbrev pub reply_hidden_line : ℕ → ℕ → List ℕ
reply_hidden_line line first =
    at_line line (codes "the reply of the call from line " ++ (decimal first ++ codes " is not shown"))

abbrev pub bytes_hidden_line : ℕ → ℕ → List ℕ
bytes_hidden_line line first =
    at_line line (codes "the bytes of the transfer from line " ++ (decimal first ++ codes " are not shown"))

-- ---- at the end

-- lines that were passed over: none are told where there is none
abbrev pub passed_line : ℕ → List ℕ → List ℕ
passed_line count of =
    if count == 0 then [] else comment (decimal count ++ (codes " lines of " ++ (of ++ codes " were passed over")))

abbrev pub kind_name : Kind → List ℕ
kind_name I2c = codes "i2c"
kind_name Smbus = codes "smbus"

abbrev pub no_packets_line : ℕ → List ℕ
no_packets_line packets = if packets == 0 then comment (codes "no packets") else []

-- ---- packets

-- the events of a byte on the wire
abbrev pub start_events : Bool → List Event
start_events true = Start ∷ []
start_events false = []

abbrev pub answer_event : Bool → Event
answer_event true = Ack
answer_event false = Nack

abbrev pub byte_events : WireByte → List Event
byte_events b = start_events b.follows_start ++ (Byte b.byte ∷ answer_event b.is_acknowledged ∷ [])

-- the events of a packet: those of its bytes, and STOP
abbrev pub packet_events : List WireByte → List Event
packet_events wire = flat_map byte_events wire ++ (Stop ∷ [])

abbrev pub packet_text : List WireByte → List ℕ
packet_text wire = canonical_text (packet_events wire)

-- the line of its time, where there is one
abbrev pub time_line : List ℕ → List ℕ
time_line [] = []
time_line (byte ∷ time) = comment (byte ∷ time)
