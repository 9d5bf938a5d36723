-- How many events a message has on the wire: START, each byte with its ACK or NACK, and STOP.
use Rattle.std.proofs.Common.{◌≡◌, ◌∙◌, ℕ, ◌+◌, ◌*◌, ◌<◌, ◌≤◌, Bool, true, false, Result, Ok, List, [], ◌∷◌, ◌++◌, length}
use Rattle.std.proofs.Common.{refl, sym, ap, subst, arith}
use Rattle.std.proofs.lemmas.List.{length-append}
use Rattle.pmb_bus.specs.declared.event.Event.{Event}
use Rattle.pmb_device.specs.declared.signal.HostSignal.{HostSignal}
use Rattle.pmb_device.specs.declared.signal.HostSignal.TheVariants.{Start, Byte, Ask, Ack, Nack, Stop}
use Rattle.pmb_device.specs.declared.signal.DeviceSignal.{DeviceSignal}
use Rattle.pmb_device.specs.declared.signal.DeviceSignal.TheVariants as answers
use Rattle.pmb_devices.specs.Bus.{AnsweredSignal}
use Rattle.pmb_i2c.proofs.InTurn.{wire_both}
use Rattle.pmb_i2c.specs.declared.message.MessageEnd.{MessageEnd}
use Rattle.pmb_i2c.specs.declared.message.MessageFault.{MessageFault}
use Rattle.pmb_i2c.specs.Message.{BeginsAt, EndsBy, IsMessage, Reads, ReadsByte, ReadsCounted, ReadsOn, Writes, answered, taken}
use Rattle.pmb_i2c.specs.Message.BeginsAt.{found, none}
use Rattle.pmb_i2c.specs.Wire.{wire_events}

-- how many events signals have
pub size : List AnsweredSignal → ℕ
size heard = length (wire_events heard)

-- those of two lists
pub size_both : (xs ys : List AnsweredSignal) → length (wire_events (xs ++ ys)) ≡ length (wire_events xs) + length (wire_events ys)
size_both xs ys = ap (λ (es : List Event). length es) (wire_both xs ys) ∙ length-append (wire_events xs) (wire_events ys)

-- those of an equal one
size_as : (xs ys : List AnsweredSignal) → xs ≡ ys → length (wire_events xs) ≡ length (wire_events ys)
size_as xs ys same = ap (λ (l : List AnsweredSignal). length (wire_events l)) same

-- ---- bytes that are written

taken_size : (bytes : List ℕ) → length (wire_events (taken bytes)) ≡ 2 * length bytes
taken_size [] = refl
taken_size (b ∷ bytes) = omega (arith, taken_size bytes)

pub writes_size : (bytes : List ℕ) (outcome : Result (Unit {0}) MessageFault) (heard : List AnsweredSignal)
    → Writes bytes outcome heard → length (wire_events heard) ≤ 2 * length bytes
writes_size bytes outcome heard (Writes.all done signals) =
    omega (arith, size_as heard (taken bytes) signals, taken_size bytes)
writes_size bytes outcome heard (Writes.refused front byte rest answer split not_ack failed signals) =
    let last = answered (Byte byte) answer ∷ [] in
    let so_long : length bytes ≡ length front + length (byte ∷ rest) = ap (λ (l : List ℕ). length l) split
    ∙ length-append front (byte ∷ rest) in
    omega (arith, size_as heard (taken front ++ last) signals, size_both (taken front) last, taken_size front, so_long)

-- ---- bytes that are read

-- an Ask and its reply
byte_size : (reply : HostSignal) (byte : ℕ) (heard : List AnsweredSignal)
    → ((silence : DeviceSignal) → length (wire_events (answered reply silence ∷ [])) ≡ 1) → ReadsByte reply byte heard
    → length (wire_events heard) ≡ 2
byte_size reply byte heard one reads =
    let last = answered reply reads.silence ∷ [] in
    size_as heard (answered Ask reads.answer ∷ last) reads.signals
    ∙ omega (arith, one reads.silence, size_both (answered Ask reads.answer ∷ []) last)

ack_size : (answer : DeviceSignal) → length (wire_events (answered Ack answer ∷ [])) ≡ 1
ack_size _ = refl

nack_size : (answer : DeviceSignal) → length (wire_events (answered Nack answer ∷ [])) ≡ 1
nack_size _ = refl

on_size : (bytes : List ℕ) (heard : List AnsweredSignal) → ReadsOn bytes heard
    → length (wire_events heard) ≡ 2 * length bytes
on_size [] heard reads = size_as heard [] reads
on_size (b ∷ bytes) heard reads =
    omega (
      arith,
      size_as heard (reads.0 ++ reads.1) reads.2,
      size_both reads.0 reads.1,
      byte_size Ack b reads.0 ack_size reads.3,
      on_size bytes reads.1 reads.4,
    )

pub reads_size : (bytes : List ℕ) (heard : List AnsweredSignal) → Reads bytes heard
    → length (wire_events heard) ≤ 2 * length bytes
reads_size bytes heard (Reads.none empty signals) = omega (arith, size_as heard [] signals)
reads_size bytes heard (Reads.some front last before final split reads ends signals) =
    let so_long : length bytes ≡ length front + 1 = ap (λ (l : List ℕ). length l) split
    ∙ length-append front (last ∷ []) in
    omega (
      arith,
      size_as heard (before ++ final) signals,
      size_both before final,
      on_size front before reads,
      byte_size Nack last final nack_size ends,
      so_long,
    )

pub counted_size : (bytes : List ℕ) (more : ℕ) (outcome : Result ℕ MessageFault) (heard : List AnsweredSignal)
    → ReadsCounted bytes more outcome heard → length (wire_events heard) ≤ 2 * (33 + more)
counted_size bytes more outcome heard (ReadsCounted.counted count block first rest many few long are done reads more_reads signals) =
    omega (
      arith,
      size_as heard (first ++ rest) signals,
      size_both first rest,
      byte_size Ack count first ack_size reads,
      reads_size block rest more_reads,
      few,
      long,
    )
counted_size bytes more outcome heard (ReadsCounted.bad_count count bad failed reads) =
    omega (arith, byte_size Nack count heard nack_size reads)

-- ---- the message

begins_size : (byte : ℕ) (outcome : Result (Unit {0}) MessageFault) (heard : List AnsweredSignal)
    → BeginsAt byte outcome heard → length (wire_events heard) ≤ 4
begins_size byte outcome heard (found quiet done signals) =
    omega (arith, size_as heard (answered Start quiet ∷ answered (Byte byte) answers.Ack ∷ []) signals)
begins_size byte outcome heard (none quiet answer last not_ack failed signals) =
    omega (arith, size_as heard (answered Start quiet ∷ answered (Byte byte) answer ∷ answered Stop last ∷ []) signals)

found_size : (byte : ℕ) (heard : List AnsweredSignal) → BeginsAt byte (Ok tt) heard → length (wire_events heard) ≤ 3
found_size byte heard (found quiet done signals) =
    omega (arith, size_as heard (answered Start quiet ∷ answered (Byte byte) answers.Ack ∷ []) signals)
found_size byte heard (none quiet answer last not_ack failed signals) = cc failed

ends_size : (stops : Bool) (heard : List AnsweredSignal) → EndsBy stops heard → length (wire_events heard) ≤ 1
ends_size true heard ends = omega (arith, size_as heard (answered Stop ends.0 ∷ []) ends.1)
ends_size false heard ends = omega (arith, size_as heard [] ends)

-- As many as its bytes have, and four.
pub message_size : {T : Type 0} (address byte most : ℕ) (Bytes : List AnsweredSignal → Type 0) (end : MessageEnd)
    (outcome : Result T MessageFault) (heard : List AnsweredSignal)
    → ((bytes : List AnsweredSignal) → Bytes bytes → length (wire_events bytes) ≤ most)
    → IsMessage address byte Bytes end outcome heard → length (wire_events heard) ≤ most + 4
message_size address byte most Bytes end outcome heard short (IsMessage.no_address above failed signals) =
    omega (arith, size_as heard [] signals)
message_size address byte most Bytes end outcome heard short (IsMessage.no_device below failed begins) =
    omega (arith, begins_size byte _ heard begins)
message_size address byte most Bytes end outcome heard short (IsMessage.sent first bytes last below begins reads ends signals) =
    omega (
      arith,
      size_as heard (first ++ (bytes ++ last)) signals,
      size_both first (bytes ++ last),
      size_both bytes last,
      found_size byte first begins,
      short bytes reads,
      ends_size _ last ends,
    )
