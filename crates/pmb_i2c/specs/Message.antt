-- The signals of an I2C message, as Linux's `struct i2c_msg` has them, by the answers that came.
--
-- START, the address with its direction, and bytes: those that are written up to the first without ACK,
-- those that are read with ACK of the host but for the last (I2C-bus specification UM10204 section
-- 3.1). STOP comes after the last message of a transfer, and after a written byte or an address
-- without ACK.
use Rattle.std.specs.Prelude.{◌≡◌, ◌≢◌, ◌⊎◌, ℕ, ◌+◌, ◌<◌, ◌≤◌, Bool, true, false, Result, Ok, Err, List, [], ◌∷◌}
use Rattle.std.specs.Prelude.{◌++◌, is_err, length, map, take}
use Rattle.pmb_device.specs.declared.signal.HostSignal.{HostSignal}
use Rattle.pmb_device.specs.declared.signal.HostSignal.TheVariants.{Start, Byte, Ask, Ack, Nack, Stop}
use Rattle.pmb_device.specs.declared.signal.DeviceSignal.{DeviceSignal}
use Rattle.pmb_device.specs.declared.signal.DeviceSignal.TheVariants as answers
use Rattle.pmb_devices.specs.Bus.{AnsweredSignal}
use Rattle.pmb_i2c.specs.Wire.{byte_read}
use Rattle.pmb_i2c.specs.declared.message.MessageEnd.{MessageEnd}
use Rattle.pmb_i2c.specs.declared.message.MessageEnd.TheVariants as ends
use Rattle.pmb_i2c.specs.declared.message.MessageFault.{MessageFault}
use Rattle.pmb_i2c.specs.declared.message.MessageFault.TheVariants.{NoDevice, Refused, BadCount, BadAddress}

-- A signal, and the answer to it. No device answers START, ACK, NACK or STOP (`Answers` of pmb_device),
-- so that answer is called silence here.
abbrev pub answered : HostSignal → DeviceSignal → AnsweredSignal
answered signal result = record { signal = signal; result = result }

-- ---- bytes that are written

-- bytes that devices took
abbrev pub taken : List ℕ → List AnsweredSignal
taken bytes = map (λ byte. answered (Byte byte) answers.Ack) bytes

-- Bytes are written: all of them, or those up to the first that no device takes.
pub data Writes (bytes : List ℕ) (outcome : Result (Unit {0}) MessageFault) (heard : List AnsweredSignal) : Type
    0 where
  all : outcome ≡ Ok tt → heard ≡ taken bytes → Writes bytes outcome heard
  refused : (front : List ℕ) (byte : ℕ) (rest : List ℕ) (answer : DeviceSignal) → bytes ≡ front ++ byte ∷ rest
      → answer ≢ answers.Ack → outcome ≡ Err Refused
      → heard ≡ taken front ++ answered (Byte byte) answer ∷ [] → Writes bytes outcome heard

-- ---- bytes that are read

-- A byte is read, ffh where no device gives one, and the host answers this.
pub record ReadsByte (reply : HostSignal) (byte : ℕ) (heard : List AnsweredSignal) : Type 0 where
  pub answer : DeviceSignal
  pub silence : DeviceSignal
  pub byte_is : byte_read answer ≡ byte
  pub signals : heard ≡ answered Ask answer ∷ answered reply silence ∷ []

-- Bytes are read, each with ACK of the host.
abbrev pub ReadsOn : List ℕ → List AnsweredSignal → Type 0
ReadsOn [] heard = heard ≡ []
ReadsOn (byte ∷ bytes) heard =
    (first : List AnsweredSignal) × (more : List AnsweredSignal) × (heard ≡ first ++ more)
    × ReadsByte Ack byte first × ReadsOn bytes more

-- Bytes are read, each with ACK but the last one, which has NACK.
pub data Reads (bytes : List ℕ) (heard : List AnsweredSignal) : Type 0 where
  none : bytes ≡ [] → heard ≡ [] → Reads bytes heard
  some : (front : List ℕ) (last : ℕ) (before final : List AnsweredSignal) → bytes ≡ front ++ last ∷ []
      → ReadsOn front before → ReadsByte Nack last final → heard ≡ before ++ final → Reads bytes heard

-- They are read, and no device can refuse one.
pub record ReadsAll (bytes : List ℕ) (outcome : Result (Unit {0}) MessageFault) (heard : List AnsweredSignal) : Type
    0 where
  pub done : outcome ≡ Ok tt
  pub reads : Reads bytes heard

-- A count is read, then as many bytes, and `more` after them, as with Linux's I2C_M_RECV_LEN. A count
-- outside 1 to 32 (its I2C_SMBUS_BLOCK_MAX, as in SMBus 2.0; SMBus 3.0 section 6.5.7 has blocks of up to
-- 255 bytes) has NACK, and no byte follows it.
pub data ReadsCounted (bytes : List ℕ) (more : ℕ) (outcome : Result ℕ MessageFault) (heard : List AnsweredSignal) : Type
    0 where
  counted : (count : ℕ) (block : List ℕ) (first rest : List AnsweredSignal) → 1 ≤ count → count ≤ 32
      → length block ≡ count + more → take (1 + count + more) bytes ≡ count ∷ block
      → outcome ≡ Ok (1 + count + more) → ReadsByte Ack count first → Reads block rest → heard ≡ first ++ rest
      → ReadsCounted bytes more outcome heard
  bad_count : (count : ℕ) → (count ≡ 0) ⊎ (32 < count) → outcome ≡ Err BadCount → ReadsByte Nack count heard
      → ReadsCounted bytes more outcome heard

-- ---- the message

-- START and the address with its direction: a device takes it, or STOP follows.
pub data BeginsAt (address_byte : ℕ) (outcome : Result (Unit {0}) MessageFault) (heard : List AnsweredSignal) : Type
    0 where
  found : (silence : DeviceSignal) → outcome ≡ Ok tt
      → heard ≡ answered Start silence ∷ answered (Byte address_byte) answers.Ack ∷ []
      → BeginsAt address_byte outcome heard
  none : (silence answer last : DeviceSignal) → answer ≢ answers.Ack → outcome ≡ Err NoDevice
      → heard ≡ answered Start silence ∷ answered (Byte address_byte) answer ∷ answered Stop last ∷ []
      → BeginsAt address_byte outcome heard

-- whether STOP comes after the bytes of a message, which failed or did not
abbrev pub stops : MessageEnd → Bool → Bool
stops ends.Stop failed = true
stops ends.RepeatedStart failed = failed

abbrev pub EndsBy : Bool → List AnsweredSignal → Type 0
EndsBy true heard = (silence : DeviceSignal) × (heard ≡ answered Stop silence ∷ [])
EndsBy false heard = heard ≡ []

-- A message: nothing, where the address has more than seven bits; an address that no device takes; or
-- an address, its bytes, and the end.
pub data IsMessage {T : Type 0} (address address_byte : ℕ) (Bytes : List AnsweredSignal → Type 0) (end : MessageEnd)
    (outcome : Result T MessageFault) (heard : List AnsweredSignal) : Type 0 where
  no_address : 128 ≤ address → outcome ≡ Err BadAddress → heard ≡ []
      → IsMessage address address_byte Bytes end outcome heard
  no_device : address < 128 → outcome ≡ Err NoDevice → BeginsAt address_byte (Err NoDevice) heard
      → IsMessage address address_byte Bytes end outcome heard
  sent : (first bytes last : List AnsweredSignal) → address < 128 → BeginsAt address_byte (Ok tt) first → Bytes bytes
      → EndsBy (stops end (is_err outcome)) last → heard ≡ first ++ (bytes ++ last)
      → IsMessage address address_byte Bytes end outcome heard
