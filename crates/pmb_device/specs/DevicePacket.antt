-- What an exchange answers to signals, and what it tells at STOP.
--
-- `StandsIn exchange device state legs` says that an exchange was made for this device and given
-- the signals of these legs since the last STOP, and that the device's state was this one all
-- along.
-- `KeepsWrite exchange device legs` says that an exchange keeps the bytes of a complete write, which the
-- device took in these legs.
-- `IsAskedIn exchange device state legs byte body` says that after those legs came this byte too,
-- and that the device's registers have to answer this body. What they say of the fields is in
-- `machine`, and nothing here needs it to be understood.
use Rattle.std.specs.Prelude.{◌≡◌, ℕ, ◌<◌, ◌≤◌, ◌⊎◌, Option, Some, None, List, [], ◌∷◌, length}
use Rattle.pmb_command.specs.declared.form.Form.{Form}
use Rattle.pmb_command.specs.Parts.{DeviceParts}
use Rattle.pmb_leg.specs.declared.content.WriteContent.{WriteContent}
use Rattle.pmb_transaction.specs.Body.{forms}
use Rattle.pmb_transaction.specs.Transaction.{PartData}
use Rattle.pmb_command.specs.Wire.{Fits}
use Rattle.pmb_registers.specs.State.{DeviceState}
use Rattle.pmb_registers.specs.Answer.{all_pages}
use Rattle.pmb_registers.specs.Apply.{after_write, with_bit}
use Rattle.pmb_device.specs.declared.signal.HostSignal.TheVariants.{Byte}
use Rattle.pmb_device.specs.declared.signal.DeviceSignal.TheVariants as answers
use Rattle.pmb_device.specs.declared.device_packet.DevicePacket.{DevicePacket}
use Rattle.pmb_device.specs.declared.device_packet.Heard.{Heard}
use Rattle.pmb_device.specs.declared.device_packet.Heard.TheVariants as heard
use Rattle.pmb_device.specs.declared.device_packet.Effect.{Effect}
use Rattle.pmb_device.specs.declared.device_packet.Effect.TheVariants.{Nothing, Write, Note}
use Rattle.pmb_device.specs.Legs.{Legs, with_signal}
use Rattle.pmb_device.specs.Ends.{Took}
use Rattle.pmb_device.specs.Rules.{Answers}
pub use Rattle.pmb_device.specs.machine.Standing.{StandsIn, IsAskedIn, KeepsWrite}

-- What one byte more comes to: the device answers it, or its registers have to be asked.
abbrev pub Hears : DeviceParts → DeviceState → Legs → ℕ → Heard → DevicePacket → Type 0
Hears device state legs byte heard.Silent after =
    Answers device state legs (Byte byte) answers.Silent × StandsIn after device state (with_signal legs (Byte byte))
Hears device state legs byte heard.Ack after =
    Answers device state legs (Byte byte) answers.Ack × StandsIn after device state (with_signal legs (Byte byte))
Hears device state legs byte heard.Nack after =
    Answers device state legs (Byte byte) answers.Nack × StandsIn after device state (with_signal legs (Byte byte))
Hears device state legs byte heard.Read after = (body : List ℕ) × IsAskedIn after device state legs byte body

-- what a packet's outcome makes of the device's state
abbrev pub after_outcome : DeviceParts → Effect → DeviceState → DeviceState
after_outcome device Nothing state = state
after_outcome device (Write code bytes) state = after_write device code bytes.now state
after_outcome device (Note bit) state = with_bit device bit state

-- A write that takes effect: the data are of the form in which the command is written, and those of
-- PAGE are a page of the device, or ffh for all of them.
pub record IsTakenWrite (device : DeviceParts) (code : ℕ) (bytes : List ℕ) : Type 0 where
  pub form : Form
  pub written : (forms device code).write ≡ Some form
  pub fits : Fits form bytes
  pub page : code ≡ 0x00 → (page : ℕ) × (bytes ≡ page ∷ []) × ((page < device.pages) ⊎ (page ≡ all_pages))

abbrev pub IsTakenOutcome : DeviceParts → Effect → Type 0
IsTakenOutcome device Nothing = Unit {0}
IsTakenOutcome device (Write code bytes) = IsTakenWrite device code bytes.now
IsTakenOutcome device (Note bit) = Unit {0}

-- whatever came before: the data of a write are at most as many as a count can tell
abbrev pub HasFewBytes : Effect → Type 0
HasFewBytes Nothing = Unit {0}
HasFewBytes (Write code bytes) = length bytes.now ≤ 255
HasFewBytes (Note bit) = Unit {0}

-- ---- the write that was taken

-- A packet's outcome is a write exactly if the device took a complete write, and then its bytes are kept.
abbrev pub TellsWrite : DevicePacket → DeviceParts → Legs → Effect → Type 0
TellsWrite exchange device legs Nothing = Took device legs None
TellsWrite exchange device legs (Write code bytes) = KeepsWrite exchange device legs
TellsWrite exchange device legs (Note bit) = Took device legs None

-- what was written to a device, as a part
abbrev pub part_of : DeviceParts → WriteContent → PartData
part_of device content =
    record { addr = device.address; code = content.code; bytes = content.bytes.now; pec = content.pec }

abbrev pub written_part : DeviceParts → Option WriteContent → Option PartData
written_part device None = None
written_part device (Some content) = Some (part_of device content)
