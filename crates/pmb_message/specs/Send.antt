-- What a message with the flags of Linux sends, and what it returns.
use Rattle.std.specs.Prelude.{◌≡◌, ℕ, ◌+◌, ◌==◌, ◌<◌, ◌≤◌, if◌then◌else◌, Result, Ok, Err, List, [], length, take, drop}
use Rattle.pmb_bus.specs.Address.{read_address, write_address}
use Rattle.pmb_bus.specs.declared.event.Event.{Event}
use Rattle.pmb_devices.specs.declared.bus.Bus.{Bus}
use Rattle.pmb_devices.specs.Bus.{AnsweredSignal}
use Rattle.pmb_devices.specs.Signal.{BusStanding, BusStandsAt}
use Rattle.pmb_i2c.specs.declared.message.MessageFault.{MessageFault}
use Rattle.pmb_i2c.specs.declared.message.MessageFault.TheVariants as i2c
use Rattle.pmb_i2c.specs.Message.{IsMessage, ReadsAll, ReadsCounted, Writes}
use Rattle.pmb_i2c.specs.Signals.{TakesInTurn}
use Rattle.pmb_i2c.specs.Wire.{wire_events}
use Rattle.pmb_message.specs.declared.message.Message.{Message}
use Rattle.pmb_message.specs.declared.message.SendFault.{SendFault}
use Rattle.pmb_message.specs.declared.message.SendFault.TheVariants.{NoDevice, Refused, BadCount, BadAddress, BadLength, BadFlags}

-- ---- the message

-- flags of <linux/i2c.h>: none to write, I2C_M_RD to read, I2C_M_RD with I2C_M_RECV_LEN to read a block
abbrev pub writing : ℕ
writing = 0

abbrev pub reading : ℕ
reading = 1

abbrev pub reading_block : ℕ
reading_block = 0x0401

pub data HasKnownFlags (message : Message) : Type 0 where
  writes : message.flags ≡ writing → HasKnownFlags message
  reads : message.flags ≡ reading → HasKnownFlags message
  reads_block : message.flags ≡ reading_block → HasKnownFlags message

-- how many bytes there has to be room for beside the length: the count of a block, and up to 32 bytes
abbrev pub counted : ℕ → ℕ
counted flags = if flags == reading_block then 33 else 0

abbrev pub bytes_of : Message → ℕ
bytes_of message = message.length + counted message.flags

-- the most bytes of a message, as i2c-dev of Linux has it
abbrev pub most_bytes : ℕ
most_bytes = 8192

-- Why a message is not sent, with this room for its bytes.
pub data IsUnsent (message : Message) (room : ℕ) (why : SendFault) : Type 0 where
  flags : ¬ (HasKnownFlags message) → why ≡ BadFlags → IsUnsent message room why
  address : HasKnownFlags message → 128 ≤ message.address → why ≡ BadAddress → IsUnsent message room why
  room_for_bytes : HasKnownFlags message → message.address < 128 → room < bytes_of message → why ≡ BadLength
      → IsUnsent message room why
  too_many : HasKnownFlags message → message.address < 128 → most_bytes < bytes_of message → why ≡ BadLength
      → IsUnsent message room why

-- It is sent.
pub record IsReady (message : Message) (room : ℕ) : Type 0 where
  pub known : HasKnownFlags message
  pub seven_bits : message.address < 128
  pub fits : bytes_of message ≤ room
  pub few : bytes_of message ≤ most_bytes

-- ---- what comes of it

abbrev pub fault_as : MessageFault → SendFault
fault_as i2c.NoDevice = NoDevice
fault_as i2c.Refused = Refused
fault_as i2c.BadCount = BadCount
fault_as i2c.BadAddress = BadAddress

-- a number of bytes, or the fault
abbrev pub counted_as : ℕ → Result (Unit {0}) MessageFault → Result ℕ SendFault
counted_as count (Ok done) = Ok count
counted_as count (Err fault) = Err (fault_as fault)

abbrev pub block_as : Result ℕ MessageFault → Result ℕ SendFault
block_as (Ok count) = Ok count
block_as (Err fault) = Err (fault_as fault)

-- What stays of the room where something was read into it: what comes after the bytes that came. After a fault all of
-- it stays.
abbrev pub RestStays : Result ℕ SendFault → List ℕ → List ℕ → Type 0
RestStays (Ok count) before after = drop count after ≡ drop count before
RestStays (Err why) before after = after ≡ before

-- A bus was given such signals: wherever it stood, it took them in turn; and these events were on the wire.
pub record Sent (Such : List AnsweredSignal → Type 0) (old new : Bus) (events : List Event) : Type 0 where
  pub heard : List AnsweredSignal
  pub such : Such heard
  pub takes : (standing : BusStanding) → BusStandsAt old standing → TakesInTurn standing heard new
  pub events_are : events ≡ wire_events heard

-- Nothing was sent, for this reason. Or the message fits, and the bytes at the front of the room were written, or
-- read into it, with the signals of a message.
pub data Sends (message : Message) (before after : List ℕ) (old new : Bus) (events : List Event)
    (result : Result ℕ SendFault) : Type 0 where
  nothing : (why : SendFault) → IsUnsent message (length before) why → result ≡ Err why → new ≡ old → after ≡ before
      → events ≡ [] → Sends message before after old new events result
  write : (outcome : Result (Unit {0}) MessageFault) → IsReady message (length before) → message.flags ≡ writing
      → after ≡ before → result ≡ counted_as message.length outcome
      → Sent (IsMessage message.address (write_address message.address) (Writes (take message.length before) outcome)
      message.end outcome) old new events
      → Sends message before after old new events result
  read : (outcome : Result (Unit {0}) MessageFault) → IsReady message (length before) → message.flags ≡ reading
      → RestStays result before after → result ≡ counted_as message.length outcome
      → Sent (IsMessage message.address (read_address message.address) (ReadsAll (take message.length after) outcome)
      message.end outcome) old new events
      → Sends message before after old new events result
  read_block : (outcome : Result ℕ MessageFault) → IsReady message (length before) → message.flags ≡ reading_block
      → RestStays result before after → result ≡ block_as outcome
      → Sent (IsMessage message.address (read_address message.address) (ReadsCounted after message.length outcome)
      message.end outcome) old new events
      → Sends message before after old new events result
