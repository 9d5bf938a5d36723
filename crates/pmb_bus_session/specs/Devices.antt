-- The devices of a session, and what messages and requests make of them.
--
-- What a message does is stated by the layers below: its signals and answers by `Sends` of pmb_message, over
-- `IsMessage` of pmb_i2c; what its events read as by `Reading` of pmb_transaction.
use Rattle.std.specs.Prelude.{◌≡◌, Bool, true, false, Result, Ok, Err, ℕ, List, [], ◌++◌, map}
use Rattle.pmb_bus.specs.declared.event.Event.{Event}
use Rattle.pmb_command.specs.Parts.{DeviceParts}
use Rattle.pmb_devices.specs.declared.bus.Bus.{Bus}
use Rattle.pmb_devices.specs.Signal.{BusStanding, BusStandsAt}
use Rattle.pmb_i2c.specs.declared.message.MessageEnd.{MessageEnd}
use Rattle.pmb_i2c.specs.declared.message.MessageEnd.TheVariants as ends
use Rattle.pmb_i2c.specs.Signals.{IsStopped}
use Rattle.pmb_message.specs.declared.message.Message.{Message}
use Rattle.pmb_message.specs.declared.message.SendFault.{SendFault}
use Rattle.pmb_message.specs.declared.message.SendFault.TheVariants.{NoDevice, Refused, BadCount, BadAddress, BadLength, BadFlags}
use Rattle.pmb_message.specs.Send.{Sends}
use Rattle.pmb_reader.specs.Reader.{Standing}
use Rattle.pmb_transaction.specs.Reading.{Outcome}
use Rattle.pmb_transaction.specs.Transaction.{TransactionData}
use Rattle.pmb_run.specs.Heard.{HearsAt, HearsMore, ReadsAs}
use Rattle.pmb_run.specs.machine.Bench.{HasRun, bench_profile}
use Rattle.pmb_bus_session.specs.declared.devices.Devices.{Devices}

-- the bus of the devices
abbrev pub devices_bus : Devices → Bus
devices_bus devices = devices.runner.bench.bus

-- the text of the last request
abbrev pub request_text : Devices → List ℕ
request_text devices = devices.waiting.value.items

-- Whether a transfer is under way after a message, by its end and what came of it: a message that failed ends
-- with STOP, unless nothing was sent.
abbrev pub under_way_after : Bool → MessageEnd → Result ℕ SendFault → Bool
under_way_after was ends.Stop (Ok count) = false
under_way_after was ends.RepeatedStart (Ok count) = true
under_way_after was end (Err NoDevice) = false
under_way_after was end (Err Refused) = false
under_way_after was end (Err BadCount) = false
under_way_after was end (Err BadAddress) = was
under_way_after was end (Err BadLength) = was
under_way_after was end (Err BadFlags) = was

-- Devices of a profile, each in its first state.
pub record OpensFresh (profile : List DeviceParts) (devices : Devices) : Type 0 where
  pub profile_is : bench_profile devices.runner.bench ≡ profile
  pub fresh : HasRun devices.runner.bench []
  pub read : ReadsAs devices.runner.bench [] []
  pub lines : devices.runner.lines ≡ 0
  pub ended : devices.is_under_way ≡ false

-- The bus of the profile's devices stands somewhere: between two transfers, where none is under way.
pub record BusStands (devices : Devices) : Type 0 where
  pub standing : BusStanding
  pub stands : BusStandsAt (devices_bus devices) standing
  pub devices_are : map (λ member. member.device) standing.members ≡ bench_profile devices.runner.bench
  pub ended : devices.is_under_way ≡ false → standing.history ≡ []

-- So the bus stands, the reader of its events stands at this place, and these transactions were noted.
pub record DevicesStand (devices : Devices) (place : Standing) (ts : List TransactionData) : Type 0 where
  pub bus : BusStands devices
  pub hears : HearsAt devices.runner.bench place ts

-- A message was sent, or was not: what it did to the bus; and its events were read after those before them, and
-- wherever the reader stood, from there. Where no transfer is under way after it, the same devices are on the bus, and
-- it stands between two. If the bus stood somewhere, it does.
pub record DevicesSend (message : Message) (before after : List ℕ) (old new : Devices) (result : Result ℕ SendFault) : Type
    0 where
  pub sends : Sends message before after (devices_bus old) (devices_bus new) new.tape result
  pub profile_is : new.runner.bench.profile ≡ old.runner.bench.profile
  pub reads : (events : List Event) (outcomes : List Outcome) → ReadsAs old.runner.bench events outcomes
      → (more : List Outcome) × ReadsAs new.runner.bench (events ++ new.tape) (outcomes ++ more)
  pub reads_on : (place : Standing) (ts : List TransactionData) → HearsAt old.runner.bench place ts
      → HearsMore new.runner.bench place ts new.tape
  pub lines : new.runner.lines ≡ old.runner.lines
  pub waiting : request_text new ≡ request_text old
  pub under_way : new.is_under_way ≡ under_way_after old.is_under_way message.end result
  pub stopped : (standing : BusStanding) → BusStandsAt (devices_bus old) standing
      → (old.is_under_way ≡ false → standing.history ≡ []) → new.is_under_way ≡ false
      → IsStopped (map (λ member. member.device) standing.members) (devices_bus new)
  pub stands : BusStands old → BusStands new
