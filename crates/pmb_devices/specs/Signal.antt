-- What a bus answers to a signal, and what it makes of its devices.
--
-- `BusStandsAt bus standing` says where a bus stands that was made from a profile and given some
-- signals since: `standing` has all of them, with their answers. What this says of the fields is in
-- `machine`, and nothing here needs it to be understood.
use Rattle.std.specs.Prelude.{◌≡◌, ◌≢◌, ℕ, List, [], ◌∷◌, ◌++◌, map}
use Rattle.std.specs.List.{AllByRecursion, Contains}
use Rattle.pmb_bus.specs.declared.event.Event.TheVariants as events
use Rattle.pmb_transaction.specs.Transaction.{TransactionData}
use Rattle.pmb_transaction.specs.Packet.{Packet}
use Rattle.pmb_registers.specs.State.{InState}
use Rattle.pmb_registers.specs.Apply.{apply}
use Rattle.pmb_device.specs.declared.signal.HostSignal.{HostSignal}
use Rattle.pmb_device.specs.declared.signal.HostSignal.TheVariants.{Start, Byte, Ask, Ack, Nack, Stop}
use Rattle.pmb_device.specs.declared.signal.DeviceSignal.{DeviceSignal}
use Rattle.pmb_device.specs.declared.device.Device.{Device}
use Rattle.pmb_device.specs.Device.{DeviceStandsAt}
use Rattle.pmb_device.specs.Legs.{Outside}
use Rattle.pmb_devices.specs.declared.bus.Bus.{Bus}
use Rattle.pmb_devices.specs.Bus.{BusAnswers, recorded_events, legs_after}
use Rattle.pmb_devices.specs.Runs.{AllEnd}
pub use Rattle.pmb_devices.specs.machine.Standing.{BusStanding, BusStandsAt}

-- what a transaction makes of each device
abbrev pub all_applied : TransactionData → List InState → List InState
all_applied t members = map (λ member. record { device = member.device; state = apply member.device t member.state })
    members

-- What STOP makes of the bus: each device does what its own leg asks for, and takes after that what was
-- written at its other addresses. Where the events since the last STOP, with this one, are the packet of a
-- transaction, each device becomes what the transaction makes of it, whatever came before.
pub record BusEnds (standing : BusStanding) (new : Bus) : Type 0 where
  pub members : List InState
  pub ends : AllEnd (legs_after Outside standing.history) standing.members members
  pub stands : BusStandsAt new (record {
    past = standing.past ++ standing.history ∷ [];
    members = members;
    history =
        [];
  })
  pub applied : (t : TransactionData)
      → Packet (map (λ member. member.device) standing.members) t (recorded_events standing.history ++ events.Stop ∷ [])
      → members ≡ all_applied t standing.members

-- where the bus stands after a signal and the answer to it, other than at STOP
abbrev pub behind : BusStanding → HostSignal → DeviceSignal → BusStanding
behind standing signal result = record standing {
  history = standing.history
      ++ record { signal = signal; result = result } ∷ [];
}

abbrev pub BusLeads : BusStanding → HostSignal → DeviceSignal → Bus → Type 0
BusLeads standing Start result new = BusStandsAt new (behind standing Start result)
BusLeads standing (Byte b) result new = BusStandsAt new (behind standing (Byte b) result)
BusLeads standing Ask result new = BusStandsAt new (behind standing Ask result)
BusLeads standing Ack result new = BusStandsAt new (behind standing Ack result)
BusLeads standing Nack result new = BusStandsAt new (behind standing Nack result)
BusLeads standing Stop result new = BusEnds standing new

-- What a signal comes to: the answer on the bus, and where that leads.
pub record BusTakes (standing : BusStanding) (signal : HostSignal) (result : DeviceSignal) (new : Bus) : Type 0 where
  pub answers : BusAnswers standing.members (legs_after Outside standing.history) signal result
  pub leads : BusLeads standing signal result new

-- no device has the address
abbrev pub HasNone : BusStanding → ℕ → Type 0
HasNone standing address = AllByRecursion (λ member. member.device.address ≢ address) standing.members

-- A device is the one with the address, and stands where the bus does.
pub record Tells (standing : BusStanding) (address : ℕ) (device : Device) : Type 0 where
  pub member : InState
  pub one_of : Contains standing.members member
  pub address_is : member.device.address ≡ address
  pub stands : DeviceStandsAt device (record {
    device = member.device;
    state = member.state;
    legs =
        legs_after Outside standing.history;
  })
