-- What a simulated device answers to a signal, and where that leads.
--
-- `DeviceStandsAt device standing` says where a device stands that was made from a profile and
-- given some signals since: its state at the last STOP, or its first one, and the legs that the
-- signals make since then. `Remembers device parts legs` says what it knows of the packet that STOP
-- ended after these legs. What they say of a device's own fields is in `machine`.
use Rattle.pmb_registers.specs.State.{DeviceState}
use Rattle.pmb_device.specs.declared.signal.HostSignal.{HostSignal}
use Rattle.pmb_device.specs.declared.signal.HostSignal.TheVariants.{Start, Byte, Ask, Ack, Nack, Stop}
use Rattle.pmb_device.specs.declared.signal.DeviceSignal.{DeviceSignal}
use Rattle.pmb_device.specs.declared.device.Device.{Device}
use Rattle.pmb_device.specs.Legs.{Outside, with_signal}
use Rattle.pmb_device.specs.Rules.{Answers}
use Rattle.pmb_device.specs.Ends.{Ends}
pub use Rattle.pmb_device.specs.machine.Device.{DeviceStanding, DeviceStandsAt, Remembers}

-- Where it stands after a signal: its state stays but at STOP, which ends the packet. After that the device
-- knows whether it took a complete write.
abbrev pub Leads : DeviceStanding → HostSignal → Device → Type 0
Leads standing Start new = DeviceStandsAt new (record standing { legs = with_signal standing.legs Start })
Leads standing (Byte b) new = DeviceStandsAt new (record standing { legs = with_signal standing.legs (Byte b) })
Leads standing Ask new = DeviceStandsAt new (record standing { legs = with_signal standing.legs Ask })
Leads standing Ack new = DeviceStandsAt new (record standing { legs = with_signal standing.legs Ack })
Leads standing Nack new = DeviceStandsAt new (record standing { legs = with_signal standing.legs Nack })
Leads standing Stop new = (after : DeviceState) × Ends standing.device standing.legs standing.state after
    × DeviceStandsAt new (record standing { state = after; legs = Outside })
    × Remembers new standing.device standing.legs

-- What a signal comes to: the device answers by its rules, and goes there.
pub record Moves (standing : DeviceStanding) (signal : HostSignal) (result : DeviceSignal) (new : Device) : Type 0 where
  pub answers : Answers standing.device standing.state standing.legs signal result
  pub leads : Leads standing signal new
