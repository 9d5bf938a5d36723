-- What the fields of a device say of where it stands.
use Rattle.std.specs.Prelude.{◌≡◌, Bool, true, false, None}
use Rattle.pmb_command.specs.Parts.{DeviceParts}
use Rattle.pmb_registers.specs.State.{DeviceState}
use Rattle.pmb_device.specs.declared.device.Device.{Device}
use Rattle.pmb_device.specs.declared.device_packet.DevicePacket.{DevicePacket}
use Rattle.pmb_device.specs.Ends.{Ends, Took}
use Rattle.pmb_device.specs.Legs.{Legs}
use Rattle.pmb_device.specs.machine.Standing.{KeepsWrite, StandsIn}

-- A device, its state at the last STOP, and the legs since then.
pub record DeviceStanding : Type 0 where
  pub device : DeviceParts
  pub state : DeviceState
  pub legs : Legs

-- A device stands there.
pub record DeviceStandsAt (d : Device) (standing : DeviceStanding) : Type 0 where
  pub registers : d.registers ≡ record { device = standing.device; state = standing.state }
  pub exchange : StandsIn d.exchange standing.device standing.state standing.legs

-- What a device knows of the packet that STOP ended after these legs: it took a complete write, whose bytes
-- are kept, or none.
abbrev pub RemembersBy : Bool → DevicePacket → DeviceParts → Legs → Type 0
RemembersBy true exchange device legs = KeepsWrite exchange device legs
RemembersBy false exchange device legs = Took device legs None

abbrev pub Remembers : Device → DeviceParts → Legs → Type 0
Remembers d device legs = RemembersBy d.wrote d.exchange device legs

-- Its registers did what STOP asks for, and the packet has still to end.
pub record Acted (standing : DeviceStanding) (d : Device) : Type 0 where
  pub after : DeviceState
  pub ends : Ends standing.device standing.legs standing.state after
  pub registers : d.registers ≡ record { device = standing.device; state = after }
  pub exchange : StandsIn d.exchange standing.device standing.state standing.legs
  pub remembers : Remembers d standing.device standing.legs
