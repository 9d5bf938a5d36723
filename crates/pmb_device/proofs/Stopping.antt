-- A device at STOP: its registers take the outcome of the packet, and the packet ends. For
-- `Device::act`, `Device::stop` and `Device::written`.
use Rattle.std.proofs.Common.{◌≡◌, Bool, true, false, None, sym, subst}
use Rattle.pmb_command.specs.Parts.{DeviceParts}
use Rattle.pmb_registers.specs.State.{DeviceState}
use Rattle.pmb_device.specs.declared.device_packet.DevicePacket.{DevicePacket}
use Rattle.pmb_device.specs.declared.device_packet.Effect.{Effect}
use Rattle.pmb_device.specs.declared.device_packet.Effect.TheVariants.{Nothing, Write, Note}
use Rattle.pmb_device.specs.declared.device.Device.{Device}
use Rattle.pmb_device.specs.Legs.{Legs, Outside}
use Rattle.pmb_device.specs.Ends.{Ends, Took}
use Rattle.pmb_device.specs.DevicePacket.{KeepsWrite, StandsIn, TellsWrite, after_outcome}
use Rattle.pmb_device.specs.machine.Device.{Acted, DeviceStanding, DeviceStandsAt, Remembers, RemembersBy}

-- an outcome is a write
abbrev pub is_write : Effect → Bool
is_write Nothing = false
is_write (Write code bytes) = true
is_write (Note bit) = false

-- what the outcome tells of a write is what is known by that
remembers_so : (outcome : Effect) (exchange : DevicePacket) (device : DeviceParts) (legs : Legs)
    → TellsWrite exchange device legs outcome → RemembersBy (is_write outcome) exchange device legs
remembers_so Nothing exchange device legs tells = tells
remembers_so (Write code bytes) exchange device legs tells = tells
remembers_so (Note bit) exchange device legs tells = tells

module _ (old new : Device) (standing : DeviceStanding) where
  -- what the registers have to be
  abbrev pub TakesOutcome : Effect → Type 0
  TakesOutcome outcome =
      new.registers ≡ record { device = standing.device; state = after_outcome standing.device outcome standing.state }

  pub acted : (outcome told : Effect) → told ≡ outcome → DeviceStandsAt old standing → TakesOutcome outcome
      → new.exchange ≡ old.exchange → new.wrote ≡ is_write outcome
      → Ends standing.device standing.legs standing.state (after_outcome standing.device told standing.state)
      → TellsWrite old.exchange standing.device standing.legs told → Acted standing new
  acted outcome told is at registers same wrote ends tells =
      let here : TellsWrite old.exchange standing.device standing.legs outcome =
      subst (λ (o : Effect). TellsWrite old.exchange standing.device standing.legs o) is tells in
      let known : RemembersBy (is_write outcome) new.exchange standing.device standing.legs =
      subst (λ (x : DevicePacket). RemembersBy (is_write outcome) x standing.device standing.legs) (sym same)
      (remembers_so outcome old.exchange standing.device standing.legs here) in
      record {
        after = after_outcome standing.device outcome standing.state;
        ends = subst (λ (o : Effect). Ends standing.device standing.legs standing.state
            (after_outcome standing.device o standing.state)) is ends;
        registers = registers;
        exchange = subst (λ (x : DevicePacket). StandsIn x standing.device standing.state standing.legs) (sym same)
            at.exchange;
        remembers = subst (λ (b : Bool). RemembersBy b new.exchange standing.device standing.legs) (sym wrote) known;
      }

-- the packet ends, and what is known stays
keeps_known : (wrote : Bool) (old new : DevicePacket) (device : DeviceParts) (legs : Legs)
    → (KeepsWrite old device legs → KeepsWrite new device legs) → RemembersBy wrote old device legs
    → RemembersBy wrote new device legs
keeps_known true old new device legs keeps known = keeps known
keeps_known false old new device legs keeps known = known

pub stops : (mid : Device) (new : DevicePacket) (standing : DeviceStanding) → Acted standing mid
    → ((device : DeviceParts) (state new_state : DeviceState) (legs : Legs) → StandsIn mid.exchange device state legs
    → StandsIn new device new_state Outside)
    → ((device : DeviceParts) (legs : Legs) → KeepsWrite mid.exchange device legs → KeepsWrite new device legs)
    → (after : DeviceState) × Ends standing.device standing.legs standing.state after
    × DeviceStandsAt (record { registers = mid.registers; exchange = new; wrote = mid.wrote })
    (record { device = standing.device; state = after; legs = Outside })
    × Remembers (record { registers = mid.registers; exchange = new; wrote = mid.wrote }) standing.device standing.legs
stops mid new standing acted ended keeps = (
  acted.after,
  acted.ends,
  record {
    registers = acted.registers;
    exchange = ended standing.device standing.state acted.after standing.legs acted.exchange;
  },
  keeps_known mid.wrote mid.exchange new standing.device standing.legs (keeps standing.device standing.legs)
      acted.remembers,
)

-- a device that took no write says so
pub none_written : (d : Device) (device : DeviceParts) (legs : Legs) → d.wrote ≡ false → Remembers d device legs
    → Took device legs None
none_written d device legs none known =
    subst (λ (b : Bool). RemembersBy b d.exchange device legs) none known

-- and one that took one keeps its bytes
pub some_written : (d : Device) (device : DeviceParts) (legs : Legs) → d.wrote ≡ true → Remembers d device legs
    → KeepsWrite d.exchange device legs
some_written d device legs some known = subst (λ (b : Bool). RemembersBy b d.exchange device legs) some known

-- outside of legs an exchange stands in any state
pub stands_outside : (x : DevicePacket) (device : DeviceParts) (state other : DeviceState)
    → StandsIn x device state Outside → StandsIn x device other Outside
stands_outside x device state other stands =
    record { known = stands.known; accepted = stands.accepted; behind = stands.behind }
