-- Rows of reasons, worked by hand on a bus of two devices.
use Rattle.std.specs.Prelude.{ℕ, false, None, List, [], ◌∷◌, codes}
use Rattle.pmb_bus.specs.declared.event.Event.{Event}
use Rattle.pmb_bus.specs.declared.event.Event.TheVariants.{Byte, Ack, Nack}
use Rattle.pmb_command.specs.declared.entry.Kind.TheVariants.{Raw}
use Rattle.pmb_command.specs.declared.form.Form.TheVariants.{Zero, One, Two}
use Rattle.pmb_command.specs.declared.form.Shape.{Shape}
use Rattle.pmb_command.specs.declared.pec_mode.PecMode.TheVariants.{Off, Optional}
use Rattle.pmb_command.specs.Commands.{written, read}
use Rattle.pmb_command.specs.Parts.{CommandParts, DeviceParts}
use Rattle.pmb_transaction.specs.declared.reason.Reason.{Reason}
use Rattle.pmb_transaction.specs.declared.reason.Reason.TheVariants.{WrongEvent}
use Rattle.pmb_transaction.specs.Capture.{MayFollow}
use Rattle.pmb_transaction.specs.Reason.{SomeByteMayFollow, FollowsAlone, IsReason}

-- ---- the bus

-- a command of a code, a name and its forms
abbrev pub command : ℕ → List ℕ → Shape → CommandParts
command code name shape = record {
  entry =
      record { code = code; name = name; shape = shape; kind = Raw; paged = false };
  initial = None;
  unit = None;
  bits = [];
  phased = false;
}

-- CLEAR_FAULTS is written without data, and READ_VIN is read, a word.
abbrev pub clear_faults : CommandParts
clear_faults = command 0x03 (codes "CLEAR_FAULTS") (written Zero)

abbrev pub read_vin : CommandParts
read_vin = command 0x88 (codes "READ_VIN") (read Two)

-- CAPABILITY is read, a byte.
abbrev pub capability : CommandParts
capability = command 0x19 (codes "CAPABILITY") (read One)

-- The device at 58h, whose address bytes are b0 and b1: packets with a packet error code or none.
abbrev pub device_58h : DeviceParts
device_58h = record {
  address = 0x58;
  name = None;
  pec = Optional;
  pages = 1;
  modes = 0 ∷ [];
  vout_direct = None;
  vid = None;
  phases = None;
  protect = false;
  also = [];
  commands =
      clear_faults ∷ read_vin ∷ [];
}

-- The device at 59h, whose address bytes are b2 and b3: no packet error codes.
abbrev pub device_59h : DeviceParts
device_59h = record {
  address = 0x59;
  name = None;
  pec = Off;
  pages = 1;
  modes = 0 ∷ [];
  vout_direct = None;
  vid = None;
  phases = None;
  protect = false;
  also = [];
  commands = capability
      ∷ [];
}

abbrev pub worked_bus : List DeviceParts
worked_bus = device_58h ∷ device_59h ∷ []

-- ---- a row

-- Another byte may follow the events than this one, which is refused for the reason.
pub record OtherByteFollows (events : List Event) (byte : ℕ) (reason : Reason) : Type 0 where
  pub other : SomeByteMayFollow worked_bus events
  pub refused : ¬ (MayFollow worked_bus events (Byte byte))
  pub told : IsReason worked_bus events (Byte byte) reason

-- NACK alone may follow the events, and ACK is refused for the reason.
pub record NackAloneFollows (events : List Event) (reason : Reason) : Type 0 where
  pub alone : FollowsAlone worked_bus events Nack
  pub told : IsReason worked_bus events Ack reason

-- ACK alone may follow the events, and NACK is refused for the reason.
pub record AckAloneFollows (events : List Event) (reason : Reason) : Type 0 where
  pub alone : FollowsAlone worked_bus events Ack
  pub told : IsReason worked_bus events Nack reason

-- The event may not follow the events, and is out of its place.
pub record IsOutOfPlace (events : List Event) (event : Event) : Type 0 where
  pub refused : ¬ (MayFollow worked_bus events event)
  pub told : IsReason worked_bus events event WrongEvent
