-- The device that a bus has at an address, and what it answers to the bytes that are written to
-- it. For the three laws of `laws.rt`. The profile's search by address is followed along the
-- members; the answer of the bus to a written byte is that member's, since no other one is
-- addressed, and silence is no answer that a device gives to its own address.
use Rattle.std.proofs.Common.{◌≡◌, ℕ, suc, inl, inr, Bool, true, false, cond, Option, Some, List, [], ◌∷◌, map, nat_eq}
use Rattle.std.proofs.Common.{refl, subst, arith}
use Rattle.std.specs.List.{Contains}
use Rattle.std.proofs.lemmas.Bool.{eqb-true}
use Rattle.std.proofs.lemmas.Option.{none-some, same_Some}
use Rattle.pmb_command.specs.Parts.{DeviceParts, device_with}
use Rattle.pmb_bus.specs.Address.{write_address}
use Rattle.pmb_transaction.specs.Reason.{Whether}
use Rattle.pmb_registers.specs.State.{DeviceState, InState}
use Rattle.pmb_device.specs.declared.signal.HostSignal.TheVariants.{Byte}
use Rattle.pmb_device.specs.declared.signal.DeviceSignal.{DeviceSignal}
use Rattle.pmb_device.specs.declared.signal.DeviceSignal.TheVariants as answers
use Rattle.pmb_device.specs.Legs.{Leg, Inside, leg_place, sent, some_is_to}
use Rattle.pmb_device.specs.Rules.{AnswersAddress, AnswersByte, IsWritten, TakesAll, TakesByte, written, read, others}
use Rattle.pmb_devices.specs.Bus.{BusAnswers}
use Rattle.pmb_devices.proofs.Givers.{member_answers, no_read_address}
use Rattle.pmb_devices.proofs.OwnLegs.{byte_leg, sent_bytes}

-- ---- the device with an address

-- A device of the bus, which its profile has at an address.
pub record Found (members : List InState) (addr : ℕ) (device : DeviceParts) : Type 0 where
  pub member : InState
  pub in_bus : Contains members member
  -- the member is this device of the profile, in some state
  pub device_is : member.device ≡ device
  pub address_is : member.device.address ≡ addr

found_behind : (m : InState) (members : List InState) (addr : ℕ) (device : DeviceParts) → Found members addr device
    → Found (m ∷ members) addr device
found_behind m members addr device found = record {
  member = found.member;
  in_bus = (suc (found.in_bus.0), omega (arith, found.in_bus.1), found.in_bus.2);
  device_is = found.device_is;
  address_is = found.address_is;
}

found_by_test : (m : InState) (members : List InState) (addr : ℕ) (device : DeviceParts) (b : Bool)
    (o : Option DeviceParts) → nat_eq m.device.address addr ≡ b
    → (o ≡ Some device → Found members addr device) → cond b (Some m.device) o ≡ Some device
    → Found (m ∷ members) addr device
found_by_test m members addr device true o is later known = record {
  member = m;
  in_bus = (0, omega arith, refl);
  device_is = same_Some m.device device known;
  address_is = eqb-true m.device.address addr is;
}
found_by_test m members addr device false o is later known = found_behind m members addr device (later known)

pub found_with : (members : List InState) (addr : ℕ) (device : DeviceParts)
    → device_with addr (map (λ m. m.device) members) ≡ Some device
    → Found members addr device
found_with [] addr device known = absurd (none-some device known)
found_with (m ∷ members) addr device known =
    found_by_test m members addr device (nat_eq m.device.address addr) (device_with addr (map (λ m. m.device) members))
    refl
    (λ later. found_with members addr device later) known

-- ---- bytes that are written to it

-- its own address for writing
own_address : (device : DeviceParts) (state : DeviceState) (earlier : List Leg) (result : DeviceSignal)
    → IsWritten device earlier (write_address device.address)
    → AnswersAddress device state earlier (write_address device.address) result
    → result ≡ answers.Ack
own_address device state earlier result own (written is ack) = ack
own_address device state earlier result own (read body is same) =
    absurd (no_read_address device.address device.address is.own)
own_address device state earlier result own (others none nor silent) = absurd (none own)

-- a byte after bytes that it took
own_byte : (device : DeviceParts) (state : DeviceState) (earlier : List Leg) (address : ℕ) (bytes : List ℕ) (b : ℕ)
    (result : DeviceSignal)
    → IsWritten device earlier address → TakesAll device (leg_place earlier) [] bytes
    → AnswersByte device state earlier (sent (byte_leg (address ∷ bytes))) b result
    → Whether (TakesByte device (leg_place earlier) bytes b) (result ≡ answers.Ack) (result ≡ answers.Nack)
own_byte device state earlier address bytes b result own taken answered =
    elim (subst (λ (bs : List ℕ). AnswersByte device state earlier (address ∷ bs) b result) (sent_bytes bytes) answered) [
      | inl here ↦ elim here.1 [ inl w ↦ w.1 | inr w ↦ absurd (w.0 taken) ]
      | inr other ↦ absurd (other.0 own)
    ]

module _ (members : List InState) (member : InState) (in_bus : Contains members member) (earlier : List Leg) where
  -- The bus acknowledges its address where no earlier leg is written to it.
  pub address_acked : (result : DeviceSignal) → some_is_to (write_address member.device.address) earlier ≡ false
      → BusAnswers members (Inside earlier []) (Byte (write_address member.device.address)) result
      → result ≡ answers.Ack
  address_acked result once bus =
      let own : IsWritten member.device earlier (write_address member.device.address) =
      record { own = refl; once = once } in
      elim (member_answers members member in_bus (Inside earlier []) (Byte (write_address member.device.address)) result
      bus) [
        | inl answered ↦ own_address member.device member.state earlier result own answered
        | inr silent ↦ absurd (cc (own_address member.device member.state earlier answers.Silent own silent))
      ]

  module _ (once : some_is_to (write_address member.device.address) earlier ≡ false) (bytes : List ℕ) (b : ℕ)
      (taken : TakesAll member.device (leg_place earlier) [] bytes) (result : DeviceSignal)
      (bus : BusAnswers members (Inside earlier (byte_leg (write_address member.device.address ∷ bytes)))
      (Byte b) result) where
    own_leg : IsWritten member.device earlier (write_address member.device.address)
    own_leg = record { own = refl; once = once }

    -- the member's answer, or its silence
    answered_by : (signal : DeviceSignal) → AnswersByte member.device member.state earlier
        (sent (byte_leg (write_address member.device.address ∷ bytes))) b signal
        → Whether (TakesByte member.device (leg_place earlier) bytes b) (signal ≡ answers.Ack) (signal ≡ answers.Nack)
    answered_by signal answered = own_byte member.device member.state earlier (write_address member.device.address)
        bytes b signal own_leg taken answered

    -- A byte that the device takes is acknowledged,
    pub byte_acked : TakesByte member.device (leg_place earlier) bytes b → result ≡ answers.Ack
    byte_acked takes =
        elim (member_answers members member in_bus
        (Inside earlier (byte_leg (write_address member.device.address ∷ bytes))) (Byte b) result bus) [
          | inl answered ↦ elim (answered_by result answered) [ inl w ↦ w.1 | inr w ↦ absurd (w.0 takes) ]
          | inr silent ↦ elim (answered_by answers.Silent silent)
              [ inl w ↦ absurd (cc w.1) | inr w ↦ absurd (w.0 takes) ]
        ]

    -- and one that it doesn't take is not.
    pub byte_not_acked : (TakesByte member.device (leg_place earlier) bytes b → ⊥) → result ≡ answers.Ack → ⊥
    byte_not_acked refused ack =
        elim (member_answers members member in_bus
        (Inside earlier (byte_leg (write_address member.device.address ∷ bytes))) (Byte b) result bus) [
          | inl answered ↦ elim (answered_by result answered) [ inl w ↦ refused w.0 | inr w ↦ cc (ack, w.1) ]
          | inr silent ↦ elim (answered_by answers.Silent silent) [ inl w ↦ refused w.0 | inr w ↦ cc w.1 ]
        ]
