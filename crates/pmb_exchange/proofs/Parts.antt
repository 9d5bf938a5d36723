-- The parts of a write: the leg that each part makes, its events, and its device with no earlier
-- leg to it. For the laws `runs_are_exchanges` and `an_exchange_is_one`. A known device takes the
-- body of each part; since the parts of a write have distinct addresses, the legs before a part
-- are all written to other devices (`PartAt`).
use Rattle.std.proofs.Common.{◌≡◌, ℕ, false, Option, Some, List, [], ◌∷◌, ◌++◌, map, flat_map, nat_eq, refl, sym, ap}
use Rattle.std.proofs.Common.{subst, ◌∙◌}
use Rattle.std.specs.List.{AllByRecursion, Contains, IsDistinct}
use Rattle.std.proofs.lemmas.Bool.{ne_eqb, or_from}
use Rattle.pmb_bus.specs.declared.event.Event.{Event}
use Rattle.pmb_bus.specs.Address.{write_address}
use Rattle.pmb_command.specs.declared.form.Form.{Form}
use Rattle.pmb_command.specs.Bus.{IsBus, IsDevice}
use Rattle.pmb_command.specs.Parts.{DeviceParts, IsNew, device_with}
use Rattle.pmb_command.specs.Wire.{wire}
use Rattle.pmb_transaction.specs.Body.{WriteBody, checked}
use Rattle.pmb_transaction.specs.Packet.{PartEvents, PartsEvents, addresses, leg}
use Rattle.pmb_transaction.specs.Transaction.{PartData}
use Rattle.pmb_transaction.proofs.Known.{device_is}
use Rattle.pmb_writer.proofs.Packets.{forms_are}
use Rattle.pmb_registers.specs.State.{InState}
use Rattle.pmb_device.specs.Legs.{is_to, some_is_to}
use Rattle.pmb_devices.proofs.Devices.{nat_eq_flips}
use Rattle.pmb_devices.proofs.OwnLegs.{byte_leg}
use Rattle.pmb_devices.proofs.Writes.{none_of, other_written}
use Rattle.pmb_host.specs.Signals.{part_bytes, wire_in}
use Rattle.pmb_exchange.proofs.Members.{found_with}

-- ---- facts of each of some things

pub all_parts : {X : Type 0} (P : X → Type 0) (front : List X) (x : X) (back : List X)
    → AllByRecursion P (front ++ x ∷ back)
    → AllByRecursion P front × P x
all_parts P [] x back all = (tt, all.0)
all_parts P (y ∷ front) x back all =
    let more = all_parts P front x back all.1 in
    ((all.0, more.0), more.1)

module _ (profile : List DeviceParts) where
  -- ---- legs

  -- A part has a leg: a known device takes its body.
  pub record HasLeg (part : PartData) : Type 0 where
    pub device : DeviceParts
    pub accepted : IsDevice device
    pub address_is : device.address ≡ part.addr
    pub known : device_with part.addr profile ≡ Some device
    -- what is written to the device after its address
    pub body : List ℕ
    pub allowed : WriteBody device part.code part.bytes part.pec body
    -- the leg of the part: the address for writing and the body
    pub bytes_are : part_bytes profile part ≡ write_address part.addr ∷ body

  has_leg : IsBus profile → (part : PartData) (events : List Event) → PartEvents profile part events → HasLeg part
  has_leg bus part events is =
      let w = write_address part.addr in
      let form = is.allowed.form in
      let accepted = device_is profile part.addr is.device bus is.known in
      let form_is = ap (λ s. s.write) (forms_are profile part.addr part.code is.device is.known) ∙ is.allowed.written in
      record {
        device = is.device;
        accepted = accepted.0;
        address_is = accepted.1;
        known = is.known;
        body = is.body;
        allowed = is.allowed;
        bytes_are =
            ap (λ (o : Option Form). w ∷ checked part.pec (w ∷ []) (part.code ∷ wire_in o part.bytes)) form_is
            ∙ ap (λ (a : ℕ). w ∷ checked part.pec (write_address a ∷ []) (part.code ∷ wire form part.bytes))
            (sym accepted.1)
            ∙ ap (λ (bs : List ℕ). w ∷ bs) (sym is.allowed.spelled);
      }

  pub have_legs : IsBus profile → (parts : List PartData) (events : List Event) → PartsEvents profile parts events
      → AllByRecursion HasLeg parts
  have_legs bus [] events each = tt
  have_legs bus (part ∷ parts) events each = (has_leg bus part each.0 each.3, have_legs bus parts each.1 each.4)

  -- ---- events

  -- the events of legs
  abbrev pub legs_events : List (List ℕ) → List Event
  legs_events legs = flat_map leg legs

  -- Parts that have legs have these events.
  pub parts_events : (parts : List PartData) → AllByRecursion HasLeg parts
      → PartsEvents profile parts (legs_events (map (part_bytes profile) parts))
  parts_events [] each = refl
  parts_events (part ∷ parts) each = (
    leg (part_bytes profile part),
    legs_events (map (part_bytes profile) parts),
    refl,
    record {
      device = each.0.device;
      body = each.0.body;
      known = each.0.known;
      allowed = each.0.allowed;
      spelled =
          ap leg each.0.bytes_are;
    },
    parts_events parts each.1,
  )

  -- ---- addresses

  -- an address among others
  all_at : (P : ℕ → Type 0) (before : List PartData) (part : PartData) (behind : List PartData)
      → AllByRecursion P (addresses (before ++ part ∷ behind)) → P part.addr
  all_at P [] part behind all = all.0
  all_at P (first ∷ before) part behind all = all_at P before part behind all.1

  all_front : (P : ℕ → Type 0) (before more : List PartData) → AllByRecursion P (addresses (before ++ more))
      → AllByRecursion P (addresses before)
  all_front P [] more all = tt
  all_front P (first ∷ before) more all = (all.0, all_front P before more all.1)

  -- the first of distinct addresses are distinct
  pub distinct_front : (before more : List PartData) → IsDistinct nat_eq (addresses (before ++ more))
      → IsDistinct nat_eq (addresses before)
  unfolding IsDistinct
  distinct_front [] more own = tt
  distinct_front (first ∷ before) more own =
      (all_front (λ x. nat_eq first.addr x ≡ false) before more own.0, distinct_front before more own.1)

  -- An address is none of those before it.
  pub others_before : (before : List PartData) (part : PartData) (behind : List PartData)
      → IsDistinct nat_eq (addresses (before ++ part ∷ behind))
      → AllByRecursion (λ x. nat_eq part.addr x ≡ false) (addresses before)
  unfolding IsDistinct
  others_before [] part behind own = tt
  others_before (first ∷ before) part behind own = (
    nat_eq_flips first.addr part.addr (all_at (λ x. nat_eq first.addr x ≡ false) before part behind own.0),
    others_before before part behind own.1,
  )

  pub new_address : (before : List PartData) (part : PartData) (behind : List PartData)
      → IsDistinct nat_eq (addresses (before ++ part ∷ behind))
      → IsNew part.addr (addresses before)
  new_address before part behind own = none_of part.addr (addresses before) (others_before before part behind own)

  -- No leg of some parts is written to an address that they have not.
  not_written : (addr : ℕ) (before : List PartData) → AllByRecursion (λ x. nat_eq addr x ≡ false) (addresses before)
      → some_is_to (write_address addr) (map byte_leg (map (part_bytes profile) before)) ≡ false
  not_written addr [] others = refl
  not_written addr (first ∷ before) others =
      let w = write_address addr in
      or_from (is_to w (byte_leg (part_bytes profile first)))
      (some_is_to w (map byte_leg (map (part_bytes profile) before)))
      (ne_eqb (write_address first.addr) w (λ same. other_written addr first.addr others.0 (sym same)))
      (not_written addr before others.1)

  -- ---- a part, its device and the legs before it

  module _ (members : List InState) where
    -- A part after others is written to a device of the bus, to which none before it is.
    pub record PartAt (before : List PartData) (part : PartData) : Type 0 where
      -- the member that the part is written to, with its state
      pub member : InState
      pub in_bus : Contains members member
      pub accepted : IsDevice member.device
      pub address_is : member.device.address ≡ part.addr
      pub body : List ℕ
      pub write : WriteBody member.device part.code part.bytes part.pec body
      pub bytes_are : part_bytes profile part ≡ write_address member.device.address ∷ body
      -- no leg before is written to that device
      pub once : some_is_to (write_address member.device.address) (map byte_leg (map (part_bytes profile) before))
          ≡ false

    pub part_at : map (λ m. m.device) members ≡ profile
        → (before : List PartData) (part : PartData) (behind : List PartData)
        → IsDistinct nat_eq (addresses (before ++ part ∷ behind)) → HasLeg part → PartAt before part
    part_at devices_are before part behind distinct has =
        let found =
        found_with members part.addr has.device (subst
        (λ (ds : List DeviceParts). device_with part.addr ds ≡ Some has.device) (sym devices_are) has.known) in
        let once = not_written part.addr before (others_before before part behind distinct) in
        record {
          member = found.member;
          in_bus = found.in_bus;
          accepted = subst IsDevice (sym found.device_is) has.accepted;
          address_is = found.address_is;
          body = has.body;
          write = subst (λ (d : DeviceParts). WriteBody d part.code part.bytes part.pec has.body)
              (sym found.device_is) has.allowed;
          bytes_are = has.bytes_are ∙ ap (λ (a : ℕ). write_address a ∷ has.body) (sym found.address_is);
          once = subst (λ (a : ℕ). some_is_to (write_address a) (map byte_leg (map (part_bytes profile) before))
              ≡ false) (sym found.address_is) once;
        }
