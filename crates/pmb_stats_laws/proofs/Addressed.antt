-- Each fact names an address of seven bits, or none: for the law `facts_are_addressed`. Devices have such addresses,
-- and bytes of a text, halved, are such.
use Rattle.std.proofs.Common.{◌≡◌, ℕ, ◌+◌, ◌/◌, ◌<◌, Bool, true, false, Option, Some, None, List, [], ◌∷◌}
use Rattle.std.proofs.Common.{arith, cond, drop, eqb, length, map, reverse, subst, sym, take}
use Rattle.std.proofs.lemmas.List.{reverse-append}
use Rattle.std.proofs.lemmas.Option.{same_Some}
use Rattle.std.specs.List.{AllByRecursion, find}
use Rattle.std.specs.Option.{ForSome, IfSome, option_and_then}
use Rattle.pmb_bus.specs.declared.event.Event.{Event}
use Rattle.pmb_bus.specs.declared.event.Event.TheVariants.{Start, Byte, Ack, Nack, Stop}
use Rattle.pmb_bus.specs.Address.{alert_address, read_address}
use Rattle.pmb_bus.specs.Event.{AreBytes}
use Rattle.pmb_command.specs.Bus.{IsBus}
use Rattle.pmb_command.specs.Parts.{DeviceParts, device_with}
use Rattle.pmb_facts.specs.Fact.{FactData, fact_device}
use Rattle.pmb_facts.specs.Packets.{packet_facts, refused_fact, write_facts}
use Rattle.pmb_fact_stream.specs.Others.{address_if, first_address, if_ignored, is_ignored, next_address}
use Rattle.pmb_fact_stream.specs.Others.{other_address}
use Rattle.pmb_json.proofs.EachOf.{each_of_both, the_found}
use Rattle.pmb_json_objects.specs.Packets.{starts}
use Rattle.pmb_partial_packet.specs.PartialPacket.{bytes_of_leg, has_address, leg_device, legs, said_device}
use Rattle.pmb_places.specs.declared.places.Place.{Place}
use Rattle.pmb_stats_counts.specs.Counts.{AreAddressed}
use Rattle.pmb_stats_laws.proofs.EachFact.{HoldsOfEach}
use Rattle.pmb_transaction.proofs.Known.{device_is}
use Rattle.pmb_transaction.specs.Packet.{Packet, PartsEvents, RefusedLeg}
use Rattle.pmb_transaction.specs.Transaction.{PartData, RefusedData, TransactionData}
use Rattle.pmb_transaction.specs.Transaction.{Write, Read, Call, Refused, Alert, NoAlert}
use Rattle.pmb_unknown_start.specs.Past.{PastData}

abbrev pub IsSmall : Option ℕ → Type 0
IsSmall named = ForSome named (λ addr. addr < 128)

some_is_small : (addr : ℕ) → addr < 128 → IsSmall (Some addr)
some_is_small addr small other is = subst (λ a. a < 128) (same_Some addr other is) small

none_is_small : IsSmall None
none_is_small addr is = cc

abbrev pub Names : FactData → Type 0
Names fact = IsSmall (fact_device fact.what)

-- ---- others

next_is_small : (events : List Event) → AreBytes events → IsSmall (next_address events)
next_is_small [] bytes = none_is_small
next_is_small (Start ∷ events) bytes = none_is_small
next_is_small (Byte b ∷ events) bytes = some_is_small (b / 2) (omega (arith, bytes.0))
next_is_small (Ack ∷ events) bytes = none_is_small
next_is_small (Nack ∷ events) bytes = none_is_small
next_is_small (Stop ∷ events) bytes = none_is_small

first_is_small : (events : List Event) → AreBytes events → IsSmall (first_address events)
first_is_small [] bytes = none_is_small
first_is_small (Start ∷ events) bytes = next_is_small events bytes
first_is_small (Byte b ∷ events) bytes = none_is_small
first_is_small (Ack ∷ events) bytes = none_is_small
first_is_small (Nack ∷ events) bytes = none_is_small
first_is_small (Stop ∷ events) bytes = none_is_small

one_if_small : (is : Bool) (addr : ℕ) → IsSmall (Some addr) → IsSmall (address_if is addr)
one_if_small true addr small = small
one_if_small false addr small = none_is_small

if_ignored_is_small : (ignored : Option (List ℕ)) (named : Option ℕ) → IsSmall named
    → IsSmall (if_ignored ignored named)
if_ignored_is_small ignored None small = none_is_small
if_ignored_is_small ignored (Some addr) small = one_if_small (is_ignored ignored addr) addr small

other_is_small : (ignored : Option (List ℕ)) (events : List Event) → AreBytes events
    → IsSmall (other_address ignored events)
other_is_small ignored events bytes =
    if_ignored_is_small ignored (first_address events) (first_is_small events bytes)

-- ---- what a packet said that was refused

abbrev IsLegSmall : List ℕ → Type 0
IsLegSmall leg = IsSmall (leg_device leg)

chosen_is_small : (alert : Bool) (addr : ℕ) → addr < 128 → IsSmall (cond alert None (Some addr))
chosen_is_small true addr small = none_is_small
chosen_is_small false addr small = some_is_small addr small

leg_is_small : (events : List Event) → AreBytes events → IsLegSmall (bytes_of_leg events)
leg_is_small [] bytes = none_is_small
leg_is_small (Start ∷ events) bytes = none_is_small
leg_is_small (Byte b ∷ events) bytes =
    chosen_is_small (eqb b (read_address alert_address)) (b / 2) (omega (arith, bytes.0))
leg_is_small (Ack ∷ events) bytes = leg_is_small events bytes
leg_is_small (Nack ∷ events) bytes = leg_is_small events bytes
leg_is_small (Stop ∷ events) bytes = leg_is_small events bytes

legs_are_small : (events : List Event) → AreBytes events → AllByRecursion IsLegSmall (legs events)
legs_are_small [] bytes = tt
legs_are_small (Start ∷ events) bytes = (leg_is_small events bytes, legs_are_small events bytes)
legs_are_small (Byte b ∷ events) bytes = legs_are_small events bytes.1
legs_are_small (Ack ∷ events) bytes = legs_are_small events bytes
legs_are_small (Nack ∷ events) bytes = legs_are_small events bytes
legs_are_small (Stop ∷ events) bytes = legs_are_small events bytes

each_backwards : {A : Type 0} (P : A → Type 0) (xs : List A) → AllByRecursion P xs → AllByRecursion P (reverse xs)
each_backwards P [] all = tt
each_backwards P (x ∷ xs) all =
    subst (AllByRecursion P) (sym (reverse-append (x ∷ []) xs))
    (each_of_both P (reverse xs) (x ∷ []) (each_backwards P xs all.1) (all.0, tt))

found_is_small : (leg : Option (List ℕ)) → IfSome leg IsLegSmall → IsSmall (option_and_then leg_device leg)
found_is_small None is = none_is_small
found_is_small (Some leg) is = is

said_is_small : (events : List Event) → AreBytes events → IsSmall (said_device events)
said_is_small events bytes =
    found_is_small (find has_address (reverse (legs events)))
    (the_found IsLegSmall has_address (reverse (legs events))
    (each_backwards IsLegSmall (legs events) (legs_are_small events bytes)))

-- ---- packets

module _ (profile : List DeviceParts) (bus : IsBus profile) where
  known_is_small : (addr : ℕ) (device : DeviceParts) → device_with addr profile ≡ Some device → addr < 128
  known_is_small addr device known =
      let is = device_is profile addr device bus known in
      omega (arith, is.0.address.greatest, is.1)

  parts_are_small : (parts : List PartData) (events : List Event) → PartsEvents profile parts events
      → AllByRecursion (λ p. p.addr < 128) parts
  parts_are_small [] events each = tt
  parts_are_small (part ∷ parts) events each =
      (known_is_small part.addr each.3.device each.3.known, parts_are_small parts each.1 each.4)

  refused_is_small : (parts : List PartData) (addr : ℕ) (sent : List ℕ) (at_read : Bool) (events : List Event)
      → RefusedLeg profile parts addr sent at_read events → addr < 128
  refused_is_small parts addr [] false events leg = leg.seven
  refused_is_small parts addr (b ∷ bytes) false events leg = known_is_small addr leg.device leg.known
  refused_is_small parts addr [] true events leg = known_is_small addr leg.device leg.known
  refused_is_small parts addr (b ∷ bytes) true events leg = known_is_small addr leg.device leg.known

  module _ (before : List PastData) (place : ℕ → Place) (time : Option (List ℕ)) where
    writes_are_addressed : (part parts : ℕ) (ats : List ℕ) (ps : List PartData)
        → AllByRecursion (λ p. p.addr < 128) ps → AreAddressed (write_facts before place time part parts ats ps)
    writes_are_addressed part parts ats [] small = tt
    writes_are_addressed part parts [] (p ∷ ps) small = tt
    writes_are_addressed part parts (at ∷ ats) (p ∷ ps) small =
        (some_is_small p.addr small.0, writes_are_addressed (part + 1) parts ats ps small.1)

    legs_are_addressed : (t : RefusedData) (ats : List ℕ) → t.addr < 128
        → AreAddressed (map (refused_fact before place time t) ats)
    legs_are_addressed t [] small = tt
    legs_are_addressed t (at ∷ ats) small = (some_is_small t.addr small, legs_are_addressed t ats small)

    packet_is_addressed : (n : ℕ) (events : List Event) (t : TransactionData) → Packet profile t events
        → AreAddressed (packet_facts before place time n events t)
    packet_is_addressed n events (Write parts) packet =
        writes_are_addressed 1 (length parts) (starts n events) parts
        (parts_are_small parts packet.legs packet.each)
    packet_is_addressed n events (Read t) packet =
        (some_is_small t.addr (known_is_small t.addr packet.device packet.known), tt)
    packet_is_addressed n events (Call t) packet =
        (some_is_small t.addr (known_is_small t.addr packet.device packet.known), tt)
    packet_is_addressed n events (Refused t) packet =
        let ats = starts n events in
        each_of_both Names (write_facts before place time 1 (length t.parts + 1) ats t.parts)
        (map (refused_fact before place time t) (take 1 (drop (length t.parts) ats)))
        (writes_are_addressed 1 (length t.parts + 1) ats t.parts (parts_are_small t.parts packet.legs packet.each))
        (legs_are_addressed t (take 1 (drop (length t.parts) ats))
        (refused_is_small t.parts t.addr t.sent t.at_read packet.last packet.refused))
    packet_is_addressed n events (Alert t) packet = (some_is_small (t.byte / 2) (omega (arith, packet.byte)), tt)
    packet_is_addressed n events NoAlert packet = (none_is_small, tt)

  -- ---- a capture

  pub each_is_addressed : (ignored : Option (List ℕ)) → HoldsOfEach Names ignored profile
  each_is_addressed ignored = record {
    packet = packet_is_addressed;
    refusal = λ before head front event reason expected bytes. said_is_small front bytes;
    other = λ head addr events bytes is. some_is_small addr (other_is_small ignored events bytes addr is);
    bad_token = λ head word. none_is_small;
  }
