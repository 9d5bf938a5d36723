-- Where the events since the last STOP are, with STOP, the packet of a transaction, what was written at each
-- address is the transaction's part there. For `Bus::new`, `Bus::signal` and the laws on packets. From the
-- legs of each kind of packet it is known which complete write a member took: that of the part to it, and none
-- where its leg was refused or it was read.
use Rattle.std.proofs.Common.{◌≡◌, ℕ, Bool, true, false, cond, ◌||◌, Option, Some, None, List, [], ◌∷◌, ◌++◌}
use Rattle.std.proofs.Common.{nat_eq, refl, sym, ap, subst, ◌∙◌, append_assoc}
use Rattle.std.specs.List.{Contains, IsDistinct, list_any}
use Rattle.std.proofs.lemmas.Bool.{eqb-true, or_from}
use Rattle.std.proofs.lemmas.List.{append-nil}
use Rattle.std.proofs.lemmas.Option.{same_Some}
use Rattle.pmb_bus.specs.declared.event.Event.{Event}
use Rattle.pmb_bus.specs.declared.event.Event.TheVariants as wire
use Rattle.pmb_command.specs.Parts.{DeviceParts, IsNew, device_with}
use Rattle.pmb_bus.specs.Address.{alert_address, read_address, write_address}
use Rattle.pmb_transaction.specs.Body.{WriteBody}
use Rattle.pmb_transaction.specs.Packet.{PartsEvents, ReadRefused, RefusedLeg, addresses, answered, leg, nacked}
use Rattle.pmb_transaction.specs.Transaction.{PartData}
use Rattle.pmb_registers.specs.State.{InState}
use Rattle.pmb_registers.specs.Apply.{part_to}
use Rattle.pmb_device.specs.Legs.{Leg, Legs, Outside, Inside, is_to, leg_place, sent, some_is_to}
use Rattle.pmb_device.specs.Rules.{TakesAll}
use Rattle.pmb_device.specs.Ends.{Took, TookPart, TookWrite}
use Rattle.pmb_device.proofs.FirstLeg.{is_to_first, one_first, some_passes}
use Rattle.pmb_devices.proofs.Devices.{nat_eq_flips}
use Rattle.pmb_devices.proofs.Givers.{Acked, no_read_address, took_all}
use Rattle.pmb_devices.proofs.OwnLegs.{byte_leg, is_to_other, sent_bytes}
use Rattle.pmb_devices.proofs.Parsing.{Stands, closed}
use Rattle.pmb_devices.proofs.ReadLegs.{alert_leg, answered_legs, no_alert_leg}
use Rattle.pmb_devices.proofs.Refusals.{address_leg_of, byte_leg_of, no_empty_write, read_legs_of, takes_last}
use Rattle.pmb_devices.proofs.Writes.{PartLeg, PartLegs, by_test, new_behind_first, none_in_both, other_written}
use Rattle.pmb_devices.proofs.Writes.{parts_elsewhere, parts_unread, run_parts}

-- ---- what was taken in legs that ended

no_leg_there : (before : List Leg) (own : Leg) (behind : List Leg) → [] ≡ before ++ own ∷ behind → ⊥
no_leg_there [] own behind is = cc is
no_leg_there (first ∷ before) own behind is = cc is

module _ (device : DeviceParts) where
  took_in : (final : Legs) (part : PartData) → TookWrite device (closed final) part → TookPart device final part
  took_in Outside part t = no_leg_there t.own.earlier t.own.own t.own.behind t.own.split
  took_in (Inside earlier leg) part t = t

  took_out : (final : Legs) (part : PartData) → TookPart device final part → TookWrite device (closed final) part
  took_out Outside part t = absurd t
  took_out (Inside earlier leg) part t = t

  -- none was taken where none was in the legs
  none_in : (final : Legs) (legs : List Leg) → closed final ≡ legs
      → ((part : PartData) → TookWrite device legs part → ⊥) → Took device final None
  none_in final legs are never =
      λ part t. never part (subst (λ (ls : List Leg). TookWrite device ls part) are (took_out final part t))

  -- no leg was the device's own
  none_own : (legs : List Leg) (part : PartData) → some_is_to (write_address device.address) legs ≡ false
      → TookWrite device legs part → ⊥
  none_own legs part none t =
      let w = write_address device.address in
      some_passes (is_to w) t.own.earlier t.own.own t.own.behind (is_to_first w t.bytes t.own.own t.own.bytes_are)
      (subst (λ (ls : List Leg). some_is_to w ls ≡ false) t.own.split none)

  -- What was taken in the device's own leg: its bytes, all of which were taken, in the legs after which it is not
  -- read.
  record OwnTaken (front : List Leg) (bytes : List ℕ) (back : List Leg) (part : PartData) : Type 0 where
    taken : TakesAll device (leg_place front) [] bytes
    unread : some_is_to (read_address device.address) back ≡ false
    body : WriteBody device part.code part.bytes part.pec bytes

  own_taken : (front : List Leg) (own : Leg) (back : List Leg) (bytes : List ℕ) (part : PartData)
      → some_is_to (write_address device.address) front ≡ false → sent own ≡ write_address device.address ∷ bytes
      → TookWrite device (front ++ own ∷ back) part → OwnTaken front bytes back part
  own_taken front own back bytes part none is t =
      let w = write_address device.address in
      let place =
      one_first (is_to w) front t.own.earlier own t.own.own back t.own.behind t.own.split none t.own.first
      (is_to_first w bytes own is) (is_to_first w t.bytes t.own.own t.own.bytes_are) in
      let rows : w ∷ bytes ≡ w ∷ t.bytes = sym is ∙ ap sent place.here ∙ t.own.bytes_are in
      let same : t.bytes ≡ bytes = cc rows in
      record {
        taken = subst (λ (bs : List ℕ). TakesAll device (leg_place front) [] bs) same
            (subst (λ (ls : List Leg). TakesAll device (leg_place ls) [] t.bytes) (sym place.in_front) t.taken);
        unread = subst (λ (ls : List Leg). some_is_to (read_address device.address) ls ≡ false) (sym place.later)
            t.unread;
        body = subst (WriteBody device part.code part.bytes part.pec) same t.body;
      }

-- ---- the part to an address

-- where there is none, the address is new
no_part_to : (address : ℕ) (parts : List PartData) → part_to address parts ≡ None → IsNew address (addresses parts)
no_part_to address [] none = refl
no_part_to address (part ∷ parts) none =
    by_test (nat_eq part.addr address) (nat_eq part.addr address) refl
    (
    λ same.
    let here : Some part ≡ None =
    ap (λ (b : Bool). cond b (Some part) (part_to address parts)) (sym same) ∙ none in
    absurd (cc here)
    )
    (
    λ other.
    or_from (nat_eq address part.addr) (list_any (nat_eq address) (addresses parts))
    (nat_eq_flips part.addr address other)
    (no_part_to address parts
    (ap (λ (b : Bool). cond b (Some part) (part_to address parts)) (sym other) ∙ none))
    )

-- the address of a part is that of a device
pub part_is_known : (profile : List DeviceParts) (address : ℕ) (parts : List PartData) (events : List Event)
    → PartsEvents profile parts events → device_with address profile ≡ None → part_to address parts ≡ None
part_is_known profile address [] events each nobody = refl
part_is_known profile address (part ∷ parts) events each nobody =
    by_test (nat_eq part.addr address) (nat_eq part.addr address) refl
    (
    λ same.
    let known : device_with address profile ≡ Some each.3.device =
    subst (λ (a : ℕ). device_with a profile ≡ Some each.3.device) (eqb-true part.addr address same) each.3.known in
    absurd (cc (known, nobody))
    )
    (
    λ other.
    ap (λ (b : Bool). cond b (Some part) (part_to address parts)) other
    ∙ part_is_known profile address parts each.1 each.4 nobody
    )

module _ (profile : List DeviceParts) (members : List InState) (member : InState) (in_bus : Contains members member)
    (own : (found : DeviceParts) → device_with member.device.address profile ≡ Some found → found ≡ member.device)
  where
    -- ---- complete parts

    -- the first part is for the member, and it took that
    first_took : (part : PartData) (earlier : List Leg) (first : Leg) (behind : List Leg)
        → PartLeg profile members earlier part first → part.addr ≡ member.device.address
        → some_is_to (write_address member.device.address) earlier ≡ false
        → some_is_to (read_address member.device.address) behind ≡ false
        → TookWrite member.device (earlier ++ first ∷ behind) part
    first_took part earlier first behind here addr_is new unread =
        let d = member.device in
        let acks = subst (λ (a : ℕ). Acked members earlier (a ∷ []) here.body) (ap write_address addr_is) here.acks in
        let device_is =
        own here.device (subst (λ (a : ℕ). device_with a profile ≡ Some here.device) addr_is here.known) in
        record {
          to_device = addr_is;
          bytes = here.body;
          own = record {
            earlier = earlier;
            own = first;
            behind = behind;
            split = refl;
            first = new;
            bytes_are = here.sent_are ∙ ap (λ (a : ℕ). write_address a ∷ here.body) addr_is;
          };
          taken = took_all members member in_bus earlier (write_address d.address) [] here.body
              (record { own = refl; once = new }) tt acks;
          unread = unread;
          body = subst (λ (e : DeviceParts). WriteBody e part.code part.bytes part.pec here.body) device_is here.allowed;
        }

    -- The member took the part to it.
    parts_took : (parts : List PartData) (earlier legs back : List Leg) (part : PartData)
        → PartLegs profile members earlier parts legs → IsDistinct nat_eq (addresses parts)
        → some_is_to (write_address member.device.address) earlier ≡ false
        → some_is_to (read_address member.device.address) back ≡ false
        → part_to member.device.address parts ≡ Some part
        → TookWrite member.device (earlier ++ (legs ++ back)) part
    parts_took [] earlier legs back part each distinct new unread is = absurd (cc is)
    parts_took (p ∷ parts) earlier legs back part each distinct new unread is =
        let d = member.device in
        let w = write_address d.address in
        let first = each.0 in
        let later = each.1 in
        let alone = new_behind_first p.addr (addresses parts) distinct in
        let split : earlier ++ (legs ++ back) ≡ earlier ++ first ∷ (later ++ back) =
        ap (λ (ls : List Leg). earlier ++ (ls ++ back)) each.2 in
        by_test (nat_eq p.addr d.address) (nat_eq p.addr d.address) refl
        (
        -- the first part is to it,
        λ same.
        let here : Some p ≡ Some part =
        ap (λ (b : Bool). cond b (Some p) (part_to d.address parts)) (sym same) ∙ is in
        let behind = none_in_both (read_address d.address) later back
        (parts_unread profile members d.address (earlier ++ first ∷ []) parts later each.4) unread in
        subst (λ (ls : List Leg). TookWrite d ls part) (sym split)
        (subst (TookWrite d (earlier ++ first ∷ (later ++ back))) (same_Some p part here)
        (first_took p earlier first (later ++ back) each.3 (eqb-true p.addr d.address same) new behind))
        )
        (
        -- or one after it
        λ other.
        let more : some_is_to w (earlier ++ first ∷ []) ≡ false =
        none_in_both w earlier (first ∷ []) new
        (or_from (is_to w first) false
        (is_to_other w (write_address p.addr) each.3.body first (other_written p.addr d.address other) each.3.sent_are)
        refl) in
        subst (λ (ls : List Leg). TookWrite d ls part)
        (append_assoc earlier (first ∷ []) (later ++ back) ∙ sym split)
        (parts_took parts (earlier ++ first ∷ []) later back part each.4 alone.1 more unread
        (ap (λ (b : Bool). cond b (Some p) (part_to d.address parts)) (sym other) ∙ is))
        )

    -- What the member took in the legs of parts, with one leg more or none, in which it took nothing.
    by_part : (final : Legs) (parts : List PartData) (legs back : List Leg) (o : Option PartData)
        → part_to member.device.address parts ≡ o → PartLegs profile members [] parts legs
        → IsDistinct nat_eq (addresses parts)
        → some_is_to (read_address member.device.address) back ≡ false → closed final ≡ legs ++ back
        → (some_is_to (write_address member.device.address) legs ≡ false
        → (part : PartData) → TookWrite member.device (legs ++ back) part → ⊥)
        → Took member.device final o
    by_part final parts legs back None is each distinct unread are never =
        none_in member.device final (legs ++ back) are
        (never (parts_elsewhere profile members member.device.address [] parts legs each
        (no_part_to member.device.address parts is)))
    by_part final parts legs back (Some part) is each distinct unread are never =
        took_in member.device final part
        (subst (λ (ls : List Leg). TookWrite member.device ls part) (sym are)
        (parts_took parts [] legs back part each distinct refl unread is))

    -- a write
    pub write_took : (final : Legs) (parts : List PartData) (legs : List Leg) → PartLegs profile members [] parts legs
        → IsDistinct nat_eq (addresses parts) → closed final ≡ legs
        → Took member.device final (part_to member.device.address parts)
    write_took final parts legs each distinct are =
        by_part final parts legs [] (part_to member.device.address parts) refl each distinct refl
        (are ∙ sym (append-nil legs))
        (λ none part t. none_own member.device (legs ++ []) part
        (subst (λ (ls : List Leg). some_is_to (write_address member.device.address) ls ≡ false) (sym (append-nil legs))
        none) t)

    -- ---- a refusal

    -- parts, and a last leg that is written, whose device did not take a complete write
    last_took : (final : Legs) (parts : List PartData) (addr : ℕ) (bytes : List ℕ) (legs : List Leg) (last : Leg)
        → PartLegs profile members [] parts legs → IsDistinct nat_eq (addresses parts)
        → closed final ≡ legs ++ last ∷ [] → sent last ≡ write_address addr ∷ bytes
        → (addr ≡ member.device.address → some_is_to (write_address member.device.address) legs ≡ false
        → (part : PartData) → OwnTaken member.device legs bytes [] part → ⊥)
        → Took member.device final (part_to member.device.address parts)
    last_took final parts addr bytes legs last each distinct are is never =
        let d = member.device in
        let w = write_address d.address in
        let unread : some_is_to (read_address d.address) (last ∷ []) ≡ false =
        or_from (is_to (read_address d.address) last) false
        (is_to_other (read_address d.address) (write_address addr) bytes last
        (λ same. no_read_address addr d.address same) is) refl in
        by_part final parts legs (last ∷ []) (part_to d.address parts) refl each distinct unread are
        (
        λ none part t.
        by_test (nat_eq addr d.address) (nat_eq addr d.address) refl
        (
        -- the last leg is its own
        λ same.
        let addr_is : addr ≡ d.address = eqb-true addr d.address same in
        never addr_is none part
        (own_taken d legs last [] bytes part none (is ∙ ap (λ (a : ℕ). write_address a ∷ bytes) addr_is) t)
        )
        (
        -- none is
        λ other.
        none_own d (legs ++ last ∷ []) part
        (none_in_both w legs (last ∷ []) none
        (or_from (is_to w last) false
        (is_to_other w (write_address addr) bytes last (other_written addr d.address other) is) refl)) t
        )
        )

    -- a leg that is written and one that is read: a device that is read took no complete write
    two_took : (final : Legs) (addr : ℕ) (body : List ℕ) (next : Leg) (bytes : List ℕ)
        → closed final ≡ byte_leg (write_address addr ∷ body) ∷ next ∷ [] → sent next ≡ read_address addr ∷ bytes
        → Took member.device final None
    two_took final addr body next bytes are is =
        let d = member.device in
        let w = write_address d.address in
        let first = byte_leg (write_address addr ∷ body) in
        none_in d final (first ∷ next ∷ []) are
        (
        λ part t.
        by_test (nat_eq addr d.address) (nat_eq addr d.address) refl
        (
        λ same.
        let addr_is : addr ≡ d.address = eqb-true addr d.address same in
        let own = own_taken d [] first (next ∷ []) body part refl
        (sent_bytes (write_address addr ∷ body) ∙ ap (λ (a : ℕ). write_address a ∷ body) addr_is) t in
        let read : some_is_to (read_address d.address) (next ∷ []) ≡ true =
        ap (λ (b : Bool). b || false) (is_to_first (read_address d.address) bytes next
        (is ∙ ap (λ (a : ℕ). read_address a ∷ bytes) addr_is)) in
        let unread = own.unread in
        cc (read, unread)
        )
        (
        λ other.
        none_own d (first ∷ next ∷ []) part
        (or_from (is_to w first) (is_to w next || false)
        (is_to_other w (write_address addr) body first (other_written addr d.address other)
        (sent_bytes (write_address addr ∷ body)))
        (or_from (is_to w next) false
        (is_to_other w (read_address addr) bytes next (λ same. no_read_address d.address addr (sym same)) is) refl)) t
        )
        )

    read_refused_took : (final : Legs) (addr : ℕ) (bytes : List ℕ) (last : List Event)
        → ReadRefused profile [] addr bytes last → Stands members final Outside (last ++ wire.Stop ∷ [])
        → Took member.device final None
    read_refused_took final addr bytes last refused stands =
        two_took final addr bytes (byte_leg (read_address addr ∷ [])) []
        (read_legs_of profile members member in_bus own final addr bytes last refused stands).legs_are refl

    -- the refused leg of each sort
    pub refused_took : (final : Legs) (parts : List PartData) (addr : ℕ) (bytes : List ℕ) (at_read : Bool)
        (legs last : List Event) → PartsEvents profile parts legs → IsDistinct nat_eq (addresses parts)
        → RefusedLeg profile parts addr bytes at_read last
        → Stands members final Outside (legs ++ (last ++ wire.Stop ∷ []))
        → Took member.device final (part_to member.device.address parts)
    -- an address was refused: its leg has no code
    refused_took final parts addr [] false legs last each distinct refused stands =
        let ran = run_parts profile members final Outside parts legs (last ++ wire.Stop ∷ []) each stands in
        last_took final parts addr [] ran.new (byte_leg (write_address addr ∷ [])) ran.each distinct
        (address_leg_of profile members member in_bus own final ran.reached addr ran.new last ran.closed_are refused
        ran.stands) refl
        (λ addr_is none part t. no_empty_write member.device part.code part.bytes part.pec t.body)
    -- a byte was refused: not all were taken
    refused_took final parts addr (b ∷ bytes) false legs last each distinct refused stands =
        let ran = run_parts profile members final Outside parts legs (last ++ wire.Stop ∷ []) each stands in
        let here = byte_leg_of profile members member in_bus own final ran.reached parts addr (b ∷ bytes) ran.new last
        ran.closed_are refused ran.stands in
        last_took final parts addr (refused.front ++ refused.last ∷ []) ran.new here.own_leg ran.each distinct
        here.legs_are here.sent_are
        (λ addr_is none part t.
        (here.refused addr_is none).not_taken
        (takes_last member.device (leg_place ran.new) [] refused.front refused.last t.taken))
    -- the read address was refused, after no parts
    refused_took final [] addr [] true legs last each distinct refused stands =
        read_refused_took final addr [] last refused
        (subst (λ (es : List Event). Stands members final Outside (es ++ (last ++ wire.Stop ∷ []))) each stands)
    refused_took final [] addr (b ∷ bytes) true legs last each distinct refused stands =
        read_refused_took final addr (b ∷ bytes) last refused
        (subst (λ (es : List Event). Stands members final Outside (es ++ (last ++ wire.Stop ∷ []))) each stands)
    -- with parts before it no read address is refused
    refused_took final (part ∷ parts) addr [] true legs last each distinct refused stands = absurd (cc refused.alone)
    refused_took final (part ∷ parts) addr (b ∷ bytes) true legs last each distinct refused stands =
        absurd (cc refused.alone)

    -- ---- a read, a call, and an alert

    pub answered_took : (final : Legs) (addr : ℕ) (body reply : List ℕ) (with_pec : Bool)
        → Stands members final Outside (answered addr body reply with_pec) → Took member.device final None
    answered_took final addr body reply with_pec stands =
        let all = answered_legs members member in_bus final addr body reply with_pec stands in
        two_took final addr body (byte_leg (read_address addr ∷ []) ++ all.goes.behind) (sent all.goes.behind)
        (ap closed all.goes.is) refl

    -- a leg that is read, alone
    alone_took : (final : Legs) (n : ℕ) (bytes : List ℕ) (leg : Leg) → closed final ≡ leg ∷ []
        → sent leg ≡ read_address n ∷ bytes → Took member.device final None
    alone_took final n bytes leg are is =
        let w = write_address member.device.address in
        none_in member.device final (leg ∷ []) are
        (λ part t. none_own member.device (leg ∷ []) part
        (or_from (is_to w leg) false
        (is_to_other w (read_address n) bytes leg (λ same. no_read_address member.device.address n (sym same)) is) refl)
        t)

    pub alert_took : (final : Legs) (bytes : List ℕ)
        → Stands members final Outside (leg (read_address alert_address ∷ []) ++ nacked bytes ++ wire.Stop ∷ [])
        → Took member.device final None
    alert_took final bytes stands =
        let goes = alert_leg members member in_bus final bytes stands in
        alone_took final alert_address (sent goes.behind) (byte_leg (read_address alert_address ∷ []) ++ goes.behind)
        (ap closed goes.is) refl

    pub no_alert_took : (final : Legs)
        → Stands members final Outside (wire.Start ∷ wire.Byte (read_address alert_address) ∷ wire.Nack ∷ wire.Stop ∷ [])
        → Took member.device final None
    no_alert_took final stands =
        alone_took final alert_address [] (byte_leg (read_address alert_address ∷ []))
        (no_alert_leg members member in_bus final stands) refl
