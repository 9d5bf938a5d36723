-- Complete parts of a write: their legs, what the members took of them, and what STOP makes of the
-- states. For `Bus::new`, `Bus::signal` and the laws on packets. The events of a part tell its leg
-- (`PartLeg`); as the parts have distinct addresses, at most one is for a member, and its body
-- took effect at STOP with its own code and data.
use Rattle.std.proofs.Common.{◌≡◌, ℕ, inl, inr, Bool, true, false, ◌||◌, Some, if◌then◌else◌, List, [], ◌∷◌, ◌++◌}
use Rattle.std.proofs.Common.{nat_eq, refl, sym, ap, subst, ◌∙◌, append_assoc, arith}
use Rattle.std.specs.List.{AllByRecursion, Contains, IsDistinct, list_any}
use Rattle.std.proofs.lemmas.Bool.{eqb-true, eqb-false, eq-eqb, or_from, or_parts}
use Rattle.std.proofs.lemmas.List.{append-nil}
use Rattle.std.proofs.lemmas.List.Folds.{list_any-append}
use Rattle.pmb_bus.specs.declared.event.Event.{Event}
use Rattle.pmb_command.specs.Parts.{DeviceParts, IsNew, device_with}
use Rattle.pmb_bus.specs.Address.{read_address, write_address}
use Rattle.pmb_transaction.specs.Body.{WriteBody}
use Rattle.pmb_transaction.specs.Packet.{PartsEvents, addresses, leg}
use Rattle.pmb_transaction.specs.Transaction.{PartData}
use Rattle.pmb_registers.specs.State.{DeviceState, InState}
use Rattle.pmb_registers.specs.Apply.{after_parts, after_write}
use Rattle.pmb_device.specs.Legs.{Leg, Legs, Inside, is_to, sent, some_is_to}
use Rattle.pmb_device.specs.Ends.{Acts, LegsEnd, OwnLegEnds, ReadOrActs, no_write, writes}
use Rattle.pmb_devices.proofs.Devices.{nat_eq_flips, one_write}
use Rattle.pmb_devices.proofs.Givers.{Acked, no_read_address, run_leg, took_all}
use Rattle.pmb_devices.proofs.OwnLegs.{byte_leg, ends_at, is_to_other, sent_bytes}
use Rattle.pmb_devices.proofs.Parsing.{Stands, closed}

-- by what a test says
pub by_test : {X : Type 0} (b test : Bool) → test ≡ b → (test ≡ true → X) → (test ≡ false → X) → X
by_test true test is holds fails = holds is
by_test false test is holds fails = fails is

-- ---- parts, and an address that none has

-- they do nothing to a device with that address
pub others_leave : (device : DeviceParts) (parts : List PartData) (state : DeviceState)
    → IsNew device.address (addresses parts)
    → after_parts device parts state ≡ state
others_leave device [] state new = refl
others_leave device (part ∷ parts) state new =
    let both = or_parts (nat_eq device.address part.addr) (list_any (nat_eq device.address) (addresses parts)) new in
    let other : nat_eq part.addr device.address ≡ false = nat_eq_flips device.address part.addr both.0 in
    ap (λ (b : Bool). after_parts device parts (if b then after_write device part.code part.bytes state else state))
    other
    ∙ others_leave device parts state both.1

-- a number that is none of some is not before others
pub none_of : (n : ℕ) (xs : List ℕ) → AllByRecursion (λ x. nat_eq n x ≡ false) xs → IsNew n xs
none_of n [] all = refl
none_of n (x ∷ xs) all = or_from (nat_eq n x) (list_any (nat_eq n) xs) all.0 (none_of n xs all.1)

-- the first of distinct numbers is new after it, and the others are distinct
pub new_behind_first : (n : ℕ) (xs : List ℕ) → IsDistinct nat_eq (n ∷ xs) → IsNew n xs × IsDistinct nat_eq xs
unfolding IsDistinct
new_behind_first n xs own = (none_of n xs own.0, own.1)

-- two addresses for writing
pub other_written : (a b : ℕ) → nat_eq a b ≡ false → write_address a ≡ write_address b → ⊥
other_written a b other same = eqb-false a b other (omega arith)

-- no leg of two lists is to an address
pub none_in_both : (address : ℕ) (front back : List Leg) → some_is_to address front ≡ false
    → some_is_to address back ≡ false
    → some_is_to address (front ++ back) ≡ false
none_in_both address front back none nor =
    list_any-append (is_to address) front back ∙ or_from (some_is_to address front) (some_is_to address back) none nor

-- ---- legs of parts

module _ (profile : List DeviceParts) (members : List InState) where
  -- The leg of a part was written, and each byte of its body had ACK.
  pub record PartLeg (earlier : List Leg) (part : PartData) (leg : Leg) : Type 0 where
    -- the device that it is for,
    pub device : DeviceParts
    -- and the body that it is spelled with
    pub body : List ℕ
    pub known : device_with part.addr profile ≡ Some device
    pub allowed : WriteBody device part.code part.bytes part.pec body
    pub sent_are : sent leg ≡ write_address part.addr ∷ body
    -- each byte of the body had ACK
    pub acks : Acked members earlier (write_address part.addr ∷ []) body

  -- those of parts, in order
  abbrev pub PartLegs : List Leg → List PartData → List Leg → Type 0
  PartLegs earlier [] legs = legs ≡ []
  PartLegs earlier (part ∷ parts) legs =
      (first : Leg) × (later : List Leg) × (legs ≡ first ∷ later) × PartLeg earlier part first
      × PartLegs (earlier ++ first ∷ []) parts later

  -- Legs that were reached over those of some parts.
  pub record Reached (final : Legs) (legs : Legs) (parts : List PartData) (rest : List Event) : Type 0 where
    -- the legs after the parts
    pub reached : Legs
    -- those that the parts added
    pub new : List Leg
    pub closed_are : closed reached ≡ closed legs ++ new
    pub each : PartLegs (closed legs) parts new
    pub stands : Stands members final reached rest

  -- the legs of parts, and what comes after them
  pub run_parts : (final legs : Legs) (parts : List PartData) (events rest : List Event)
      → PartsEvents profile parts events
      → Stands members final legs (events ++ rest) → Reached final legs parts rest
  -- no parts: nothing comes in between
  run_parts final legs [] events rest each stands = record {
    reached = legs;
    new = [];
    closed_are = sym (append-nil (closed legs));
    each = refl;
    stands = subst (λ (es : List Event). Stands members final legs (es ++ rest)) each stands;
  }
  -- the first part: its body, and its leg
  run_parts final legs (part ∷ parts) events rest each stands =
      let body = each.3.body in
      let first = byte_leg (write_address part.addr ∷ body) in
      let spelled : events ++ rest ≡ leg (write_address part.addr ∷ body) ++ (each.1 ++ rest) =
      ap (λ (es : List Event). es ++ rest) each.2
      ∙ append_assoc each.0 each.1 rest
      ∙ ap (λ (es : List Event). es ++ (each.1 ++ rest)) each.3.spelled in
      -- its signals,
      let ran = run_leg members final legs part.addr body (each.1 ++ rest)
      (subst (Stands members final legs) spelled stands) in
      -- and those of the other parts
      let later = run_parts final (Inside (closed legs) first) parts each.1 rest each.4 ran.stands in
      record {
        reached = later.reached;
        new = first ∷ later.new;
        closed_are = later.closed_are ∙ append_assoc (closed legs) (first ∷ []) later.new;
        each = (
          first,
          later.new,
          refl,
          record {
            device = each.3.device;
            body = body;
            known = each.3.known;
            allowed = each.3.allowed;
            sent_are = ap (λ (bs : List ℕ). write_address part.addr ∷ bs) (sent_bytes body);
            acks = ran.acked_are;
          },
          later.each,
        );
        stands = later.stands;
      }

  -- no device is read in them
  pub parts_unread : (n : ℕ) (earlier : List Leg) (parts : List PartData) (legs : List Leg)
      → PartLegs earlier parts legs
      → some_is_to (read_address n) legs ≡ false
  parts_unread n earlier [] legs each = ap (some_is_to (read_address n)) each
  parts_unread n earlier (part ∷ parts) legs each =
      ap (some_is_to (read_address n)) each.2
      ∙ or_from (is_to (read_address n) each.0) (some_is_to (read_address n) each.1)
      (is_to_other (read_address n) (write_address part.addr) each.3.body each.0
      (λ same. no_read_address part.addr n same) each.3.sent_are)
      (parts_unread n (earlier ++ each.0 ∷ []) parts each.1 each.4)

  -- they are to no other device
  pub parts_elsewhere : (a : ℕ) (earlier : List Leg) (parts : List PartData) (legs : List Leg)
      → PartLegs earlier parts legs
      → IsNew a (addresses parts) → some_is_to (write_address a) legs ≡ false
  parts_elsewhere a earlier [] legs each new = ap (some_is_to (write_address a)) each
  parts_elsewhere a earlier (part ∷ parts) legs each new =
      let both = or_parts (nat_eq a part.addr) (list_any (nat_eq a) (addresses parts)) new in
      ap (some_is_to (write_address a)) each.2
      ∙ or_from (is_to (write_address a) each.0) (some_is_to (write_address a) each.1)
      (
      is_to_other (write_address a) (write_address part.addr) each.3.body each.0
      (other_written part.addr a (nat_eq_flips a part.addr both.0)) each.3.sent_are
      )
      (parts_elsewhere a (earlier ++ each.0 ∷ []) parts each.1 each.4 both.1)

  -- ---- what a part does to its device

  module _ (member : InState) (in_bus : Contains members member)
      (own : (found : DeviceParts) → device_with member.device.address profile ≡ Some found
      → found ≡ member.device) where
    -- A write body takes effect with its own code and data.
    acts_so : (code : ℕ) (content : List ℕ) (with_pec : Bool) (body : List ℕ) (before after : DeviceState)
        → WriteBody member.device code content with_pec body → Acts member.device body before after
        → after ≡ after_write member.device code content before
    -- a write: one code and data have this body
    acts_so code content with_pec body before after allowed (writes other others also second is) =
        let same = one_write member.device code other content others with_pec also body allowed second in
        is
        ∙ ap (λ (n : ℕ). after_write member.device n others before) (sym same.code_is)
        ∙ ap (λ (bs : List ℕ). after_write member.device code bs before) (sym same.bytes_are)
    -- it can't be that the body is no write
    acts_so code content with_pec body before after allowed (no_write none is) =
        absurd (none (code, content, with_pec, allowed))

    -- its body took effect at STOP
    part_acts : (part : PartData) (earlier : List Leg) (first : Leg) (behind : List Leg) (before after : DeviceState)
        → (here : PartLeg earlier part first) → part.addr ≡ member.device.address
        → some_is_to (write_address member.device.address) earlier ≡ false
        → some_is_to (read_address member.device.address) behind ≡ false
        → OwnLegEnds member.device earlier here.body behind before after
        → after ≡ after_write member.device part.code part.bytes before
    part_acts part earlier first behind before after here addr_is new unread ends =
        let d = member.device in
        let address_is : write_address part.addr ≡ write_address d.address = ap write_address addr_is in
        let acks = subst (λ (a : ℕ). Acked members earlier (a ∷ []) here.body) address_is here.acks in
        let taken = took_all members member in_bus earlier (write_address d.address) [] here.body
        (record { own = refl; once = new }) tt acks in
        let device_is = own here.device (subst (λ (a : ℕ). device_with a profile ≡ Some here.device) addr_is
        here.known) in
        let allowed = subst (λ (d : DeviceParts). WriteBody d part.code part.bytes part.pec here.body) device_is
        here.allowed in
        elim ends [
          | inl w ↦
              acts_so part.code part.bytes part.pec here.body before after allowed
              (subst (λ (b : Bool). ReadOrActs d b earlier here.body behind before after) unread w.1)
          | inr w ↦ absurd (w.0 taken)
        ]

    -- The part for the member acts, and those after it do nothing to it.
    own_part_acts : (part : PartData) (parts : List PartData) (earlier : List Leg) (first : Leg) (later back : List Leg)
        (before after : DeviceState)
        → PartLeg earlier part first → PartLegs (earlier ++ first ∷ []) parts later → IsNew part.addr (addresses parts)
        → some_is_to (write_address member.device.address) earlier ≡ false
        → some_is_to (read_address member.device.address) back ≡ false
        → part.addr ≡ member.device.address → LegsEnd member.device (earlier ++ first ∷ (later ++ back)) before after
        → after ≡ after_parts member.device (part ∷ parts) before
    own_part_acts part parts earlier first later back before after here each alone new unread addr_is ends =
        let d = member.device in
        let w = write_address d.address in
        let sent_are : sent first ≡ w ∷ here.body = here.sent_are
        ∙ ap (λ (a : ℕ). write_address a ∷ here.body) addr_is in
        let behind = none_in_both (read_address d.address) later back
        (parts_unread d.address (earlier ++ first ∷ []) parts later each) unread in
        let own_ends = ends_at d before after earlier first (later ++ back) here.body new sent_are ends in
        let acts = part_acts part earlier first (later ++ back) before after here addr_is new behind own_ends in
        let leave = others_leave d parts (after_write d part.code part.bytes before)
        (subst (λ (a : ℕ). IsNew a (addresses parts)) addr_is alone) in
        let own_test : nat_eq part.addr d.address ≡ true = eq-eqb part.addr d.address addr_is in
        acts
        ∙ sym leave
        ∙ ap (λ (b : Bool). after_parts d parts (if b then after_write d part.code part.bytes before else before))
        (sym own_test)

    -- What STOP makes of a member that one of the parts is for.
    pub parts_act : (parts : List PartData) (earlier legs back : List Leg) (before after : DeviceState)
        → PartLegs earlier parts legs
        → IsDistinct nat_eq (addresses parts) → some_is_to (write_address member.device.address) earlier ≡ false
        → some_is_to (read_address member.device.address) back ≡ false
        → list_any (nat_eq member.device.address) (addresses parts) ≡ true
        → LegsEnd member.device (earlier ++ (legs ++ back)) before after
        → after ≡ after_parts member.device parts before
    -- no part is for the member
    parts_act [] earlier legs back before after each distinct new unread some ends = absurd (cc some)
    -- is the first part for the member?
    parts_act (part ∷ parts) earlier legs back before after each distinct new unread some ends =
        let d = member.device in
        let w = write_address d.address in
        let first = each.0 in
        let later = each.1 in
        let alone = new_behind_first part.addr (addresses parts) distinct in
        let here : LegsEnd d (earlier ++ first ∷ (later ++ back)) before after =
        subst (λ (ls : List Leg). LegsEnd d (earlier ++ (ls ++ back)) before after) each.2 ends in
        by_test (nat_eq d.address part.addr) (nat_eq d.address part.addr) refl
        (
        -- yes: it acts, and those after it do nothing to the member
        λ is.
        own_part_acts part parts earlier first later back before after each.3 each.4 alone.0 new unread
        (sym (eqb-true d.address part.addr is)) here
        )
        (
        λ other.
        -- no: its leg is to another device, and a part after it is for the member
        let flipped : nat_eq part.addr d.address ≡ false = nat_eq_flips d.address part.addr other in
        let more : some_is_to w (earlier ++ first ∷ []) ≡ false =
        none_in_both w earlier (first ∷ []) new
        (
        or_from (is_to w first) false
        (is_to_other w (write_address part.addr) each.3.body first (other_written part.addr d.address flipped)
        each.3.sent_are) refl
        ) in
        let rest : list_any (nat_eq d.address) (addresses parts) ≡ true =
        ap (λ (b : Bool). b || list_any (nat_eq d.address) (addresses parts)) (sym other) ∙ some in
        parts_act parts (earlier ++ first ∷ []) later back before after each.4 alone.1 more unread rest
        (subst (λ (ls : List Leg). LegsEnd d ls before after) (sym (append_assoc earlier (first ∷ []) (later ++ back)))
        here)
        ∙ ap (λ (b : Bool). after_parts d parts (if b then after_write d part.code part.bytes before else before))
        (sym flipped)
        )
