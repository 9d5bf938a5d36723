-- Which complete write a device took, by what was kept of its own leg. For `DevicePacket::outcome` and
-- `DevicePacket::kept`. Its own leg is at one place (`one_first`); a write was taken there exactly if no
-- byte was refused and the device was not read after it, and then nothing is noted, and the bytes that are
-- kept are all of its own leg.
use Rattle.std.proofs.Common.{◌≡◌, ℕ, Bool, true, false, Option, Some, None, List, [], ◌∷◌, ◌++◌, refl, sym}
use Rattle.std.proofs.Common.{ap, subst, ◌∙◌, append_assoc}
use Rattle.std.specs.Prelude.{◌↔◌, IfSome, IsSome, length, ◌≤◌}
use Rattle.pmb_command.specs.Parts.{DeviceParts}
use Rattle.pmb_bus.specs.Address.{read_address, write_address}
use Rattle.pmb_transaction.specs.Body.{WriteBody, IsWriteBody}
use Rattle.pmb_transaction.specs.Transaction.{PartData}
use Rattle.pmb_leg.specs.declared.content.WriteContent.{WriteContent}
use Rattle.pmb_leg.specs.Leg.{Written}
use Rattle.pmb_registers.specs.State.{DeviceState}
use Rattle.pmb_device.specs.declared.device_packet.LegPhase.{LegPhase}
use Rattle.pmb_device.specs.declared.device_packet.LegPhase.TheVariants as phases
use Rattle.pmb_device.specs.declared.device_packet.DevicePacket.{DevicePacket}
use Rattle.pmb_device.specs.Legs.{Leg, Legs, Outside, Inside, is_to, leg_place, sent, some_is_to}
use Rattle.pmb_device.specs.Rules.{TakesAll}
use Rattle.pmb_device.specs.Ends.{Took, TookWrite}
use Rattle.pmb_device.specs.DevicePacket.{part_of, written_part}
use Rattle.pmb_device.specs.machine.Standing.{AllTaken, BytesAre, InLeg, IsOwn, Kept, KeepsWrite, OwnIsIn, StandsIn}
use Rattle.pmb_device.specs.machine.Standing.{ended, kept, none, under_way}
use Rattle.pmb_device.proofs.Acks.{own_in}
use Rattle.pmb_device.proofs.FirstLeg.{is_to_first, one_first, some_passes}
use Rattle.pmb_device.proofs.Outcomes.{none_noted_unread}
use Rattle.pmb_device.proofs.Owns.{own_is}
use Rattle.pmb_device.proofs.TakenWrites.{few_bytes}
use Rattle.pmb_device.proofs.Taken.{taken_at}

module _ (device : DeviceParts) (state : DeviceState) where
  -- ---- from the write that was taken to what is kept

  -- What is kept where a complete write was taken.
  pub record KeptTaken (k : Kept) (part : PartData) : Type 0 where
    pub own : k.own ≡ true
    pub not_refused : k.refused ≡ false
    pub unread : k.read ≡ false
    pub not_noted : k.noted ≡ None
    pub device_is : k.leg.device ≡ device
    pub body : WriteBody device part.code part.bytes part.pec k.leg.bytes

  -- where all bytes were taken none was refused
  none_refused : (r : Bool) (k : Kept) (before : List Leg) (bytes : List ℕ) (behind : List Leg)
      → TakesAll device (leg_place before) [] bytes → BytesAre r device state k before bytes behind
      → AllTaken device state k before bytes behind × (r ≡ false)
  none_refused false k before bytes behind taken all = (all, refl)
  none_refused true k before bytes behind taken w =
      absurd (w.refused (taken_at device (leg_place before) [] w.front w.byte w.rest
      (subst (TakesAll device (leg_place before) []) w.split taken)))

  own_kept : (k : Kept) (before : List Leg) (own : Leg) (bytes : List ℕ) (behind : List Leg) (part : PartData)
      → IsOwn device state k before own bytes behind → TookWrite device (before ++ own ∷ behind) part
      → KeptTaken k part
  own_kept k before own bytes behind part o t =
      let w = write_address device.address in
      -- both are the first leg to the device
      let place =
      one_first (is_to w) before t.own.earlier own t.own.own behind t.own.behind t.own.split o.first t.own.first
      (is_to_first w bytes own o.bytes_are) (is_to_first w t.bytes t.own.own t.own.bytes_are) in
      let rows : w ∷ bytes ≡ w ∷ t.bytes = sym o.bytes_are ∙ ap sent place.here ∙ t.own.bytes_are in
      let same : bytes ≡ t.bytes = cc rows in
      let taken : TakesAll device (leg_place before) [] bytes =
      subst (λ (bs : List ℕ). TakesAll device (leg_place before) [] bs) (sym same)
      (subst (λ (legs : List Leg). TakesAll device (leg_place legs) [] t.bytes) (sym place.in_front) t.taken) in
      let all = none_refused k.refused k before bytes behind taken o.body in
      let unread : some_is_to (read_address device.address) behind ≡ false =
      subst (λ (legs : List Leg). some_is_to (read_address device.address) legs ≡ false) (sym place.later) t.unread in
      let kept_are : k.leg.bytes ≡ t.bytes = ap (λ (x : Written). x.bytes) all.0.leg_is ∙ same in
      record {
        own = o.kept_own;
        not_refused = all.1;
        unread = o.read ∙ unread;
        not_noted = none_noted_unread device state k.noted before bytes behind unread all.0.notes;
        device_is = ap (λ (x : Written). x.device) all.0.leg_is;
        body = subst (WriteBody device part.code part.bytes part.pec) (sym kept_are) t.body;
      }

  taken_kept : (k : Kept) (earlier : List Leg) (leg : Leg) (part : PartData) → OwnIsIn device state k earlier leg
      → TookWrite device (earlier ++ leg ∷ []) part → KeptTaken k part
  -- no leg was its own
  taken_kept k earlier leg part (none own before is) t =
      let w = write_address device.address in
      let here : OwnIsIn device state k earlier leg = none own before is in
      let nowhere : some_is_to w (earlier ++ leg ∷ []) ≡ false = sym (own_is device state k earlier leg here) ∙ own in
      absurd (some_passes (is_to w) t.own.earlier t.own.own t.own.behind
      (is_to_first w t.bytes t.own.own t.own.bytes_are)
      (subst (λ (legs : List Leg). some_is_to w legs ≡ false) t.own.split nowhere))
  -- its own leg was the last one, or came earlier
  taken_kept k earlier leg part (under_way bytes o) t = own_kept k earlier leg bytes [] part o t
  taken_kept k earlier leg part (ended before own mid bytes split o) t =
      own_kept k before own bytes (mid ++ leg ∷ []) part o
      (subst (λ (legs : List Leg). TookWrite device legs part)
      (ap (λ (legs : List Leg). legs ++ leg ∷ []) split ∙ append_assoc before (own ∷ mid) (leg ∷ [])) t)

  -- ---- and back

  -- What is known of the bytes that are kept, where none was refused and the device was not read.
  pub record IsKeptOf (k : Kept) (legs : List Leg) : Type 0 where
    pub device_is : k.leg.device ≡ device
    pub took : (part : PartData) → part.addr ≡ device.address
        → WriteBody device part.code part.bytes part.pec k.leg.bytes → TookWrite device legs part

  own_took : (k : Kept) (before : List Leg) (own : Leg) (bytes : List ℕ) (behind : List Leg) → k.refused ≡ false
      → k.read ≡ false → IsOwn device state k before own bytes behind → IsKeptOf k (before ++ own ∷ behind)
  own_took k before own bytes behind not_refused unread o =
      let all : AllTaken device state k before bytes behind =
      subst (λ (r : Bool). BytesAre r device state k before bytes behind) not_refused o.body in
      record {
        device_is = ap (λ (x : Written). x.device) all.leg_is;
        took = λ part to_device body. record {
          to_device = to_device;
          bytes = bytes;
          own = record {
            earlier = before;
            own = own;
            behind = behind;
            split = refl;
            first = o.first;
            bytes_are = o.bytes_are;
          };
          taken = all.taken;
          unread = sym o.read ∙ unread;
          body = subst (WriteBody device part.code part.bytes part.pec)
              (ap (λ (x : Written). x.bytes) all.leg_is) body;
        };
      }

  kept_took : (k : Kept) (earlier : List Leg) (leg : Leg) → k.own ≡ true → k.refused ≡ false → k.read ≡ false
      → OwnIsIn device state k earlier leg → IsKeptOf k (earlier ++ leg ∷ [])
  kept_took k earlier leg own not_refused unread (none other before is) = cc (sym own ∙ other)
  kept_took k earlier leg own not_refused unread (under_way bytes o) =
      own_took k earlier leg bytes [] not_refused unread o
  kept_took k earlier leg own not_refused unread (ended before first mid bytes split o) =
      let all : earlier ++ leg ∷ [] ≡ before ++ first ∷ (mid ++ leg ∷ []) =
      ap (λ (legs : List Leg). legs ++ leg ∷ []) split ∙ append_assoc before (first ∷ mid) (leg ∷ []) in
      subst (IsKeptOf k) (sym all) (own_took k before first bytes (mid ++ leg ∷ []) not_refused unread o)

-- ---- the exchange

-- It took no write where what is kept is not that of one,
pub took_none : (x : DevicePacket) (device : DeviceParts) (state : DeviceState) (legs : Legs)
    → StandsIn x device state legs → (x.phase ≡ phases.Outside → ⊥)
    → ((part : PartData) → KeptTaken device state (kept x) part → ⊥) → Took device legs None
took_none x device state Outside stands inside never = absurd (inside stands.behind)
took_none x device state (Inside earlier leg) stands inside never =
    λ part took. never part (taken_kept device state (kept x) earlier leg part
    (own_in x.phase x device state earlier leg stands.behind.1) took)

-- and outside of legs.
pub took_none_outside : (x : DevicePacket) (device : DeviceParts) (state : DeviceState) (legs : Legs)
    → StandsIn x device state legs → x.phase ≡ phases.Outside → Took device legs None
took_none_outside x device state Outside stands outside = λ part took. took
took_none_outside x device state (Inside earlier leg) stands outside =
    absurd (subst (λ (p : LegPhase). InLeg p x device state earlier leg) outside stands.behind.1)

-- It took the write whose body is kept.
pub took_kept : (x : DevicePacket) (device : DeviceParts) (state : DeviceState) (legs : Legs)
    → (x.phase ≡ phases.Outside → ⊥) → x.own ≡ true → x.refused ≡ false → x.read ≡ false
    → IsWriteBody x.leg.device x.leg.bytes → StandsIn x device state legs → KeepsWrite x device legs
took_kept x device state Outside inside own not_refused unread body stands = absurd (inside stands.behind)
took_kept x device state (Inside earlier leg) inside own not_refused unread body stands =
    let is = kept_took device state (kept x) earlier leg own not_refused unread
    (own_in x.phase x device state earlier leg stands.behind.1) in
    record {
      device_is = is.device_is;
      write = subst (λ (d : DeviceParts). IsWriteBody d x.leg.bytes) is.device_is body;
      took = is.took;
    }

-- ---- the write that is kept

-- what the bytes that are kept say is what the device took
pub kept_so : (x : DevicePacket) (device : DeviceParts) (legs : Legs) (result : Option WriteContent)
    → (IsSome result ↔ IsWriteBody x.leg.device x.leg.bytes)
    → IfSome result (λ content. WriteBody x.leg.device content.code content.bytes.now content.pec x.leg.bytes)
    → KeepsWrite x device legs → Took device legs (written_part device result)
kept_so x device legs None some says keeps =
    absurd (cc (some.1 (subst (λ (d : DeviceParts). IsWriteBody d x.leg.bytes) (sym keeps.device_is) keeps.write)))
kept_so x device legs (Some content) some says keeps =
    keeps.took (part_of device content) refl
    (subst (λ (d : DeviceParts). WriteBody d content.code content.bytes.now content.pec x.leg.bytes) keeps.device_is
    says)

pub kept_few : (device : DeviceParts) (bytes : List ℕ) (result : Option WriteContent)
    → IfSome result (λ content. WriteBody device content.code content.bytes.now content.pec bytes)
    → IfSome result (λ content. length content.bytes.now ≤ 255)
kept_few device bytes None says = tt
kept_few device bytes (Some content) says =
    few_bytes device content.code content.bytes.now content.pec bytes says
