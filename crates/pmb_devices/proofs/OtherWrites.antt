-- Devices after a STOP take what others took: for `written_at`, `take_at`, `take_each` and `take_others`. Each
-- device stands outside of a packet, and knows what it took (`AllEnded`); one goes to another state, and the
-- others stay. So far some took all that came to their other addresses (`TookSoFar`), and one more keeps this.
use Rattle.std.proofs.Common.{◌≡◌, ◌≢◌, ℕ, zero, suc, ◌+◌, ◌<◌, ◌≤◌, Bool, true, false, cond, if◌then◌else◌, ◌&&◌, ◌||◌}
use Rattle.std.proofs.Common.{Option, Some, None, List, [], ◌∷◌, ◌++◌, length, take, get_or, set, nat_eq, refl}
use Rattle.std.proofs.Common.{sym, ap, subst, ◌∙◌, append_assoc, arith}
use Rattle.std.specs.List.{AllByRecursion, slice_get}
use Rattle.std.proofs.lemmas.Bool.{eq-eqb, ne_eqb, or_from, or_parts}
use Rattle.std.proofs.lemmas.List.{append-nil, length-append, map-append, take_all, take_more}
use Rattle.std.proofs.lemmas.List.Folds.{list_any-append}
use Rattle.std.proofs.lemmas.Option.{same_Some}
use Rattle.pmb_command.specs.Parts.{DeviceParts, device_with}
use Rattle.pmb_leg.specs.declared.content.WriteContent.{WriteContent}
use Rattle.pmb_transaction.specs.Transaction.{PartData}
use Rattle.pmb_registers.specs.State.{DeviceState, InState}
use Rattle.pmb_registers.specs.Apply.{after_at, after_other}
use Rattle.pmb_device.specs.declared.device.Device.{Device}
use Rattle.pmb_device.specs.Legs.{Legs, Outside}
use Rattle.pmb_device.specs.Device.{DeviceStanding, DeviceStandsAt, Remembers}
use Rattle.pmb_device.specs.DevicePacket.{part_of}
use Rattle.pmb_device.specs.Ends.{Took, TookPart}
use Rattle.pmb_devices.specs.Stops.{IsTakenBy, IsWrittenAt, TakesAt, TakesEach}
use Rattle.pmb_devices.specs.machine.Hands.{TakesAfter}
use Rattle.pmb_devices.specs.machine.Others.{AllEnded, AllTake, HasEnded, HaveTaken, IsAt, TookSoFar, Went}
use Rattle.pmb_devices.specs.machine.Others.{devices_of, has_some, listens, some_listens, with_state}
use Rattle.pmb_devices.specs.machine.Standing.{AllStand}
use Rattle.pmb_devices.proofs.Members.{none_so_far, one_more_of}

-- ---- devices whose packet ended

module _ (legs : Legs) where
  -- they stand outside of a packet
  pub ended_stand : (devices : List Device) (members : List InState) → AllEnded legs devices members
      → AllStand Outside devices members
  ended_stand [] [] all = tt
  ended_stand [] (member ∷ members) all = absurd all
  ended_stand (d ∷ devices) [] all = absurd all
  ended_stand (d ∷ devices) (member ∷ members) all = (all.0.stands, ended_stand devices members all.1)

  -- there are as many as members
  pub as_many_ended : (devices : List Device) (members : List InState) → AllEnded legs devices members
      → length devices ≡ length members
  as_many_ended [] [] all = refl
  as_many_ended [] (member ∷ members) all = absurd all
  as_many_ended (d ∷ devices) [] all = absurd all
  as_many_ended (d ∷ devices) (member ∷ members) all = ap suc (as_many_ended devices members all.1)

  -- the one at a place
  pub record EndedAt (members : List InState) (k : ℕ) (d : Device) : Type 0 where
    pub member : InState
    pub inside : k < length members
    pub is : get_or members k member ≡ member
    pub ended : HasEnded legs d member

  pub ended_at : (devices : List Device) (members : List InState) (k : ℕ) (d : Device)
      → AllEnded legs devices members → k < length devices → EndedAt members k (get_or devices k d)
  ended_at [] members k d all inside = absurd (omega (arith, inside))
  ended_at (first ∷ devices) [] k d all inside = absurd all
  ended_at (first ∷ devices) (m ∷ members) zero d all inside =
      record { member = m; inside = omega arith; is = refl; ended = all.0 }
  ended_at (first ∷ devices) (m ∷ members) (suc k) d all inside =
      let there = ended_at devices members k d all.1 (omega (arith, inside)) in
      record { member = there.member; inside = omega (arith, there.inside); is = there.is; ended = there.ended }

  -- the one in the middle of others,
  pub ended_here : (devices : List Device) (before : List InState) (member : InState) (behind : List InState)
      (d : Device) → AllEnded legs devices (before ++ member ∷ behind)
      → HasEnded legs (get_or devices (length before) d) member
  ended_here [] [] member behind d all = absurd all
  ended_here [] (m ∷ before) member behind d all = absurd all
  ended_here (first ∷ devices) [] member behind d all = all.0
  ended_here (first ∷ devices) (m ∷ before) member behind d all = ended_here devices before member behind d all.1

  -- and another one in its place
  pub ended_set : (devices : List Device) (before : List InState) (member other : InState) (behind : List InState)
      (new : Device) → AllEnded legs devices (before ++ member ∷ behind) → HasEnded legs new other
      → AllEnded legs (set devices (length before) new) (before ++ other ∷ behind)
  ended_set [] [] member other behind new all one = absurd all
  ended_set [] (m ∷ before) member other behind new all one = absurd all
  ended_set (first ∷ devices) [] member other behind new all one = (one, all.1)
  ended_set (first ∷ devices) (m ∷ before) member other behind new all one =
      (all.0, ended_set devices before member other behind new all.1 one)

-- ---- the device with an address

-- the first one that has it
pub found_there : (address : ℕ) (members : List InState) (k : ℕ) (member : InState) → k < length members
    → get_or members k member ≡ member → AllByRecursion (λ m. m.device.address ≢ address) (take k members)
    → member.device.address ≡ address → device_with address (devices_of members) ≡ Some member.device
found_there address [] k member inside is none here = absurd (omega (arith, inside))
found_there address (m ∷ members) zero member inside is none here =
    let same : nat_eq m.device.address address ≡ true =
    eq-eqb m.device.address address (ap (λ (x : InState). x.device.address) is ∙ here) in
    ap (λ (b : Bool). cond b (Some m.device) (device_with address (devices_of members))) same
    ∙ ap (λ (x : InState). Some x.device) is
found_there address (m ∷ members) (suc k) member inside is none here =
    ap (λ (b : Bool). cond b (Some m.device) (device_with address (devices_of members)))
    (ne_eqb m.device.address address none.0)
    ∙ found_there address members k member (omega (arith, inside)) is none.1 here

-- or none
pub found_nowhere : (address : ℕ) (members : List InState)
    → AllByRecursion (λ m. m.device.address ≢ address) members → device_with address (devices_of members) ≡ None
found_nowhere address [] none = refl
found_nowhere address (m ∷ members) none =
    ap (λ (b : Bool). cond b (Some m.device) (device_with address (devices_of members)))
    (ne_eqb m.device.address address none.0)
    ∙ found_nowhere address members none.1

-- ---- what was written at an address

module _ (legs : Legs) (members : List InState) (devices : List Device) (ended : AllEnded legs devices members)
    (address : ℕ) where
  -- by the device at a place, before which none has the address
  pub written_there : (k : ℕ) (d : Device) (own : ℕ) (written : Option PartData) → k < length devices
      → AllByRecursion (λ m. m.device.address ≢ address) (take k members)
      → d ≡ get_or devices k d
      → ((standing : DeviceStanding) → DeviceStandsAt d standing → own ≡ standing.device.address) → own ≡ address
      → ((parts : DeviceParts) (some : Legs) → Remembers d parts some → parts.address ≡ address
      → Took parts some written)
      → IsWrittenAt (devices_of members) legs address written
  written_there k d own written inside none is own_is here took =
      let there = ended_at legs devices members k d ended inside in
      let it = subst (λ (x : Device). HasEnded legs x there.member) (sym is) there.ended in
      let at : there.member.device.address ≡ address =
      sym (own_is (record { device = there.member.device; state = there.member.state; legs = Outside }) it.stands)
      ∙ here in
      subst (λ (found : Option DeviceParts). IsTakenBy legs found written)
      (sym (found_there address members k there.member there.inside there.is none at))
      (took there.member.device legs it.remembers at)

  -- the device at a place does not have it either
  pub none_written_there : (k : ℕ) (d : Device) (own : ℕ) → k < length devices
      → AllByRecursion (λ m. m.device.address ≢ address) (take k members)
      → d ≡ get_or devices k d
      → ((standing : DeviceStanding) → DeviceStandsAt d standing → own ≡ standing.device.address) → (own ≡ address → ⊥)
      → AllByRecursion (λ m. m.device.address ≢ address) (take (k + 1) members)
  none_written_there k d own inside none is own_is other =
      let there = ended_at legs devices members k d ended inside in
      let it = subst (λ (x : Device). HasEnded legs x there.member) (sym is) there.ended in
      none_so_far address members k there.member there.inside there.is none
      (λ same. other (own_is (record { device = there.member.device; state = there.member.state; legs = Outside })
      it.stands ∙ same))

  -- no device has it
  pub written_nowhere : (k : ℕ) → length devices ≡ k
      → AllByRecursion (λ m. m.device.address ≢ address) (take k members)
      → IsWrittenAt (devices_of members) legs address None
  written_nowhere k many none =
      subst (λ (found : Option DeviceParts). IsTakenBy legs found None)
      (sym (found_nowhere address members
      (subst (AllByRecursion (λ m. m.device.address ≢ address))
      (take_all k members (omega (arith, as_many_ended legs devices members ended, many))) none)))
      refl

-- what a device took is what it says
pub copy_took : (parts : DeviceParts) (legs : Legs) (content : WriteContent) (copy : PartData) (address : ℕ)
    → parts.address ≡ address
    → copy ≡ record { addr = address; code = content.code; bytes = content.bytes.now; pec = content.pec }
    → TookPart parts legs (part_of parts content) → TookPart parts legs copy
copy_took parts legs content copy address here is took =
    subst (TookPart parts legs)
    (ap (λ (a : ℕ). record { addr = a; code = content.code; bytes = content.bytes.now; pec = content.pec }) here
    ∙ sym is) took

-- ---- one device takes what was written

-- at its own address nothing more happens
own_stays : (device : DeviceParts) (address : ℕ) (written : Option PartData) (state : DeviceState)
    → device.address ≡ address → state ≡ after_at device address written state
own_stays device address None state here = refl
own_stays device address (Some part) state here =
    ap (λ (b : Bool). if b then state else after_other device part.code part.bytes state)
    (sym (eq-eqb address device.address (sym here)))

module _ (bus : List DeviceParts) (legs : Legs) (devices : List Device) (i : ℕ) (before : List InState)
    (member : InState) (behind : List InState) (at : IsAt bus legs devices i before member behind) where
  module _ (d : Device) where
    -- the one at the place
    ended_at_place : HasEnded legs (get_or devices i d) member
    ended_at_place = subst (λ (k : ℕ). HasEnded legs (get_or devices k d) member) at.place
        (ended_here legs devices before member behind d at.ended)

    -- and where it stands
    pub standing_at_place : DeviceStandsAt (get_or devices i d)
        (record { device = member.device; state = member.state; legs = Outside })
    standing_at_place = ended_at_place.stands

  module _ (address : ℕ) where
    -- it stays at its own address, and where nothing was written,
    pub stays_at_own : (written : Option PartData) → IsWrittenAt bus legs address written
        → member.device.address ≡ address
        → Went legs devices before member behind (TakesAt bus legs member.device address member.state)
    stays_at_own written is here = record {
      state = member.state;
      such = record {
        written = written;
        is_written = is;
        after_is = own_stays member.device address written member.state here;
      };
      ended = at.ended;
    }

    pub stays_at_none : IsWrittenAt bus legs address None
        → Went legs devices before member behind (TakesAt bus legs member.device address member.state)
    stays_at_none is = record {
      state = member.state;
      such = record { written = None; is_written = is; after_is = refl };
      ended = at.ended;
    }

    -- and else takes the write.
    pub takes_part : (part : PartData) (bytes : List ℕ) (d new : Device) → IsWrittenAt bus legs address (Some part)
        → (member.device.address ≡ address → ⊥) → bytes ≡ part.bytes
        → ((device : DeviceParts) (state : DeviceState)
        → DeviceStandsAt (get_or devices i d) (record { device = device; state = state; legs = Outside })
        → DeviceStandsAt new (record {
          device = device;
          state = after_other device part.code bytes state;
          legs = Outside;
        }))
        → ((device : DeviceParts) (some : Legs) → Remembers (get_or devices i d) device some
        → Remembers new device some)
        → Went legs (set devices i new) before member behind (TakesAt bus legs member.device address member.state)
    takes_part part bytes d new is other bytes_are stands remembers =
        let it = ended_at_place d in
        let after = after_other member.device part.code part.bytes member.state in
        let one : HasEnded legs new (with_state member after) = record {
          stands = subst (λ (bs : List ℕ). DeviceStandsAt new (record {
            device = member.device;
            state = after_other member.device part.code bs member.state;
            legs = Outside;
          })) bytes_are (stands member.device member.state it.stands);
          remembers = remembers member.device legs it.remembers;
        } in
        record {
          state = after;
          such = record {
            written = Some part;
            is_written = is;
            after_is =
                ap (λ (b : Bool). if b then member.state else after)
                (sym (ne_eqb address member.device.address (λ same. other (sym same))));
          };
          ended = subst (λ (ds : List Device). AllEnded legs ds (before ++ with_state member after ∷ behind))
              (ap (λ (k : ℕ). set devices k new) at.place)
              (ended_set legs devices before member (with_state member after) behind new at.ended one);
        }

-- what was written there, by the devices of the bus
pub written_on : (bus : List DeviceParts) (legs : Legs) (devices : List Device) (i : ℕ) (before : List InState)
    (member : InState) (behind : List InState) (address : ℕ) (one other : Option PartData)
    → IsAt bus legs devices i before member behind → one ≡ other
    → IsWrittenAt (devices_of (before ++ member ∷ behind)) legs address one → IsWrittenAt bus legs address other
written_on bus legs devices i before member behind address one other at same is =
    subst (IsWrittenAt bus legs address) same
    (subst (λ (ds : List DeviceParts). IsWrittenAt ds legs address one) at.bus_is is)

-- a place stays one, in the state to which its device went
pub still_at : (bus : List DeviceParts) (legs : Legs) (old new : List Device) (i : ℕ) (before : List InState)
    (member : InState) (behind : List InState) (state : DeviceState) → IsAt bus legs old i before member behind
    → AllEnded legs new (before ++ with_state member state ∷ behind)
    → IsAt bus legs new i before (with_state member state) behind
still_at bus legs old new i before member behind state at ended = record {
  place = at.place;
  bus_is =
      map-append (λ (m : InState). m.device) before (with_state member state ∷ behind)
      ∙ sym (map-append (λ (m : InState). m.device) before (member ∷ behind)) ∙ at.bus_is;
  ended = ended;
}

-- what is taken at one address more
takes_more : (bus : List DeviceParts) (legs : Legs) (device : DeviceParts) (front : List ℕ) (address : ℕ)
    (before between after : DeviceState) → TakesEach bus legs device front before between
    → TakesEach bus legs device (address ∷ []) between after
    → TakesEach bus legs device (front ++ address ∷ []) before after
takes_more bus legs device [] address before between after takes next =
    subst (λ (state : DeviceState). TakesEach bus legs device (address ∷ []) state after) takes next
takes_more bus legs device (first ∷ front) address before between after takes next =
    (takes.0, takes.1, takes_more bus legs device front address takes.0 between after takes.2 next)

-- Up to a place of its other addresses, and at the next one.
pub takes_one_more : (bus : List DeviceParts) (legs : Legs) (device : DeviceParts) (also : List ℕ) (k address other : ℕ)
    (before between after : DeviceState) → k < length also → address ≡ get_or also k other
    → TakesEach bus legs device (take k also) before between
    → TakesAt bus legs device address between after
    → TakesEach bus legs device (take (k + 1) also) before after
takes_one_more bus legs device also k address other before between after inside is takes next =
    let more : TakesEach bus legs device (take k also ++ address ∷ []) before after =
    takes_more bus legs device (take k also) address before between after takes (after, next, refl) in
    subst (λ (front : List ℕ). TakesEach bus legs device front before after)
    (ap (λ (a : ℕ). take k also ++ a ∷ []) is ∙ sym (take_more also k other inside)) more

-- at all of them
pub takes_them_all : (bus : List DeviceParts) (legs : Legs) (device : DeviceParts) (also : List ℕ) (k : ℕ)
    (before after : DeviceState) → length also ≤ k → TakesEach bus legs device (take k also) before after
    → TakesEach bus legs device also before after
takes_them_all bus legs device also k before after all takes =
    subst (λ (front : List ℕ). TakesEach bus legs device front before after) (take_all k also all) takes

-- ---- all do

module _ (bus : List DeviceParts) (legs : Legs) where
  -- their devices stay
  pub taken_devices : (olds news : List InState) → AllTake bus legs olds news → devices_of news ≡ devices_of olds
  taken_devices [] [] takes = refl
  taken_devices [] (new ∷ news) takes = absurd takes
  taken_devices (old ∷ olds) [] takes = absurd takes
  taken_devices (old ∷ olds) (new ∷ news) takes =
      ap (λ (d : DeviceParts). d ∷ devices_of news) takes.0
      ∙ ap (λ (ds : List DeviceParts). old.device ∷ ds) (taken_devices olds news takes.2)

  as_many_taken : (olds news : List InState) → AllTake bus legs olds news → length news ≡ length olds
  as_many_taken [] [] takes = refl
  as_many_taken [] (new ∷ news) takes = absurd takes
  as_many_taken (old ∷ olds) [] takes = absurd takes
  as_many_taken (old ∷ olds) (new ∷ news) takes = ap suc (as_many_taken olds news takes.2)

  -- one more took it
  taken_behind : (olds news : List InState) (member : InState) (state : DeviceState) → AllTake bus legs olds news
      → TakesEach bus legs member.device member.device.also member.state state
      → AllTake bus legs (olds ++ member ∷ []) (news ++ with_state member state ∷ [])
  taken_behind [] [] member state takes one = (refl, one, tt)
  taken_behind [] (new ∷ news) member state takes one = absurd takes
  taken_behind (old ∷ olds) [] member state takes one = absurd takes
  taken_behind (old ∷ olds) (new ∷ news) member state takes one =
      (takes.0, takes.1, taken_behind olds news member state takes.2 one)

  module _ (members : List InState) (bus_is : devices_of members ≡ bus) where
    pub none_took : (devices : List Device) → AllEnded legs devices members → TookSoFar bus legs members devices 0
    none_took devices ended = record {
      took = [];
      taken = [];
      left = members;
      members_are = refl;
      place = refl;
      takes = tt;
      ended = ended;
    }

    -- The next one takes it.
    one_more : (old new : List Device) (i : ℕ) (took taken : List InState) (left : List InState)
        → members ≡ took ++ left → length took ≡ i → AllTake bus legs took taken
        → AllEnded legs old (taken ++ left) → i < length old
        → ((before : List InState) (member : InState) (behind : List InState)
        → IsAt bus legs old i before member behind
        → Went legs new before member behind (TakesEach bus legs member.device member.device.also member.state))
        → TookSoFar bus legs members new (i + 1)
    one_more old new i took taken [] members_are place takes ended inside goes =
        absurd (omega (
          arith,
          as_many_ended legs old (taken ++ []) ended,
          length-append taken [],
          as_many_taken took taken takes,
          place,
        ))
    one_more old new i took taken (member ∷ left) members_are place takes ended inside goes =
        let devices_are : devices_of (taken ++ member ∷ left) ≡ bus =
        map-append (λ (m : InState). m.device) taken (member ∷ left)
        ∙ ap (λ (ds : List DeviceParts). ds ++ devices_of (member ∷ left)) (taken_devices took taken takes)
        ∙ sym (map-append (λ (m : InState). m.device) took (member ∷ left))
        ∙ ap devices_of (sym members_are)
        ∙ bus_is in
        let went = goes taken member left
        (record { place = as_many_taken took taken takes ∙ place; bus_is = devices_are; ended = ended }) in
        record {
          took = took ++ member ∷ [];
          taken = taken ++ with_state member went.state ∷ [];
          left = left;
          members_are = members_are ∙ sym (append_assoc took (member ∷ []) left);
          place = omega (arith, length-append took (member ∷ []), place);
          takes = taken_behind took taken member went.state takes went.such;
          ended = subst (AllEnded legs new) (sym (append_assoc taken (with_state member went.state ∷ []) left))
              went.ended;
        }

    pub next_takes : (old new : List Device) (i : ℕ) → TookSoFar bus legs members old i → i < length old
        → ((before : List InState) (member : InState) (behind : List InState)
        → IsAt bus legs old i before member behind
        → Went legs new before member behind (TakesEach bus legs member.device member.device.also member.state))
        → TookSoFar bus legs members new (i + 1)
    next_takes old new i so_far inside goes =
        one_more old new i so_far.took so_far.taken so_far.left so_far.members_are so_far.place so_far.takes
        so_far.ended inside goes

    -- All took it.
    all_took : (devices : List Device) (took taken left : List InState) → members ≡ took ++ left
        → AllTake bus legs took taken → AllEnded legs devices (taken ++ left) → length devices ≡ length took
        → HaveTaken bus legs members devices
    all_took devices took taken [] members_are takes ended many = record {
      news = taken;
      takes = subst (λ (ms : List InState). AllTake bus legs ms taken) (sym (members_are ∙ append-nil took)) takes;
      ended = subst (AllEnded legs devices) (append-nil taken) ended;
    }
    all_took devices took taken (member ∷ left) members_are takes ended many =
        absurd (omega (
          arith,
          as_many_ended legs devices (taken ++ member ∷ left) ended,
          length-append taken (member ∷ left),
          as_many_taken took taken takes,
          many,
        ))

    pub taken_by_all : (devices : List Device) (i : ℕ) → TookSoFar bus legs members devices i → length devices ≡ i
        → HaveTaken bus legs members devices
    taken_by_all devices i so_far many =
        all_took devices so_far.took so_far.taken so_far.left so_far.members_are so_far.takes so_far.ended
        (many ∙ sym so_far.place)

-- ---- which devices listen

-- one of the profile does
pub some_listens_at : (profile : List DeviceParts) (i : ℕ) (d : DeviceParts) → slice_get profile i ≡ Some d
    → listens d ≡ true → some_listens profile ≡ true
some_listens_at [] i d is one = cc is
some_listens_at (x ∷ profile) zero d is one =
    let here : listens x ≡ true = ap listens (same_Some x d is) ∙ one in
    ap (λ (b : Bool). b || some_listens profile) here
some_listens_at (x ∷ profile) (suc i) d is one =
    or_right (listens x) (some_listens profile) (some_listens_at profile i d is one)
  where
    or_right : (a b : Bool) → b ≡ true → (a || b) ≡ true
    or_right true b is = refl
    or_right false b is = is

-- one more does not
pub none_listens_at : (profile : List DeviceParts) (i : ℕ) (d : DeviceParts) → slice_get profile i ≡ Some d
    → listens d ≡ false → some_listens (take i profile) ≡ false → some_listens (take (i + 1) profile) ≡ false
none_listens_at profile i d is one none =
    ap some_listens (one_more_of profile i d is)
    ∙ list_any-append listens (take i profile) (d ∷ [])
    ∙ or_from (some_listens (take i profile)) (listens d || false) none (or_from (listens d) false one refl)

no_others : (also : List ℕ) → has_some also ≡ false → also ≡ []
no_others [] none = refl
no_others (address ∷ also) none = absurd (cc none)

-- Where no device has other addresses, each took all that came there.
none_listens : (bus : List DeviceParts) (legs : Legs) (members : List InState)
    → some_listens (devices_of members) ≡ false → AllTake bus legs members members
none_listens bus legs [] none = tt
none_listens bus legs (member ∷ members) none =
    let both = or_parts (listens member.device) (some_listens (devices_of members)) none in (
      refl,
      subst (λ (also : List ℕ). TakesEach bus legs member.device also member.state member.state)
          (sym (no_others member.device.also both.0)) refl,
      none_listens bus legs members both.1,
    )

-- So after a signal the devices stay, where none has other addresses, or it is not STOP.
pub stays_after : (listening stop : Bool) (legs : Legs) (members : List InState) (devices : List Device)
    → listening ≡ some_listens (devices_of members) → (listening && stop) ≡ false
    → TakesAfter stop (devices_of members) legs devices devices
stays_after listening false legs members devices is none = refl
stays_after true true legs members devices is none = absurd (cc none)
stays_after false true legs members devices is none = λ mids same ended.
    record {
      news = mids;
      takes = none_listens (devices_of members) legs mids (ap some_listens same ∙ sym is);
      ended = ended;
    }
