-- What was written at an address of a bus is one thing, so that what a device takes there leads to one state.
-- For the laws on what STOP makes of the devices, and in `pmb_device_laws`. A device took one write at most
-- (`took_one`), since its own leg is at one place and its bytes are of one code and data.
use Rattle.std.proofs.Common.{◌≡◌, ℕ, suc, ◌<◌, Bool, cond, if◌then◌else◌, Option, Some, None}
use Rattle.std.proofs.Common.{List, [], ◌∷◌, ◌++◌, length, map, nat_eq, refl, sym, ap, subst, ◌∙◌, arith}
use Rattle.std.specs.List.{Contains}
use Rattle.std.proofs.lemmas.Bool.{eqb-true}
use Rattle.std.proofs.lemmas.Option.{same_Some}
use Rattle.pmb_command.specs.Parts.{DeviceParts, device_with}
use Rattle.pmb_bus.specs.Address.{write_address}
use Rattle.pmb_transaction.specs.Body.{WriteBody}
use Rattle.pmb_transaction.specs.Transaction.{PartData}
use Rattle.pmb_registers.specs.State.{DeviceState, InState}
use Rattle.pmb_registers.specs.Apply.{after_at, after_other, after_others, part_to}
use Rattle.pmb_device.specs.Legs.{Leg, Legs, Outside, Inside, is_to, sent}
use Rattle.pmb_device.specs.Ends.{Took, TookPart, TookWrite}
use Rattle.pmb_device.proofs.FirstLeg.{is_to_first, one_first}
use Rattle.pmb_devices.specs.Stops.{IsTakenBy, IsWrittenAt, TakesEach}
use Rattle.pmb_devices.proofs.Devices.{SameWrite, one_write}
use Rattle.pmb_devices.proofs.Writes.{by_test}

-- ---- one write

-- In the legs of a packet a device took one write.
took_one : (device : DeviceParts) (legs : List Leg) (a b : PartData) → TookWrite device legs a
    → TookWrite device legs b → SameWrite a.code b.code a.bytes b.bytes
took_one device legs a b x y =
    let w = write_address device.address in
    let place =
    one_first (is_to w) x.own.earlier y.own.earlier x.own.own y.own.own x.own.behind y.own.behind
    (sym x.own.split ∙ y.own.split) x.own.first y.own.first (is_to_first w x.bytes x.own.own x.own.bytes_are)
    (is_to_first w y.bytes y.own.own y.own.bytes_are) in
    let rows : w ∷ x.bytes ≡ w ∷ y.bytes = sym x.own.bytes_are ∙ ap sent place.here ∙ y.own.bytes_are in
    let same : x.bytes ≡ y.bytes = cc rows in
    one_write device a.code b.code a.bytes b.bytes a.pec b.pec x.bytes x.body
    (subst (WriteBody device b.code b.bytes b.pec) (sym same) y.body)

took_one_part : (device : DeviceParts) (legs : Legs) (a b : PartData) → TookPart device legs a
    → TookPart device legs b → SameWrite a.code b.code a.bytes b.bytes
took_one_part device Outside a b x y = absurd x
took_one_part device (Inside earlier leg) a b x y = took_one device (earlier ++ leg ∷ []) a b x y

module _ (device : DeviceParts) (address : ℕ) (state : DeviceState) where
  -- writes of one code and data act alike
  acts_alike : (a b : PartData) → SameWrite a.code b.code a.bytes b.bytes
      → after_at device address (Some a) state ≡ after_at device address (Some b) state
  acts_alike a b same =
      ap (λ (code : ℕ). if nat_eq address device.address then state else after_other device code a.bytes state)
      same.code_is
      ∙ ap (λ (bytes : List ℕ). if nat_eq address device.address then state else
      after_other device b.code bytes state) same.bytes_are

  -- so does what a device took,
  took_alike : (d : DeviceParts) (legs : Legs) (one other : Option PartData) → Took d legs one → Took d legs other
      → after_at device address one state ≡ after_at device address other state
  took_alike d legs None None x y = refl
  took_alike d legs None (Some b) x y = absurd (x b y)
  took_alike d legs (Some a) None x y = absurd (y a x)
  took_alike d legs (Some a) (Some b) x y = acts_alike a b (took_one_part d legs a b x y)

  -- and what was written at an address
  written_alike : (legs : Legs) (found : Option DeviceParts) (one other : Option PartData)
      → IsTakenBy legs found one → IsTakenBy legs found other
      → after_at device address one state ≡ after_at device address other state
  written_alike legs None one other x y =
      ap (λ (written : Option PartData). after_at device address written state) (x ∙ sym y)
  written_alike legs (Some d) one other x y = took_alike d legs one other x y

module _ (bus : List DeviceParts) (legs : Legs) (device : DeviceParts) where
  -- ---- what is taken at other addresses

  -- What a device takes leads to one state.
  pub one_taken : (also : List ℕ) (before after other : DeviceState) → TakesEach bus legs device also before after
      → TakesEach bus legs device also before other → after ≡ other
  one_taken [] before after other a b = a ∙ sym b
  one_taken (address ∷ also) before after other a b =
      let same : b.0 ≡ a.0 =
      b.1.after_is
      ∙ written_alike device address before legs (device_with address bus) b.1.written a.1.written b.1.is_written
      a.1.is_written
      ∙ sym a.1.after_is in
      one_taken also a.0 after other a.2
      (subst (λ (state : DeviceState). TakesEach bus legs device also state other) same b.2)

  -- Where some parts are what was written, they act.
  pub parts_taken : (parts : List PartData)
      → ((address : ℕ) → IsWrittenAt bus legs address (part_to address parts))
      → (also : List ℕ) (before after : DeviceState) → TakesEach bus legs device also before after
      → after ≡ after_others device also parts before
  parts_taken parts are [] before after takes = takes
  parts_taken parts are (address ∷ also) before after takes =
      let here : takes.0 ≡ after_at device address (part_to address parts) before =
      takes.1.after_is
      ∙ written_alike device address before legs (device_with address bus) takes.1.written (part_to address parts)
      takes.1.is_written (are address) in
      parts_taken parts are also takes.0 after takes.2
      ∙ ap (λ (state : DeviceState). after_others device also parts state) here

  -- Where nothing was written, nothing happens.
  pub nothing_taken : ((address : ℕ) → IsWrittenAt bus legs address None)
      → (also : List ℕ) (before after : DeviceState) → TakesEach bus legs device also before after → after ≡ before
  nothing_taken none [] before after takes = takes
  nothing_taken none (address ∷ also) before after takes =
      let here : takes.0 ≡ before =
      takes.1.after_is
      ∙ written_alike device address before legs (device_with address bus) takes.1.written None takes.1.is_written
      (none address) in
      nothing_taken none also takes.0 after takes.2 ∙ here

-- ---- which device took it

-- a member whose device is found by its address
record FoundMember (members : List InState) (address : ℕ) (found : DeviceParts) : Type 0 where
  member : InState
  inside : Contains members member
  device_is : member.device ≡ found
  address_is : member.device.address ≡ address

found_further : (m : InState) (members : List InState) (address : ℕ) (found : DeviceParts)
    → FoundMember members address found → FoundMember (m ∷ members) address found
found_further m members address found there =
    let below : suc there.inside.0 < length (m ∷ members) = omega (arith, there.inside.1) in
    record {
      member = there.member;
      inside = (suc there.inside.0, below, there.inside.2);
      device_is = there.device_is;
      address_is = there.address_is;
    }

found_member : (members : List InState) (address : ℕ) (found : DeviceParts)
    → device_with address (map (λ m. m.device) members) ≡ Some found → FoundMember members address found
found_member [] address found is = cc is
found_member (m ∷ members) address found is =
    let rest = device_with address (map (λ (x : InState). x.device) members) in
    by_test (nat_eq m.device.address address) (nat_eq m.device.address address) refl
    (
    λ same.
    let first : 0 < length (m ∷ members) = omega arith in
    let here : Some m.device ≡ Some found = ap (λ (b : Bool). cond b (Some m.device) rest) (sym same) ∙ is in
    record {
      member = m;
      inside = (0, first, refl);
      device_is = same_Some m.device found here;
      address_is = eqb-true m.device.address address same;
    }
    )
    (
    λ other.
    found_further m members address found
    (found_member members address found (ap (λ (b : Bool). cond b (Some m.device) rest) (sym other) ∙ is))
    )

module _ (members : List InState) (legs : Legs) (address : ℕ) (written : Option PartData) where
  by_found : (found : Option DeviceParts) → device_with address (map (λ m. m.device) members) ≡ found
      → (found ≡ None → written ≡ None)
      → ((member : InState) → Contains members member → member.device.address ≡ address
      → Took member.device legs written) → IsTakenBy legs found written
  by_found None is nobody each = nobody refl
  by_found (Some found) is nobody each =
      let there = found_member members address found is in
      subst (λ (d : DeviceParts). Took d legs written) there.device_is
      (each there.member there.inside there.address_is)

  -- What was written at an address is what the member with it took.
  pub written_so : (bus : List DeviceParts) → map (λ m. m.device) members ≡ bus
      → (device_with address bus ≡ None → written ≡ None)
      → ((member : InState) → Contains members member → member.device.address ≡ address
      → Took member.device legs written) → IsWrittenAt bus legs address written
  written_so bus are nobody each =
      subst (λ (ds : List DeviceParts). IsWrittenAt ds legs address written) are
      (by_found (device_with address (map (λ m. m.device) members)) refl
      (subst (λ (ds : List DeviceParts). device_with address ds ≡ None → written ≡ None) (sym are) nobody) each)
