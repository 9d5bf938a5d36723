-- The devices of a bus, in the order of its profile. For `add_device` and `Bus::device`. They are
-- made one after the other, each with its first state; looking for an address, those before have
-- others.
use Rattle.std.proofs.Common.{◌≡◌, ◌≢◌, ℕ, zero, suc, ◌+◌, ◌<◌, Option, Some, None, Bor, List, [], ◌∷◌, ◌++◌, length}
use Rattle.std.proofs.Common.{take, get_or, refl, sym, ap, subst, ◌∙◌, add-one, arith}
use Rattle.std.specs.List.{AllByRecursion, slice_get}
use Rattle.std.specs.Option.{option_map}
use Rattle.std.proofs.lemmas.List.{map-append}
use Rattle.pmb_command.specs.Parts.{DeviceParts}
use Rattle.pmb_table.specs.declared.device_profile.DeviceProfile.{DeviceProfile}
use Rattle.pmb_registers.specs.State.{InState, first_state}
use Rattle.pmb_device.specs.declared.device.Device.{Device}
use Rattle.pmb_device.specs.Legs.{Legs, Outside}
use Rattle.pmb_device.specs.Device.{DeviceStandsAt}
use Rattle.pmb_devices.specs.Runs.{first_members}
use Rattle.pmb_devices.specs.machine.Standing.{AllStand}
use Rattle.pmb_devices.proofs.Behind.{stand_more}

-- ---- made one after the other

-- one device of the profile more
one_taken : (profile : List DeviceParts) (i : ℕ) (d : DeviceParts) → slice_get profile i ≡ Some d
    → take (suc i) profile ≡ take i profile ++ d ∷ []
one_taken [] i d is = cc is
one_taken (x ∷ profile) zero d is = ap (λ (p : DeviceParts). p ∷ []) (cc is)
one_taken (x ∷ profile) (suc i) d is = ap (λ (ds : List DeviceParts). x ∷ ds) (one_taken profile i d is)

pub one_more_of : (profile : List DeviceParts) (i : ℕ) (d : DeviceParts) → slice_get profile i ≡ Some d
    → take (i + 1) profile ≡ take i profile ++ d ∷ []
one_more_of profile i d is = rw add-one (one_taken profile i d is)

-- a place within has a device
nothing_there : (profile : List DeviceParts) (i : ℕ) → i < length profile → slice_get profile i ≡ None → ⊥
nothing_there [] i within is = omega (arith, within)
nothing_there (x ∷ profile) zero within is = cc is
nothing_there (x ∷ profile) (suc i) within is = nothing_there profile i (omega (arith, within)) is

pub none_at : (profile : List DeviceParts) (i : ℕ) (found : Option (Bor DeviceProfile)) → i < length profile
    → option_map (λ d. d.now) found ≡ slice_get profile i
    → ((d : Bor DeviceProfile) → found ≡ Some d → ⊥) → ⊥
none_at profile i None within is never = nothing_there profile i within (sym is)
none_at profile i (Some d) within is never = never d refl

pub first_more : (profile : List DeviceParts) (i : ℕ) (d : DeviceParts) (devices : List Device) (made : Device)
    → slice_get profile i ≡ Some d
    → AllStand Outside devices (first_members (take i profile))
    → DeviceStandsAt made (record { device = d; state = first_state d; legs = Outside })
    → AllStand Outside (devices ++ made ∷ []) (first_members (take (i + 1) profile))
first_more profile i d devices made is all one =
    subst (AllStand Outside (devices ++ made ∷ []))
    (sym (ap first_members (one_more_of profile i d is)
    ∙ map-append (λ (p : DeviceParts). record { device = p; state = first_state p }) (take i profile) (d ∷ [])))
    (stand_more Outside devices (first_members (take i profile)) made (record { device = d; state = first_state d }) all
    one)

-- ---- looked at

module _ (legs : Legs) where
  -- where the device at a place stands
  pub record StandsAtPlace (members : List InState) (k : ℕ) (d : Device) : Type 0 where
    -- the member at this place
    pub member : InState
    -- there is one
    pub inside : k < length members
    -- `get_or` finds it
    pub is : get_or members k member ≡ member
    -- the device stands as that member
    pub stands : DeviceStandsAt d (record { device = member.device; state = member.state; legs = legs })

  pub at_place : (devices : List Device) (members : List InState) (k : ℕ) (d : Device) → AllStand legs devices members
      → k < length devices
      → StandsAtPlace members k (get_or devices k d)
  at_place [] members k d all inside = absurd (omega (arith, inside))
  at_place (first ∷ devices) [] k d all inside = absurd all
  at_place (first ∷ devices) (m ∷ members) zero d all inside =
      record { member = m; inside = omega arith; is = refl; stands = all.0 }
  at_place (first ∷ devices) (m ∷ members) (suc k) d all inside =
      let there = at_place devices members k d all.1 (omega (arith, inside)) in
      record { member = there.member; inside = omega (arith, there.inside); is = there.is; stands = there.stands }

-- an address that is not of the next device either
none_before : (address : ℕ) (members : List InState) (k : ℕ) (member : InState) → k < length members
    → get_or members k member ≡ member
    → AllByRecursion (λ m. m.device.address ≢ address) (take k members) → member.device.address ≢ address
    → AllByRecursion (λ m. m.device.address ≢ address) (take (suc k) members)
none_before address [] k member inside is all other = absurd (omega (arith, inside))
none_before address (m ∷ members) zero member inside is all other =
    (subst (λ (x : InState). x.device.address ≢ address) (sym is) other, tt)
none_before address (m ∷ members) (suc k) member inside is all other =
    (all.0, none_before address members k member (omega (arith, inside)) is all.1 other)

pub none_so_far : (address : ℕ) (members : List InState) (k : ℕ) (member : InState) → k < length members
    → get_or members k member ≡ member
    → AllByRecursion (λ m. m.device.address ≢ address) (take k members) → member.device.address ≢ address
    → AllByRecursion (λ m. m.device.address ≢ address) (take (k + 1) members)
none_so_far address members k member inside is all other =
    rw add-one (none_before address members k member inside is all other)

-- As many devices stand as there are members.
pub as_many : (legs : Legs) (devices : List Device) (members : List InState) → AllStand legs devices members
    → length devices ≡ length members
as_many legs [] [] all = refl
as_many legs [] (m ∷ members) all = absurd all
as_many legs (d ∷ devices) [] all = absurd all
as_many legs (d ∷ devices) (m ∷ members) all = ap suc (as_many legs devices members all.1)
