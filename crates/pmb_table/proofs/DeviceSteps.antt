-- One more device, and all that are left: for `read_devices` and `places_of`. After
-- a device that was read the values after it go on from there; its address is new, and its place
-- is kept.
use Rattle.std.proofs.Common.{◌≡◌, ℕ, ◌+◌, ◌<◌, ◌≤◌, List, [], ◌∷◌, ◌++◌, map, set, take, Result, Ok, Err}
use Rattle.std.proofs.Common.{Some, option_map, false, length, ap, sym, subst, ◌∙◌, arith}
use Rattle.std.specs.Prelude.{IfErr, slice_get}
use Rattle.std.specs.Result.{is_ok}
use Rattle.std.proofs.lemmas.Cmp.{nat_eq_equiv}
use Rattle.std.proofs.lemmas.List.{length-map, length-take-le, map-append, take-map, take_more}
use Rattle.std.proofs.lemmas.Map.Keys.{IsDistinct-push}
use Rattle.std.proofs.lemmas.Option.{get_or_from_slice_get, slice_get-map, slice_get_within}
use Rattle.toml.specs.Data.{Data, Items, item}
use Rattle.pmb_command.specs.Parts.{DeviceParts}
use Rattle.pmb_keys.specs.DeviceKeys.{DeviceKeys}
use Rattle.pmb_keys.specs.declared.fault.FaultKind.{FaultKind}
use Rattle.pmb_keys.specs.Rules.{bind}
use Rattle.pmb_table.specs.declared.fault.ProfileFault.{ProfileFault}
use Rattle.pmb_command.specs.Parts.{HaveOwnAddresses}
use Rattle.pmb_command.specs.Parts.{IsNew}
use Rattle.pmb_table.specs.Profile.{at_device, device_of, devices_after, keys_of, needs_memory, placed}
use Rattle.pmb_table.specs.machine.Places.{ArePlaces}
use Rattle.pmb_table.specs.machine.Profile.{addresses_of}
use Rattle.pmb_table.proofs.Places.{ArePlaces-push, new_to_earlier}

-- after a device that was read, the values after it go on from there
pub rest_of_device : (ignored named : List ℕ) (before : List DeviceParts) (d : Data) (ds : Items)
    (device : DeviceParts) → Ok device ≡ device_of ignored named before d
    → devices_after ignored named (before ++ device ∷ []) ds ≡ devices_after ignored named before (item d ds)
rest_of_device ignored named before d ds device read =
    ap (λ r. bind r (λ x. devices_after ignored named (before ++ x ∷ []) ds)) read

-- a device that was read took memory
pub read_needs : {P : Type 0} (ignored named : List ℕ) (before : List DeviceParts) (d : Data) (ds : Items)
    (device : DeviceParts) → needs_memory ignored named before (item d ds) ≡ false
    → IfErr (keys_of ignored named before d)
    (λ what. ◌≡◌ {A = Result DeviceParts ProfileFault} (Ok device) (Err (at_device (length before) what)))
    → P
read_needs {P} ignored named before d ds device none told = by (keys_of ignored named before d) none told
  where
    by : (r : Result DeviceKeys FaultKind) → is_ok r ≡ false
        → IfErr r
        (λ what. ◌≡◌ {A = Result DeviceParts ProfileFault} (Ok device) (Err (at_device (length before) what))) → P
    by (Ok keys) none told = cc
    by (Err what) none told = cc

-- a fault that was told without memory is that of all that are left
pub fault_without_memory : (ignored named : List ℕ) (before : List DeviceParts) (d : Data) (ds : Items)
    (fault : ProfileFault) → needs_memory ignored named before (item d ds) ≡ false
    → IfErr (keys_of ignored named before d)
    (λ what. ◌≡◌ {A = Result DeviceParts ProfileFault} (Err fault) (Err (at_device (length before) what)))
    → Err fault ≡ devices_after ignored named before (item d ds)
fault_without_memory ignored named before d ds fault none told =
    by (keys_of ignored named before d) _ (λ device. devices_after ignored named (before ++ device ∷ []) ds) none told
  where
    by : (r : Result DeviceKeys FaultKind) (made : DeviceKeys → Result DeviceParts ProfileFault)
        (rest : DeviceParts → Result (List DeviceParts) ProfileFault) → is_ok r ≡ false
        → IfErr r
        (λ what. ◌≡◌ {A = Result DeviceParts ProfileFault} (Err fault) (Err (at_device (length before) what)))
        → Err fault ≡ bind (bind (placed (at_device (length before)) r) made) rest
    by (Ok keys) made rest none told = cc
    by (Err what) made rest none told = cc

-- one more device with an address of its own
pub HaveOwnAddresses-push : (devices : List DeviceParts) (device : DeviceParts) → HaveOwnAddresses devices
    → IsNew device.address (map (λ d. d.address) devices) → HaveOwnAddresses (devices ++ device ∷ [])
HaveOwnAddresses-push devices device own new =
    rw (map-append (λ d. d.address) devices (device ∷ []))
    (IsDistinct-push nat_eq_equiv (map (λ d. d.address) devices) device.address own new)

-- ---- the places of devices

-- one more device is at its place
pub places-next : (devices : List DeviceParts) (places : List ℕ) (i : ℕ) (d : DeviceParts) → HaveOwnAddresses devices
    → slice_get devices i ≡ Some d → d.address < length places
    → ArePlaces places (addresses_of (take i devices))
    → ArePlaces (set places d.address i) (addresses_of (take (i + 1) devices))
places-next devices places i d own here in_places at =
    let within : i < length devices = slice_get_within devices i d here in
    let low : i ≤ length devices = omega arith in
    let address_here : slice_get (addresses_of devices) i ≡ Some d.address = slice_get-map (λ x. x.address) devices i
    ∙ ap (option_map (λ x. x.address)) here in
    let new : IsNew d.address (addresses_of (take i devices)) =
    subst (IsNew d.address) (take-map (λ x. x.address) i devices)
    (new_to_earlier (addresses_of devices) i d.address own address_here) in
    let count : length (addresses_of (take i devices)) ≡ i = length-map (take i devices) (λ x. x.address)
    ∙ length-take-le i devices low in
    let next : take (i + 1) devices ≡ take i devices ++ d ∷ [] = take_more devices i d within
    ∙ ap (λ x. take i devices ++ x ∷ []) (get_or_from_slice_get devices i d d here) in
    let more : addresses_of (take (i + 1) devices) ≡ addresses_of (take i devices) ++ d.address ∷ [] =
    ap addresses_of next ∙ map-append (λ x. x.address) (take i devices) (d ∷ []) in
    subst (ArePlaces (set places d.address i)) (sym more)
    (subst (λ n. ArePlaces (set places d.address n) (addresses_of (take i devices) ++ d.address ∷ [])) count
    (ArePlaces-push places (addresses_of (take i devices)) d.address at new in_places))
