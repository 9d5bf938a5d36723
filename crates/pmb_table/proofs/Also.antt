-- The other addresses of devices: for `read_devices`. Each is one that a table names, and once all tables are
-- read each of those is a device's.
use Rattle.std.proofs.Common.{◌≡◌, ℕ, List, [], ◌∷◌, ◌++◌, Bool, true, false, cond, Some, map, nat_eq, ap, refl, subst}
use Rattle.std.proofs.Common.{sym, ◌∙◌, ⊎_elim}
use Rattle.std.specs.List.{AllByRecursion, list_any}
use Rattle.std.specs.Option.{is_some}
use Rattle.std.proofs.lemmas.Bool.{eq-eqb, eqb-true, false≢true, or_cases}
use Rattle.std.proofs.lemmas.List.{append_assoc, map-append}
use Rattle.toml.specs.Data.{Data, Items, item}
use Rattle.pmb_command.specs.Bus.{AreOfDevices}
use Rattle.pmb_command.specs.Parts.{DeviceParts, device_with}
use Rattle.pmb_keys.specs.Addresses.{addresses_among, after_named, each_named, named_address}
use Rattle.pmb_keys.specs.machine.Addresses.{AreAmong}
use Rattle.pmb_keys.proofs.Named.{among, holds_among}
use Rattle.pmb_table.proofs.Accepted.{All-map}

-- a device has an address that is among those of all
device_found : (bus : List DeviceParts) (n : ℕ) → list_any (nat_eq n) (map (λ d. d.address) bus) ≡ true
    → is_some (device_with n bus) ≡ true
device_found [] n any = absurd (false≢true any)
device_found (d ∷ ds) n any = by (nat_eq d.address n) refl (device_found ds n)
  where
    by : (b : Bool) → nat_eq d.address n ≡ b
        → (list_any (nat_eq n) (map (λ x. x.address) ds) ≡ true → is_some (device_with n ds) ≡ true)
        → is_some (cond b (Some d) (device_with n ds)) ≡ true
    by true is later = refl
    by false is later =
        ⊎_elim
        (λ here. absurd (false≢true (sym is ∙ eq-eqb d.address n (sym (eqb-true n d.address here)))))
        later (or_cases (nat_eq n d.address) (list_any (nat_eq n) (map (λ x. x.address) ds)) any)

-- the addresses of tables that were read, and of those that are left
pub named-next : (before : List DeviceParts) (d : Data) (ds : Items) (device : DeviceParts)
    → named_address d ≡ Some device.address
    → map (λ x. x.address) (before ++ device ∷ []) ++ each_named ds
    ≡ map (λ x. x.address) before ++ each_named (item d ds)
named-next before d ds device named =
    ap (λ xs. xs ++ each_named ds) (map-append (λ x. x.address) before (device ∷ []))
    ∙ append_assoc (map (λ x. x.address) before) (device.address ∷ []) (each_named ds)
    ∙ ap (λ o. map (λ x. x.address) before ++ after_named o (each_named ds)) (sym named)

-- where devices have all addresses that tables name, addresses that are among these are of devices
pub are_of_devices : (bus : List DeviceParts) (numbers named : List ℕ) → map (λ d. d.address) bus ≡ numbers
    → named ≡ addresses_among numbers → AllByRecursion (λ d. AreAmong named d.also) bus
    → AllByRecursion (λ d. AreOfDevices bus d.also) bus
are_of_devices bus numbers named have are all =
    All-map (λ d. AreAmong named d.also) (λ d. AreOfDevices bus d.also) bus (λ d among_named. of_devices d.also among_named)
    all
  where
    is_device : (n : ℕ) → list_any (nat_eq n) named ≡ true → is_some (device_with n bus) ≡ true
    is_device n any =
        device_found bus n
        (subst (λ xs. list_any (nat_eq n) xs ≡ true) (sym have)
        (holds_among (λ m. list_any (nat_eq m) numbers ≡ true) (addresses_among numbers) (among numbers) n
        (subst (λ xs. list_any (nat_eq n) xs ≡ true) are any)))

    of_devices : (addresses : List ℕ) → AreAmong named addresses → AreOfDevices bus addresses
    of_devices addresses are =
        All-map (λ n. list_any (nat_eq n) named ≡ true) (λ n. is_some (device_with n bus) ≡ true) addresses is_device are
