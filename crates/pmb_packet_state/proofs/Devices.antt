-- The device with an address, found or not. For `take_address`. A search finds a device that passes
-- its test, which is that it has the address; the profile that is kept is the one of the contract.
use Rattle.std.proofs.Common.{◌≡◌, ℕ, Bool, true, false, [], ◌∷◌, if◌then◌else◌, Option, Some, None, List, ap, sym}
use Rattle.std.proofs.Common.{subst, ◌∙◌, nat_eq, option_map, refl}
use Rattle.std.proofs.lemmas.Bool.{eqb-true}
use Rattle.std.specs.Borrow.{Bor}
use Rattle.std.specs.List.{find}
use Rattle.pmb_command.specs.Parts.{DeviceParts, device_with}

found_passes : {X : Type 0} (passes : X → Bool) (xs : List X) (x : X) → find passes xs ≡ Some x → passes x ≡ true
found_passes passes [] x found = absurd (cc found)
found_passes passes (y ∷ xs) x found = passes_among passes (passes y) y x (find passes xs) refl
    (found_passes passes xs x) found where
      passes_among : {X : Type 0} (passes : X → Bool) (b : Bool) (y x : X) (others : Option X) → passes y ≡ b
          → (others ≡ Some x → passes x ≡ true)
          → (if b then Some y else others) ≡ Some x → passes x ≡ true
      passes_among passes true y x others is later found = let same : y ≡ x = cc in subst (λ v. passes v ≡ true) same is
      passes_among passes false y x others is later found = later found

-- the device that is found has the address
pub has_address : (profile : List DeviceParts) (addr : ℕ) (device : DeviceParts)
    → device_with addr profile ≡ Some device → device.address ≡ addr
has_address profile addr device known = eqb-true device.address addr
    (found_passes (λ d. nat_eq d.address addr) profile device known)

-- what is found behind a reference
pub found_device : (profile given : List DeviceParts) (addr : ℕ) (found : Option (Bor DeviceParts))
    (device : Bor DeviceParts)
    → given ≡ profile → option_map (λ d. d.now) found ≡ device_with addr given → found ≡ Some device
    → device_with addr profile ≡ Some device.now
found_device profile given addr found device same is some =
    subst (λ (p : List DeviceParts). device_with addr p ≡ Some device.now) same
    (sym is ∙ ap (λ (o : Option (Bor DeviceParts)). option_map (λ d. d.now) o) some)

pub no_device : (profile given : List DeviceParts) (addr : ℕ) (found : Option (Bor DeviceParts)) (device : DeviceParts)
    → given ≡ profile → option_map (λ d. d.now) found ≡ device_with addr given → found ≡ None
    → device_with addr profile ≡ Some device → ⊥
no_device profile given addr found device same is none known =
    let nothing : device_with addr profile ≡ None =
    subst (λ (p : List DeviceParts). device_with addr p ≡ None) same
    (sym is ∙ ap (λ (o : Option (Bor DeviceParts)). option_map (λ d. d.now) o) none) in
    cc (nothing, known)
