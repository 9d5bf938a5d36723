-- Which addresses a first profile lists: the first 64 that acknowledged and that a profile may have.
use Rattle.std.specs.Prelude.{◌≡◌, ℕ, ◌&&◌, Bool, true, not, if◌then◌else◌, List, [], ◌∷◌, ◌++◌, length}
use Rattle.std.specs.Prelude.{◌⊎◌, nat_le, nat_lt, nat_eq}
use Rattle.std.specs.List.{AllByRecursion, list_any}
use Rattle.pmb_bus.specs.declared.event.Event.{Event}
use Rattle.pmb_bus.specs.declared.event.Event.TheVariants.{Start, Byte}
use Rattle.pmb_draft.specs.Events.{Acks, AcksAfter}

-- whether a device of a profile may have an address (SMBus 3.0 appendix C): 08h to 77h, and not 0ch, the Alert
-- Response Address
abbrev pub is_device_address : ℕ → Bool
is_device_address address = nat_le 0x08 address && nat_le address 0x77 && not (nat_eq address 0x0c)

-- a list with an address more, unless no device may have it, it is in the list, or that has 64
abbrev pub listed_with : ℕ → List ℕ → List ℕ
listed_with address listed =
    if is_device_address address && not (list_any (nat_eq address) listed) && nat_lt (length listed) 64
    then listed ++ address ∷ [] else listed

-- The addresses of a list are those of devices.
pub record AreListed (events : List Event) (listed : List ℕ) : Type 0 where
  -- each may be a device's, and acknowledged
  pub each : AllByRecursion (λ address. (is_device_address address ≡ true) × Acks events address) listed
  -- Each one that may be a device's and acknowledged is in the list, unless that has 64 others, each of which
  -- acknowledged before.
  pub first : (address : ℕ) (before : List Event) (a : AcksAfter before events address)
      → is_device_address address ≡ true
      → (list_any (nat_eq address) listed ≡ true)
      ⊎ ((length listed ≡ 64) × AllByRecursion (Acks (before ++ Start ∷ Byte a.byte ∷ [])) listed)
