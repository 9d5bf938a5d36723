-- What contracts see of a profile, as the list of its devices.
use Rattle.std.specs.Prelude.{◌≡◌, ℕ, Bool, true, false, not, Option, Some, None, List, [], ◌∷◌, map, nat_eq, option_map, slice_get}
use Rattle.std.specs.List.{IsDistinct, find, list_all, list_any}
use Rattle.pmb_coefficients.specs.Coefficients.{Coefficients}
use Rattle.pmb_vid.specs.declared.table.VidTable.{VidTable}
use Rattle.pmb_command.specs.declared.pec_mode.PecMode.{PecMode}
use Rattle.pmb_command.specs.Entry.{EntryParts}

-- The bytes that a register has at first: the same on each page, or an item for each page, from page
-- 0 on.
pub data InitialParts : Type 0 where
  Same : List ℕ → InitialParts
  Each : List (List ℕ) → InitialParts

-- those on a page, where a profile says
abbrev pub initial_on : ℕ → Option InitialParts → Option (List ℕ)
initial_on page None = None
initial_on page (Some (Same bytes)) = Some bytes
initial_on page (Some (Each items)) = slice_get items page

-- a bit of a status register, counted from 0 at the lowest, and the name that a profile gives it
pub record NamedBit : Type 0 where
  pub bit : ℕ
  pub name : List ℕ

-- A command of a device; the bytes that it has at first where the profile says; the unit of its numbers,
-- where it has one; the bits of its status register that the profile names, from the lowest up; and
-- whether the profile says that it has a value for each phase.
pub record CommandParts : Type 0 where
  pub entry : EntryParts
  pub initial : Option InitialParts
  pub unit : Option (List ℕ)
  pub bits : List NamedBit
  pub phased : Bool

-- The tables of VID that a device's output voltages are in: one for each page, from page 0 on; or one for
-- each type from 0 to 31 that bits 4:0 of VOUT_MODE name, where it has one.
pub data VidParts : Type 0 where
  OfPages : List VidTable → VidParts
  OfTypes : List (Option VidTable) → VidParts

-- a device of a bus; `name` where the profile gives one, `modes` is VOUT_MODE of each page at first,
-- from page 0 on, `vid` are the tables of VID, and `phases` is how many phases it has, where the profile
-- tells them; `protect` says whether it keeps to WRITE_PROTECT, and `also` are the other addresses at which
-- it takes what is written, ascending
pub record DeviceParts : Type 0 where
  pub address : ℕ
  pub name : Option (List ℕ)
  pub pec : PecMode
  pub pages : ℕ
  pub modes : List ℕ
  pub vout_direct : Option Coefficients
  pub vid : Option VidParts
  pub phases : Option ℕ
  pub protect : Bool
  pub also : List ℕ
  pub commands : List CommandParts

-- the command with a code
abbrev pub command_with : ℕ → List CommandParts → Option CommandParts
command_with code commands = find (λ c. nat_eq c.entry.code code) commands

-- the bits of a command that the profile names, where there is one
abbrev pub named_bits : Option CommandParts → List NamedBit
named_bits None = []
named_bits (Some c) = c.bits

-- the name of a bit among those that have one
abbrev pub name_of_bit : ℕ → List NamedBit → Option (List ℕ)
name_of_bit bit bits = option_map (λ b. b.name) (find (λ b. nat_eq b.bit bit) bits)

-- there is a command, and the profile says that it has a value for each phase
abbrev pub is_phased : Option CommandParts → Bool
is_phased None = false
is_phased (Some c) = c.phased

-- there is a command, and it has one value for all pages
abbrev pub is_unpaged : Option CommandParts → Bool
is_unpaged None = false
is_unpaged (Some c) = not c.entry.paged

-- VOUT_MODE is among the commands, and has one value for all pages
abbrev pub has_one_mode : List CommandParts → Bool
has_one_mode commands = is_unpaged (command_with 0x20 commands)

-- all numbers are the same
abbrev pub all_same : List ℕ → Bool
all_same [] = true
all_same (n ∷ ns) = list_all (nat_eq n) ns

-- the device with an address
abbrev pub device_with : ℕ → List DeviceParts → Option DeviceParts
device_with address devices = find (λ d. nat_eq d.address address) devices

-- no two commands have one code
abbrev pub HaveOwnCodes : List CommandParts → Type 0
HaveOwnCodes commands = IsDistinct nat_eq (map (λ c. c.entry.code) commands)

-- no two devices have one address
abbrev pub HaveOwnAddresses : List DeviceParts → Type 0
HaveOwnAddresses devices = IsDistinct nat_eq (map (λ d. d.address) devices)

-- a number that is none of some others
abbrev pub IsNew : ℕ → List ℕ → Type 0
IsNew n others = list_any (nat_eq n) others ≡ false
