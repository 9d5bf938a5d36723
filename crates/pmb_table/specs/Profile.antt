-- What the table of a TOML document says as a profile, or its first fault with its place.
use Rattle.std.specs.Prelude.{◌≡◌, ◌⊎◌, ℕ, Bool, false, not, ◌||◌, if◌then◌else◌, Option, Some, None, IsUtf8, Result}
use Rattle.std.specs.Prelude.{Ok, Err, List, [], ◌∷◌, ◌++◌, map, codes, length, nat_eq, nat_le, unwrap_or}
use Rattle.std.specs.List.{AllByRecursion, filter_map, range_with_len}
use Rattle.std.specs.Result.{is_ok}
use Rattle.toml.specs.Data.{Data, Items, no_items, item, Members, as_array, as_table}
use Rattle.toml.specs.Parse.{parse_document}
use Rattle.pmb_keys.specs.declared.fault.FaultKind.{FaultKind}
use Rattle.pmb_keys.specs.declared.fault.FaultKind.TheVariants as faults
use Rattle.pmb_table.specs.declared.fault.ProfileFault.{ProfileFault}
use Rattle.pmb_command.specs.Commands.{standard_entry}
use Rattle.pmb_command.specs.Standard.{standard_command}
use Rattle.pmb_keys.specs.CommandRules.{command_of}
use Rattle.pmb_command.specs.Parts.{CommandParts, DeviceParts, IsNew, all_same, command_with, has_one_mode}
use Rattle.pmb_command.specs.Protection.{begins_protected, can_protect}
use Rattle.pmb_keys.specs.DeviceKeys.{DeviceKeys, device_keys}
use Rattle.pmb_keys.specs.Addresses.{ignore_rule, named_addresses}
use Rattle.pmb_keys.specs.Rules.{bind, unless, only, typed, required, optional, item_count}

-- What a profile says: its devices, and the addresses that it ignores, ascending, where it has a key
-- for them.
pub record ProfileParts : Type 0 where
  pub devices : List DeviceParts
  pub ignored : Option (List ℕ)

-- a fault outside of all devices, one in a device, and one in a command of a device
abbrev pub at_top : FaultKind → ProfileFault
at_top what = record { what = what; device = None; command = None }

abbrev pub at_device : ℕ → FaultKind → ProfileFault
at_device n what = record { what = what; device = Some n; command = None }

abbrev pub at_command : ℕ → ℕ → FaultKind → ProfileFault
at_command n k what = record { what = what; device = Some n; command = Some k }

-- the place of a result's fault
abbrev pub placed : {X : Type 0} → (FaultKind → ProfileFault) → Result X FaultKind → Result X ProfileFault
placed place (Ok x) = Ok x
placed place (Err what) = Err (place what)

-- the standard commands, in the order of their codes
unfoldable pub standard_commands : List CommandParts
standard_commands = map standard_command (filter_map standard_entry (range_with_len 0 256))

-- A command in the place of the one that has its code; at the end where none has.
abbrev pub put : CommandParts → List CommandParts → List CommandParts
put c [] = c ∷ []
put c (x ∷ xs) = if nat_eq c.entry.code x.entry.code then c ∷ xs else x ∷ put c xs

-- The commands of device n, which has so many pages, after further tables, where earlier ones have
-- these codes.
abbrev pub commands_after : ℕ → ℕ → List ℕ → List CommandParts → Items → Result (List CommandParts) ProfileFault
commands_after n pages taken commands no_items = Ok commands
commands_after n pages taken commands (item d ds) =
    bind (placed (at_command n (length taken)) (command_of pages taken d))
    (λ c. commands_after n pages (taken ++ c.entry.code ∷ []) (put c commands) ds)

-- VOUT_MODE is the same on each page at first, where it has one value for all pages
abbrev pub modes_fit : List CommandParts → List ℕ → Bool
modes_fit commands modes = not (has_one_mode commands) || all_same modes

-- a device that keeps to WRITE_PROTECT has it as a byte
abbrev pub protection_fits : Bool → List CommandParts → Bool
protection_fits protect commands = not protect || can_protect (command_with 0x10 commands)

-- which begins with one of its four values
abbrev pub first_protection_fits : Bool → List CommandParts → Bool
first_protection_fits protect commands = not protect || begins_protected (command_with 0x10 commands)

-- what the keys of a device and its commands say goes together, or the first fault
abbrev pub together : DeviceKeys → List CommandParts → Result Unit FaultKind
together keys commands =
    bind (unless faults.BadValue (modes_fit commands keys.modes)) (λ _.
    bind (unless faults.BadValue (protection_fits keys.protect commands)) (λ _.
    unless faults.BadInitial (first_protection_fits keys.protect commands)))

-- the device of what its keys say, with these commands
abbrev pub device_parts : DeviceKeys → List CommandParts → DeviceParts
device_parts keys commands = record {
  address = keys.address;
  name = keys.name;
  pec = keys.pec;
  pages = keys.pages;
  modes = keys.modes;
  vout_direct = keys.vout_direct;
  vid = keys.vid;
  phases = keys.phases;
  protect = keys.protect;
  also = keys.also;
  commands = commands;
}

-- the keys of a device that comes after other devices, where these addresses are ignored, and the tables of
-- the profile's devices name those in `named`
abbrev pub keys_of : List ℕ → List ℕ → List DeviceParts → Data → Result DeviceKeys FaultKind
keys_of ignored named before d = bind (typed as_table d) (device_keys (map (λ x. x.address) before) ignored named)

-- the commands of device n by its keys
abbrev pub device_commands : ℕ → DeviceKeys → Result (List CommandParts) ProfileFault
device_commands n keys =
    commands_after n keys.pages [] (if keys.standard then standard_commands else []) keys.commands

-- the device of a value
abbrev pub device_of : List ℕ → List ℕ → List DeviceParts → Data → Result DeviceParts ProfileFault
device_of ignored named before d =
    let n = length before in
    bind (placed (at_device n) (keys_of ignored named before d)) (λ keys.
    bind (device_commands n keys) (λ commands.
    bind (placed (at_device n) (together keys commands)) (λ _.
    Ok (device_parts keys commands))))

-- The devices after further values, where these came before.
abbrev pub devices_after : List ℕ → List ℕ → List DeviceParts → Items → Result (List DeviceParts) ProfileFault
devices_after ignored named before no_items = Ok before
devices_after ignored named before (item d ds) =
    bind (device_of ignored named before d) (λ device. devices_after ignored named (before ++ device ∷ []) ds)

-- the devices of an array
abbrev pub devices_of : List ℕ → Items → Result (List DeviceParts) ProfileFault
devices_of ignored ds = devices_after ignored (named_addresses ds) [] ds

-- Whether memory is taken for further values, where these came before: not where there are none, nor
-- where the keys of the first one have a fault.
abbrev pub needs_memory : List ℕ → List ℕ → List DeviceParts → Items → Bool
needs_memory ignored named before no_items = false
needs_memory ignored named before (item d ds) = is_ok (keys_of ignored named before d)

-- and whether it is for those of an array
abbrev pub array_needs_memory : List ℕ → Items → Bool
array_needs_memory ignored ds = needs_memory ignored (named_addresses ds) [] ds

-- the array of the devices
abbrev pub device_array_rule : Data → Result Items FaultKind
device_array_rule d = bind (typed as_array d)
    (λ ds. bind (unless faults.TooManyDevices (nat_le (item_count ds) 64)) (λ _. Ok ds))

-- what the keys at the top say: the values of the array of the devices, and the addresses that are
-- ignored, where there is a key for them
pub record TopKeys : Type 0 where
  pub devices : Items
  pub ignored : Option (List ℕ)

abbrev pub top_keys : Members → Result TopKeys FaultKind
top_keys ms =
    bind (only (codes "device" ∷ codes "ignore" ∷ []) ms) (λ _.
    bind (required device_array_rule (codes "device") ms) (λ devices.
    bind (optional ignore_rule (codes "ignore") ms) (λ ignored.
    Ok (record { devices = devices; ignored = ignored }))))

-- the addresses that are ignored: none without a key
abbrev pub ignored_addresses : Option (List ℕ) → List ℕ
ignored_addresses ignored = unwrap_or ignored []

-- no device has an address that is ignored
abbrev pub AreApart : List ℕ → List DeviceParts → Type 0
AreApart ignored devices = AllByRecursion (λ d. IsNew d.address ignored) devices

-- the profile of a table, or its first fault
abbrev pub profile_of : Members → Result ProfileParts ProfileFault
profile_of ms =
    bind (placed at_top (top_keys ms)) (λ top.
    bind (devices_of (ignored_addresses top.ignored) top.devices) (λ devices.
    Ok (record { devices = devices; ignored = top.ignored })))

-- whether memory is taken for the devices of a table: not where its top has a fault
abbrev pub top_needs_memory : Result TopKeys FaultKind → Bool
top_needs_memory (Ok top) = array_needs_memory (ignored_addresses top.ignored) top.devices
top_needs_memory (Err what) = false

-- its devices alone
abbrev pub bus_of : Members → Result (List DeviceParts) ProfileFault
bus_of ms = bind (profile_of ms) (λ profile. Ok profile.devices)

-- a text is a TOML document with this table
abbrev pub IsDocument : List ℕ → Members → Type 0
IsDocument text ms = IsUtf8 text × (parse_document text ≡ Some ms)

-- a text is no TOML document
abbrev pub HasNoDocument : List ℕ → Type 0
HasNoDocument text = (ms : Members) → IsDocument text ms → ⊥

-- What a text says as a profile: that of its table, or NotToml where it is no document.
abbrev pub SaysBus : List ℕ → Result ProfileParts ProfileFault → Type 0
SaysBus text answer =
    ((ms : Members) × IsDocument text ms × (answer ≡ profile_of ms))
    ⊎ (HasNoDocument text × (answer ≡ Err (at_top faults.NotToml)))

-- what it says of the devices
abbrev pub Says : List ℕ → Result (List DeviceParts) ProfileFault → Type 0
Says text answer =
    ((ms : Members) × IsDocument text ms × (answer ≡ bus_of ms))
    ⊎ (HasNoDocument text × (answer ≡ Err (at_top faults.NotToml)))
