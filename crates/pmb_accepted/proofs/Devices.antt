-- The devices that a profile says, one after the other, and the whole of it.
use Rattle.std.proofs.Common.{◌≡◌, ◌≤◌, ℕ, ◌+◌, Option, Some, None, Result, Ok, Err, List, []}
use Rattle.std.proofs.Common.{◌∷◌, ◌++◌, append-nil, arith, length, map, refl, sym, ◌∙◌, ⊎_elim}
use Rattle.std.specs.Prelude.{IfOk, IfSome, codes, nat_le}
use Rattle.std.specs.List.{AllByRecursion, IsDistinct}
use Rattle.std.proofs.lemmas.Bool.{leb-true}
use Rattle.std.proofs.lemmas.List.{length_push}
use Rattle.std.proofs.lemmas.Result.{IfOk-at_ok}
use Rattle.toml.specs.Data.{Data, Items, no_items, item, Members, as_array, as_table}
use Rattle.pmb_command.specs.Bus.{HasItemForEach, IsCommand, IsDevice}
use Rattle.pmb_command.specs.Parts.{CommandParts, DeviceParts, HaveOwnAddresses, IsNew, all_same, command_with}
use Rattle.pmb_command.specs.Parts.{has_one_mode}
use Rattle.pmb_command.specs.Protection.{begins_protected, can_protect}
use Rattle.pmb_keys.specs.declared.fault.FaultKind.{FaultKind}
use Rattle.pmb_keys.specs.declared.fault.FaultKind.TheVariants as faults
use Rattle.pmb_keys.specs.DeviceKeys.{DeviceKeys}
use Rattle.pmb_keys.specs.Addresses.{each_named, ignore_rule, named_address, named_addresses}
use Rattle.pmb_keys.specs.Rules.{item_count, only, optional, required, typed}
use Rattle.pmb_keys.specs.machine.Addresses.{AreAmong}
use Rattle.pmb_keys.proofs.Named.{AreNamed, if_read}
use Rattle.pmb_keys.proofs.Steps.{if_bind, if_required, if_steps, if_tested}
use Rattle.pmb_table.specs.Profile.{AreApart, ProfileParts, SaysBus, TopKeys, at_device, at_top, device_array_rule}
use Rattle.pmb_table.specs.Profile.{device_commands, device_of, device_parts, devices_after, devices_of}
use Rattle.pmb_table.specs.Profile.{ignored_addresses, keys_of}
use Rattle.pmb_table.specs.Profile.{placed, profile_of, together, top_keys}
use Rattle.pmb_table.proofs.Accepted.{All-map, All-push, go_together, holds_where}
use Rattle.pmb_table.proofs.Also.{are_of_devices, named-next}
use Rattle.pmb_table.proofs.DeviceSteps.{HaveOwnAddresses-push}
use Rattle.pmb_json.specs.Lines.{MakesFormats}
use Rattle.pmb_json_objects.specs.Laws.{IsOfWords}
use Rattle.pmb_accepted.specs.Accepted.{IsAccepted}
use Rattle.pmb_accepted.proofs.DeviceCommands.{AreSoundCommands, IsSoundCommand, if_device_commands}
use Rattle.pmb_accepted.proofs.DeviceKeys.{AreSoundKeys, if_device_keys}
use Rattle.pmb_accepted.proofs.Numbers.{IsWithin}
use Rattle.pmb_accepted.proofs.Steps.{if_placed, unplaced}

-- ---- one device

-- A device that a bus may have, whose coefficients and exponents have 16 and 5 bits.
pub record IsSoundDevice (d : DeviceParts) : Type 0 where
  pub device : IsDevice d
  pub formats : MakesFormats d

-- .. whose address is none of others, none that is ignored, and the one that the value's table names; and whose
-- other addresses are of those that tables name
pub record IsNext (taken ignored named : List ℕ) (value : Data) (d : DeviceParts) : Type 0 where
  pub sound : IsSoundDevice d
  pub own : IsNew d.address taken
  pub apart : IsNew d.address ignored
  pub is_named : named_address value ≡ Some d.address
  pub also : AreAmong named d.also

phases_of : (o : Option ℕ) → IfSome o (IsWithin 1 255) → IfSome o (λ n. (1 ≤ n) × (n ≤ 255))
phases_of None is = tt
phases_of (Some n) is = (is.least, is.most)

-- keys and commands that go together make a device
next_from : (taken ignored named : List ℕ) (value : Data) (keys : DeviceKeys) (commands : List CommandParts)
    → AreSoundKeys taken ignored keys → AreNamed named value keys → AreSoundCommands keys.pages commands
    → together keys commands ≡ Ok tt → IsNext taken ignored named value (device_parts keys commands)
next_from taken ignored named value keys commands are are_named have fit =
    let go = go_together keys commands fit in
    record {
      sound = record {
        device = record {
          address = are.free.address;
          some_page = are.pages.least;
          few_pages = are.pages.most;
          name = are.name;
          mode_of_each = are.modes.many;
          bytes = are.modes.each;
          one_mode = holds_where (has_one_mode commands) (all_same keys.modes) go.modes;
          tables = are.tables;
          phases = phases_of keys.phases are.phases;
          own_codes = have.own_codes;
          commands = All-map (IsSoundCommand keys.pages) IsCommand commands (λ c is. is.command) have.each;
          items = All-map (IsSoundCommand keys.pages) (λ c. HasItemForEach keys.pages c.initial) commands
              (λ c is. is.items) have.each;
          protection = holds_where keys.protect (can_protect (command_with 0x10 commands)) go.protection;
          first_protection = holds_where keys.protect (begins_protected (command_with 0x10 commands))
              go.first_protection;
        };
        formats = record {
          vout = are.vout;
          commands = All-map (IsSoundCommand keys.pages) (λ c. IsOfWords c.entry.kind) commands (λ c is. is.words)
              have.each;
        };
      };
      own = are.free.own;
      apart = are.free.apart;
      is_named = are_named.own;
      also = are_named.also;
    }

-- the keys of a value are sound, and name their addresses
abbrev AreKeys : List ℕ → List ℕ → List ℕ → Data → DeviceKeys → Type 0
AreKeys taken ignored named value keys = AreSoundKeys taken ignored keys × AreNamed named value keys

if_keys : (ignored named : List ℕ) (before : List DeviceParts) (d : Data)
    → IfOk (keys_of ignored named before d) (AreKeys (map (λ x. x.address) before) ignored named d)
if_keys ignored named before d =
    let taken = map (λ x. x.address) before in
    both (keys_of ignored named before d)
    (if_bind (typed as_table d) _ _ (λ ms is. if_device_keys taken ignored named ms))
    (if_read taken ignored named d)
  where
    both : (r : Result DeviceKeys FaultKind) → IfOk r (AreSoundKeys (map (λ x. x.address) before) ignored)
        → IfOk r (AreNamed named d) → IfOk r (AreKeys (map (λ x. x.address) before) ignored named d)
    both (Ok keys) are are_named = (are, are_named)
    both (Err what) are are_named = tt

if_device : (ignored named : List ℕ) (before : List DeviceParts) (d : Data)
    → IfOk (device_of ignored named before d) (IsNext (map (λ x. x.address) before) ignored named d)
if_device ignored named before d =
    let n = length before in
    let taken = map (λ x. x.address) before in
    if_steps (placed (at_device n) (keys_of ignored named before d)) _ (AreKeys taken ignored named d) _
    (if_placed (at_device n) (keys_of ignored named before d) (AreKeys taken ignored named d)
    (if_keys ignored named before d))
    (λ keys are. if_steps (device_commands n keys) _ (AreSoundCommands keys.pages) _ (if_device_commands n keys)
    (λ commands have. if_bind (placed (at_device n) (together keys commands)) _ _
    (λ u fit. next_from taken ignored named d keys commands are.0 are.1 have
    (unplaced (at_device n) (together keys commands) tt fit))))

-- ---- all devices

-- Devices with addresses of their own, none of which is ignored, and with others that tables name.
record AreSoundDevices (ignored named : List ℕ) (ds : List DeviceParts) : Type 0 where
  each : AllByRecursion IsSoundDevice ds
  own_addresses : HaveOwnAddresses ds
  apart : AreApart ignored ds
  also : AllByRecursion (λ d. AreAmong named d.also) ds

none_yet : (ignored named : List ℕ) → AreSoundDevices ignored named []
unfolding IsDistinct
none_yet ignored named = record { each = tt; own_addresses = tt; apart = tt; also = tt }

one_more : (ignored named : List ℕ) (before : List DeviceParts) (value : Data) (d : DeviceParts)
    → AreSoundDevices ignored named before → IsNext (map (λ x. x.address) before) ignored named value d
    → AreSoundDevices ignored named (before ++ d ∷ [])
one_more ignored named before value d are next = record {
  each = All-push IsSoundDevice before d are.each next.sound;
  own_addresses = HaveOwnAddresses-push before d are.own_addresses next.own;
  apart = All-push (λ x. IsNew x.address ignored) before d are.apart next.apart;
  also = All-push (λ x. AreAmong named x.also) before d are.also next.also;
}

-- the addresses of devices, and those that further values name
abbrev addresses_with : List DeviceParts → Items → List ℕ
addresses_with before ds = map (λ x. x.address) before ++ each_named ds

-- .. so many of them, which have these addresses
record AreDevices (ignored named : List ℕ) (count : ℕ) (numbers : List ℕ) (ds : List DeviceParts) : Type 0 where
  sound : AreSoundDevices ignored named ds
  many : length ds ≡ count
  have : map (λ x. x.address) ds ≡ numbers

if_devices : (ignored named : List ℕ) (before : List DeviceParts) (ds : Items) (count : ℕ) (numbers : List ℕ)
    → AreSoundDevices ignored named before → length before + item_count ds ≡ count
    → addresses_with before ds ≡ numbers
    → IfOk (devices_after ignored named before ds) (AreDevices ignored named count numbers)
if_devices ignored named before no_items count numbers are many have = record {
  sound = are;
  many = omega arith;
  have = sym (append-nil (map (λ x. x.address) before)) ∙ have;
}
if_devices ignored named before (item d ds) count numbers are many have =
    if_steps (device_of ignored named before d) _ (IsNext (map (λ x. x.address) before) ignored named d) _
    (if_device ignored named before d)
    (λ device next. if_devices ignored named (before ++ device ∷ []) ds count numbers
    (one_more ignored named before d device are next) (omega (arith, length_push before device))
    (named-next before d ds device next.is_named ∙ have))

-- ---- the profile

if_array : (d : Data) → IfOk (device_array_rule d) (λ ds. item_count ds ≤ 64)
if_array d =
    if_bind (typed as_array d) _ _ (λ ds is. if_tested faults.TooManyDevices (nat_le (item_count ds) 64) _ _
    (λ few. leb-true (item_count ds) 64 few))

if_top : (ms : Members) → IfOk (top_keys ms) (λ top. item_count top.devices ≤ 64)
if_top ms =
    if_bind (only (codes "device" ∷ codes "ignore" ∷ []) ms) _ _
    (λ u known. if_steps (required device_array_rule (codes "device") ms) _ (λ ds. item_count ds ≤ 64) _
    (if_required device_array_rule (codes "device") ms (λ ds. item_count ds ≤ 64) if_array)
    (λ devices few. if_bind (optional ignore_rule (codes "ignore") ms) _ _ (λ ignored is. few)))

-- the devices of a top
abbrev AreOfTop : TopKeys → List DeviceParts → Type 0
AreOfTop top = AreDevices (ignored_addresses top.ignored) (named_addresses top.devices) (item_count top.devices)
    (each_named top.devices)

accepted_from : (top : TopKeys) (devices : List DeviceParts) → item_count top.devices ≤ 64 → AreOfTop top devices
    → IsAccepted (record { devices = devices; ignored = top.ignored })
accepted_from top devices few are = record {
  devices = record {
    few = omega (arith, are.many);
    own_addresses = are.sound.own_addresses;
    devices = All-map IsSoundDevice IsDevice devices (λ d is. is.device) are.sound.each;
    also = are_of_devices devices (each_named top.devices) (named_addresses top.devices) are.have refl are.sound.also;
  };
  formats = All-map IsSoundDevice MakesFormats devices (λ d is. is.formats) are.sound.each;
  apart = are.sound.apart;
}

if_profile : (ms : Members) → IfOk (profile_of ms) IsAccepted
if_profile ms =
    if_steps (placed at_top (top_keys ms)) _ (λ top. item_count top.devices ≤ 64) _
    (if_placed at_top (top_keys ms) (λ top. item_count top.devices ≤ 64) (if_top ms))
    (λ top few. if_steps (devices_of (ignored_addresses top.ignored) top.devices) _ (AreOfTop top) _
    (if_devices (ignored_addresses top.ignored) (named_addresses top.devices) [] top.devices
    (item_count top.devices) (each_named top.devices)
    (none_yet (ignored_addresses top.ignored) (named_addresses top.devices)) (omega arith) refl)
    (λ devices are. accepted_from top devices few are))

-- what a table says
pub accepted_table : (ms : Members) (bus : ProfileParts) → profile_of ms ≡ Ok bus → IsAccepted bus
accepted_table ms bus is = IfOk-at_ok IsAccepted is (if_profile ms)

-- what a text says
pub accepted_text : (text : List ℕ) (bus : ProfileParts) → SaysBus text (Ok bus) → IsAccepted bus
accepted_text text bus = ⊎_elim (λ said. accepted_table said.0 bus (sym said.2)) (λ said. cc said.1)
