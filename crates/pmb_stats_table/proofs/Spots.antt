-- What there is to tell of a spot, by what the profile has there: for `put_spot_bits` and `put_spot_numbers`.
use Rattle.std.proofs.Common.{◌≡◌, Bool, true, false, Option, Some, None, List, [], refl, sym, ap, ◌∙◌}
use Rattle.std.specs.Prelude.{if◌then◌else◌}
use Rattle.pmb_command.specs.declared.entry.Kind.{Kind}
use Rattle.pmb_command.specs.Parts.{CommandParts, DeviceParts, device_with}
use Rattle.pmb_json_objects.specs.Seen.{command_of}
use Rattle.pmb_mean.specs.Numbers.{kept}
use Rattle.pmb_observed.specs.declared.spot.Spot.{Spot}
use Rattle.pmb_observed.specs.Observed.{Observation, numbers_at, reads_at}
use Rattle.pmb_observed.specs.Spot.{command_if, command_in, command_on, has_numbers, has_place, has_register}
use Rattle.pmb_observed.specs.Spot.{is_numeric, is_of, is_register}
use Rattle.pmb_observed.specs.Told.{bits_told, command_numbers, numbers_told, register_bits, spot_bits_at}
use Rattle.pmb_observed.specs.Told.{spot_numbers_at}

-- ---- nothing is told of a spot that has no register, or no numbers

no_bits_of : (told : List Observation) (spot : Spot) (command : Option CommandParts) → is_of is_register command ≡ false
    → register_bits told spot command ≡ []
no_bits_of told spot None none = refl
no_bits_of told spot (Some command) none = rw none refl

pub no_bits : (profile : List DeviceParts) (told : List Observation) (spot : Spot) → has_register profile spot ≡ false
    → spot_bits_at profile told spot ≡ []
no_bits profile told spot none = no_bits_of told spot (command_on profile spot) none

no_numbers_of : (told : List Observation) (spot : Spot) (command : Option CommandParts)
    → is_of is_numeric command ≡ false → command_numbers told spot command ≡ []
no_numbers_of told spot None none = refl
no_numbers_of told spot (Some command) none = rw none refl

pub no_numbers : (profile : List DeviceParts) (told : List Observation) (spot : Spot)
    → has_numbers profile spot ≡ false → spot_numbers_at profile told spot ≡ []
no_numbers profile told spot none = no_numbers_of told spot (command_on profile spot) none

-- ---- the command at a spot that has some is that of the device

if_place : (is : Kind → Bool) (has : Bool) (command : CommandParts)
    → is_of is (if has then Some command else None) ≡ true → (if has then Some command else None) ≡ Some command
if_place is true command some = refl
if_place is false command some = absurd (cc some)

of_some : (is : Kind → Bool) (device : DeviceParts) (spot : Spot) (command : Option CommandParts)
    → is_of is (command_if device spot command) ≡ true → command_if device spot command ≡ command
of_some is device spot None some = refl
of_some is device spot (Some command) some = if_place is (has_place device command spot) command some

of_device : (is : Kind → Bool) (device : Option DeviceParts) (spot : Spot) → is_of is (command_in device spot) ≡ true
    → command_in device spot ≡ command_of device spot.code
of_device is None spot some = refl
of_device is (Some device) spot some = of_some is device spot (command_of (Some device) spot.code) some

some_command : (is : Kind → Bool) (profile : List DeviceParts) (spot : Spot) → is_of is (command_on profile spot) ≡ true
    → None ≡ command_of (device_with spot.addr profile) spot.code → ⊥
some_command is profile spot some absent =
    cc (ap (is_of is) (absent ∙ sym (of_device is (device_with spot.addr profile) spot some)) ∙ some)

-- so there is one
pub register_is_there : (profile : List DeviceParts) (told : List Observation) (spot : Spot)
    → has_register profile spot ≡ true → None ≡ command_of (device_with spot.addr profile) spot.code
    → [] ≡ spot_bits_at profile told spot
register_is_there profile told spot some absent = absurd (some_command is_register profile spot some absent)

pub command_is_there : (profile : List DeviceParts) (told : List Observation) (spot : Spot)
    → has_numbers profile spot ≡ true → None ≡ command_of (device_with spot.addr profile) spot.code
    → [] ≡ spot_numbers_at profile told spot
command_is_there profile told spot some absent = absurd (some_command is_numeric profile spot some absent)

-- ---- what is told of it

bits_of : (told : List Observation) (spot : Spot) (command : CommandParts) → is_register command.entry.kind ≡ true
    → bits_told spot.page spot.phase command (reads_at spot told) 16 ≡ register_bits told spot (Some command)
bits_of told spot command some = rw some refl

pub register_told : (profile : List DeviceParts) (told : List Observation) (spot : Spot) (command : CommandParts)
    → has_register profile spot ≡ true → Some command ≡ command_of (device_with spot.addr profile) spot.code
    → bits_told spot.page spot.phase command (reads_at spot told) 16 ≡ spot_bits_at profile told spot
register_told profile told spot command some is =
    let same : Some command ≡ command_on profile spot =
    is ∙ sym (of_device is_register (device_with spot.addr profile) spot some) in
    bits_of told spot command (ap (is_of is_register) same ∙ some) ∙ ap (register_bits told spot) same

numbers_of : (told : List Observation) (spot : Spot) (command : CommandParts) → is_numeric command.entry.kind ≡ true
    → numbers_told spot.page spot.phase command (kept (numbers_at spot told)) ≡ command_numbers told spot (Some command)
numbers_of told spot command some = rw some refl

pub command_told : (profile : List DeviceParts) (told : List Observation) (spot : Spot) (command : CommandParts)
    → has_numbers profile spot ≡ true → Some command ≡ command_of (device_with spot.addr profile) spot.code
    → numbers_told spot.page spot.phase command (kept (numbers_at spot told)) ≡ spot_numbers_at profile told spot
command_told profile told spot command some is =
    let same : Some command ≡ command_on profile spot =
    is ∙ sym (of_device is_numeric (device_with spot.addr profile) spot some) in
    numbers_of told spot command (ap (is_of is_numeric) same ∙ some) ∙ ap (command_numbers told spot) same
