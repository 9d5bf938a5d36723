-- The counts of a bit in what the data of a fact tell: a read of its register is counted once where it found the bit
-- set, and nothing else is.
use Rattle.std.proofs.Common.{◌≡◌, ℕ, ◌+◌, ◌*◌, true, cond, Option, Some, None, List, [], ◌∷◌, ◌++◌}
use Rattle.std.proofs.Common.{ap, arith, refl, ◌∙◌}
use Rattle.std.specs.List.{count_by}
use Rattle.pmb_command.specs.Parts.{CommandParts, DeviceParts, device_with}
use Rattle.pmb_command.specs.declared.entry.Kind.{Kind}
use Rattle.pmb_command.specs.declared.entry.Kind.TheVariants.{Raw, Number, Vout, VoutSigned, Status, Text}
use Rattle.pmb_json_objects.specs.Seen.{SeenData, command_of}
use Rattle.pmb_observed.specs.Observed.{Observation}
use Rattle.pmb_observed.specs.Observing.{number_seen, of_command, of_device, read_at, read_of, register_of}
use Rattle.pmb_observed.specs.Observing.{register_read, register_seen, replied, spot_of, written}
use Rattle.pmb_observed.specs.Spot.{is_of, is_register, same_spot, spot_at}
use Rattle.pmb_observed.specs.Told.{command_spots}
use Rattle.pmb_observed.specs.declared.spot.PageKey.{PageKey}
use Rattle.pmb_observed.specs.declared.spot.PhaseKey.{PhaseKey}
use Rattle.pmb_observed.specs.declared.spot.Spot.{Spot}
use Rattle.pmb_stats.proofs.Spots.{IsApart, comes_never, comes_once_there, seen_there}
use Rattle.pmb_stats.proofs.Told.{count_append, count_never, count_nothing, count_number, count_once}
use Rattle.pmb_stats.specs.BitCounts.{IsRegister, count_at, has_bit}
use Rattle.pmb_stats_bits.specs.Bits.{RegisterRead}

-- a status register is read as one
as_register : (kind : Kind) (bytes : List ℕ) (time : Option (List ℕ)) → is_register kind ≡ true
    → register_read kind bytes time ≡ register_of bytes time
as_register Raw bytes time is = cc
as_register (Number format) bytes time is = cc
as_register Vout bytes time is = cc
as_register VoutSigned bytes time is = cc
as_register Status bytes time is = refl
as_register Text bytes time is = cc

-- what a command tells that was read
module _ (seen : SeenData) (addr code : ℕ) (bytes : List ℕ) (time : Option (List ℕ)) where
  abbrev read_told : DeviceParts → CommandParts → List Observation
  read_told device command =
      register_seen seen addr code device command bytes time ++ number_seen seen addr code device command bytes

-- .. and a number, which is no read
number_is_none : (bit : ℕ) (spots : List Spot) (seen : SeenData) (at other : ℕ) (device : DeviceParts)
    (command : CommandParts) (bytes : List ℕ)
    → count_at bit (number_seen seen at other device command bytes) spots ≡ 0
number_is_none bit spots seen at other device command bytes =
    count_number bit (spot_of seen at other device command) _ spots

-- ---- of the command whose bit is counted

module _ (bit : ℕ) (bytes : List ℕ) (time : Option (List ℕ)) where
  -- a read, if there is one, at a spot that comes once among some
  read_once : (spot : Spot) (spots : List Spot) (some : List ℕ) → count_by (same_spot spot) spots ≡ 1
      → count_at bit (read_at spot (register_of some time)) spots ≡ cond (has_bit bit some) 1 0
  read_once spot spots [] once = count_nothing bit spots
  read_once spot spots (byte ∷ []) once = count_once bit spot (read_of byte time) spots once
  read_once spot spots (low ∷ high ∷ []) once = count_once bit spot (read_of (low + 256 * high) time) spots once
  read_once spot spots (a ∷ b ∷ c ∷ more) once = count_nothing bit spots

  module _ (seen : SeenData) (addr code : ℕ) where
    command_here : (device : DeviceParts) (command : Option CommandParts)
        → device_with addr seen.profile ≡ Some device → command_of (Some device) code ≡ command
        → is_of is_register command ≡ true
        → count_at bit (of_command seen addr code device command (read_told seen addr code bytes time))
        (command_spots seen.profile addr code) ≡ cond (has_bit bit bytes) 1 0
    command_here device None known has is = cc
    command_here device (Some command) known has is =
        let spots = command_spots seen.profile addr code in
        let spot = spot_of seen addr code device command in
        let once : count_by (same_spot spot) spots ≡ 1
        = comes_once_there seen.profile addr code spot (seen_there seen addr code device command known has) refl refl in
        let register : count_at bit (register_seen seen addr code device command bytes time) spots
        ≡ cond (has_bit bit bytes) 1 0
        = ap (λ read. count_at bit (read_at spot read) spots) (as_register command.entry.kind bytes time is)
        ∙ read_once spot spots bytes once in
        let number = number_seen seen addr code device command bytes in
        omega (
          arith,
          count_append bit (register_seen seen addr code device command bytes time) number spots,
          register,
          number_is_none bit spots seen addr code device command bytes,
        )

    device_here : (device : Option DeviceParts) → device_with addr seen.profile ≡ device
        → is_of is_register (command_of device code) ≡ true
        → count_at bit (of_device seen addr code device (read_told seen addr code bytes time))
        (command_spots seen.profile addr code) ≡ cond (has_bit bit bytes) 1 0
    device_here None known is = cc
    device_here (Some device) known is = command_here device (command_of (Some device) code) known refl is

    pub replied_here : IsRegister seen.profile addr code
        → count_at bit (replied seen addr code bytes time) (command_spots seen.profile addr code)
        ≡ cond (has_bit bit bytes) 1 0
    replied_here is = device_here (device_with addr seen.profile) refl is

-- ---- of another command or device

-- the command `other` of the device `at` has no spot in common with the command
abbrev pub AreApart : ℕ → ℕ → ℕ → ℕ → Type 0
AreApart addr code at other =
    (page : PageKey) (phase : PhaseKey) → IsApart (spot_at at other page phase) addr code

module _ (bit : ℕ) (seen : SeenData) (at other : ℕ) (bytes : List ℕ) where
  module _ (addr code : ℕ) (time : Option (List ℕ)) (apart : AreApart addr code at other) where
    abbrev spots : List Spot
    spots = command_spots seen.profile addr code

    read_elsewhere : (spot : Spot) (read : Option RegisterRead) → IsApart spot addr code
        → count_at bit (read_at spot read) spots ≡ 0
    read_elsewhere spot None never = count_nothing bit spots
    read_elsewhere spot (Some read) never =
        count_never bit spot read spots (comes_never seen.profile addr code spot never)

    command_elsewhere : (device : DeviceParts) (command : Option CommandParts)
        → count_at bit (of_command seen at other device command (read_told seen at other bytes time)) spots ≡ 0
    command_elsewhere device None = count_nothing bit spots
    command_elsewhere device (Some command) =
        let number = number_seen seen at other device command bytes in
        let spot = spot_of seen at other device command in
        omega (
          arith,
          count_append bit (register_seen seen at other device command bytes time) number spots,
          read_elsewhere spot (register_read command.entry.kind bytes time) (apart spot.page spot.phase),
          number_is_none bit spots seen at other device command bytes,
        )

    device_elsewhere : (device : Option DeviceParts)
        → count_at bit (of_device seen at other device (read_told seen at other bytes time)) spots ≡ 0
    device_elsewhere None = count_nothing bit spots
    device_elsewhere (Some device) = command_elsewhere device (command_of (Some device) other)

    pub replied_elsewhere : count_at bit (replied seen at other bytes time) spots ≡ 0
    replied_elsewhere = device_elsewhere (device_with at seen.profile)

  -- ---- of what is written, which is no read

  module _ (spots : List Spot) where
    abbrev written_told : DeviceParts → CommandParts → List Observation
    written_told device command = number_seen seen at other device command bytes

    command_written : (device : DeviceParts) (command : Option CommandParts)
        → count_at bit (of_command seen at other device command written_told) spots ≡ 0
    command_written device None = count_nothing bit spots
    command_written device (Some command) = number_is_none bit spots seen at other device command bytes

    device_written : (device : Option DeviceParts)
        → count_at bit (of_device seen at other device written_told) spots ≡ 0
    device_written None = count_nothing bit spots
    device_written (Some device) = command_written device (command_of (Some device) other)

    pub written_is_none : count_at bit (written seen at other bytes) spots ≡ 0
    written_is_none = device_written (device_with at seen.profile)
