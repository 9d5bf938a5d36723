-- A fault that a capture tells of.
use Rattle.std.specs.Prelude.{◌≡◌, ℕ, ◌<◌, true, Option, List}
use Rattle.pmb_command.specs.Parts.{DeviceParts, device_with, named_bits}
use Rattle.pmb_command_data.specs.Bits.{bit_text_in}
use Rattle.pmb_facts.specs.Fact.{FactData}
use Rattle.pmb_json_objects.specs.Seen.{command_of}
use Rattle.pmb_stats.specs.BitCounts.{IsRegister, bit_count}
use Rattle.pmb_stats_counts.specs.Faults.{is_fault}

-- the name that is shown of a bit of a device's command: the profile's, or else the standard's
abbrev pub shown_name : List DeviceParts → ℕ → ℕ → ℕ → Option (List ℕ)
shown_name profile addr code bit = bit_text_in (named_bits (command_of (device_with addr profile) code)) code bit

-- A bit of a status register of the profile that tells of a fault by the name that is shown, or has no name, and that
-- some read of the register found set.
pub record FaultIsFound (profile : List DeviceParts) (facts : List FactData) : Type 0 where
  pub addr : ℕ
  pub code : ℕ
  pub bit : ℕ
  pub register : IsRegister profile addr code
  pub within : bit < 16
  pub fault : is_fault (shown_name profile addr code bit) ≡ true
  pub found : 0 < bit_count addr code bit facts
