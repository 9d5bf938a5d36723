-- How many reads of a status register found a bit set, whatever page and phase are selected.
use Rattle.std.specs.Prelude.{◌≡◌, ℕ, ◌+◌, ◌*◌, ◌==◌, ◌&&◌, Bool, true, false, List, [], ◌∷◌, count_by}
use Rattle.std.specs.List.{sum_by}
use Rattle.pmb_command.specs.Parts.{DeviceParts, device_with}
use Rattle.pmb_facts.specs.Fact.{FactData, WhatData, Write, Read, Call, Refused, Alert, NoAlert, Other, Refusal}
use Rattle.pmb_facts.specs.Fact.{BadToken}
use Rattle.pmb_json_objects.specs.Seen.{command_of}
use Rattle.pmb_keeper.specs.Setting.{Setting}
use Rattle.pmb_note.specs.Note.{is_set}
use Rattle.pmb_observed.specs.Observed.{Observation, reads_at}
use Rattle.pmb_observed.specs.Observing.{observations}
use Rattle.pmb_observed.specs.Spot.{is_of, is_register}
use Rattle.pmb_observed.specs.Told.{command_spots}
use Rattle.pmb_observed.specs.declared.spot.Spot.{Spot}
use Rattle.pmb_stats_bits.specs.Bits.{set_count}

-- ---- by facts alone

-- whether a bit is set in a register of one byte, or of two, the low one first; not in another number of bytes
abbrev pub has_bit : ℕ → List ℕ → Bool
has_bit bit [] = false
has_bit bit (byte ∷ []) = is_set byte bit
has_bit bit (low ∷ high ∷ []) = is_set (low + 256 * high) bit
has_bit bit (a ∷ b ∷ c ∷ bytes) = false

-- whether a fact is a read of the command with a code, of the device with an address, that finds a bit set
abbrev pub finds_set : ℕ → ℕ → ℕ → WhatData → Bool
finds_set addr code bit (Write part parts p) = false
finds_set addr code bit (Read t) = (t.addr == addr) && ((t.code == code) && has_bit bit t.reply)
finds_set addr code bit (Call t) = false
finds_set addr code bit (Refused parts at sent at_read) = false
finds_set addr code bit (Alert t) = false
finds_set addr code bit NoAlert = false
finds_set addr code bit (Other at) = false
finds_set addr code bit (Refusal front event reason expected) = false
finds_set addr code bit (BadToken word) = false

abbrev pub bit_count : ℕ → ℕ → ℕ → List FactData → ℕ
bit_count addr code bit facts = count_by (λ fact. finds_set addr code bit fact.what) facts

-- ---- by pages and phases

-- whether the command with a code, of the device with an address, is a status register
abbrev pub IsRegister : List DeviceParts → ℕ → ℕ → Type 0
IsRegister profile addr code = is_of is_register (command_of (device_with addr profile) code) ≡ true

-- of what was told of some spots, the counts of a bit at each of them, added up
abbrev pub count_at : ℕ → List Observation → List Spot → ℕ
count_at bit told spots = sum_by (λ spot. set_count (reads_at spot told) bit) spots

-- .. of what facts tell of all spots of the command: on all pages of its device, in all its phases
abbrev pub count_on_pages : Setting → ℕ → ℕ → ℕ → List FactData → ℕ
count_on_pages setting addr code bit facts =
    count_at bit (observations setting facts) (command_spots setting.profile addr code)
