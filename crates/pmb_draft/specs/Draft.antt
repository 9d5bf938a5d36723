-- What `scan` writes of a capture: a first profile.
use Rattle.std.specs.Prelude.{◌≡◌, ◌≤◌, ◌<◌, ◌↔◌, ℕ, Bool, true, false, Option, None, Some, IsSome, Ok, List, [], ◌++◌, length}
use Rattle.std.specs.Prelude.{slice_index_or}
use Rattle.std.specs.List.{AllByRecursion}
use Rattle.pmb_bus.specs.Count.{capped}
use Rattle.pmb_bus.specs.Text.{BeginsText, FirstBadWord, Spells}
use Rattle.pmb_bus.specs.declared.event.Event.{Event}
use Rattle.pmb_command.specs.Parts.{DeviceParts, command_with, device_with}
use Rattle.pmb_io.specs.Runs.{Job}
use Rattle.pmb_io.specs.declared.tally.Tally.{Tally}
use Rattle.pmb_preamble.specs.Front.{most_profile}
use Rattle.pmb_table.specs.Profile.{ProfileParts, SaysBus}
use Rattle.pmb_draft.specs.Events.{Acks, HasCode}
use Rattle.pmb_draft.specs.Left.{left_out}
use Rattle.pmb_draft.specs.Seen.{AreListed}

-- A bus has a device at an address, and it has each command whose code was acknowledged there.
pub record Names (events : List Event) (devices : List DeviceParts) (address : ℕ) : Type 0 where
  pub device : DeviceParts
  pub found : device_with address devices ≡ Some device
  pub commands : (code : ℕ) → HasCode events address code → IsSome (command_with code device.commands)

-- A text is a first profile of the events of a capture.
pub record IsDraft (events : List Event) (bad : Option ℕ) (text : List ℕ) : Type 0 where
  -- it is accepted as a profile, and short enough for one
  pub bus : ProfileParts
  pub accepted : SaysBus text (Ok bus)
  pub short : length text ≤ most_profile
  -- the first 64 addresses that acknowledged and that a profile may have are devices of it, with each code
  pub listed : List ℕ
  pub are_listed : AreListed events listed
  pub named : AllByRecursion (Names events bus.devices) listed
  -- all other addresses that acknowledged stand in comments, and so does the end of what was read
  pub acked : List Bool
  pub each : (address : ℕ) → address < 128 → (slice_index_or acked address false ≡ true) ↔ Acks events address
  pub head : List ℕ
  pub tables : List ℕ
  pub whole : text ≡ head ++ left_out acked listed bad ++ tables

-- The events of a whole capture; up to its first word that is no token, where it has one.
abbrev pub Reads : List ℕ → List Event → Option ℕ → Type 0
Reads bytes events None = Spells bytes events
Reads bytes events (Some at) = (place : ℕ) × FirstBadWord bytes events place × (at ≡ capped place)

-- how many words make the status 1
abbrev pub bad_count : Option ℕ → ℕ
bad_count None = 0
bad_count (Some at) = 1

-- What is written for the bytes of a capture, and counted: a word that is no token.
pub record WritesDraft (tally : Tally) (bytes text : List ℕ) : Type 0 where
  pub events : List Event
  pub bad : Option ℕ
  pub reads : Reads bytes events bad
  pub draft : IsDraft events bad text
  pub counts : tally.refusals ≡ bad_count bad

-- A word is no token, and so no more is wanted, whatever follows.
pub record StopsDraft (tally : Tally) (bytes text : List ℕ) : Type 0 where
  pub events : List Event
  pub at : ℕ
  pub reads : (more : List ℕ) → Reads (bytes ++ more) events (Some at)
  pub draft : IsDraft events (Some at) text
  pub counts : tally.refusals ≡ 1

-- Nothing is written before the end.
abbrev pub drafting : Job Tally
drafting = record {
  Whole = WritesDraft;
  Stops = StopsDraft;
  Front = λ bytes text. text ≡ [];
  IsOpen = BeginsText;
}
