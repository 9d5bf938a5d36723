-- What a `Seen` keeps of the events that it was given, and what an ACK adds.
use Rattle.std.specs.Prelude.{◌≡◌, ◌↔◌, ℕ, ◌<◌, ◌≤◌, ◌/◌, ◌%◌, Bool, true, false, List, length, slice_index_or, slice_set}
use Rattle.pmb_bus.specs.declared.event.Event.{Event}
use Rattle.pmb_draft.specs.Events.{Acks, HasCode}
use Rattle.pmb_draft.specs.Seen.{AreListed, listed_with}
use Rattle.pmb_draft.specs.declared.leg_start.LegStart.{LegStart}
use Rattle.pmb_draft.specs.declared.leg_start.LegStart.TheVariants as starts
use Rattle.pmb_draft.specs.declared.seen.Seen.{Seen}
use Rattle.pmb_draft.specs.machine.CodeSet.{IsIn}
use Rattle.pmb_draft.specs.machine.LegStart.{EndsWithStart}

-- a flag for each address of seven bits whether it acknowledged
pub record AreAcked (events : List Event) (acked : List Bool) : Type 0 where
  pub each : (address : ℕ) → address < 128 → (slice_index_or acked address false ≡ true) ↔ Acks events address
  pub within : (address : ℕ) → Acks events address → address < 128
  pub count : length acked ≡ 128

pub record HasSeen (seen : Seen) (events : List Event) : Type 0 where
  pub start : EndsWithStart seen.start events
  pub listed : AreListed events seen.listed.items
  pub few : length seen.listed.items ≤ 64
  pub acked : AreAcked events seen.acked
  pub codes : (address code : ℕ) → HasCode events address code → IsIn seen.codes address code

-- nothing is added
pub record AddsNothing (old new : Seen) : Type 0 where
  pub acked : new.acked ≡ old.acked
  pub listed : new.listed.items ≡ old.listed.items
  pub codes : new.codes ≡ old.codes

-- an address
pub record AddsAddress (byte : ℕ) (old new : Seen) : Type 0 where
  pub small : byte / 2 < 128
  pub acked : new.acked ≡ slice_set old.acked (byte / 2) true
  pub listed : new.listed.items ≡ listed_with (byte / 2) old.listed.items
  pub few : length old.listed.items ≤ 64 → length new.listed.items ≤ 64
  pub codes : new.codes ≡ old.codes

-- a code, where the leg is written
pub record AddsCode (byte code : ℕ) (old new : Seen) : Type 0 where
  pub acked : new.acked ≡ old.acked
  pub listed : new.listed.items ≡ old.listed.items
  pub there : byte % 2 ≡ 0 → IsIn new.codes (byte / 2) code
  pub kept : (a c : ℕ) → IsIn old.codes a c → IsIn new.codes a c

-- what an ACK adds, by where the events stand
abbrev pub Met : LegStart → Seen → Seen → Type 0
Met starts.Elsewhere old new = AddsNothing old new
Met starts.Start old new = AddsNothing old new
Met (starts.Address byte) old new = AddsAddress byte old new
Met (starts.Acked byte) old new = AddsNothing old new
Met (starts.Code byte code) old new = AddsCode byte code old new
