-- What is kept of writes to devices in the packet under way, and in what is passed over.
use Rattle.std.specs.Prelude.{◌≡◌, ⊤, Bool, true, false, List, [], ◌++◌, fold}
use Rattle.pmb_bus.specs.declared.event.Event.{Event}
use Rattle.pmb_bus.specs.declared.event.Event.TheVariants.{Start, Byte, Ack, Nack, Stop}
use Rattle.pmb_command.specs.Parts.{DeviceParts}
use Rattle.pmb_reader.specs.Reader.{Standing, Open, Held, Passing}
use Rattle.pmb_scan.specs.Reached.{Reached}
use Rattle.pmb_unknown_start.specs.Past.{PastData}
use Rattle.pmb_fact_stream.specs.Before.{past_of}
use Rattle.pmb_fact_stream.specs.Lost.{dropped_if, has_write, lost_in, to_stop}
use Rattle.pmb_fact_stream.specs.Spans.{past_in}
use Rattle.pmb_fact_stream.specs.declared.writes.Writes.{Writes}

-- whether the address byte of a leg comes next, with an event more
abbrev pub awaits_behind : Bool → Event → Bool
awaits_behind awaits Start = true
awaits_behind awaits (Byte b) = false
awaits_behind awaits Ack = awaits
awaits_behind awaits Nack = awaits
awaits_behind awaits Stop = awaits

-- .. after events
abbrev pub awaits_address : List Event → Bool
awaits_address events = fold awaits_behind false events

-- It was given these events.
pub record WritesStandAt (profile : List DeviceParts) (writes : Writes) (events : List Event) : Type 0 where
  pub awaits : writes.awaits_address ≡ awaits_address events
  pub has : writes.has_write ≡ has_write profile events

-- what went before, of what was reached, if these events follow
abbrev pub past_with : Reached → List Event → List PastData
past_with reached later = past_in (lost_in reached.profile 0 (reached.events ++ later)) reached.spans

-- Nothing that follows is lost with what was reached.
abbrev pub IsSettled : Reached → Type 0
IsSettled reached = (later : List Event) → past_with reached later ≡ past_of reached

-- Events are passed over: of the packet that was refused and of what was passed over since, devices may have taken
-- some events. Another write among those that follow, up to STOP, is lost with them.
pub record MayLose (writes : Writes) (reached : Reached) : Type 0 where
  pub earlier : List PastData
  pub taken : List Event
  pub stands : WritesStandAt reached.profile writes taken
  pub lost : (later : List Event) → past_with reached later
      ≡ earlier ++ dropped_if (has_write reached.profile (taken ++ to_stop later))

-- by where it stands
abbrev pub KnowsLost : Writes → Reached → Standing → Type 0
KnowsLost writes reached (Open n events) = WritesStandAt reached.profile writes events × IsSettled reached
KnowsLost writes reached (Held n refusal) = ⊤
KnowsLost writes reached (Passing n) = MayLose writes reached

-- after an event that is passed over, the last of those taken: STOP ends it
abbrev pub WritesBehind : List DeviceParts → Writes → List Event → Event → Type 0
WritesBehind profile writes taken Start = WritesStandAt profile writes taken
WritesBehind profile writes taken (Byte b) = WritesStandAt profile writes taken
WritesBehind profile writes taken Ack = WritesStandAt profile writes taken
WritesBehind profile writes taken Nack = WritesStandAt profile writes taken
WritesBehind profile writes taken Stop = WritesStandAt profile writes []

-- nothing was taken
abbrev pub IsFresh : Writes → Type 0
IsFresh writes = (profile : List DeviceParts) → WritesStandAt profile writes []
