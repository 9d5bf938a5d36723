-- What a reader returns for the next event, and at the end of the events.
--
-- `ReaderStandsAt profile reader standing` says where a reader stands that was made for a profile
-- and given some events since. At `Open n events`, n events came, and then those of the packet
-- under way, none between packets: some packet begins with them, and they hold no whole one. At
-- `Held n refusal`, n events came, and it holds the refusal of the next one. At `Passing n`, n
-- events came, and it passes over what comes up to and including the next STOP. What this says of a
-- reader's own fields is in `machine`, and nothing here needs it to be understood.
use Rattle.std.specs.Prelude.{◌≡◌, ℕ, ◌+◌, Option, Some, None, Result, Ok, Err, List, [], ◌∷◌, ◌++◌, length}
use Rattle.pmb_bus.specs.declared.event.Event.{Event}
use Rattle.pmb_bus.specs.declared.event.Event.TheVariants.{Start, Byte, Ack, Nack, Stop}
use Rattle.pmb_command.specs.Parts.{DeviceParts}
use Rattle.pmb_transaction.specs.Packet.{Packet}
use Rattle.pmb_transaction.specs.Capture.{MayFollow}
use Rattle.pmb_transaction.specs.Reading.{IsUnderWay, RefusedAt, TruncatedAt}
use Rattle.pmb_reader.specs.declared.reader.Took.{Took}
use Rattle.pmb_reader.specs.declared.reader.Took.TheVariants as answers
use Rattle.pmb_reader.specs.declared.reader.Reader.{Reader}
use Rattle.pmb_reader.specs.declared.refusal.Refusal.{Refusal}
use Rattle.pmb_reader.specs.Refusal.{refusal_data}
pub use Rattle.pmb_reader.specs.Standing.{Standing, Open, Held, Passing}
pub use Rattle.pmb_reader.specs.machine.Standing.{ReaderStandsAt, last_read}

-- between two packets
abbrev pub IsBetween : Standing → Type 0
IsBetween (Open n events) = events ≡ []
IsBetween (Held n refusal) = ⊥
IsBetween (Passing n) = ⊥

-- where it stands after an event that is passed over
abbrev pub behind_passed : ℕ → Event → Standing
behind_passed n Start = Passing (n + 1)
behind_passed n (Byte b) = Passing (n + 1)
behind_passed n Ack = Passing (n + 1)
behind_passed n Nack = Passing (n + 1)
behind_passed n Stop = Open (n + 1) []

-- and after `resync`
abbrev pub behind_resync : Standing → Standing
behind_resync (Open n events) = Open n events
behind_resync (Held n refusal) = Passing n
behind_resync (Passing n) = Passing n

-- What one event comes to. Where a packet is read, the event continues it, so that some packet
-- begins with the events so far, and they hold no whole one; or it ends it; or it is refused, since
-- no packet can have it there. A refusal that is held is returned again. While events are passed
-- over, this one is too.
abbrev pub ReaderTakes : List DeviceParts → Standing → Event → Took → Reader → Type 0
ReaderTakes profile (Open n events) event answers.Continues after =
    IsUnderWay profile (events ++ event ∷ []) × ReaderStandsAt profile after (Open n (events ++ event ∷ []))
ReaderTakes profile (Open n events) event answers.Packet after =
    Packet profile (last_read after) (events ++ event ∷ [])
    × ReaderStandsAt profile after (Open (n + length events + 1) [])
ReaderTakes profile (Open n events) event (answers.Refused refusal) after =
    RefusedAt profile n events event (refusal_data refusal)
    × ReaderStandsAt profile after (Held (n + length events) (refusal_data refusal))
ReaderTakes profile (Held n refusal) event answers.Continues after = ⊥
ReaderTakes profile (Held n refusal) event answers.Packet after = ⊥
ReaderTakes profile (Held n refusal) event (answers.Refused again) after = (refusal_data again ≡ refusal)
    × ReaderStandsAt profile after (Held n refusal)
ReaderTakes profile (Passing n) event answers.Continues after = ReaderStandsAt profile after (behind_passed n event)
ReaderTakes profile (Passing n) event answers.Packet after = ⊥
ReaderTakes profile (Passing n) event (answers.Refused refusal) after = ⊥

-- the events that can come: none while a refusal is held, and any while they are passed over
abbrev pub CanCome : List DeviceParts → Standing → Event → Type 0
CanCome profile (Open n events) event = MayFollow profile events event
CanCome profile (Held n refusal) event = ⊥
CanCome profile (Passing n) event = Unit {0}

-- what is returned at the end of the events: inside a packet that they are truncated, and a refusal
-- that is held
abbrev pub ReaderFinishes : List DeviceParts → Standing → Result Unit Refusal → Type 0
ReaderFinishes profile (Open n events) (Ok done) = events ≡ []
ReaderFinishes profile (Open n events) (Err refusal) = TruncatedAt profile n events (refusal_data refusal)
ReaderFinishes profile (Held n refusal) (Ok done) = ⊥
ReaderFinishes profile (Held n refusal) (Err again) = refusal_data again ≡ refusal
ReaderFinishes profile (Passing n) (Ok done) = Unit {0}
ReaderFinishes profile (Passing n) (Err refusal) = ⊥

-- the refusal that is held
abbrev pub IsHeldAt : Standing → Option Refusal → Type 0
IsHeldAt (Open n events) None = Unit {0}
IsHeldAt (Open n events) (Some refusal) = ⊥
IsHeldAt (Held n refusal) None = ⊥
IsHeldAt (Held n refusal) (Some held) = refusal_data held ≡ refusal
IsHeldAt (Passing n) None = Unit {0}
IsHeldAt (Passing n) (Some refusal) = ⊥
