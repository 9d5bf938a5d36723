-- A bus of simulated devices behind a handle.
use Rattle.std.specs.Arc.{arc_value}
use Rattle.std.specs.Prelude.{◌≡◌, ℕ, ℤ, pos, negsuc, ◌==◌, nat_lt, if◌then◌else◌, Option, Some, None, List}
use Rattle.pmb_i2c.specs.declared.message.MessageEnd.{MessageEnd}
use Rattle.pmb_i2c.specs.declared.message.MessageEnd.TheVariants as ends
use Rattle.pmb_bus_session.specs.Session.{MovesText, Opens, Requests, SendsMessage, StandsFresh}
use Rattle.pmb_bus_session.specs.Work.{Acts}
use Rattle.pmb_bus_session.specs.declared.session.BusGround.{BusGround}
use Rattle.pmb_bus_session.specs.declared.session.BusSession.{BusSession}
use Rattle.pmb_bus_session.specs.declared.work.BusAnswer.{BusAnswer}
use Rattle.pmb_bus_session.specs.declared.work.BusStatus.{BusStatus}
use Rattle.pmb_bus_session.specs.declared.work.BusStatus.TheVariants as did
use Rattle.pmb_bus_session.specs.declared.work.BusWork.{BusWork}
use Rattle.pmb_message.specs.declared.message.Message.{Message}
use Rattle.pmb_table.specs.Profile.{ProfileParts}
use Rattle.pmb_firmware.specs.CallStatus.{number_of}
use Rattle.pmb_firmware.specs.declared.call_status.CallStatus.{CallStatus}
use Rattle.pmb_firmware.specs.declared.call_status.CallStatus.TheVariants as status
use Rattle.pmb_c.specs.Handle.{HoldsProfile, profile_in}
use Rattle.pmb_c.specs.Result.{result_of_status}
use Rattle.pmb_c.specs.declared.held.Held.{Held}
use Rattle.pmb_c.specs.declared.held.Held.TheVariants as held
use Rattle.pmb_c.specs.declared.result.PmbResult.{PmbResult}

-- the session of the bus that a handle holds, if it holds one
abbrev pub bus_in : Option Held → Option BusSession
bus_in None = None
bus_in (Some (held.Profile shared)) = None
bus_in (Some (held.Reader kept)) = None
bus_in (Some (held.Bus kept)) = Some kept.is

-- The bus that a handle holds did what is asked, or the handle holds none, and nothing was done.
abbrev pub ActsHeld : Option Held → BusWork → Option Held → BusWork → Option BusAnswer → Type 0
ActsHeld from work after done None = (bus_in from ≡ None) × (after ≡ from) × (done ≡ work)
ActsHeld from work after done (Some answer) = (old : BusSession) × (new : BusSession) × (bus_in from ≡ Some old)
    × (bus_in after ≡ Some new) × Acts old new work done × (done.answer ≡ answer)

-- ---- opening

-- What is held is a bus of this profile's devices, each in its first state: nothing was asked of its session but to
-- make them.
pub record HasBus (bus : ProfileParts) (holds : Held) : Type 0 where
  pub base : BusGround
  pub fresh : BusSession
  pub session : BusSession
  pub answer : BusAnswer
  pub of_profile : arc_value base.bus ≡ bus
  pub begins : StandsFresh base fresh
  pub opens : Opens fresh session answer
  pub done : answer.status ≡ did.Done
  pub is : bus_in (Some holds) ≡ Some session

-- A bus is open, or none: the other handle holds no profile, or there was no memory for a bus of the one that it holds.
pub data OpensBus (from after : Option Held) (returned : ℤ) : Type 0 where
  Opened : (bus : ProfileParts) (holds : Held) → profile_in from ≡ Some bus → HasBus bus holds → after ≡ Some holds
      → returned ≡ number_of status.Done → OpensBus from after returned
  Closed : profile_in from ≡ None → after ≡ None → returned ≡ number_of status.Closed → OpensBus from after returned
  NoMemory : HoldsProfile from → after ≡ None → returned ≡ number_of status.NoMemory → OpensBus from after returned

-- ---- messages

-- what comes after a message
abbrev pub end_of : ℕ → MessageEnd
end_of last = if last == 0 then ends.RepeatedStart else ends.Stop

-- 0, or an error of Linux with a minus: EBADF, ENOMEM, EBUSY, ENXIO, EREMOTEIO, EPROTO, EINVAL or EOPNOTSUPP
abbrev pub message_error : BusStatus → ℤ
message_error did.Done = pos 0
message_error did.Closed = negsuc 8
message_error did.Memory = negsuc 11
message_error did.Busy = negsuc 15
message_error did.NoDevice = negsuc 5
message_error did.Refused = negsuc 120
message_error did.BadCount = negsuc 70
message_error did.BadAddress = negsuc 21
message_error did.BadLength = negsuc 21
message_error did.BadFlags = negsuc 94

-- how many bytes came or went; where the message failed, as many as were asked for
abbrev pub length_after : BusStatus → ℕ → ℕ → ℕ
length_after did.Done asked count = count
length_after did.Closed asked count = asked
length_after did.Memory asked count = asked
length_after did.Busy asked count = asked
length_after did.NoDevice asked count = asked
length_after did.Refused asked count = asked
length_after did.BadCount asked count = asked
length_after did.BadAddress asked count = asked
length_after did.BadLength asked count = asked
length_after did.BadFlags asked count = asked

-- A message was given to the session that the handle holds, or it holds none.
pub data BusSends (message : Message) (from : Option Held) (before : List ℕ) (after : Option Held) (bytes : List ℕ)
    (length : ℕ) (returned : ℤ) : Type 0 where
  Sent : (old new : BusSession) (answer : BusAnswer) → bus_in from ≡ Some old → bus_in after ≡ Some new
      → SendsMessage message before bytes old new answer
      → length ≡ length_after answer.status message.length answer.count → returned ≡ message_error answer.status
      → BusSends message from before after bytes length returned
  Closed : bus_in from ≡ None → after ≡ from → bytes ≡ before → length ≡ message.length
      → returned ≡ message_error did.Closed → BusSends message from before after bytes length returned

-- ---- requests

-- The status of a request. The faults of messages are none of its own.
abbrev pub request_status : BusStatus → CallStatus
request_status did.Done = status.Done
request_status did.Closed = status.Closed
request_status did.Memory = status.NoMemory
request_status did.Busy = status.Busy
request_status did.NoDevice = status.Done
request_status did.Refused = status.Done
request_status did.BadCount = status.Done
request_status did.BadAddress = status.Done
request_status did.BadLength = status.Done
request_status did.BadFlags = status.Done

-- what is told of a request
abbrev pub result_of_request : BusAnswer → PmbResult
result_of_request answer = record (result_of_status (request_status answer.status)) {
  packets = answer.tally.packets;
  refusals = answer.tally.refusals;
}

-- A line was given to the session that the handle holds, or it holds none.
pub data BusRuns (from : Option Held) (line : List ℕ) (after : Option Held) (told : PmbResult) : Type 0 where
  Ran : (old new : BusSession) (answer : BusAnswer) → bus_in from ≡ Some old → bus_in after ≡ Some new
      → Requests line old new answer → told ≡ result_of_request answer → BusRuns from line after told
  Closed : bus_in from ≡ None → after ≡ from → told ≡ result_of_status status.Closed → BusRuns from line after told

-- ---- events

-- what is told of text that was taken: how much of it there was, and whether some stays
abbrev pub result_of_events : BusAnswer → PmbResult
result_of_events answer =
    let why = if nat_lt answer.count answer.ready then status.NoRoom else status.Done in
    record (result_of_status why) { length = answer.ready }

-- Text of the log went to the room as far as it fits, or the handle holds no bus.
pub data BusTakes (from : Option Held) (before : List ℕ) (after : Option Held) (room : List ℕ) (told : PmbResult)
    (returned : ℕ) : Type 0 where
  Taken : (old new : BusSession) (answer : BusAnswer) → bus_in from ≡ Some old → bus_in after ≡ Some new
      → MovesText before room old new answer → told ≡ result_of_events answer → returned ≡ answer.count
      → BusTakes from before after room told returned
  Closed : bus_in from ≡ None → after ≡ from → room ≡ before → told ≡ result_of_status status.Closed → returned ≡ 0
      → BusTakes from before after room told returned
