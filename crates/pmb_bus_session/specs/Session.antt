-- What a session is asked, and what comes of it.
use Rattle.std.specs.Prelude.{◌≡◌, ◌⊎◌, true, false, Option, Some, None, Result, Ok, Err, ℕ, ◌+◌, ◌*◌, ◌≤◌, List, [], ◌++◌, drop, length, min}
use Rattle.std.specs.Prelude.{take, option_map}
use Rattle.std.specs.Arc.{arc_value}
use Rattle.std.specs.Prelude.{Box}
use Rattle.std.specs.declared.alloc.Global.{Global}
use Rattle.pmb_bus.specs.Event.{canonical_text}
use Rattle.pmb_command.specs.Parts.{DeviceParts}
use Rattle.pmb_io.specs.declared.tally.Tally.{Tally}
use Rattle.pmb_message.specs.declared.message.Message.{Message}
use Rattle.pmb_message.specs.declared.message.SendFault.{SendFault}
use Rattle.pmb_message.specs.declared.message.SendFault.TheVariants as fault
use Rattle.pmb_registers.specs.State.{InState}
use Rattle.pmb_transaction.specs.Transaction.{TransactionData}
use Rattle.pmb_reader.specs.Reader.{IsBetween, ReaderStandsAt, Standing}
use Rattle.pmb_devices.specs.Runs.{all_after}
use Rattle.pmb_run.specs.Answer.{RunAnswer, RunsLineWith, answer_text}
use Rattle.pmb_run.specs.Lines.{recorded_by}
use Rattle.pmb_run.specs.machine.Bench.{BenchStands, bench_profile}
use Rattle.pmb_run.specs.machine.Running.{IsSaid, counted_in}
use Rattle.pmb_io.specs.Count.{capped}
use Rattle.pmb_io.specs.Lines.{TextLine}
use Rattle.pmb_bus_session.specs.Devices.{DevicesSend, DevicesStand, OpensFresh}
use Rattle.pmb_bus_session.specs.Log.{log_kept}
use Rattle.pmb_bus_session.specs.declared.devices.Devices.{Devices}
use Rattle.pmb_bus_session.specs.declared.session.BusGround.{BusGround}
use Rattle.pmb_bus_session.specs.declared.session.BusSession.{BusSession}
use Rattle.pmb_bus_session.specs.declared.work.BusAnswer.{BusAnswer}
use Rattle.pmb_bus_session.specs.declared.work.BusStatus.{BusStatus}
use Rattle.pmb_bus_session.specs.declared.work.BusStatus.TheVariants.{Done, Closed, Memory, Busy, NoDevice, Refused, BadCount, BadAddress, BadLength, BadFlags}

-- ---- what a session has

abbrev pub session_profile : BusSession → List DeviceParts
session_profile session = session.profile.now

-- the devices, once they are made
abbrev pub session_devices : BusSession → Option Devices
session_devices session = option_map (λ (it : Box Devices Global). it.value) session.devices

-- the text that was not taken yet
abbrev pub session_log : BusSession → List ℕ
session_log session = session.log.left

-- how many bytes of text are kept, those included that were taken
abbrev pub session_kept : BusSession → ℕ
session_kept session = log_kept session.log

-- No more bytes are kept than before, or at most twice as many as were not taken yet.
abbrev pub KeepsFew : BusSession → BusSession → Type 0
KeepsFew old new = (session_kept new ≤ session_kept old) ⊎ (session_kept new ≤ 2 * length (session_log new))

-- Its devices, if they are made, stand somewhere. By `laws::sessions_stand` each session does.
abbrev pub SessionStands : BusSession → Type 0
SessionStands session =
    (devices : Devices) → session_devices session ≡ Some devices
    → (place : Standing) × (ts : List TransactionData) × DevicesStand devices place ts

-- On this ground nothing was asked yet.
pub record StandsFresh (ground : BusGround) (session : BusSession) : Type 0 where
  pub profile_is : session_profile session ≡ (arc_value ground.bus).devices
  pub no_devices : session_devices session ≡ None
  pub no_text : session_log session ≡ []

-- a call that leaves all as it is
pub record StaysSo (old new : BusSession) : Type 0 where
  pub profile : session_profile new ≡ session_profile old
  pub devices : session_devices new ≡ session_devices old
  pub text : session_log new ≡ session_log old

-- ---- answers

abbrev pub none_counted : Tally
none_counted = record { packets = 0; refusals = 0 }

-- a status alone: no bytes, and nothing is counted
abbrev pub plain : BusStatus → BusAnswer
plain status = record { status = status; count = 0; ready = 0; tally = none_counted }

-- it was done, with so many bytes
abbrev pub counted : ℕ → BusAnswer
counted count = record (plain Done) { count = count }

-- a request was run, with these counts
abbrev pub done_with : Tally → BusAnswer
done_with tally = record (plain Done) { tally = tally }

-- ---- open

-- The devices are made, each in its first state, where there are none; or memory was refused.
pub data Opens (old new : BusSession) (answer : BusAnswer) : Type 0 where
  there : (devices : Devices) → session_devices old ≡ Some devices → StaysSo old new → answer ≡ plain Done
      → Opens old new answer
  made : (devices : Devices) → session_devices old ≡ None → session_devices new ≡ Some devices
      → OpensFresh (session_profile old) devices → session_profile new ≡ session_profile old
      → session_log new ≡ session_log old → answer ≡ plain Done → Opens old new answer
  no_memory : session_devices old ≡ None → StaysSo old new → answer ≡ plain Memory → Opens old new answer

-- ---- a message

abbrev pub status_of : SendFault → BusStatus
status_of fault.NoDevice = NoDevice
status_of fault.Refused = Refused
status_of fault.BadCount = BadCount
status_of fault.BadAddress = BadAddress
status_of fault.BadLength = BadLength
status_of fault.BadFlags = BadFlags

abbrev pub answer_of : Result ℕ SendFault → BusAnswer
answer_of (Ok count) = counted count
answer_of (Err why) = plain (status_of why)

-- There are no devices, or there is no memory for its text, and nothing was sent; or it did to the devices what
-- `DevicesSend` says, and the canonical text of its events comes after the text that was there.
pub data SendsMessage (message : Message) (before after : List ℕ) (old new : BusSession) (answer : BusAnswer) : Type 0 where
  closed : session_devices old ≡ None → StaysSo old new → after ≡ before → answer ≡ plain Closed
      → SendsMessage message before after old new answer
  no_memory : (devices : Devices) → session_devices old ≡ Some devices → StaysSo old new → after ≡ before
      → answer ≡ plain Memory → SendsMessage message before after old new answer
  sent : (was now : Devices) (result : Result ℕ SendFault) → session_devices old ≡ Some was
      → session_devices new ≡ Some now → DevicesSend message before after was now result
      → session_profile new ≡ session_profile old → session_log new ≡ session_log old ++ canonical_text now.tape
      → answer ≡ answer_of result
      → SendsMessage message before after old new answer

-- ---- text that is taken

-- So many bytes, the oldest, went to the front of the room: as many as fit.
pub record MovesText (before after : List ℕ) (old new : BusSession) (answer : BusAnswer) : Type 0 where
  pub done : answer.status ≡ Done
  pub ready : answer.ready ≡ length (session_log old)
  pub as_many : answer.count ≡ min (length (session_log old)) (length before)
  pub room : after ≡ take answer.count (session_log old) ++ drop answer.count before
  pub left : session_log new ≡ drop answer.count (session_log old)
  pub uncounted : answer.tally ≡ none_counted
  pub devices : session_devices new ≡ session_devices old
  pub profile : session_profile new ≡ session_profile old

-- ---- a request

-- A transfer is under way: the last message that was sent had no STOP after it.
abbrev pub IsUnderWay : Devices → Type 0
IsUnderWay devices = devices.is_under_way ≡ true

-- No request is taken: a transfer is under way, or what was read doesn't end between two packets.
abbrev pub IsBusy : Devices → Type 0
IsBusy devices =
    IsUnderWay devices ⊎ ((place : Standing)
    → ReaderStandsAt (bench_profile devices.runner.bench) devices.runner.bench.reader place → ¬ (IsBetween place))

-- A request is taken: no transfer is under way, and what was read ends between two packets.
pub record IsFree (devices : Devices) : Type 0 where
  pub ended : devices.is_under_way ≡ false
  pub between : (place : Standing)
      → ReaderStandsAt (bench_profile devices.runner.bench) devices.runner.bench.reader place → IsBetween place

-- What was run of a line: the answer, its text after what was there, and what it made of the devices.
pub record Ran (line : List ℕ) (members : List InState) (ts : List TransactionData) (was now : Devices)
    (log_old log_new : List ℕ) (tally : Tally) : Type 0 where
  pub told : RunAnswer
  pub said : TextLine
  pub said_is : IsSaid line said
  pub answers : RunsLineWith (bench_profile was.runner.bench) ts members said told
  pub text : log_new ≡ log_old ++ answer_text now.runner.lines told
  pub lines : now.runner.lines ≡ capped (was.runner.lines + 1)
  pub tally_is : tally ≡ counted_in told none_counted
  pub profile_is : bench_profile now.runner.bench ≡ bench_profile was.runner.bench
  pub stands : BenchStands now.runner.bench (all_after (recorded_by told) members) (ts ++ recorded_by told)

-- The request of a line was run: wherever the devices stood between packets, it has the answer of `run` on them,
-- and that answer's text comes after the text that was there.
abbrev pub RunsLine : List ℕ → Devices → Devices → List ℕ → List ℕ → Tally → Type 0
RunsLine line was now log_old log_new tally =
    (members : List InState) (ts : List TransactionData) → BenchStands was.runner.bench members ts
    → Ran line members ts was now log_old log_new tally

-- There are no devices; they are busy; there is no memory for its text, and nothing was sent; or it was run, and no
-- transfer is under way after it. There is room for the longest text, 32,768 bytes. Should one be longer
-- nevertheless, the devices are gone.
pub data Requests (line : List ℕ) (old new : BusSession) (answer : BusAnswer) : Type 0 where
  closed : session_devices old ≡ None → StaysSo old new → answer ≡ plain Closed → Requests line old new answer
  busy : (devices : Devices) → session_devices old ≡ Some devices → IsBusy devices → StaysSo old new
      → answer ≡ plain Busy → Requests line old new answer
  no_memory : (devices : Devices) → session_devices old ≡ Some devices → IsFree devices → StaysSo old new
      → answer ≡ plain Memory → Requests line old new answer
  gone : (was : Devices) → session_devices old ≡ Some was → IsFree was → session_devices new ≡ None
      → session_profile new ≡ session_profile old → session_log new ≡ session_log old → answer ≡ plain Memory
      → Requests line old new answer
  run : (was now : Devices) → session_devices old ≡ Some was → session_devices new ≡ Some now
      → IsFree was → now.is_under_way ≡ false → session_profile new ≡ session_profile old
      → RunsLine line was now (session_log old) (session_log new) answer.tally → answer ≡ done_with answer.tally
      → Requests line old new answer

-- The devices stood between two packets, and the request of a line has the answer of `run` on them.
pub record RunsThere (line : List ℕ) (old new : BusSession) (answer : BusAnswer) : Type 0 where
  pub was : Devices
  pub now : Devices
  pub was_there : session_devices old ≡ Some was
  pub there : session_devices new ≡ Some now
  pub members : List InState
  pub ts : List TransactionData
  pub stood : BenchStands was.runner.bench members ts
  pub ran : Ran line members ts was now (session_log old) (session_log new) answer.tally
