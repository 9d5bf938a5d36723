-- A bus of devices: what is recorded of the host's signals and the devices' answers.
--
-- Each device answers for itself. A byte is recorded with ACK where a device gave one, and else
-- with NACK, as the wire has it (SMBus 3.0 section 6.5). An Ask to which no device gave a byte is
-- recorded as NACK alone, so that a capture has no byte that nobody sent. This last rule is the
-- project's own.
use Rattle.std.specs.Prelude.{◌≢◌, ◌⊎◌, List, [], ◌∷◌, ◌++◌}
use Rattle.std.specs.List.{AllByRecursion, Contains}
use Rattle.pmb_bus.specs.declared.event.Event.{Event}
use Rattle.pmb_bus.specs.declared.event.Event.TheVariants as events
use Rattle.pmb_registers.specs.State.{InState}
use Rattle.pmb_device.specs.declared.signal.HostSignal.{HostSignal}
use Rattle.pmb_device.specs.declared.signal.HostSignal.TheVariants.{Start, Byte, Ask, Ack, Nack, Stop}
use Rattle.pmb_device.specs.declared.signal.DeviceSignal.{DeviceSignal}
use Rattle.pmb_device.specs.declared.signal.DeviceSignal.TheVariants as answers
use Rattle.pmb_device.specs.Legs.{Legs, with_signal}
use Rattle.pmb_device.specs.Rules.{Answers}

-- ---- what is recorded

-- the answer to a byte, on the wire
abbrev pub acknowledged : DeviceSignal → Event
acknowledged answers.Silent = events.Nack
acknowledged answers.Ack = events.Ack
acknowledged answers.Nack = events.Nack
acknowledged (answers.Byte b) = events.Nack

-- the byte that a device gave, or NACK
abbrev pub given : DeviceSignal → Event
given answers.Silent = events.Nack
given answers.Ack = events.Nack
given answers.Nack = events.Nack
given (answers.Byte b) = events.Byte b

-- the events of a signal and the answer to it
abbrev pub recorded : HostSignal → DeviceSignal → List Event
recorded Start result = events.Start ∷ []
recorded (Byte b) result = events.Byte b ∷ acknowledged result ∷ []
recorded Ask result = given result ∷ []
recorded Ack result = events.Ack ∷ []
recorded Nack result = events.Nack ∷ []
recorded Stop result = events.Stop ∷ []

-- ---- what is answered

-- A device answers this, or is silent.
abbrev pub AnswersOrSilent : Legs → HostSignal → DeviceSignal → InState → Type 0
AnswersOrSilent legs signal result member =
    Answers member.device member.state legs signal result
    ⊎ Answers member.device member.state legs signal answers.Silent

-- The answer on the bus is that of each device that is not silent, and silence where all are.
pub record BusAnswers (members : List InState) (legs : Legs) (signal : HostSignal)
    (result : DeviceSignal) : Type 0 where
  pub each : AllByRecursion (AnswersOrSilent legs signal result) members
  pub given_by_one : result ≢ answers.Silent
      → (member : InState) × Contains members member × Answers member.device member.state legs signal result

-- ---- since the last STOP

-- a signal, and the answer to it
pub record AnsweredSignal : Type 0 where
  pub signal : HostSignal
  pub result : DeviceSignal

-- What came since the last STOP: each signal, none of which is STOP, has the answer that the bus
-- gives to it after those before it.
abbrev pub AreAnswered : List InState → Legs → List AnsweredSignal → Type 0
AreAnswered members legs [] = Unit {0}
AreAnswered members legs (exchange ∷ more) =
    (exchange.signal ≢ Stop) × BusAnswers members legs exchange.signal exchange.result
    × AreAnswered members (with_signal legs exchange.signal) more

-- the legs that they make after earlier ones
abbrev pub legs_after : Legs → List AnsweredSignal → Legs
legs_after legs [] = legs
legs_after legs (exchange ∷ more) = legs_after (with_signal legs exchange.signal) more

-- the events that are recorded of them
abbrev pub recorded_events : List AnsweredSignal → List Event
recorded_events [] = []
recorded_events (exchange ∷ more) = recorded exchange.signal exchange.result ++ recorded_events more
