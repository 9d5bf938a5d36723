-- What a bus of devices went through since it was made: stretches of signals, each ended by STOP,
-- and what came since the last one.
use Rattle.std.specs.Prelude.{◌≡◌, ◌⊎◌, List, [], ◌∷◌, ◌++◌, map}
use Rattle.pmb_bus.specs.declared.event.Event.{Event}
use Rattle.pmb_bus.specs.declared.event.Event.TheVariants.{Stop}
use Rattle.pmb_command.specs.Parts.{DeviceParts}
use Rattle.pmb_transaction.specs.declared.reason.Reason.TheVariants.{Truncated}
use Rattle.pmb_transaction.specs.Transaction.{TransactionData}
use Rattle.pmb_transaction.specs.Cut.{EndsWithStop}
use Rattle.pmb_transaction.specs.Reading.{Outcome, Refusal, RefusalData}
use Rattle.pmb_registers.specs.State.{InState, first_state}
use Rattle.pmb_registers.specs.Apply.{apply_all}
use Rattle.pmb_device.specs.Legs.{Legs, Outside}
use Rattle.pmb_devices.specs.Bus.{AreAnswered, AnsweredSignal, recorded_events, legs_after}
use Rattle.pmb_devices.specs.Stops.{EachEnds}

-- each device of a profile in its first state
abbrev pub first_members : List DeviceParts → List InState
first_members profile = map (λ device. record { device = device; state = first_state device }) profile

-- Each device of a bus goes where STOP leads it after these legs.
abbrev pub AllEnd : Legs → List InState → List InState → Type 0
AllEnd legs olds news = EachEnds (map (λ member. member.device) olds) legs olds news

-- The devices go from some states to others by stretches of signals, each ended by STOP.
abbrev pub Runs : List InState → List (List AnsweredSignal) → List InState → Type 0
Runs members [] now = now ≡ members
Runs members (stretch ∷ more) now =
    AreAnswered members Outside stretch
    × ((next : List InState) × AllEnd (legs_after Outside stretch) members next × Runs next more now)

-- the events that are recorded of stretches, each with its STOP
abbrev pub run_events : List (List AnsweredSignal) → List Event
run_events [] = []
run_events (stretch ∷ more) = (recorded_events stretch ++ Stop ∷ []) ++ run_events more

-- what transactions make of each device, in their order
abbrev pub all_after : List TransactionData → List InState → List InState
all_after ts members = map (λ member. record {
  device = member.device;
  state =
      apply_all member.device ts member.state;
}) members

-- Nothing is refused but an end inside a packet.
abbrev pub IsTruncation : List Outcome → Type 0
IsTruncation outcomes = (outcomes ≡ []) ⊎ ((refusal : RefusalData) × (outcomes ≡ Refusal refusal ∷ [])
    × (refusal.reason ≡ Truncated))

-- no events, or events that end with STOP
abbrev pub AreStopped : List Event → Type 0
AreStopped events = (events ≡ []) ⊎ EndsWithStop events
