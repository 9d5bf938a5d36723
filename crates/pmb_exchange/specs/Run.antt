-- A host's run on a bus of simulated devices, from its first signal to STOP and the end that it
-- tells.
use Rattle.std.specs.Prelude.{◌≡◌, ℕ, List, [], ◌∷◌, ◌++◌, map}
use Rattle.std.specs.List.{Contains}
use Rattle.pmb_bus.specs.declared.event.Event.TheVariants as events
use Rattle.pmb_command.specs.Bus.{IsBus}
use Rattle.pmb_transaction.specs.Transaction.{TransactionData}
use Rattle.pmb_transaction.specs.Packet.{Packet}
use Rattle.pmb_registers.specs.State.{InState}
use Rattle.pmb_device.specs.declared.signal.HostSignal.TheVariants.{Stop}
use Rattle.pmb_device.specs.declared.signal.DeviceSignal.{DeviceSignal}
use Rattle.pmb_device.specs.Legs.{Outside}
use Rattle.pmb_devices.specs.Bus.{AreAnswered, AnsweredSignal, recorded_events}
use Rattle.pmb_devices.specs.Replies.{IsState}
use Rattle.pmb_request.specs.Request.{RequestData}
use Rattle.pmb_host.specs.declared.step.HostStep.{HostStep}
use Rattle.pmb_host.specs.declared.step.HostStep.TheVariants.{Send, Done, Failed}
use Rattle.pmb_host.specs.Host.{IsNext, Job}
use Rattle.pmb_host.specs.Rules.{IsAllowed}
use Rattle.pmb_host.specs.Steps.{Fails, IsTold, Succeeds, reply_data}
use Rattle.pmb_host.specs.Task.{task_of}
use Rattle.pmb_exchange.specs.Exchange.{Exchanges, EndsWith}

-- The job is that of a request which its profile allows.
pub record IsRequested (job : Job) : Type 0 where
  pub request : RequestData
  pub word : ℕ
  pub task_is : job.task ≡ task_of request word
  pub allowed : IsAllowed job.profile request word job.number

-- The devices are those of the job's profile, which was accepted, and their states fit them.
pub record AreMembers (job : Job) (members : List InState) : Type 0 where
  pub accepted : IsBus job.profile
  pub devices_are : map (λ member. member.device) members ≡ job.profile
  pub fit : (member : InState) → Contains members member → IsState member.device member.state

-- The host sent each signal as the next one after those before it.
abbrev pub AreSentInTurn : Job → List AnsweredSignal → Type 0
AreSentInTurn job heard =
    (before : List AnsweredSignal) (one : AnsweredSignal) (behind : List AnsweredSignal)
    → heard ≡ before ++ one ∷ behind → IsNext job before one.signal

-- By what it heard the host ends so.
abbrev pub HasEnded : Job → List AnsweredSignal → HostStep → Type 0
HasEnded job heard (Send signal) = ⊥
HasEnded job heard (Done answer) =
    (reply : List ℕ) × Succeeds job.profile job.task heard reply × IsTold job.profile job.task job.number reply
    (reply_data answer)
HasEnded job heard (Failed fault) = Fails job.profile job.task heard fault

-- Signals, and STOP after them.
abbrev pub stopped : List AnsweredSignal → DeviceSignal → List AnsweredSignal
stopped heard result = heard ++ record { signal = Stop; result = result } ∷ []

-- What a host did on a bus is the exchange that its task asks for: that transaction is recorded,
-- and the end that is told is its.
pub record IsExchanged (job : Job) (members : List InState) (heard : List AnsweredSignal)
    (step : HostStep) : Type 0 where
  pub done : TransactionData
  pub exchanges : Exchanges members job.task done
  pub packet : Packet job.profile done (recorded_events heard ++ events.Stop ∷ [])
  pub told : EndsWith job.number done step

-- A host ran on a bus, from the first signal to STOP, and told this end.
pub record HasRun (job : Job) (members : List InState) (heard : List AnsweredSignal) (step : HostStep) : Type 0 where
  pub requested : IsRequested job
  pub on : AreMembers job members
  pub answered : AreAnswered members Outside heard
  pub last : DeviceSignal
  pub in_turn : AreSentInTurn job (stopped heard last)
  pub ended : HasEnded job (stopped heard last) step
