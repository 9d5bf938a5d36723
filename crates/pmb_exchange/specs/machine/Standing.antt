-- What a host and its bus say of where their exchange stands.
--
-- Up to STOP what the host heard, with the answer to its last signal, is what the bus has since the
-- last STOP before. After STOP the bus stands between packets, and the host tells its end.
use Rattle.std.specs.Prelude.{◌≡◌, ℕ, Option, Some, None, List, [], ◌∷◌, ◌++◌, length, map}
use Rattle.pmb_bus.specs.declared.event.Event.{Event}
use Rattle.pmb_bus.specs.declared.event.Event.TheVariants as events
use Rattle.pmb_transaction.specs.Transaction.{TransactionData}
use Rattle.pmb_transaction.specs.Packet.{Packet}
use Rattle.pmb_registers.specs.State.{InState}
use Rattle.pmb_device.specs.declared.signal.HostSignal.{HostSignal}
use Rattle.pmb_device.specs.declared.signal.HostSignal.TheVariants.{Stop}
use Rattle.pmb_device.specs.declared.signal.DeviceSignal.{DeviceSignal}
use Rattle.pmb_device.specs.Legs.{Outside}
use Rattle.pmb_devices.specs.declared.bus.Bus.{Bus}
use Rattle.pmb_devices.specs.Bus.{AreAnswered, AnsweredSignal, recorded_events}
use Rattle.pmb_devices.specs.Signal.{BusStandsAt, all_applied}
use Rattle.pmb_host.specs.declared.host.Host.{Host}
use Rattle.pmb_host.specs.declared.step.HostStep.{HostStep}
use Rattle.pmb_host.specs.Host.{HostStandsAt, Job, answered}
use Rattle.pmb_exchange.specs.declared.exchange.Exchange.{Exchange}
use Rattle.pmb_exchange.specs.Exchange.{Exchanges, EndsWith}
use Rattle.pmb_exchange.specs.Run.{AreMembers, AreSentInTurn, IsRequested, stopped}

-- An exchange on a bus: what the host is to do, what the bus went through before, each device with
-- its state then, the events that were recorded so far, and how many signals were sent.
pub record ExchangeStanding : Type 0 where
  pub job : Job
  pub past : List (List AnsweredSignal)
  pub members : List InState
  pub events : List Event
  pub sent : ℕ

-- The exchange is over: a transaction was exchanged, its packet recorded, its end told, and each
-- device became what the transaction makes of it.
pub record IsOver (standing : ExchangeStanding) (step : HostStep) (bus : Bus) : Type 0 where
  pub done : TransactionData
  pub exchanges : Exchanges standing.members standing.job.task done
  pub packet : Packet standing.job.profile done standing.events
  pub told : EndsWith standing.job.number done step
  pub stretch : List AnsweredSignal
  pub stands : BusStandsAt bus (record {
    past = standing.past ++ stretch ∷ [];
    members =
        all_applied done standing.members;
    history = [];
  })

-- what is so of the signals up to STOP
pub record HasHeard (standing : ExchangeStanding) (history : List AnsweredSignal) : Type 0 where
  pub requested : IsRequested standing.job
  pub on : AreMembers standing.job standing.members
  pub answers : AreAnswered standing.members Outside history
  pub in_turn : AreSentInTurn standing.job history

-- More signals follow.
pub record IsRunning (standing : ExchangeStanding) (history : List AnsweredSignal) (bus : Bus) : Type 0 where
  pub heard : HasHeard standing history
  pub stands : BusStandsAt bus (record { past = standing.past; members = standing.members; history = history })
  pub events_are : standing.events ≡ recorded_events history
  pub sent_is : standing.sent ≡ length history

-- STOP was sent after them.
pub record IsStopped (standing : ExchangeStanding) (history : List AnsweredSignal) (bus : Bus) : Type 0 where
  pub heard : HasHeard standing history
  pub in_turn : (result : DeviceSignal) → AreSentInTurn standing.job (stopped history result)
  pub after : List InState
  pub stands : BusStandsAt bus (record { past = standing.past ++ history ∷ []; members = after; history = [] })
  pub applied : (t : TransactionData) → Packet (map (λ member. member.device) standing.members) t
      (recorded_events history ++ events.Stop ∷ [])
      → after ≡ all_applied t standing.members
  pub events_are : standing.events ≡ recorded_events history ++ events.Stop ∷ []

-- A host with the answer to its last signal, and a bus, stand there.
pub data Stands (host : Host) (answer : DeviceSignal) (bus : Bus) (standing : ExchangeStanding) : Type 0 where
  running : (heard : List AnsweredSignal) (last : Option HostSignal)
      → HostStandsAt host (record { job = standing.job; heard = heard; last = last; ended = None })
      → IsRunning standing (heard ++ answered last answer) bus → Stands host answer bus standing
  at_end : (history : List AnsweredSignal)
      → HostStandsAt host (record { job = standing.job; heard = history; last = Some Stop; ended = None })
      → IsStopped standing history bus → Stands host answer bus standing
  over : (heard : List AnsweredSignal) (step : HostStep)
      → HostStandsAt host (record { job = standing.job; heard = heard; last = None; ended = Some step })
      → IsOver standing step bus → Stands host answer bus standing

-- An exchange stands there, on a bus.
abbrev pub ExchangeStandsAt : Exchange → Bus → ExchangeStanding → Type 0
ExchangeStandsAt exchange bus standing = Stands exchange.host exchange.answer bus standing
