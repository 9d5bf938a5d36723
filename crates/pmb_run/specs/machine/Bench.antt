-- What a bench keeps from one request to the next.
--
-- Between requests the bus stands between packets, with its devices in some states, the reader stands between
-- packets too, and the context was given the transactions so far.
use Rattle.std.specs.Prelude.{◌≡◌, ℕ, ◌+◌, ◌<◌, Option, Some, None, List, [], ◌∷◌, ◌++◌, length, map}
use Rattle.pmb_bus.specs.Event.{canonical_text}
use Rattle.pmb_bus.specs.declared.event.Event.{Event}
use Rattle.pmb_command.specs.Parts.{DeviceParts}
use Rattle.pmb_io.specs.Outgoing.{PutsText}
use Rattle.pmb_note.specs.Context.{HasSeen}
use Rattle.pmb_reader.specs.Reader.{Open, ReaderStandsAt}
use Rattle.pmb_transaction.specs.Packet.{Packet}
use Rattle.pmb_transaction.specs.Transaction.{TransactionData}
use Rattle.pmb_devices.specs.Bus.{AnsweredSignal}
use Rattle.pmb_registers.specs.State.{InState}
use Rattle.pmb_devices.specs.Runs.{all_after, first_members}
use Rattle.pmb_devices.specs.Signal.{BusStandsAt}
use Rattle.pmb_host.specs.declared.step.HostStep.{HostStep}
use Rattle.pmb_exchange.specs.declared.exchange.Exchange.{Exchange}
use Rattle.pmb_exchange.specs.Steps.{ExchangeStanding, ExchangeStandsAt, IsOver}
use Rattle.pmb_run.specs.declared.bench.Bench.{Bench}

-- the profile of a bench
abbrev pub bench_profile : Bench → List DeviceParts
bench_profile bench = bench.profile.now

-- Between requests: the devices are in these states, and these transactions were told.
pub record BenchStands (bench : Bench) (members : List InState) (ts : List TransactionData) : Type 0 where
  pub devices_are : map (λ member. member.device) members ≡ bench_profile bench
  pub past : List (List AnsweredSignal)
  pub bus : BusStandsAt bench.bus (record { past = past; members = members; history = [] })
  pub n : ℕ
  pub reader : ReaderStandsAt (bench_profile bench) bench.reader (Open n [])
  pub context : HasSeen bench.context (bench_profile bench) ts

-- Only requests were run since the devices were made, and these transactions were recorded.
abbrev pub HasRun : Bench → List TransactionData → Type 0
HasRun bench ts = BenchStands bench (all_after ts (first_members (bench_profile bench))) ts

-- ---- during a request

-- Of a packet the events `before` were read, after n others, and `rest` were not: with the last one the
-- transaction is given to the context.
abbrev pub HaveRead : Bench → List TransactionData → ℕ → List Event → TransactionData → List Event → Type 0
HaveRead bench ts n before t [] =
    ReaderStandsAt (bench_profile bench) bench.reader (Open (n + length before) [])
    × HasSeen bench.context (bench_profile bench) (ts ++ t ∷ [])
HaveRead bench ts n before t (event ∷ rest) =
    ReaderStandsAt (bench_profile bench) bench.reader (Open n before) × HasSeen bench.context (bench_profile bench) ts

-- Whatever packet the events turn out to begin.
abbrev pub HaveHeard : Bench → List TransactionData → ℕ → List Event → Type 0
HaveHeard bench ts n before =
    (t : TransactionData) (rest : List Event) → Packet (bench_profile bench) t (before ++ rest)
    → HaveRead bench ts n before t rest

-- A host runs on the bench, on devices that were in these states, after these transactions, and stands there.
pub record RunsHost (members : List InState) (ts : List TransactionData) (bench : Bench) (exchange : Exchange)
    (standing : ExchangeStanding) : Type 0 where
  pub stands : ExchangeStandsAt exchange bench.bus standing
  pub profile_is : standing.job.profile ≡ bench_profile bench
  pub devices_are : map (λ member. member.device) members ≡ bench_profile bench
  pub members_are : standing.members ≡ members
  pub n : ℕ
  pub heard : HaveHeard bench ts n standing.events

-- It continues: some more events were recorded and put out.
pub record GoesOn (members : List InState) (ts : List TransactionData) (standing : ExchangeStanding) (bench : Bench)
    (exchange : Exchange) (held_old : Option (List ℕ)) (waiting_old : List ℕ) (held_new : Option (List ℕ))
    (waiting_new : List ℕ) : Type 0 where
  pub few : standing.sent < 4161
  pub events : List Event
  pub writes : PutsText held_old waiting_old held_new waiting_new (canonical_text events)
  pub runs : RunsHost members ts bench exchange (record standing {
    events = standing.events ++ events;
    sent =
        standing.sent + 1;
  })

-- It ended so, and nothing was put out.
pub record HasEnded (members : List InState) (ts : List TransactionData) (standing : ExchangeStanding) (end : HostStep)
    (bench : Bench) (exchange : Exchange) (held_old : Option (List ℕ)) (waiting_old : List ℕ) (held_new : Option (List ℕ))
    (waiting_new : List ℕ) : Type 0 where
  pub over : IsOver standing end bench.bus
  pub writes : PutsText held_old waiting_old held_new waiting_new []
  pub runs : RunsHost members ts bench exchange standing

abbrev pub RunsOn : List InState → List TransactionData → ExchangeStanding → Option HostStep → Bench → Exchange
    → Option (List ℕ) → List ℕ → Option (List ℕ) → List ℕ → Type 0
RunsOn members ts standing None bench exchange held_old waiting_old held_new waiting_new =
    GoesOn members ts standing bench exchange held_old waiting_old held_new waiting_new
RunsOn members ts standing (Some end) bench exchange held_old waiting_old held_new waiting_new =
    HasEnded members ts standing end bench exchange held_old waiting_old held_new waiting_new
