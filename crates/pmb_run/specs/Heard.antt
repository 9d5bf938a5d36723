-- What a bench has made of all events since it was made, and of events wherever it stood before them.
use Rattle.std.specs.Prelude.{List, [], ◌∷◌, ◌++◌}
use Rattle.pmb_bus.specs.declared.event.Event.{Event}
use Rattle.pmb_note.specs.Context.{HasSeen}
use Rattle.pmb_reader.specs.Reader.{Standing, ReaderStandsAt}
use Rattle.pmb_reader.specs.Reading.{AnyEvent, HasRead, IsDueAt, Remains}
use Rattle.pmb_transaction.specs.Reading.{Accepted, Outcome, Refusal}
use Rattle.pmb_transaction.specs.Transaction.{TransactionData}
use Rattle.pmb_run.specs.declared.bench.Bench.{Bench}
use Rattle.pmb_run.specs.machine.Bench.{bench_profile}

-- the transactions that were read
abbrev pub told_by : List Outcome → List TransactionData
told_by [] = []
told_by (Accepted t ∷ outcomes) = t ∷ told_by outcomes
told_by (Refusal refusal ∷ outcomes) = told_by outcomes

-- Its reader has read these events, and returned these outcomes; the context was given the transactions among
-- them.
pub record ReadsAs (bench : Bench) (events : List Event) (outcomes : List Outcome) : Type 0 where
  pub read : HasRead (bench_profile bench) bench.reader events AnyEvent outcomes
  pub seen : HasSeen bench.context (bench_profile bench) (told_by outcomes)

-- Its reader stands at this place, and holds no refusal; the context was given these transactions.
pub record HearsAt (bench : Bench) (place : Standing) (ts : List TransactionData) : Type 0 where
  pub reader : ReaderStandsAt (bench_profile bench) bench.reader place
  pub free : IsDueAt AnyEvent place
  pub context : HasSeen bench.context (bench_profile bench) ts

-- Its reader has read these events from a place on, and returned outcomes: whatever comes next, the events read from
-- there as these outcomes and what remains from where it stands now. The context, which had been given `ts`, was
-- given the transactions among the outcomes.
pub record HearsMore (bench : Bench) (before : Standing) (ts : List TransactionData) (events : List Event) : Type 0 where
  pub outcomes : List Outcome
  pub place : Standing
  pub hears : HearsAt bench place (ts ++ told_by outcomes)
  pub reads : (more : List Event) (later : List Outcome) → Remains (bench_profile bench) place more later
      → Remains (bench_profile bench) before (events ++ more) (outcomes ++ later)
