use Rattle.std.proofs.Common.{◌≡◌, List, ◌++◌, take}
use Rattle.pmb_bus.specs.declared.event.Event.{Event}
use Rattle.pmb_reader.specs.Reader.{Standing}
use Rattle.pmb_transaction.specs.Reading.{Outcome}
use Rattle.pmb_transaction.specs.Transaction.{TransactionData}
use Rattle.pmb_run.specs.Heard.{HearsAt, HearsMore, ReadsAs}
use Rattle.pmb_run.proofs.bench.Bench.overhear.Given as goal

-- The events so far were read.
abbrev pub invariant-loop-event : goal.invariant-loop-event
invariant-loop-event l = record {
  profile : l.self.profile ≡ l.fn.self.profile;
  bus : l.self.bus ≡ l.fn.self.bus;
  reads : (before : List Event) (outcomes : List Outcome) → ReadsAs l.fn.self before outcomes
      → (more : List Outcome) × ReadsAs l.self (before ++ take l.event-index l.events) (outcomes ++ more);
  reads_on : (place : Standing) (ts : List TransactionData) → HearsAt l.fn.self place ts
      → HearsMore l.self place ts (take l.event-index l.events);
}
