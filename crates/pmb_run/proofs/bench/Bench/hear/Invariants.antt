use Rattle.std.proofs.Common.{◌≡◌, ℕ, List, ◌++◌, take}
use Rattle.pmb_bus.specs.declared.event.Event.{Event}
use Rattle.pmb_transaction.specs.Transaction.{TransactionData}
use Rattle.pmb_run.specs.machine.Bench.{HaveHeard}
use Rattle.pmb_run.proofs.bench.Bench.hear.Given as goal

-- The events so far were heard.
abbrev pub invariant-loop-event : goal.invariant-loop-event
invariant-loop-event l = record {
  profile : l.self.profile ≡ l.fn.self.profile;
  bus : l.self.bus ≡ l.fn.self.bus;
  heard : (ts : List TransactionData) (n : ℕ) (before : List Event) → HaveHeard l.fn.self ts n before
      → HaveHeard l.self ts n (before ++ take l.event-index l.events);
}
