use Rattle.std.proofs.Common.{◌≡◌, List}
use Rattle.pmb_transaction.specs.Transaction.{TransactionData}
use Rattle.pmb_registers.specs.State.{InState}
use Rattle.pmb_request.specs.Request.{RequestData}
use Rattle.pmb_host.specs.Host.{IsNewHost}
use Rattle.pmb_run.specs.machine.Bench.{BenchStands, bench_profile}
use Rattle.pmb_run.proofs.Hosts.{HostRuns, beginning_on}
use Rattle.pmb_run.proofs.runner.Runner.take_host.Given as goal

-- Wherever the bench stood and whatever the request was, the host sent a signal in each round, and
-- its events were put out.
abbrev pub invariant-loop : goal.invariant-loop
invariant-loop g l = record {
  same : l.self.bench.profile ≡ l.fn.self.bench.profile;
  lines : l.self.lines ≡ l.fn.self.lines;
  tally : l.self.tally ≡ l.fn.self.tally;
  failures : (g.W.Sink.told l.writer).failures ≡ (g.W.Sink.told l.fn.writer).failures;
  runs : (members : List InState) (ts : List TransactionData) (request : RequestData)
      (stands : BenchStands l.fn.self.bench members ts)
      (new : IsNewHost (bench_profile l.fn.self.bench) request l.fn.host)
      → HostRuns members ts (beginning_on members ts l.fn.self.bench request l.fn.host stands new) l.counter l.self.bench l.exchange
      (g.W.Sink.told l.fn.writer).held l.fn.waiting.items (g.W.Sink.told l.writer).held l.waiting.items;
}
