use Rattle.std.proofs.Common.{◌≡◌, map, take}
use Rattle.pmb_transaction.specs.Transaction.{part_data}
use Rattle.pmb_fact_stream.specs.Before.{Before}
use Rattle.pmb_fact_stream.specs.Stream.{StreamKnows, stream_time}
use Rattle.pmb_fact_stream.specs.machine.Begun.{kept_writes}
use Rattle.pmb_fact_stream.specs.machine.Putting.{PutsFacts}
use Rattle.pmb_fact_stream.proofs.stream.Stream.put_parts.Given as goal

-- the lines of the parts so far are put out, and no write has failed
abbrev pub invariant-loop-index : goal.invariant-loop-index
invariant-loop-index g l = record {
  failures : (g.W.Sink.told l.writer).failures ≡ (g.W.Sink.told l.fn.writer).failures;
  puts : (some : Before) → StreamKnows some l.self
      → PutsFacts g.K.Keeper.Keeps l.self l.fn.keeper l.keeper (λ b. kept_writes b.past (stream_time l.self) 1 l.count
      (take l.index l.self.begun.items)
      (take l.index (map part_data l.parts)))
      (g.W.Sink.told l.fn.writer).held l.fn.waiting.items (g.W.Sink.told l.writer).held l.waiting.items;
}
