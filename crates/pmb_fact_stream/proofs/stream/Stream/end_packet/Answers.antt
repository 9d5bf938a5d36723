use Rattle.std.proofs.Common.{[], ◌∷◌, ◌++◌, ◌+◌}
use Rattle.pmb_transaction.specs.Transaction.{transaction_data}
use Rattle.pmb_unknown_start.specs.Past.{Said}
use Rattle.pmb_fact_stream.proofs.Standing.{knows_at}
use Rattle.pmb_fact_stream.proofs.stream.Stream.end_packet.Goals as goal

pub returns-clause-knows : goal.returns-clause-knows
returns-clause-knows c b knows =
    let t = transaction_data c.args.transaction.now in
    let there = record b { n = b.n + 1; past = b.past ++ Said t ∷ [] } in
    knows_at there c.clear.new.self c.end.new.self (c.clear.ensures.knows there
    (c.count_event.ensures.knows (record b { past = b.past ++ Said t ∷ [] }) (record {
      places = knows.places;
      word = knows.word;
      count = knows.count;
      late = c.observe.ensures _ _ b.past knows.late;
      counts = knows.counts;
      tally = knows.tally;
    })))
