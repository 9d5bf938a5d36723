use Rattle.std.proofs.Common.{◌+◌}
use Rattle.pmb_json_objects.specs.Counts.{after_packet}
use Rattle.pmb_transaction.specs.Transaction.{transaction_data}
use Rattle.pmb_fact_stream.proofs.Standing.{packet_counted}
use Rattle.pmb_fact_stream.proofs.stream.Stream.take_packet.Goals as goal

pub returns-clause-knows : goal.returns-clause-knows
returns-clause-knows c b knows =
    let t = transaction_data c.args.transaction.now in
    c.end_packet.ensures.knows (record b { counts = after_packet b.counts t }) (record {
      places = knows.places;
      word = knows.word;
      count = knows.count;
      late = knows.late;
      counts = c.count_packet.ensures b.counts knows.counts;
      tally = packet_counted _ _ b.counts.packets (b.counts.refusals + b.counts.bad_tokens) c.count_packet-2.ensures
          knows.tally;
    })
