-- One packet more, of each device that it names.
use Rattle.std.proofs.Common.{rules}
use Rattle.pmb_json_objects.proofs.counts.Counts.count_packet.Goals as goal

pub returns : goal.returns
returns c = λ known counts. record {
  devices = c.count_transaction.ensures known.of_device counts.devices;
  packets = search rules;
  refusals = counts.refusals;
  bad_tokens = counts.bad_tokens;
  others = counts.others;
}
