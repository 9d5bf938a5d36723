-- One other more of that address.
use Rattle.std.proofs.Common.{rules}
use Rattle.pmb_json_objects.specs.Counts.{after_other}
use Rattle.pmb_json_objects.proofs.Counting.{alike, one_other}
use Rattle.pmb_json_objects.proofs.counts.Counts.count_other.Goals as goal

pub returns : goal.returns
returns c = λ known counts. record {
  devices = alike c.count_at.new.devices _ (after_other known c.args.addr).of_device
      (λ addr. one_other (known.of_device addr) c.args.addr addr)
      (c.count_at.ensures known.of_device counts.devices);
  packets = counts.packets;
  refusals = counts.refusals;
  bad_tokens = counts.bad_tokens;
  others = search rules;
}
