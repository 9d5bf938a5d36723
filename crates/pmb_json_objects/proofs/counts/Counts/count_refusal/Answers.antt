-- One refusal more of that device.
use Rattle.std.proofs.Common.{ℕ, Option, Some, sym, subst, rules}
use Rattle.pmb_json_objects.specs.Counts.{after_refusal}
use Rattle.pmb_json_objects.specs.machine.Counting.{AreCounts}
use Rattle.pmb_json_objects.proofs.Counting.{alike, one_refusal}
use Rattle.pmb_json_objects.proofs.counts.Counts.count_refusal.Goals as goal

pub returns-in-Some : goal.returns-in-Some
returns-in-Some c = λ known counts.
    let more = alike c.count_at.new.devices _ (after_refusal known (Some c.in-Some.addr)).of_device
    (λ addr. one_refusal (known.of_device addr) c.in-Some.addr addr)
    (c.count_at.ensures known.of_device counts.devices) in
    record {
      devices = subst (λ (device : Option ℕ). AreCounts c.count_at.new.devices (after_refusal known device).of_device)
          (sym c.in-Some.is) more;
      packets = counts.packets;
      refusals = search rules;
      bad_tokens = counts.bad_tokens;
      others = counts.others;
    }
