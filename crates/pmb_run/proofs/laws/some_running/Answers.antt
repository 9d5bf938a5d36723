use Rattle.pmb_devices.specs.Replies.{IsState}
use Rattle.pmb_devices.specs.Runs.{first_members}
use Rattle.std.proofs.Common.{refl, []}
use Rattle.pmb_run.proofs.KeptParts.{make_formats}
use Rattle.pmb_run.proofs.Members.{all_contained, first_good}
use Rattle.pmb_run.proofs.SomeText.{SomeLaws, some_text}
use Rattle.pmb_run.proofs.laws.some_running.Goals as goal

pub returns : goal.returns
returns c bytes =
    let profile = c.args.profile.now in
    let bus = c.accepted_bus.ensures in
    let kept = c.profile_is_kept.ensures in
    let laws : SomeLaws profile = record {
      request_or_fault = c.request_or_fault.ensures;
      allowed_or_fault = λ request sound. c.allowed_or_fault.ensures profile request bus
          (make_formats profile kept) sound;
      some_exchange = λ members request word number. c.some_exchange.ensures profile members request word number bus;
      packets = λ request word number reply. c.allowed_requests_have_packets.ensures profile request word number reply
          bus;
      positive = c.readings_have_denominators.ensures;
    } in
    let fits = all_contained (λ m. IsState m.device m.state) (first_members profile)
    (λ m at. c.states_fit.ensures profile [] (first_members profile) m bus refl at) in
    some_text profile bus laws (first_good profile bus.devices kept fits) bytes
