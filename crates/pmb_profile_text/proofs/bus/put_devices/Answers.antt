use Rattle.std.proofs.Common.{◌∙◌, ◌≤◌, ◌<◌, length, take, ap, refl, arith}
use Rattle.pmb_profile_text.specs.Table.{device_text, devices_text}
use Rattle.pmb_profile_text.proofs.Commands.{some_at}
use Rattle.pmb_profile_text.proofs.Texts.{all_taken, device_more, puts_as}
use Rattle.pmb_profile_text.proofs.bus.put_devices.Goals as goal

pub loop-i-init : goal.loop-i-init
loop-i-init g c = record { put = c.texts_add_up.ensures.nothing _ _; failures = refl }

pub loop-i-preserved : goal.loop-i-preserved
loop-i-preserved g c =
    let bus = c.args.profile.now in
    let i = c.loop-i.i in
    let within : i < length bus = omega (arith, c.loop-i-test.true, c.len-i-end.ensures.len) in
    let one = some_at bus i within in
    record {
      put = puts_as _ _ _ _ _ _ (device_more bus i one.0 one.1)
          (c.texts_add_up.ensures.both (g.W.Sink.told c.args.writer.now).held (g.W.Sink.told c.loop-i.writer).held
          (g.W.Sink.told c.put_device_at.new.writer).held c.args.waiting.now.items c.loop-i.waiting.items
          c.put_device_at.new.waiting.items
          (devices_text 0 (take i bus)) (device_text i one.0) c.loop-i.invariant.put
          (c.in_ok-put_device_at.ensures.puts one.0 one.1));
      failures = c.in_ok-put_device_at.ensures.failed ∙ c.loop-i.invariant.failures;
    }

pub returns-clause-puts : goal.returns-clause-puts
returns-clause-puts g c =
    let bus = c.args.profile.now in
    let past : length bus ≤ c.loop-i.i = omega (arith, c.loop-i-test.false, c.len-i-end.ensures.len) in
    puts_as _ _ _ _ _ _ (ap (devices_text 0) (all_taken bus c.loop-i.i past)) c.loop-i.invariant.put
