use Rattle.std.proofs.Common.{◌≡◌, ◌∙◌, ℕ, ap, arith, refl}
use Rattle.std.specs.List.{range_with_len}
use Rattle.pmb_stats_objects.specs.machine.Standing.{device_line, device_lines}
use Rattle.pmb_stats_objects.proofs.Lists.{next_number}
use Rattle.pmb_stats_objects.proofs.Putting.{no_ok, puts_as}
use Rattle.pmb_stats_objects.proofs.objects.put_devices.Goals as goal

pub loop-addr-init : goal.loop-addr-init
loop-addr-init g c = record { put = λ setting facts stands. c.texts_add_up.ensures.nothing _ _; failures = refl }

pub returns-in_err-put_device-clause-puts : goal.returns-in_err-put_device-clause-puts
returns-in_err-put_device-clause-puts g c = λ setting facts stands.
    no_ok _ c.from_residual.result c.from_residual.ensures.0

pub loop-addr-preserved : goal.loop-addr-preserved
loop-addr-preserved g c = record {
  put = λ setting facts stands.
      let line = device_line c.args.digits setting facts c.args.devices.now in
      puts_as (next_number line c.loop-addr.addr)
      (c.texts_add_up.ensures.both _ _ _ _ _ _ _ (line c.loop-addr.addr)
      (c.loop-addr.invariant.put setting facts stands) (c.in_ok-put_device.ensures.puts setting facts stands));
  failures = c.in_ok-put_device.ensures.failed ∙ c.loop-addr.invariant.failures;
}

pub returns-clause-puts : goal.returns-clause-puts
returns-clause-puts g c = λ setting facts stands.
    let all : c.loop-addr.addr ≡ 128 = omega (arith, c.loop-addr-test.false, c.loop-addr.auto.addr-end) in
    puts_as (ap (λ (n : ℕ). device_lines c.args.digits setting facts c.args.devices.now (range_with_len 0 n)) all)
    (c.loop-addr.invariant.put setting facts stands)
