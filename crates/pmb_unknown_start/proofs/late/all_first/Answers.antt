use Rattle.std.proofs.Common.{arith}
use Rattle.pmb_transaction.proofs.Known.{device_is}
use Rattle.pmb_unknown_start.proofs.late.all_first.Goals as goal

pub returns : goal.returns
returns c = record {
  bus = c.accepted_bus.ensures;
  long = omega (arith, c.loop-address.invariant.long, c.loop-address-test.false, c.loop-address.auto.address-end);
  each = λ addr device known.
      let is = device_is c.args.profile.now addr device c.accepted_bus.ensures known in
      c.loop-address.invariant.each addr device
      (omega (arith, is.0.address.greatest, is.1, c.loop-address-test.false)) known;
}
