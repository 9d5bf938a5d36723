use Rattle.std.proofs.Common.{option_map, arith}
use Rattle.pmb_transaction.specs.Transaction.{part_data}
use Rattle.pmb_devices.proofs.OtherWrites.{none_written_there, written_nowhere, written_there}
use Rattle.pmb_devices.proofs.others.written_at.Goals as goal

pub returns-then-address : goal.returns-then-address
returns-then-address c = λ legs members ended.
    written_there legs members c.args.devices.now ended c.args.address c.loop-device.device-index c.device-item.result
    c.address.result (option_map part_data c.written_to.result) c.loop-device-test.true
    (c.loop-device.invariant legs members ended) c.device-item.is c.address.ensures c.if-address.true
    c.written_to.ensures

pub loop-device-preserved : goal.loop-device-preserved
loop-device-preserved c = λ legs members ended.
    none_written_there legs members c.args.devices.now ended c.args.address c.loop-device.device-index
    c.device-item.result c.address.result c.loop-device-test.true (c.loop-device.invariant legs members ended)
    c.device-item.is c.address.ensures c.if-address.false

pub returns : goal.returns
returns c = λ legs members ended.
    written_nowhere legs members c.args.devices.now ended c.args.address c.loop-device.device-index
    (omega arith) (c.loop-device.invariant legs members ended)
