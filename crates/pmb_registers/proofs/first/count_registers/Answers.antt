use Rattle.std.proofs.Common.{◌<◌, arith, get_or, length}
use Rattle.pmb_command.specs.Entry.{entry_parts}
use Rattle.pmb_registers.proofs.Beginning.{command_at, some_command}
use Rattle.pmb_registers.proofs.Count.{counted_few, counted_more}
use Rattle.pmb_registers.proofs.first.count_registers.Goals.{in-Some, in_default}
use Rattle.pmb_registers.proofs.first.count_registers.Goals as goal

pub overflow_add-count : goal.overflow_add-count
overflow_add-count c =
    let device = c.args.device.now in
    let within : c.loop-i.i < length device.commands = omega (arith, c.loop-i-test.true, c.len-i-end.ensures.len) in
    let at = command_at device.commands c.loop-i.i (entry_parts c.in-Some.entry.now) c.in-Some.ensures.entry in
    let here = c.count_of-count.ensures (get_or device.commands c.loop-i.i at.0) at.1 in
    let few = counted_few device c.loop-i.i at.0 within c.accepted_device.ensures in
    omega (arith, c.loop-i.invariant)

pub loop-i-preserved : goal.loop-i-preserved
loop-i-preserved c =
    let device = c.args.device.now in
    let within : c.loop-i.i < length device.commands = omega (arith, c.loop-i-test.true, c.len-i-end.ensures.len) in
    elim c.match-entry_at.branch [
      | in-Some w ↦
          let at = command_at device.commands c.loop-i.i (entry_parts w.in-Some.entry.now) w.in-Some.ensures.entry in
          let here = w.count_of-count.ensures (get_or device.commands c.loop-i.i at.0) at.1 in
          let more = counted_more device c.loop-i.i at.0 within in
          omega (arith, c.loop-i.invariant, w.count-is)
      | in_default w ↦ absurd (some_command device.commands c.loop-i.i within w.in_default.ensures.entry)
    ]
