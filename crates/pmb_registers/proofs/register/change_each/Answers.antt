use Rattle.std.proofs.Common.{nat_eq}
use Rattle.pmb_registers.specs.Apply.{changed_one}
use Rattle.pmb_registers.specs.machine.Registers.{change_of, register_data}
use Rattle.pmb_registers.proofs.Changed.{changed_more}
use Rattle.pmb_registers.proofs.register.change_each.Goals as goal

pub loop-register-preserved : goal.loop-register-preserved
loop-register-preserved c =
    changed_more register_data (changed_one c.args.selected (nat_eq c.args.code) (change_of c.args.change.now))
    c.args.registers.now c.loop-register.registers c.loop-register.register-index c.register-item.result
    c.change.new.self
    c.loop-register-test.true c.loop-register.auto.registers c.loop-register.invariant c.change.ensures
