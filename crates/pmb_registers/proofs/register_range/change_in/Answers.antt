use Rattle.pmb_registers.specs.machine.Registers.{change_of}
use Rattle.pmb_registers.proofs.Places.{changed_in_place}
use Rattle.pmb_registers.proofs.register_range.change_in.Goals as goal

pub returns : goal.returns
returns c =
    changed_in_place c.args.code c.args.selected (change_of c.args.change.now) c.args.place c.args.registers.now
    c.change_each.new.registers c.requires.place c.change_each.ensures
