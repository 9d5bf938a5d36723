use Rattle.std.proofs.Common.{◌∙◌, List, length, map, set, ap, arith, subst, sym}
use Rattle.std.proofs.lemmas.List.{length-map}
use Rattle.pmb_command.specs.Parts.{command_with}
use Rattle.pmb_registers.specs.declared.register_range.RegisterRange.{RegisterRange}
use Rattle.pmb_registers.specs.State.{RegisterData}
use Rattle.pmb_registers.specs.machine.Registers.{register_data}
use Rattle.pmb_registers.specs.machine.Places.{ArePlaces, registers_of_some}
use Rattle.pmb_registers.proofs.Beginning.{of_no_other, placed_more}
use Rattle.pmb_registers.proofs.first.add_registers.Goals as goal

pub returns-clause-placed : goal.returns-clause-placed
returns-clause-placed c =
    let device = c.args.device.now in
    let before = c.args.registers.now in
    let after = c.push_registers.new.registers in
    let added = c.push_registers.ensures.added in
    let place : RegisterRange = record { start = c.len-start.result; end = c.len.result } in
    let placed = placed_more c.args.code place c.args.places.now (map register_data before.items)
    (registers_of_some device (command_with c.args.code device.commands))
    c.requires.placed c.requires.none_yet (of_no_other device c.args.code) (omega (arith, c.told-places))
    (c.len-start.ensures ∙ before.ok.0 ∙ sym (length-map before.items register_data))
    (c.len.ensures ∙ after.ok.0 ∙ sym (length-map after.items register_data)
    ∙ ap (λ (rs : List RegisterData). length rs) added) in
    subst (λ (rs : List RegisterData). ArePlaces (set c.args.places.now c.args.code place) rs) (sym added) placed
