use Rattle.std.proofs.Common.{◌≡◌, ◌∙◌, ◌++◌, ◌+◌, List, Option, Some, get_or, length, map, take, ap, arith, subst, sym}
use Rattle.std.proofs.lemmas.List.{length-map}
use Rattle.std.proofs.lemmas.List.Folds.{length-flat_map-take}
use Rattle.std.specs.List.{flat_map}
use Rattle.pmb_command.specs.Entry.{EntryParts, entry_parts}
use Rattle.pmb_command.specs.Parts.{CommandParts, command_with}
use Rattle.pmb_registers.specs.State.{RegisterData, registers_of}
use Rattle.pmb_registers.specs.machine.Registers.{register_data}
use Rattle.pmb_registers.specs.machine.Places.{NoneHas, registers_of_some}
use Rattle.pmb_registers.proofs.Beginning.{command_at, found_at, none_so_far, one_command_more, some_command}
use Rattle.pmb_registers.proofs.first.add_command.Goals as goal

pub add_registers-requires-clause-none_yet : goal.add_registers-requires-clause-none_yet
add_registers-requires-clause-none_yet c =
    let device = c.args.device.now in
    let at = command_at device.commands c.args.index (entry_parts c.in-Some.entry.now) c.in-Some.ensures.entry in
    let none = none_so_far device c.args.index at.0 c.accepted_device.ensures.own_codes c.requires.within in
    subst (NoneHas c.in-Some.entry.now.code) (sym c.requires.before)
    (subst (λ (e : EntryParts). NoneHas e.code (flat_map (registers_of device) (take c.args.index device.commands)))
    at.1 none)

-- the registers so far and those of the command are some of all
pub add_registers-requires-clause-room : goal.add_registers-requires-clause-room
add_registers-requires-clause-room c =
    let device = c.args.device.now in
    let at = command_at device.commands c.args.index (entry_parts c.in-Some.entry.now) c.in-Some.ensures.entry in
    let part = length-flat_map-take (registers_of device) device.commands c.args.index at.0 c.requires.within in
    let found : command_with c.in-Some.entry.now.code device.commands ≡ Some (get_or device.commands c.args.index at.0) =
    subst (λ (e : EntryParts). command_with e.code device.commands ≡ Some (get_or device.commands c.args.index at.0))
    at.1 (found_at device.commands c.args.index at.0 c.accepted_device.ensures.own_codes c.requires.within) in
    let own : length (registers_of_some device (command_with c.in-Some.entry.now.code device.commands))
    ≡ length (registers_of device (get_or device.commands c.args.index at.0)) =
    ap (λ (o : Option CommandParts). length (registers_of_some device o)) found in
    let so_far : length c.args.registers.now.items
    ≡ length (flat_map (registers_of device) (take c.args.index device.commands)) =
    sym (length-map c.args.registers.now.items register_data)
    ∙ ap (λ (rs : List RegisterData). length rs) c.requires.before in
    omega (arith, c.requires.room)

pub returns-in-Some-clause-added : goal.returns-in-Some-clause-added
returns-in-Some-clause-added c =
    let device = c.args.device.now in
    let at = command_at device.commands c.args.index (entry_parts c.in-Some.entry.now) c.in-Some.ensures.entry in
    let more = one_command_more device c.args.index at.0 c.accepted_device.ensures.own_codes c.requires.within in
    let so_far = flat_map (registers_of device) (take c.args.index device.commands) in
    let added = map register_data c.args.registers.now.items
    ++ registers_of_some device (command_with c.in-Some.entry.now.code device.commands) in
    let all = flat_map (registers_of device) (take (c.args.index + 1) device.commands) in
    let are : added ≡ all =
    ap (λ (rs : List RegisterData). rs ++ registers_of_some device
    (command_with c.in-Some.entry.now.code device.commands)) c.requires.before
    ∙ ap (λ (e : EntryParts). so_far ++ registers_of_some device (command_with e.code device.commands)) (sym at.1)
    ∙ more in
    subst (λ (rs : List RegisterData). map register_data c.add_registers.new.registers.items ≡ rs) are
    c.add_registers.ensures.added

pub returns-in_default-clause-added : goal.returns-in_default-clause-added
returns-in_default-clause-added c = absurd (some_command c.args.device.now.commands c.args.index c.requires.within
    c.in_default.ensures.entry)
