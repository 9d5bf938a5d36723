-- The code, and the name, page and phase of a command that the device has.
use Rattle.pmb_keys.specs.CommandView.{command_parts}
use Rattle.pmb_json_objects.specs.Members.{entry_members}
use Rattle.pmb_json_objects.specs.Seen.{page_at, page_basis_at, phase_at}
use Rattle.pmb_json_objects.proofs.Commands.{no_command, no_device, the_command}
use Rattle.pmb_json_objects.proofs.Lists.{joined}
use Rattle.pmb_json_objects.proofs.members.append_command.Goals as goal

pub returns-in_default-clause-members : goal.returns-in_default-clause-members
returns-in_default-clause-members g c = λ known sees.
    let addr = c.args.addr in
    joined c.args.out.now.items _ _ c.append_byte.ensures.member
    (no_device c.append_byte.new.out.items known addr c.args.code
    (entry_members (page_at known addr) (page_basis_at known addr) (phase_at known addr)) (c.in_default.ensures known sees))

pub returns-in_default-command-clause-members : goal.returns-in_default-command-clause-members
returns-in_default-command-clause-members g c = λ known sees.
    let addr = c.args.addr in
    joined c.args.out.now.items _ _ c.append_byte.ensures.member
    (no_command c.append_byte.new.out.items known addr c.args.code
    (entry_members (page_at known addr) (page_basis_at known addr) (phase_at known addr)) c.in-Some.device.now (c.in-Some.ensures known sees)
    c.in_default-command.ensures)

pub returns-clause-members : goal.returns-clause-members
returns-clause-members g c = λ known sees.
    let addr = c.args.addr in
    joined c.args.out.now.items _ _ c.append_byte.ensures.member
    (the_command c.append_byte.new.out.items known addr c.args.code
    (entry_members (page_at known addr) (page_basis_at known addr) (phase_at known addr)) c.in-Some.device.now (c.in-Some.ensures known sees)
    (command_parts c.in-Some-command.command.now) c.in-Some-command.ensures (c.append_entry.ensures.members known sees))
