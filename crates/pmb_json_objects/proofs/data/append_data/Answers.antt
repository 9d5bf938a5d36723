-- What is said of the data of a command that the device has, or nothing.
use Rattle.pmb_keys.specs.CommandView.{command_parts}
use Rattle.pmb_json_objects.specs.Packets.{data_of}
use Rattle.pmb_json_objects.proofs.Commands.{no_command, no_device, the_command}
use Rattle.pmb_json_objects.proofs.data.append_data.Goals as goal

pub returns-in_default-clause-members : goal.returns-in_default-clause-members
returns-in_default-clause-members g c = λ known sees.
    no_device c.args.out.now.items known c.args.addr c.args.code
    (data_of known c.args.access c.args.addr c.args.bytes.now) (c.in_default.ensures known sees)

pub returns-in_default-command-clause-members : goal.returns-in_default-command-clause-members
returns-in_default-command-clause-members g c = λ known sees.
    no_command c.args.out.now.items known c.args.addr c.args.code
    (data_of known c.args.access c.args.addr c.args.bytes.now) c.in-Some.device.now
    (c.in-Some.ensures known sees) c.in_default-command.ensures

pub returns-clause-members : goal.returns-clause-members
returns-clause-members g c = λ known sees.
    the_command c.args.out.now.items known c.args.addr c.args.code
    (data_of known c.args.access c.args.addr c.args.bytes.now) c.in-Some.device.now
    (c.in-Some.ensures known sees) (command_parts c.in-Some-command.command.now) c.in-Some-command.ensures
    (c.append_data_of.ensures.members known sees)
