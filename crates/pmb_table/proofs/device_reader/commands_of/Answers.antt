use Rattle.pmb_table.proofs.device_reader.commands_of.Goals as goal

pub read_commands-requires-clause-accepted : goal.read_commands-requires-clause-accepted
read_commands-requires-clause-accepted c = c.in-Ok.ensures.accepted c.args.keys.now.pages
