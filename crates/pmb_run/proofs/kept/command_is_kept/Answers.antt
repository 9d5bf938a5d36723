use Rattle.pmb_command.specs.Entry.{entry_parts}
use Rattle.pmb_run.proofs.KeptParts.{command_kept, none_kept}
use Rattle.pmb_run.proofs.kept.command_is_kept.Goals as goal

pub returns-in-Some : goal.returns-in-Some
returns-in-Some c =
    command_kept c.args.device.now.commands c.args.index c.accepted_device.ensures.own_codes
    (entry_parts c.in-Some.entry.now) c.kind_keeps_ranges.ensures
    c.initials_are_small.ensures c.in-Some.ensures.entry

pub returns-in-None : goal.returns-in-None
returns-in-None c = none_kept c.args.device.now.commands c.args.index c.in-None.ensures.entry
