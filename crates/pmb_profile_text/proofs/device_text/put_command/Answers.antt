use Rattle.std.proofs.Common.{◌≡◌, ◌∙◌, Some, option_map, ap, subst}
use Rattle.pmb_command.specs.Entry.{EntryParts, entry_parts}
use Rattle.pmb_command.specs.Parts.{CommandParts, command_with}
use Rattle.pmb_profile_text.proofs.Commands.{found_at}
use Rattle.pmb_profile_text.proofs.device_text.put_command.Goals as goal

-- The text is that of the command, which is the one with its code.
pub returns-clause-puts : goal.returns-clause-puts
returns-clause-puts g c = λ command is.
    let commands = c.args.device.now.commands in
    let known = c.in-Some.ensures.entry ∙ ap (option_map (λ (x : CommandParts). x.entry)) is in
    let same : command.entry ≡ entry_parts c.in-Some.entry.now = cc in
    let found = subst (λ (e : EntryParts). command_with e.code commands ≡ Some command) same
    (found_at commands c.args.index command c.accepted_device.ensures.own_codes is) in
    c.put_entry.ensures.puts command found same
