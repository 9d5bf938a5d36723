use Rattle.std.proofs.Common.{◌∙◌, ap, map}
use Rattle.pmb_table.specs.machine.CommandMap.{commands_view, bare_command}
use Rattle.pmb_table.proofs.CommandMaps.{bare_parts, found_copy}
use Rattle.pmb_table.proofs.command_map.CommandMap.bare.Goals as goal

pub invariant_of-result : goal.invariant_of-result
invariant_of-result c = found_copy c.self.inside.commands.entries c.in_ok-commands.commands.entries c.self.inside.places
    c.self.invariant c.in_ok-commands.ensures

pub returns : goal.returns
returns c = ap commands_view c.in_ok-commands.ensures ∙ bare_parts c.self.inside.commands.entries
    ∙ ap (map bare_command) c.self.view_is
