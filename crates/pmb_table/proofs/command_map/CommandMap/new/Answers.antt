use Rattle.pmb_table.proofs.CommandMaps.{found_none, own_none}
use Rattle.pmb_table.proofs.command_map.CommandMap.new.Goals as goal

pub invariant_of-result : goal.invariant_of-result
invariant_of-result c = found_none c.new.result.entries _ c.new.ensures.empty

pub returns-clause-own_codes : goal.returns-clause-own_codes
returns-clause-own_codes c = own_none c.new.result.entries c.new.ensures.empty
