use Rattle.pmb_table.proofs.CommandMaps.{found_none, own_none}
use Rattle.pmb_table.proofs.command_map.CommandMap.with_capacity.Goals as goal

pub invariant_of-result : goal.invariant_of-result
invariant_of-result c = found_none c.in_ok-with_capacity.field-0.entries _ c.in_ok-with_capacity.ensures.empty

pub returns-clause-own_codes : goal.returns-clause-own_codes
returns-clause-own_codes c = own_none c.in_ok-with_capacity.field-0.entries c.in_ok-with_capacity.ensures.empty
