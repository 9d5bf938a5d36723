-- What the last keys of a command's table say, as contracts see it.
use Rattle.std.specs.Prelude.{map, option_map}
use Rattle.pmb_keys.specs.CommandView.{bit_parts}
use Rattle.pmb_keys.specs.FurtherKeys.{FurtherKeys}
use Rattle.pmb_keys.specs.declared.further_keys.FurtherKeys.{FurtherKeys as CodeKeys}

abbrev pub further_parts : CodeKeys → FurtherKeys
further_parts f = record {
  unit = option_map (λ unit. unit.bytes) f.unit;
  bits = map bit_parts f.bits.items;
  phased = f.phased;
}
