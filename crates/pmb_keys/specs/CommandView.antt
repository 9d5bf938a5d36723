-- What contracts see of a command that a table tells.
use Rattle.std.specs.Prelude.{[], map, option_map, unwrap_or}
use Rattle.pmb_command.specs.Entry.{entry_parts}
use Rattle.pmb_command.specs.Parts.{CommandParts, InitialParts, NamedBit, Same, Each}
use Rattle.pmb_keys.specs.declared.command.Command.{Command}
use Rattle.pmb_keys.specs.declared.command.Initial.{Initial}
use Rattle.pmb_keys.specs.declared.command.NamedBit.{NamedBit as CodeBit}
use Rattle.pmb_keys.specs.declared.command.Initial.TheVariants.{Same as SameVec, Each as EachVec}

-- what a register begins with
abbrev pub initial_parts : Initial → InitialParts
initial_parts (SameVec bytes) = Same bytes.items
initial_parts (EachVec items) = Each (map (λ v. v.items) items.items)

-- a named bit
abbrev pub bit_parts : CodeBit → NamedBit
bit_parts b = record { bit = b.bit; name = b.name.bytes }

abbrev pub command_parts : Command → CommandParts
command_parts c = record {
  entry = entry_parts c.entry;
  initial = option_map initial_parts c.initial;
  unit = option_map (λ unit. unit.bytes) c.unit;
  bits = unwrap_or (option_map (λ bits. map bit_parts bits.items) c.bits) [];
  phased = c.phased;
}
