use Rattle.std.proofs.Common.{◌≡◌, ◌+◌, ◌++◌, Some, length, map}
use Rattle.std.specs.Prelude.{vec_capacity}
use Rattle.std.specs.List.{range_with_len}
use Rattle.pmb_command.specs.Parts.{CommandParts, command_with}
use Rattle.pmb_registers.specs.machine.Registers.{register_data}
use Rattle.pmb_registers.proofs.Beginning.{beginning, one_register}
use Rattle.pmb_registers.proofs.first.push_pages.Given as goal

-- the pages so far
abbrev pub invariant-loop-page : goal.invariant-loop-page
invariant-loop-page l = record {
  added : (command : CommandParts) → command_with l.code l.device.commands ≡ Some command
      → map register_data l.registers.items ≡ map register_data l.initial.registers.items
      ++ map (one_register l.code (beginning l.device command l.form)) (map Some (range_with_len 0 l.page));
  count : length l.registers.items ≡ length l.initial.registers.items + l.page;
  room : vec_capacity l.registers ≡ vec_capacity l.initial.registers;
}
