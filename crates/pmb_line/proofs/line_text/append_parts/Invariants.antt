use Rattle.std.proofs.Common.{◌≡◌, ◌≤◌, ◌+◌, ◌*◌, ◌++◌, take, length, map}
use Rattle.std.specs.List.{flat_map}
use Rattle.pmb_transaction.specs.Transaction.{part_data}
use Rattle.pmb_line.specs.machine.LineText.{behind}
use Rattle.pmb_line.proofs.Writings.{part_behind}
use Rattle.pmb_line.proofs.line_text.append_parts.Given as goal

-- the parts so far
abbrev pub invariant-loop-part : goal.invariant-loop-part
invariant-loop-part g l = record {
  text : l.out.items ≡ l.initial.out.items ++ behind (flat_map part_behind (map part_data (take l.part-index l.rest)));
  len : length l.out.items ≤ length l.fn.out.items + 775 + 777 * l.part-index;
}
