use Rattle.std.proofs.Common.{◌≡◌, ◌++◌, ◌+◌, ◌*◌, length, take}
use Rattle.pmb_bus.specs.Event.{canonical_text}
use Rattle.pmb_writer.specs.machine.Legs.{behind_acks, code_on}
use Rattle.pmb_writer.proofs.text.append_each.Given as goal

-- the bytes so far are appended
abbrev pub invariant-loop-byte : goal.invariant-loop-byte
invariant-loop-byte g l = record {
  text_is : l.text.items ≡ l.fn.text.items ++ canonical_text (behind_acks (take l.byte-index l.fn.bytes));
  code_is : l.code ≡ code_on l.fn.crc (take l.byte-index l.fn.bytes);
  longer : length l.text.items ≡ length l.fn.text.items + 5 * l.byte-index;
}
