use Rattle.std.proofs.Common.{◌≡◌, ◌+◌, ◌*◌, ◌≤◌, length}
use Rattle.pmb_trace.specs.Fields.{bytes_up_to_closing}
use Rattle.pmb_trace.proofs.Bytes.{behind}
use Rattle.pmb_trace.proofs.fields.read_up_to_closing.Given as goal

-- the bytes so far, and room for those of the rest
abbrev pub invariant-loop-rest : goal.invariant-loop-rest
invariant-loop-rest l = record {
  bytes : bytes_up_to_closing l.text ≡ behind l.bytes.items (bytes_up_to_closing l.rest);
  room : 3 * length l.bytes.items + length l.rest ≤ 65540;
}

abbrev pub decreases-loop-rest : goal.decreases-loop-rest
decreases-loop-rest l = length l.rest
