use Rattle.std.proofs.Common.{◌≡◌, ◌++◌}
use Rattle.pmb_draft.specs.Left.{lines_below}
use Rattle.pmb_draft.proofs.draft.put_lines.Given as goal

-- the lines of the addresses so far
abbrev pub invariant-loop-address : goal.invariant-loop-address
invariant-loop-address l = record {
  text : l.text.bytes.items ≡ l.fn.text.bytes.items ++ lines_below l.seen.acked l.seen.listed.items l.address;
}
