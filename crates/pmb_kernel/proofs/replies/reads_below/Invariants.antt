use Rattle.std.proofs.Common.{◌≡◌, ◌≤◌, take}
use Rattle.pmb_kernel.specs.Transfers.{reads_below}
use Rattle.pmb_kernel.proofs.replies.reads_below.Given as goal

-- those so far
abbrev pub invariant-loop-read : goal.invariant-loop-read
invariant-loop-read l = record {
  due : l.due ≡ reads_below l.value (take l.read-index l.reads);
  few : l.due ≤ l.read-index;
}
