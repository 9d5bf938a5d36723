use Rattle.std.proofs.Common.{◌≡◌, ◌++◌, take}
use Rattle.pmb_kernel.specs.Transfers.{written_bytes}
use Rattle.pmb_kernel.proofs.wire.push_written.Given as goal

-- those so far
abbrev pub invariant-loop-byte : goal.invariant-loop-byte
invariant-loop-byte l =
    l.wire.items ≡ l.initial.wire.items ++ written_bytes (take l.byte-index l.bytes)
