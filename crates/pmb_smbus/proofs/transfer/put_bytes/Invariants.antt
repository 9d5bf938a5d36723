use Rattle.std.proofs.Common.{◌≡◌, ◌+◌, ◌++◌, length, take}
use Rattle.pmb_smbus.specs.Packets.{acknowledged}
use Rattle.pmb_smbus.proofs.transfer.put_bytes.Given as goal

-- the bytes so far
abbrev pub invariant-loop-byte : goal.invariant-loop-byte
invariant-loop-byte l = record {
  items : l.wire.items ≡ l.fn.wire.items ++ acknowledged (take l.byte-index l.bytes);
  longer : length l.wire.items ≡ length l.fn.wire.items + l.byte-index;
}
