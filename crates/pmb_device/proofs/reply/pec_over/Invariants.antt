use Rattle.std.proofs.Common.{◌≡◌, ◌++◌, ℕ, List, take}
use Rattle.pmb_bus.specs.Pec.{pec}
use Rattle.pmb_device.proofs.reply.pec_over.Given as goal

-- the code of the bytes so far
abbrev pub invariant-loop-byte : goal.invariant-loop-byte
invariant-loop-byte l = (front : List ℕ) → pec front ≡ l.so_far → l.crc ≡ pec (front ++ take l.byte-index l.bytes)
