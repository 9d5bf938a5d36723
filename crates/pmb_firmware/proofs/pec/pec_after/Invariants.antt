use Rattle.std.proofs.Common.{◌≡◌, take, ℕ, List, ◌++◌}
use Rattle.pmb_bus.specs.Pec.{pec}
use Rattle.pmb_firmware.proofs.pec.pec_after.Given as goal

-- the code of the bytes before and those so far
abbrev pub invariant-loop-byte : goal.invariant-loop-byte
invariant-loop-byte l = (before : List ℕ) → pec before ≡ l.crc → l.code ≡ pec (before ++ take l.byte-index l.bytes)
