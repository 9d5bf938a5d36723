use Rattle.std.proofs.Common.{◌≡◌, take}
use Rattle.pmb_bus.specs.Pec.{pec}
use Rattle.pmb_bus.proofs.pec.pec_of.Given as goal

-- the code of the bytes so far
abbrev pub invariant-loop-byte : goal.invariant-loop-byte
invariant-loop-byte l = l.crc ≡ pec (take l.byte-index l.bytes)
