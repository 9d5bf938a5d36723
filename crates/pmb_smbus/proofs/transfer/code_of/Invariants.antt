use Rattle.std.proofs.Common.{◌≡◌, map, take}
use Rattle.pmb_bus.specs.Pec.{pec}
use Rattle.pmb_smbus.specs.Packets.{byte_of}
use Rattle.pmb_smbus.proofs.transfer.code_of.Given as goal

-- the code of the bytes so far
abbrev pub invariant-loop-b : goal.invariant-loop-b
invariant-loop-b l = l.code ≡ pec (map byte_of (take l.b-index l.wire))
