use Rattle.std.proofs.Common.{◌≡◌, ◌%◌, ◌∷◌, take}
use Rattle.pmb_bus.specs.Address.{write_address}
use Rattle.pmb_bus.specs.Pec.{pec}
use Rattle.pmb_log_data.proofs.whole.leg_code.Given as goal

-- the code of the address and the bytes so far
abbrev pub invariant-loop-byte : goal.invariant-loop-byte
invariant-loop-byte l = l.code ≡ pec (write_address l.fn.addr % 256 ∷ take l.byte-index l.bytes)
