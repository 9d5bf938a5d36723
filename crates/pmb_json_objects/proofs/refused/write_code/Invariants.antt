use Rattle.std.proofs.Common.{◌≡◌, ◌<◌, ◌∷◌, take}
use Rattle.pmb_bus.specs.Address.{write_address}
use Rattle.pmb_bus.specs.Pec.{pec}
use Rattle.pmb_json_objects.proofs.refused.write_code.Given as goal

-- the code of the address and the bytes so far
abbrev pub invariant-loop-byte : goal.invariant-loop-byte
invariant-loop-byte l = l.fn.addr < 128 → l.code ≡ pec (write_address l.fn.addr ∷ take l.byte-index l.bytes)
