use Rattle.std.specs.Prelude.{length}
use Rattle.pmb_canonical.proofs.Fronts.{PutSoFar}
use Rattle.pmb_canonical.proofs.packet_bytes.PacketBytes.push_acked.Given as goal

-- what was put so far, and the text after it
abbrev pub invariant-loop-byte : goal.invariant-loop-byte
invariant-loop-byte l = PutSoFar l.fn.text l.fn.self.items l.len l.self-inside.places l.rest

abbrev pub decreases-loop-byte : goal.decreases-loop-byte
decreases-loop-byte l = length l.rest
