use Rattle.std.proofs.Common.{ℕ, get_or, arith, bit_or}
use Rattle.std.proofs.lemmas.List.{get_or_default}
use Rattle.std.proofs.lemmas.List.Edits.{map_over_more}
use Rattle.pmb_registers.proofs.bits.set_in_each.Goals as goal

pub loop-byte-preserved : goal.loop-byte-preserved
loop-byte-preserved c =
    map_over_more (λ (byte : ℕ). bit_or byte c.args.mask) c.args.bytes.now c.loop-byte.bytes c.loop-byte.byte-index
    (get_or c.loop-byte.bytes c.loop-byte.byte-index 0) c.loop-byte-test.true c.loop-byte.invariant
    (get_or_default c.loop-byte.bytes c.loop-byte.byte-index 0 (get_or c.loop-byte.bytes c.loop-byte.byte-index 0)
    (omega arith))
