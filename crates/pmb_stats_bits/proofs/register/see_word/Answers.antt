use Rattle.std.proofs.Common.{arith, get_or, refl}
use Rattle.std.proofs.lemmas.Option.{slice_get-get_or, slice_get_within}
use Rattle.pmb_stats_bits.proofs.Slots.{all_seen, one_more}
use Rattle.pmb_stats_bits.proofs.register.see_word.Goals as goal

pub loop-bit-preserved : goal.loop-bit-preserved
loop-bit-preserved c =
    one_more c.args.bits.now c.loop-bit.bits _ c.loop-bit.bit
    (get_or c.loop-bit.bits c.loop-bit.bit c.index-bits-bit.result) c.see.new.self c.loop-bit.invariant
    (slice_get-get_or c.loop-bit.bits c.loop-bit.bit c.index-bits-bit.result (omega arith))
    (λ reads stands. c.see.ensures reads _ c.loop-bit.bit stands c.is_set.ensures refl)

pub returns : goal.returns
returns c reads stands =
    all_seen c.args.bits.now c.loop-bit.bits _ c.loop-bit.bit c.loop-bit.invariant
    (λ bit history at. omega (arith, slice_get_within c.loop-bit.bits bit history at)) reads stands
