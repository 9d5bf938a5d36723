use Rattle.std.proofs.Common.{option_map}
use Rattle.pmb_stats_bits.specs.machine.Seeing.{IsSeenTo}
use Rattle.pmb_stats_bits.proofs.register.see_word.Given as goal

abbrev pub invariant-loop-bit : goal.invariant-loop-bit
invariant-loop-bit l =
    IsSeenTo l.initial.bits l.bits (record { word = l.word; time = option_map (λ time. time.now) l.time }) l.bit
