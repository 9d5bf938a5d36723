use Rattle.std.proofs.Common.{◌≡◌, ◌<◌, ℕ, List}
use Rattle.pmb_stats_bits.specs.Bits.{RegisterRead, set_count}
use Rattle.pmb_stats_bits.specs.Standing.{RegisterStandsAt}
use Rattle.pmb_stats_objects.proofs.items.has_bit.Given as goal

-- none of the bits so far was read set
abbrev pub invariant-loop-history : goal.invariant-loop-history
invariant-loop-history l = record {
  none : (reads : List RegisterRead) → RegisterStandsAt l.bits reads → (bit : ℕ) → bit < l.history-index
      → set_count reads bit ≡ 0;
}
