use Rattle.std.proofs.Common.{◌≡◌, [], length}
use Rattle.pmb_stats_bits.specs.Standing.{RegisterStandsAt}
use Rattle.pmb_stats_room.proofs.register.Register.new.Given as goal

abbrev pub invariant-loop-bit : goal.invariant-loop-bit
invariant-loop-bit l = record {
  long : length l.bits.items ≡ l._bit;
  unseen : RegisterStandsAt l.bits.items [];
}
