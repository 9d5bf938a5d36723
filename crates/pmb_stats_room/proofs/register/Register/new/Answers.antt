use Rattle.std.proofs.Common.{List, [], subst, sym, arith}
use Rattle.pmb_stats_bits.specs.Standing.{BitStandsAt, RegisterStandsAt}
use Rattle.pmb_stats_bits.specs.declared.history.BitHistory.{BitHistory}
use Rattle.pmb_stats_room.proofs.Lists.{pushed}
use Rattle.pmb_stats_room.proofs.register.Register.new.Goals as goal

pub loop-bit-preserved : goal.loop-bit-preserved
loop-bit-preserved c = record {
  long = omega (arith, c.in_ok-push.ensures.len, c.loop-bit.invariant.long);
  unseen = subst (λ (bits : List BitHistory). RegisterStandsAt bits []) (sym c.in_ok-push.ensures.items)
      (pushed (λ bit history. BitStandsAt history [] bit) c.loop-bit.bits.items c.new.result
      c.loop-bit.invariant.unseen (c.new.ensures _));
}
