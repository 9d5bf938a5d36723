use Rattle.std.proofs.Common.{List, arith, slice_get, subst, sym, ◌≡◌, ℕ, Some}
use Rattle.pmb_stats_room.specs.declared.slot.Slot.{Slot}
use Rattle.pmb_stats_room.specs.machine.Slots.{IsFresh}
use Rattle.pmb_stats_room.proofs.Lists.{pushed}
use Rattle.pmb_stats_room.proofs.command_room.fresh_slots.Goals as goal

pub loop-place-preserved : goal.loop-place-preserved
loop-place-preserved c = record {
  long = omega (arith, c.in_ok-push.ensures.len, c.loop-place.invariant.long);
  each = subst (λ (slots : List Slot). (i : ℕ) (slot : Slot) → slice_get slots i ≡ Some slot
      → IsFresh c.args.kind slot) (sym c.in_ok-push.ensures.items)
      (pushed (λ i slot. IsFresh c.args.kind slot) c.loop-place.slots.items c.in_ok-new.field-0
      c.loop-place.invariant.each c.in_ok-new.ensures);
}
