use Rattle.std.proofs.Common.{◌≡◌, ◌*◌, ◌≤◌, List, length, take}
use Rattle.pmb_facts.specs.Fact.{FactData}
use Rattle.pmb_json_text.specs.declared.item_order.ItemOrder.TheVariants.{First}
use Rattle.pmb_json_text.specs.Member.{members_text, place_after}
use Rattle.pmb_stats_objects.specs.Counts.{reason_members, reasons}
use Rattle.pmb_stats_objects.proofs.counts.refusals.Given as goal

-- the reasons so far
abbrev pub invariant-loop-reason : goal.invariant-loop-reason
invariant-loop-reason g l = record {
  text : (facts : List FactData) → g.C.Counter.Given l.counts facts
      → l.out.items ≡ members_text First (reason_members facts (take l.reason-index reasons));
  place_is : (facts : List FactData) → g.C.Counter.Given l.counts facts
      → l.place ≡ place_after First (reason_members facts (take l.reason-index reasons));
  short : length l.out.items ≤ 40 * l.reason-index;
}
