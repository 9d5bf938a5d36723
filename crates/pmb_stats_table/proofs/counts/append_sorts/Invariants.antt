use Rattle.std.proofs.Common.{◌≡◌, ◌*◌, ◌+◌, ◌≤◌, codes, length, take, List}
use Rattle.std.specs.List.{flat_map}
use Rattle.pmb_facts.specs.Fact.{FactData}
use Rattle.pmb_json_text.specs.declared.item_order.ItemOrder.TheVariants.{First}
use Rattle.pmb_json_text.specs.Member.{place_after}
use Rattle.pmb_log_data.specs.Appends.{Appends}
use Rattle.pmb_log_data.specs.Text.{joined}
use Rattle.pmb_stats_table.specs.Counts.{sort_words}
use Rattle.pmb_stats_table.proofs.counts.append_sorts.Given as goal

-- the counts of the sorts so far, and the place after them
abbrev pub invariant-loop-sort : goal.invariant-loop-sort
invariant-loop-sort g l = record {
  says : (facts : List FactData) → g.C.Counted.HasCounted l.counts facts
      → Appends (joined (codes ", ") First (flat_map (sort_words facts) (take l.sort-index l.sorts)))
      (37 * l.sort-index) l.fn.out.items l.out.items;
  place : (facts : List FactData) → g.C.Counted.HasCounted l.counts facts
      → l.place ≡ place_after First (flat_map (sort_words facts) (take l.sort-index l.sorts));
  longer : length l.out.items ≤ length l.fn.out.items + 37 * l.sort-index;
}
