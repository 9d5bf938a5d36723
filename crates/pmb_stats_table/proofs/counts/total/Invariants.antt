use Rattle.std.proofs.Common.{◌≡◌, take, List}
use Rattle.pmb_facts.specs.Fact.{FactData}
use Rattle.pmb_stats_table.specs.Counts.{total}
use Rattle.pmb_stats_table.proofs.counts.total.Given as goal

-- the total of the sorts so far
abbrev pub invariant-loop-sort : goal.invariant-loop-sort
invariant-loop-sort g l =
    (facts : List FactData) → g.C.Counted.HasCounted l.counts facts → l.total ≡ total facts (take l.sort-index l.sorts)
