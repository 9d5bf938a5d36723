use Rattle.std.proofs.Common.{ℕ, ◌+◌, take, ap, ◌∙◌}
use Rattle.pmb_io.specs.Count.{capped}
use Rattle.pmb_stats_counts.specs.declared.sort.Sort.TheVariants.{Writes}
use Rattle.pmb_stats_table.specs.Counts.{count, total}
use Rattle.pmb_stats_table.proofs.Sums.{sum_more}
use Rattle.pmb_stats_table.proofs.counts.total.Goals as goal

-- one count more
pub loop-sort-preserved : goal.loop-sort-preserved
loop-sort-preserved g c = λ facts has.
    c.saturating_add-total.ensures
    ∙ ap (λ (n : ℕ). capped (n + c.count_of.result)) (c.loop-sort.invariant facts has)
    ∙ ap (λ (n : ℕ). capped (total facts (take c.loop-sort.sort-index c.args.sorts.now) + n))
    (c.count_of.ensures facts has)
    ∙ sum_more (count facts) c.args.sorts.now c.loop-sort.sort-index Writes c.loop-sort-test.true
