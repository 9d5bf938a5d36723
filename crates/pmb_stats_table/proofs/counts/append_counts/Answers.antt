use Rattle.std.proofs.Common.{arith}
use Rattle.pmb_log_data.proofs.Texts.{at_most, then}
use Rattle.pmb_stats_table.proofs.counts.append_counts.Goals as goal

-- one after the other
pub returns-clause-says : goal.returns-clause-says
returns-clause-says g c = λ facts has.
    at_most 750 (omega arith)
    (then (then (then (then (then (then (c.append_sort.ensures.says facts has) (c.append_sort-2.ensures.says facts has))
    (c.append_sort-3.ensures.says facts has)) (c.append_sort-4.ensures.says facts has))
    (c.append_group.ensures.says facts has)) (c.append_group-2.ensures.says facts has))
    (c.append_sort-5.ensures.says facts has))
