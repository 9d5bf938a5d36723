use Rattle.std.proofs.Common.{arith}
use Rattle.pmb_log_data.proofs.Texts.{at_most, then}
use Rattle.pmb_stats_counts.specs.Counts.{of_device}
use Rattle.pmb_stats_table.proofs.head.append_head.Goals as goal

pub returns-clause-says : goal.returns-clause-says
returns-clause-says g c = λ facts has.
    at_most 800 (omega arith)
    (then c.append_first_line.ensures (c.append_second_line.ensures.says (of_device c.args.addr facts) has))
