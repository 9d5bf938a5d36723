use Rattle.std.proofs.Common.{ℕ, codes, ap, arith}
use Rattle.pmb_log_data.proofs.Texts.{at_most, called, then}
use Rattle.pmb_stats_table.specs.Counts.{counted, counted_if}
use Rattle.pmb_stats_table.specs.Row.{after_gap, after_gaps}
use Rattle.pmb_stats_table.proofs.total.append_total.Goals as goal

-- one after the other
pub returns-clause-says : goal.returns-clause-says
returns-clause-says g c = λ facts stands.
    let packets = called (ap (λ (n : ℕ). after_gap (counted (codes "packets") n)) (c.packets.ensures facts stands))
    c.append_packets.ensures in
    let bad = called (ap (λ (n : ℕ). after_gaps (counted_if (codes "bad tokens") n))
    (c.bad_tokens.ensures facts stands))
    c.append_counted_if.ensures in
    at_most 920 (omega arith)
    (then (then (then (then (then c.append.ensures packets) (c.append_counts.ensures.says facts stands)) bad)
    c.append_times.ensures) c.append-2.ensures)
