use Rattle.pmb_stats_counts.proofs.faults.+has_fault_bit.Given as goal

abbrev pub decreases-has_fault_bit : goal.decreases-has_fault_bit
decreases-has_fault_bit l = l.bits
