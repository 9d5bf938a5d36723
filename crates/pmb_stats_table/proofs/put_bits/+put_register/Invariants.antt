use Rattle.pmb_stats_table.proofs.put_bits.+put_register.Given as goal

-- fewer bits
abbrev pub decreases-put_register : goal.decreases-put_register
decreases-put_register g l = l.count
