use Rattle.pmb_stats_objects.proofs.items.+put_bits.Given as goal

abbrev pub decreases-put_bits : goal.decreases-put_bits
decreases-put_bits g l = l.count
