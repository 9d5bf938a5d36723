use Rattle.pmb_log_data.proofs.bits.+append_set_bits.Given as goal

-- fewer bits
abbrev pub decreases-append_set_bits : goal.decreases-append_set_bits
decreases-append_set_bits g l = l.bits
