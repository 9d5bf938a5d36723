use Rattle.pmb_mean.proofs.decimal.+append_padded.Given as goal

abbrev pub decreases-append_padded : goal.decreases-append_padded
decreases-append_padded g l = l.places
