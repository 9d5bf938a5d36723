use Rattle.pmb_mean.proofs.decimal.+append_digits.Given as goal

abbrev pub decreases-append_digits : goal.decreases-append_digits
decreases-append_digits g l = l.places
