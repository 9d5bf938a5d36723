use Rattle.pmb_meaning.proofs.names.+push_names.Given as goal

-- fewer bits
abbrev pub decreases-push_names : goal.decreases-push_names
decreases-push_names l = l.bits
