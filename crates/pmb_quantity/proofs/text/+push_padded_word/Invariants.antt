use Rattle.pmb_quantity.proofs.text.+push_padded_word.Given as goal

abbrev pub decreases-push_padded_word : goal.decreases-push_padded_word
decreases-push_padded_word l = l.places
