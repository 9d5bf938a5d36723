use Rattle.pmb_stats_laws.proofs.laws.counts_of_pieces_add_up.Goals as goal

pub returns : goal.returns
returns c ignored profile after front back firsts others whole bus pieces =
    c.counts_are_of_what_is_said.ensures firsts others whole
    (c.pieces_say_the_same.ensures.said ignored profile after front back firsts others whole bus pieces)
