use Rattle.std.proofs.Common.{◌++◌}
use Rattle.pmb_stats_laws.proofs.Adding.{counts_add}
use Rattle.pmb_stats_laws.proofs.laws.told_counts_of_pieces_add_up.Goals as goal

pub returns : goal.returns
returns c ignored profile after front back firsts others whole bus pieces =
    counts_add firsts others whole
    (c.counts_of_pieces_add_up.ensures ignored profile after front back firsts others whole bus pieces)
    pieces.first.counts pieces.second.counts pieces.both.counts
    (c.counts_are_those_of_json.ensures ignored profile after front firsts pieces.first)
    (c.counts_are_those_of_json.ensures ignored profile after back others pieces.second)
    (c.counts_are_those_of_json.ensures ignored profile after (front ++ back) whole pieces.both)
