use Rattle.pmb_json.specs.Cut.{AreOfPieces}
use Rattle.pmb_stats_laws.proofs.Adding.{tally_adds}
use Rattle.pmb_stats_laws.proofs.laws.tallies_of_pieces_add_up.Goals as goal

pub returns : goal.returns
returns c choice profile after front back a b text s t tally bus cut first second both =
    let pieces : AreOfPieces choice.ignored profile after front back first.facts second.facts both.facts = record {
      cut = cut;
      first = record { bad = first.bad; counts = first.counts; from_first = first.from_first };
      second = record { bad = second.bad; counts = second.counts; from_first = second.from_first };
      both = record { bad = both.bad; counts = both.counts; from_first = both.from_first };
    } in
    tally_adds c.capped_counts_add_up.ensures first.counts second.counts both.counts s t tally
    (c.told_counts_of_pieces_add_up.ensures choice.ignored profile after front back first.facts second.facts both.facts
    bus pieces)
    first.tallied second.tallied both.tallied
