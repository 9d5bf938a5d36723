use Rattle.std.proofs.Common.{refl}
use Rattle.pmb_fact_stream.specs.Before.{drop_line}
use Rattle.pmb_fact_stream.proofs.Standing.{begins_so}
use Rattle.pmb_fact_stream.proofs.stream.Stream.begin_anew.Goals as goal

pub returns-clause-begins : goal.returns-clause-begins
returns-clause-begins c b knows between =
    let known = c.clear.ensures.knows b knows in
    begins_so (drop_line b) _ between (record {
      places = known.places;
      word = known.word;
      count = known.count;
      late = c.drop_line.ensures _ _ b.past known.late;
      counts = known.counts;
      tally = known.tally;
    }) (record {
      said = c.clear.ensures.cleared.said;
      begun = c.clear.ensures.cleared.begun;
      front = c.clear.ensures.cleared.front;
    }) c.clear.ensures.fresh refl
    c.new-self.ensures c.new-self-2.ensures
