use Rattle.std.proofs.Common.{◌+◌, ◌++◌, subst, sym, ◌∙◌}
use Rattle.pmb_fact_stream.specs.Lost.{dropped_if}
use Rattle.pmb_fact_stream.specs.machine.OpenTime.{HasTime}
use Rattle.pmb_fact_stream.proofs.stream.Stream.pass_over.Goals as goal

pub returns-clause-knows : goal.returns-clause-knows
returns-clause-knows c b knows =
    let past = b.past ++ dropped_if c.args.writes.has_write in
    let there = c.clear.ensures.knows (record b { n = b.n + 1; past = past })
    (c.count_event.ensures.knows (record b { past = past }) (c.lose.ensures.knows b knows)) in record {
      places = there.places;
      word = there.word;
      count = there.count;
      late = there.late;
      counts = there.counts;
      tally = there.tally;
    }

pub returns-clause-time : goal.returns-clause-time
returns-clause-time c text events has =
    c.take.ensures text events (subst (λ t. HasTime t text events)
    (sym (c.clear.ensures.times.time ∙ c.count_event.ensures.times.time ∙ c.lose.ensures.times.time)) has)
