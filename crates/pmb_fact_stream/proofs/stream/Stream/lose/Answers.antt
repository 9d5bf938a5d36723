use Rattle.std.proofs.Common.{Bool, ◌++◌, subst, sym}
use Rattle.pmb_unknown_start.specs.Late.{HasSeen}
use Rattle.pmb_fact_stream.specs.Lost.{dropped_if}
use Rattle.pmb_fact_stream.specs.Stream.{stream_profile}
use Rattle.pmb_fact_stream.proofs.stream.Stream.lose.Goals as goal

-- PAGE, PHASE and VOUT_MODE are forgotten, and nothing else changes
pub returns-then-loses-clause-knows : goal.returns-then-loses-clause-knows
returns-then-loses-clause-knows c b knows =
    let stream = c.args.self.now in record {
      places = knows.places;
      word = knows.word;
      count = knows.count;
      late = subst
          (λ (loses : Bool). HasSeen c.drop_line.new.self (stream_profile stream) stream.choice.start
          (b.past ++ dropped_if loses))
          (sym c.if-loses.true) (c.drop_line.ensures _ _ b.past knows.late);
      counts = knows.counts;
      tally = knows.tally;
    }
