use Rattle.std.proofs.Common.{ap, refl}
use Rattle.pmb_fact_stream.specs.Before.{at_first}
use Rattle.pmb_fact_stream.proofs.Standing.{begins_so}
use Rattle.pmb_fact_stream.proofs.stream.Stream.new.Goals as goal

pub returns-clause-begins : goal.returns-clause-begins
returns-clause-begins c =
    begins_so at_first _ (refl, refl) (record {
      places = c.new-4.ensures;
      word = c.new-5.ensures;
      count = refl;
      late = c.new.ensures;
      counts = c.new-2.ensures;
      tally = record {
        packets_counted = ap (λ tally. tally.packets) c.new-3.ensures;
        refusals_counted = ap (λ tally. tally.refusals) c.new-3.ensures;
      };
    }) (record { said = c.new-8.ensures; begun = c.new-9.ensures; front = refl }) c.new-10.ensures refl
    c.new-6.ensures c.new-7.ensures
