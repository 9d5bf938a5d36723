use Rattle.std.proofs.Common.{[], refl, ap}
use Rattle.pmb_run.proofs.runner.Runner.new.Goals as goal

pub returns-clause-begins : goal.returns-clause-begins
returns-clause-begins c = record {
  same = refl;
  answered = record {
    given = record { answers = []; each = tt; whole = refl };
    counts = record {
      packets_counted = ap (λ t. t.packets) c.new.ensures;
      refusals_counted =
          ap (λ t. t.refusals) c.new.ensures;
    };
  };
  number = refl;
  stands = c.requires;
}
