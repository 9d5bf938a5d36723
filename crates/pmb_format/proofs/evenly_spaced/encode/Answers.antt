use Rattle.std.proofs.Common.{arith}
use Rattle.pmb_format.proofs.evenly_spaced.encode.Goals as goal

pub returns-in-None-clause-steps : goal.returns-in-None-clause-steps
returns-in-None-clause-steps g c = record {
  steps = 1;
  at_least = omega arith;
  at_most = omega arith;
  count_is =
      c.nearest.ensures.steps;
}

pub returns-in-None-clause-some_step : goal.returns-in-None-clause-some_step
returns-in-None-clause-some_step g c = λ _. record {
  steps = 1;
  at_least = omega arith;
  at_most =
      omega arith;
  count_is = c.nearest.ensures.steps;
}
