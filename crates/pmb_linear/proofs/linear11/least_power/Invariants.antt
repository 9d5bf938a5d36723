use Rattle.std.proofs.Common.{◌≡◌, ◌*◌, ◌-◌, ◌^◌, ◌<◌}
use Rattle.pmb_format.specs.Steps.{steps_counted}
use Rattle.pmb_linear.specs.machine.Fields.{IsFarther}
use Rattle.pmb_linear.proofs.linear11.least_power.Given as goal

abbrev pub invariant-loop-power : goal.invariant-loop-power
invariant-loop-power l = record {
  passed : 0 < l.power → IsFarther l.target (l.denominator * 2 ^ (l.power - 1));
  count_is : l.steps ≡ steps_counted l.initial.steps l.power;
}
