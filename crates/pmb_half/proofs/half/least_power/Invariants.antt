use Rattle.std.proofs.Common.{◌≡◌, ◌*◌, ◌-◌, ◌^◌, ◌<◌, ◌≤◌}
use Rattle.pmb_format.specs.Steps.{steps_counted}
use Rattle.pmb_half.proofs.half.least_power.Given as goal

abbrev pub invariant-loop-power : goal.invariant-loop-power
invariant-loop-power l = record {
  passed : 0 < l.power → 2048 * (l.denominator * 2 ^ (l.power - 1)) ≤ l.size;
  count_is : l.steps ≡ steps_counted l.initial.steps l.power;
}
