-- Counts of steps: one more step, where the count stays at the greatest u64. For
-- `nearest` of LINEAR11, in pmb_linear, which counts its steps up and down the powers of two.
use Rattle.std.proofs.Common.{◌≡◌, ℕ, zero, suc, ◌+◌, ◌-◌, ◌^◌, min, ap, ◌∙◌, arith}
use Rattle.pmb_format.specs.Steps.{steps_counted}

-- one step after others
pub one_more : (before steps now after : ℕ) → now ≡ steps_counted before steps → after ≡ min (now + 1) (2 ^ 64 - 1)
    → after ≡ steps_counted before (steps + 1)
one_more before zero now after now_is after_is = omega arith
one_more before (suc more) now after now_is after_is =
    let plain : after ≡ min (before + suc (suc more)) (2 ^ 64 - 1) = omega arith in
    let one : suc (suc more) ≡ suc more + 1 = omega arith in
    plain ∙ ap (steps_counted before) one
