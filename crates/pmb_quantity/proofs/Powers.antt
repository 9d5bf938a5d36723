-- The table of powers of five, `POWERS_OF_FIVE`, computed as a whole and read for each: for
-- `power_of_five`.
use Rattle.std.proofs.Common.{◌≡◌, ℕ, ◌^◌, ◌≤◌, true, ◌==◌, get_or, refl, sym, arith}
use Rattle.std.proofs.lemmas.Bool.{agree_below, agree_below_at, eqb-true}
use Rattle.pmb_quantity.specs.declared.quantity.TheConstants.{POWERS_OF_FIVE}

table_is_right : agree_below (λ k. 5 ^ k == get_or POWERS_OF_FIVE k 0) (λ k. true) 19 ≡ true
table_is_right = refl

pub power_read : (k : ℕ) → k ≤ 18 → get_or POWERS_OF_FIVE k 0 ≡ 5 ^ k
power_read k few =
    sym (eqb-true (5 ^ k) (get_or POWERS_OF_FIVE k 0)
    (agree_below_at (λ k. 5 ^ k == get_or POWERS_OF_FIVE k 0) (λ k. true) 19 k table_is_right (omega arith)))
