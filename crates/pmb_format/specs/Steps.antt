-- How many steps an encoder takes. A step is a turn of a loop or a division. The encoder's body
-- counts them itself, by a tick in each turn and at each division: these definitions say how far the
-- count is raised, and that no turn and no division lacks its tick is checked by reading the code.
use Rattle.std.specs.Prelude.{◌≡◌, ℕ, zero, suc, ◌+◌, ◌-◌, ◌^◌, ◌≤◌, min}

-- the most steps of an encoder
abbrev pub most_steps : ℕ
most_steps = 33

-- a count after so many steps more: it stays at the greatest u64
abbrev pub steps_counted : ℕ → ℕ → ℕ
steps_counted before zero = before
steps_counted before (suc more) = min (before + suc more) (2 ^ 64 - 1)

-- so many steps more at least, and so many at most
pub record TakesSteps (least most before after : ℕ) : Type 0 where
  pub steps : ℕ
  pub at_least : least ≤ steps
  pub at_most : steps ≤ most
  pub count_is : after ≡ steps_counted before steps
