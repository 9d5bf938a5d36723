-- What a `Failing` is made of.
use Rattle.std.specs.Prelude.{ℕ, ◌-◌, Option, None, Some}
use Rattle.pmb_io.specs.declared.failing.Failing.{Failing}

-- the reader or writer inside
abbrev pub failing_inner : {T : Type 0} → Failing T → T
failing_inner it = it.inner

-- how many more calls go through before one fails; `None` for all of them
abbrev pub failing_left : {T : Type 0} → Failing T → Option ℕ
failing_left it = it.left

-- the most bytes that one read gives
abbrev pub failing_most : {T : Type 0} → Failing T → ℕ
failing_most it = it.most

-- how many calls failed
abbrev pub failing_failures : {T : Type 0} → Failing T → ℕ
failing_failures it = it.failures

-- A call more was made: one fewer goes through, and at none it stays.
abbrev pub one_call_fewer : Option ℕ → Option ℕ
one_call_fewer None = None
one_call_fewer (Some calls) = Some (calls - 1)
