-- Where a reader stands.
use Rattle.std.specs.Prelude.{ℕ, List}
use Rattle.pmb_bus.specs.declared.event.Event.{Event}
use Rattle.pmb_transaction.specs.Reading.{RefusalData}

-- Where a reader stands: n events came, and then those of the packet under way, if there are any
-- (`Open`); or n events came, and it holds the refusal of the next one (`Held`), or passes over
-- events up to and including the next STOP (`Passing`).
pub data Standing : Type 0 where
  Open : (n : ℕ) → (events : List Event) → Standing
  Held : (n : ℕ) → (refusal : RefusalData) → Standing
  Passing : (n : ℕ) → Standing
