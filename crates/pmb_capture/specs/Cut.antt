-- A capture's text that is cut after a STOP.
use Rattle.std.specs.Prelude.{ℕ, ◌+◌, List}
use Rattle.pmb_bus.specs.declared.event.Event.{Event}
use Rattle.pmb_bus.specs.Text.{EndsBetween, Spells}
use Rattle.pmb_io.specs.Count.{capped}
use Rattle.pmb_io.specs.declared.tally.Tally.{Tally}
use Rattle.pmb_transaction.specs.Cut.{EndsWithStop}

-- A text that spells events, the last of which is STOP, and that ends inside no word and no
-- comment. One of such events that ends with LF is such a text.
pub record EndsAtCut (text : List ℕ) : Type 0 where
  pub events : List Event
  pub spells : Spells text events
  pub stop : EndsWithStop events
  pub between : EndsBetween text

-- the sums of the counts of two tallies, which stay at the greatest u64
abbrev pub sum_of : Tally → Tally → Tally
sum_of s t = record { packets = capped (s.packets + t.packets); refusals = capped (s.refusals + t.refusals) }
