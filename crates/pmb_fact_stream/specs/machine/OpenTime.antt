-- What is kept of the time of what is under way.
use Rattle.std.specs.Prelude.{◌≡◌, ℕ, Bool, true, false, Option, List, [], ◌∷◌, ◌++◌, option_map}
use Rattle.pmb_bus.specs.declared.event.Event.{Event}
use Rattle.pmb_times.specs.Text.{time_at}
use Rattle.pmb_fact_stream.specs.declared.open_time.OpenTime.{OpenTime}
use Rattle.pmb_fact_stream.specs.UnderWay.{open_time, under_way, up_to_stop}

abbrev pub kept_time : OpenTime → Option (List ℕ)
kept_time kept = option_map (λ time. time.items) kept.time

-- whether there are events
abbrev pub are_some : List Event → Bool
are_some [] = false
are_some (event ∷ events) = true

-- After events that a text spells: the time of what is under way, whatever follows.
pub record KeepsTime (kept : OpenTime) (text : List ℕ) (events : List Event) : Type 0 where
  pub is_open : kept.is_open ≡ are_some (under_way events)
  pub time : (more : List ℕ) → kept_time kept ≡ open_time (text ++ more) events

-- Before the event that comes after these, and with whose word the text ends: the time of the first
-- event that is no earlier than the last STOP.
pub record HasTime (kept : OpenTime) (text : List ℕ) (events : List Event) : Type 0 where
  pub is_open : kept.is_open ≡ true
  pub time : (more : List ℕ) → kept_time kept ≡ time_at (text ++ more) (up_to_stop events)
