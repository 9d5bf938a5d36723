-- What a tracker has become, and what a change told.
use Rattle.std.specs.Prelude.{false, ◌||◌, Option, List, [], ◌∷◌}
use Rattle.pmb_wires.specs.Changes.{after, changed, nothing}
use Rattle.pmb_wires.specs.Signals.{known_in, put_signal, signal_of}
use Rattle.pmb_wires.specs.declared.moment.Moment.{Moment}
use Rattle.pmb_wires.specs.declared.signal.Signal.{Signal}
use Rattle.pmb_wires.specs.declared.signal.Tracker.{Tracker}

pub record Told : Type 0 where
  pub now : Tracker
  pub told : Option Signal

abbrev pub unknown_yet : Tracker
unknown_yet = record { levels = nothing; is_known = false }

abbrev pub take_changed : Tracker → Moment → Told
take_changed t news = record {
  now = record {
    levels = after t.levels news;
    is_known = t.is_known || known_in (after t.levels news);
  };
  told = signal_of t.is_known t.levels (after t.levels news) news;
}

abbrev pub take : Tracker → Moment → Told
take t m = take_changed t (changed t.levels m)

-- what it tells of some moments
abbrev pub told_of : Tracker → List Moment → List Signal
told_of t [] = []
told_of t (m ∷ ms) = put_signal (take t m).told (told_of (take t m).now ms)
