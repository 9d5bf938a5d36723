use Rattle.std.proofs.Common.{◌≤◌, ◌-◌, List, ◌++◌, length, take}
use Rattle.pmb_bus.specs.declared.event.Event.{Event}
use Rattle.pmb_command.specs.Parts.{DeviceParts}
use Rattle.pmb_count.specs.Counter.{HasCounted, IsCounting}
use Rattle.pmb_count.proofs.pieces.Counter.feed.Given as goal

-- the events so far are counted
abbrev pub invariant-loop-at : goal.invariant-loop-at
invariant-loop-at l = record {
  within : l.at ≤ length l.piece;
  counting : IsCounting l.self;
  counted : (profile : List DeviceParts) (events : List Event) → HasCounted profile l.initial.self events
      → HasCounted profile l.self (events ++ take l.at l.piece);
}

abbrev pub decreases-loop-at : goal.decreases-loop-at
decreases-loop-at l = length l.piece - l.at
