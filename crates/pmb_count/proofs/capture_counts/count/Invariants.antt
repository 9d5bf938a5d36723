use Rattle.std.proofs.Common.{List, take}
use Rattle.pmb_transaction.specs.Reading.{Outcome}
use Rattle.pmb_reader.specs.Reading.{AnyEvent, HasRead}
use Rattle.pmb_count.specs.Count.{IsCountOf}
use Rattle.pmb_count.proofs.capture_counts.count.Given as goal

-- what was read of the events so far is counted
abbrev pub invariant-loop-event : goal.invariant-loop-event
invariant-loop-event l =
    (outcomes : List Outcome) × HasRead l.profile l.reader (take l.event-index l.events) AnyEvent outcomes
    × IsCountOf l.so_far outcomes
