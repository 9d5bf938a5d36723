use Rattle.std.proofs.Common.{◌≡◌, ◌≤◌, ◌+◌, ◌*◌, ◌++◌, take}
use Rattle.pmb_bus.specs.Event.{canonical_text}
use Rattle.pmb_bus_session.proofs.log.Log.push_events.Given as goal

-- The text of the events so far comes after what was left, and took three bytes an event at most.
abbrev pub invariant-loop-event : goal.invariant-loop-event
invariant-loop-event l = record {
  left : l.self.left ≡ l.fn.self.left ++ canonical_text (take l.event-index l.events);
  taken : l.self.taken ≡ l.fn.self.taken;
  room : l.fn.self.room ≤ l.self.room + 3 * l.event-index;
}
