-- The events of one message.
use Rattle.std.specs.Prelude.{◌≡◌, ℕ, ◌≤◌, List, length}
use Rattle.pmb_bus.specs.declared.event.Event.{Event}

-- the most events of one message of 8,192 bytes: START, each byte with its ACK or NACK, and STOP
abbrev pub most_events : ℕ
most_events = 16388

-- What a tape heard is on it, as long as that is no more.
abbrev pub HasTaped : List Event → List Event → Type 0
HasTaped tape heard = length heard ≤ most_events → tape ≡ heard
