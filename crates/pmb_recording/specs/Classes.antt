-- The four classes of the lines of a recording.
use Rattle.std.specs.Prelude.{true, false, Bool}

-- Each line is one of these.
pub data LineClass : Type 0 where
  -- It gives an event, also where that is skipped after a fault.
  GivesEvents : LineClass
  -- It says nothing of the bus: neither does a heading, nor a line of lost events.
  SaysNothing : LineClass
  -- It is of a bus that is not followed, or of the other kind of events.
  PassedOver : LineClass
  -- It can't be read, is out of range, or contradicts lines before it.
  IsFault : LineClass

-- an event is given where a test holds, and else its line is a fault
abbrev pub given_if : Bool → LineClass
given_if true = GivesEvents
given_if false = IsFault
