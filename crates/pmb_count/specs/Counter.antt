-- What a counter has counted so far.
use Rattle.std.specs.Prelude.{List}
use Rattle.pmb_bus.specs.declared.event.Event.{Event}
use Rattle.pmb_command.specs.Parts.{DeviceParts}
use Rattle.pmb_transaction.specs.Reading.{Outcome}
use Rattle.pmb_reader.specs.declared.reader.Reader.{Reader}
use Rattle.pmb_reader.specs.Reading.{AnyEvent, HasRead}
use Rattle.pmb_count.specs.declared.pieces.Counter.{Counter}
use Rattle.pmb_count.specs.Count.{IsCountOf}

-- A counter that was given the events of a profile's devices, in any pieces, has read them, and
-- counted what it read.
pub record HasCounted (profile : List DeviceParts) (counter : Counter) (events : List Event) : Type 0 where
  pub outcomes : List Outcome
  pub read : HasRead profile counter.reader events AnyEvent outcomes
  pub counted : IsCountOf counter.so_far outcomes

-- it was given some events, or none yet
abbrev pub IsCounting : Counter → Type 0
IsCounting counter = (profile : List DeviceParts) × (events : List Event) × HasCounted profile counter events

-- a reader has read some events, or none yet, and holds no refusal
abbrev pub HasReadSome : Reader → Type 0
HasReadSome reader = (profile : List DeviceParts) × (events : List Event) × (outcomes : List Outcome)
    × HasRead profile reader events AnyEvent outcomes
