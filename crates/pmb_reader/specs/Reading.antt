-- What a reader has read of the events of a capture.
use Rattle.std.specs.Prelude.{◌≡◌, List, ◌∷◌, ◌++◌}
use Rattle.pmb_bus.specs.declared.event.Event.{Event}
use Rattle.pmb_command.specs.Parts.{DeviceParts}
use Rattle.pmb_transaction.specs.Reading.{Outcome, ReadsAfterStop, ReadsFrom}
use Rattle.pmb_reader.specs.declared.reader.Reader.{Reader}
use Rattle.pmb_reader.specs.Reader.{Standing, Open, Held, Passing, ReaderStandsAt}

-- What has to come next. Any event may, unless the last one was refused. That one was not used, and
-- comes again: its refusal is still held (`HeldEvent`), or it is to be passed over (`PassedEvent`).
pub data Due : Type 0 where
  AnyEvent : Due
  HeldEvent : Event → Due
  PassedEvent : Event → Due

-- what is due after `resync`
abbrev pub due_behind_resync : Due → Due
due_behind_resync AnyEvent = AnyEvent
due_behind_resync (HeldEvent event) = PassedEvent event
due_behind_resync (PassedEvent event) = PassedEvent event

-- no refusal is held
abbrev pub IsNotHeld : Due → Type 0
IsNotHeld AnyEvent = Unit {0}
IsNotHeld (HeldEvent event) = ⊥
IsNotHeld (PassedEvent event) = Unit {0}

-- the events that come begin with what is due
abbrev pub IsDue : Due → List Event → Type 0
IsDue AnyEvent events = Unit {0}
IsDue (HeldEvent event) events = (rest : List Event) × (events ≡ event ∷ rest)
IsDue (PassedEvent event) events = (rest : List Event) × (events ≡ event ∷ rest)

-- where a reader stands while that is due
abbrev pub IsDueAt : Due → Standing → Type 0
IsDueAt AnyEvent (Open n events) = Unit {0}
IsDueAt AnyEvent (Held n refusal) = ⊥
IsDueAt AnyEvent (Passing n) = Unit {0}
IsDueAt (HeldEvent event) (Open n events) = ⊥
IsDueAt (HeldEvent event) (Held n refusal) = Unit {0}
IsDueAt (HeldEvent event) (Passing n) = ⊥
IsDueAt (PassedEvent event) (Open n events) = ⊥
IsDueAt (PassedEvent event) (Held n refusal) = ⊥
IsDueAt (PassedEvent event) (Passing n) = Unit {0}

module _ (profile : List DeviceParts) where
  -- What is still read from where a reader stands, of the events to come: the packet under way with
  -- them and what follows it, or what follows the next STOP.
  abbrev pub Remains : Standing → List Event → List Outcome → Type 0
  Remains (Open n events) more outcomes = ReadsFrom profile n (events ++ more) outcomes
  Remains (Held n refusal) more outcomes = ReadsAfterStop profile n more outcomes
  Remains (Passing n) more outcomes = ReadsAfterStop profile n more outcomes

  -- A reader used these events of a capture, and returned these outcomes. Whatever comes next, the
  -- capture reads as these outcomes and what remains from where the reader stands.
  pub record HasRead (reader : Reader) (events : List Event) (due : Due) (outcomes : List Outcome) : Type 0 where
    pub standing : Standing
    pub stands : ReaderStandsAt profile reader standing
    pub at : IsDueAt due standing
    pub reads : (more : List Event) (later : List Outcome) → IsDue due more → Remains standing more later
        → ReadsFrom profile 0 (events ++ more) (outcomes ++ later)
