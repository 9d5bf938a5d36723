-- What is under way after events: a packet, or what is passed over after a refusal. STOP ends both.
use Rattle.std.specs.Prelude.{ℕ, ◌-◌, Option, None, List, [], ◌∷◌, ◌++◌, fold, length}
use Rattle.pmb_bus.specs.declared.event.Event.{Event}
use Rattle.pmb_bus.specs.declared.event.Event.TheVariants.{Start, Byte, Ack, Nack, Stop}
use Rattle.pmb_times.specs.Text.{time_at}

-- what is under way after an event more
abbrev pub more_under_way : List Event → Event → List Event
more_under_way own Start = own ++ Start ∷ []
more_under_way own (Byte b) = own ++ Byte b ∷ []
more_under_way own Ack = own ++ Ack ∷ []
more_under_way own Nack = own ++ Nack ∷ []
more_under_way own Stop = []

-- the events after the last STOP; all where there is none
abbrev pub under_way : List Event → List Event
under_way events = fold more_under_way [] events

-- how many come up to and with the last STOP
abbrev pub up_to_stop : List Event → ℕ
up_to_stop events = length events - length (under_way events)

-- ---- its time

abbrev pub time_of_some : List Event → Option (List ℕ) → Option (List ℕ)
time_of_some [] time = None
time_of_some (event ∷ events) time = time

-- Of events that a text spells: the time that was told for the first event after the last STOP. Between
-- two packets there is none.
abbrev pub open_time : List ℕ → List Event → Option (List ℕ)
open_time text events = time_of_some (under_way events) (time_at text (up_to_stop events))
