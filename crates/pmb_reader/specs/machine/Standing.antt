-- What the fields of a reader say of where it stands.
use Rattle.std.specs.Prelude.{◌≡◌, ℕ, ◌+◌, List, [], length}
use Rattle.pmb_bus.specs.declared.event.Event.{Event}
use Rattle.pmb_bus.specs.Count.{capped}
use Rattle.pmb_command.specs.Parts.{DeviceParts}
use Rattle.pmb_transaction.specs.Transaction.{TransactionData}
use Rattle.pmb_reader.specs.declared.reader.Mode.{Mode}
use Rattle.pmb_reader.specs.declared.reader.Mode.TheVariants as modes
use Rattle.pmb_reader.specs.declared.reader.Reader.{Reader}
use Rattle.pmb_reader.specs.Refusal.{refusal_data}
use Rattle.pmb_reader.specs.Standing.{Standing, Open, Held, Passing}
use Rattle.pmb_packet_state.specs.PacketState.{StandsIn, packet_of}

-- the events of the packet under way
abbrev pub events_of : Standing → List Event
events_of (Open n events) = events
events_of (Held n refusal) = []
events_of (Passing n) = []

-- how many events came
abbrev pub count_of : Standing → ℕ
count_of (Open n events) = n + length events
count_of (Held n refusal) = n
count_of (Passing n) = n

abbrev pub IsMode : Mode → Standing → Type 0
IsMode modes.Open (Open n events) = Unit {0}
IsMode modes.Open (Held n refusal) = ⊥
IsMode modes.Open (Passing n) = ⊥
IsMode (modes.Held held) (Open n events) = ⊥
IsMode (modes.Held held) (Held n refusal) = refusal_data held ≡ refusal
IsMode (modes.Held held) (Passing n) = ⊥
IsMode modes.Passing (Open n events) = ⊥
IsMode modes.Passing (Held n refusal) = ⊥
IsMode modes.Passing (Passing n) = Unit {0}

-- A reader that was made for a profile stands there.
pub record ReaderStandsAt (profile : List DeviceParts) (reader : Reader) (standing : Standing) : Type 0 where
  pub mode : IsMode reader.mode standing
  pub counted : reader.used ≡ capped (count_of standing)
  pub inside : StandsIn profile reader.under_way (events_of standing)

-- the transaction of the packet that the last event ended
abbrev pub last_read : Reader → TransactionData
last_read reader = packet_of reader.under_way
