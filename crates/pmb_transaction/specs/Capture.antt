-- Captures, and which events may come next.
use Rattle.std.specs.Prelude.{◌≡◌, ◌⊎◌, List, [], ◌∷◌, ◌++◌}
use Rattle.pmb_bus.specs.declared.event.Event.{Event}
use Rattle.pmb_bus.specs.declared.event.Event.TheVariants.{Stop}
use Rattle.pmb_command.specs.Parts.{DeviceParts}
use Rattle.pmb_transaction.specs.Transaction.{TransactionData}
use Rattle.pmb_transaction.specs.Packet.{Packet}

-- no STOP among the events
abbrev pub HasNoStop : List Event → Type 0
HasNoStop events = (before : List Event) (after : List Event) → events ≡ before ++ Stop ∷ after → ⊥

-- The last of the events is STOP, and no other one is.
pub record EndsAtFirstStop (events : List Event) : Type 0 where
  pub front : List Event
  pub no_stop : HasNoStop front
  pub split : events ≡ front ++ Stop ∷ []

module _ (profile : List DeviceParts) where
  -- The capture of transactions: the packet of each, in order.
  abbrev pub Capture : List TransactionData → List Event → Type 0
  Capture [] events = events ≡ []
  Capture (t ∷ ts) events =
      (first : List Event) × (rest : List Event) × (events ≡ first ++ rest) × Packet profile t first × Capture ts rest

  -- some transaction's packet
  abbrev pub IsPacket : List Event → Type 0
  IsPacket events = (t : TransactionData) × Packet profile t events

  -- A list of events is viable if it is empty or some packet begins with it.
  abbrev pub Viable : List Event → Type 0
  Viable events = (events ≡ []) ⊎ ((more : List Event) × IsPacket (events ++ more))

  -- an event may come next
  abbrev pub MayFollow : List Event → Event → Type 0
  MayFollow events event = Viable (events ++ event ∷ [])
