-- The kinds of events, and sets of kinds by their bits.
use Rattle.std.specs.Prelude.{◌≡◌, ℕ, ◌<◌, ◌==◌, Bool, true, bit_and}
use Rattle.pmb_bus.specs.declared.event.Event.{Event}
use Rattle.pmb_bus.specs.declared.event.Event.TheVariants.{Start, Byte, Ack, Nack, Stop}
use Rattle.pmb_bus.specs.declared.kinds.Kinds.{Kinds}

-- the bits of a set
abbrev pub bits : Kinds → ℕ
bits kinds = kinds.0

-- the bit of an event's kind
abbrev pub kind_of : Event → ℕ
kind_of Start = 1
kind_of (Byte b) = 2
kind_of Ack = 4
kind_of Nack = 8
kind_of Stop = 16

-- whether a set has an event's kind
abbrev pub holds : Kinds → Event → Bool
holds kinds event = bit_and (bits kinds) (kind_of event) == kind_of event

-- The set of the kinds of some events, and of nothing else: it has the kind of each of them, and
-- each kind that it has is that of one of them.
pub record AreKindsOf (events : Event → Type 0) (kinds : Kinds) : Type 0 where
  pub known : bits kinds < 32
  pub each : (event : Event) → events event → holds kinds event ≡ true
  pub only : (event : Event) → holds kinds event ≡ true → (other : Event) × (kind_of other ≡ kind_of event)
      × events other
