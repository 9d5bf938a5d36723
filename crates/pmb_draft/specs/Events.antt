-- What the events of a capture say of who is on the bus, without any profile.
use Rattle.std.specs.Prelude.{◌≡◌, ℕ, ◌*◌, ◌/◌, List, ◌∷◌, ◌++◌}
use Rattle.pmb_bus.specs.declared.event.Event.{Event}
use Rattle.pmb_bus.specs.declared.event.Event.TheVariants.{Start, Byte, Ack}

-- An address of seven bits acknowledged: after the events `before` come START, a byte with that address in its
-- bits 7:1, and ACK.
pub record AcksAfter (before : List Event) (events : List Event) (address : ℕ) : Type 0 where
  pub byte : ℕ
  pub back : List Event
  pub whole : events ≡ before ++ Start ∷ Byte byte ∷ Ack ∷ back
  pub of : byte / 2 ≡ address

abbrev pub Acks : List Event → ℕ → Type 0
Acks events address = (before : List Event) × AcksAfter before events address

-- A leg that is written to an address begins with this code, and the code has its ACK. (Bit 0 of the
-- address byte is 0 where the leg is written.)
pub record HasCode (events : List Event) (address code : ℕ) : Type 0 where
  pub before : List Event
  pub back : List Event
  pub whole : events ≡ before ++ Start ∷ Byte (2 * address) ∷ Ack ∷ Byte code ∷ Ack ∷ back
