-- Acknowledged bytes at the front of a text.
use Rattle.std.specs.Prelude.{◌≡◌, ◌<◌, ℕ, List, [], ◌∷◌, ◌++◌, slice_index}
use Rattle.hex.specs.Hex.{lower_digits}
use Rattle.pmb_bus.specs.declared.event.Event.TheVariants.{Byte, Nack, Stop}
use Rattle.pmb_bus.specs.Event.{canonical_text}
use Rattle.pmb_command.specs.Wire.{AreByteValues}
use Rattle.pmb_transaction.specs.Packet.{acked}

-- the digit of a value
abbrev pub lower_digit : ℕ → ℕ
lower_digit value = slice_index lower_digits value

-- the canonical text of a packet's last byte, with NACK and STOP
abbrev pub end_text : ℕ → List ℕ
end_text last = canonical_text (Byte last ∷ Nack ∷ Stop ∷ [])

-- the canonical text of bytes, each with its ACK
abbrev pub acked_text : List ℕ → List ℕ
acked_text bytes = canonical_text (acked bytes)

-- no byte with its ACK stands at the front of a text
abbrev pub NoneAcked : List ℕ → Type 0
NoneAcked text = (byte : ℕ) (rest : List ℕ) → byte < 256 → text ≡ acked_text (byte ∷ []) ++ rest → ⊥

-- Bytes with their ACKs were taken from the front of a text and put after others.
pub record TakenFront (text : List ℕ) (old : List ℕ) (new : List ℕ) (behind : List ℕ) : Type 0 where
  pub more : List ℕ
  pub added : new ≡ old ++ more
  pub split : text ≡ acked_text more ++ behind
  pub small : AreByteValues more
