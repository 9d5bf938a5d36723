-- The legs of a canonical packet: their bytes, address bytes too, and their events.
use Rattle.std.specs.Prelude.{◌≡◌, ◌≤◌, ◌<◌, ℕ, ◌+◌, ◌%◌, ◌⊎◌, ⊤, Bool, Option, Some, List, [], ◌∷◌, ◌++◌, drop, length}
use Rattle.pmb_bus.specs.declared.event.Event.{Event}
use Rattle.pmb_bus.specs.declared.event.Event.TheVariants.{Start, Byte, Stop}
use Rattle.pmb_bus.specs.Event.{canonical_text}
use Rattle.pmb_command.specs.Parts.{DeviceParts}
use Rattle.pmb_command.specs.Wire.{AreByteValues}
use Rattle.pmb_transaction.specs.Transaction.{TransactionData}
use Rattle.pmb_transaction.specs.Packet.{leg}
use Rattle.pmb_canonical.specs.declared.legs.PacketShape.{PacketShape}
use Rattle.pmb_canonical.specs.declared.legs.PacketShape.TheVariants.{Written, Both, Group, Nacked}
use Rattle.pmb_canonical.specs.Front.{acked_text, end_text}
use Rattle.pmb_canonical.specs.Canonical.{OneCalled, OneRead, OneReadRefused, nacked_leg, read_events}
use Rattle.pmb_canonical.specs.Groups.{SayGroup, SaysPart}
use Rattle.pmb_canonical.specs.Alerts.{SaysAlert}
use Rattle.pmb_canonical.specs.Nacked.{SaysNacked}

-- the events of legs with these bytes, up to STOP; of a group those of the first leg
abbrev pub leg_events : PacketShape → List ℕ → List Event
leg_events Written bytes = leg bytes ++ Stop ∷ []
leg_events (Both written) bytes = read_events written bytes
leg_events Group bytes = leg bytes
leg_events Nacked bytes = nacked_leg bytes ++ Stop ∷ []

-- how many bytes the legs have at least: a leg with NACK has the byte before it
abbrev pub least : PacketShape → ℕ
least Written = 0
least (Both written) = written + 1
least Group = 0
least Nacked = 1

-- the first of some bytes is odd, as an address byte for reading is
abbrev pub BeginsOdd : List ℕ → Type 0
BeginsOdd [] = ⊥
BeginsOdd (byte ∷ bytes) = byte % 2 ≡ 1

-- a leg that is read begins with such a byte
abbrev pub Reads : PacketShape → List ℕ → Type 0
Reads Written bytes = ⊤
Reads (Both written) bytes = BeginsOdd (drop written bytes)
Reads Group bytes = ⊤
Reads Nacked bytes = ⊤

-- Bytes of a packet's legs.
pub record IsOfLegs (legs : PacketShape) (bytes : List ℕ) : Type 0 where
  pub small : AreByteValues bytes
  pub enough : least legs ≤ length bytes
  pub few : length bytes ≤ 516
  pub reads : Reads legs bytes

-- After the first leg of a group stands another one, which begins with an even byte.
pub record NextWritten (behind : List ℕ) : Type 0 where
  pub byte : ℕ
  pub small : byte < 256
  pub even : byte % 2 ≡ 0
  pub more : List ℕ
  pub split : behind ≡ canonical_text (Start ∷ []) ++ (canonical_text (Byte byte ∷ []) ++ more)

abbrev pub Follows : PacketShape → List ℕ → Type 0
Follows Written behind = ⊤
Follows (Both written) behind = ⊤
Follows Group behind = NextWritten behind
Follows Nacked behind = ⊤

-- The text of legs with these bytes stands at the front of a text.
abbrev pub BeginsWithLegs : PacketShape → List ℕ → List ℕ → Type 0
BeginsWithLegs legs bytes text = (rest : List ℕ) × (text ≡ canonical_text (leg_events legs bytes) ++ rest)

-- A second leg was taken from the front of a text, and its bytes put after those of the first.
pub record TakenSecond (legs : PacketShape) (text : List ℕ) (first : List ℕ) (all : List ℕ) : Type 0 where
  pub back : List ℕ
  pub last : ℕ
  pub rest : List ℕ
  pub both : legs ≡ Both (length first)
  pub added : all ≡ (first ++ back) ++ last ∷ []
  pub split : text ≡ acked_text back ++ (end_text last ++ rest)

-- Bytes of a second leg, which find room after those of the first.
pub record IsSecond (first : List ℕ) (back : List ℕ) (last : ℕ) : Type 0 where
  pub small : AreByteValues back
  pub small_last : last < 256
  pub few : length (first ++ back) ≤ 515

-- Such a leg at the front of a text is taken.
abbrev pub FindsSecond : List ℕ → List ℕ → List ℕ → Option PacketShape → Type 0
FindsSecond text first new result = (back : List ℕ) (last : ℕ) (rest : List ℕ) → IsSecond first back last
    → text ≡ acked_text back ++ (end_text last ++ rest)
    → (result ≡ Some (Both (length first))) × (new ≡ (first ++ back) ++ last ∷ [])

-- A byte with NACK was taken from the front of a text, up to STOP, and put after those of the first
-- leg.
pub record TakenNacked (legs : PacketShape) (text : List ℕ) (first : List ℕ) (all : List ℕ) : Type 0 where
  pub last : ℕ
  pub rest : List ℕ
  pub nacked : legs ≡ Nacked
  pub added : all ≡ first ++ last ∷ []
  pub split : text ≡ end_text last ++ rest

-- Such a byte at the front of a text is taken.
abbrev pub FindsNacked : List ℕ → List ℕ → List ℕ → Option PacketShape → Type 0
FindsNacked text first new result = (last : ℕ) (rest : List ℕ) → last < 256 → length first ≤ 515
    → text ≡ end_text last ++ rest
    → (result ≡ Some Nacked) × (new ≡ first ++ last ∷ [])

-- to be read is refused
abbrev pub SayUnread : List DeviceParts → ℕ → List ℕ → Type 0
SayUnread profile written bytes = (address : ℕ) × (sent : List ℕ) × OneReadRefused profile address sent bytes written

-- What both legs say, where some bytes are read. A first leg of two bytes is that of a read: a call
-- sends data.
abbrev pub SayRead : List DeviceParts → ℕ → List ℕ → Type 0
SayRead profile written bytes =
    ((written ≡ 2) × (address : ℕ) × (code : ℕ) × (reply : List ℕ) × (with_pec : Bool)
    × OneRead profile address code reply with_pec bytes)
    ⊎ ((2 < written) × (address : ℕ) × (code : ℕ) × (sent : List ℕ) × (reply : List ℕ) × (with_pec : Bool)
    × OneCalled profile address code reply with_pec bytes sent written)

-- What both legs with these bytes say. In one that is read, some byte stands after the address.
abbrev pub SayBoth : List DeviceParts → ℕ → List ℕ → Type 0
SayBoth profile written bytes =
    ((length bytes ≡ written + 1) × SayUnread profile written bytes)
    ⊎ ((written + 1 < length bytes) × SayRead profile written bytes)

-- What the one leg of a packet says, of which the last byte has NACK: something is refused, or it stands
-- at the Alert Response Address.
abbrev pub SaysAlone : List DeviceParts → List ℕ → Type 0
SaysAlone profile bytes = SaysNacked profile [] bytes ⊎ ((t : TransactionData) × SaysAlert bytes t)

-- What legs at the front of a text say, with these bytes.
abbrev pub SayLegs : List DeviceParts → List ℕ → PacketShape → List ℕ → Type 0
SayLegs profile text Written bytes = SaysPart profile bytes
SayLegs profile text (Both written) bytes = SayBoth profile written bytes
SayLegs profile text Group bytes = SayGroup profile text bytes
SayLegs profile text Nacked bytes = SaysAlone profile bytes
