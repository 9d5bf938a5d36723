-- Why an event is refused after events that some packet begins with.
--
-- The drawings are those of `Packet`. `..` at the front stands for any events, and the last event is
-- the one that is refused.
use Rattle.std.specs.Prelude.{◌≡◌, ◌≢◌, ℕ, ◌⊎◌, List, [], ◌∷◌, ◌++◌}
use Rattle.pmb_bus.specs.declared.event.Event.{Event}
use Rattle.pmb_bus.specs.declared.event.Event.TheVariants.{Start, Byte, Ack, Nack, Stop}
use Rattle.pmb_bus.specs.Address.{write_address, read_address}
use Rattle.pmb_command.specs.Parts.{DeviceParts}
use Rattle.pmb_transaction.specs.declared.reason.Reason.{Reason}
use Rattle.pmb_transaction.specs.declared.reason.Reason.TheVariants.{ReadFirst, BadRestart, BadPec, UnknownDevice}
use Rattle.pmb_transaction.specs.declared.reason.Reason.TheVariants.{UnknownCommand, TooLong, TooShort, WrongEvent}
use Rattle.pmb_transaction.specs.Packet.{leg}
use Rattle.pmb_transaction.specs.Capture.{MayFollow}

-- ---- reasons

-- Why a byte is refused after events that some other byte may follow.
pub data ByteReason (events : List Event) : Reason → Type 0 where
  -- It is the packet's first.
  --
  -- S byte
  read_first : events ≡ Start ∷ [] → ByteReason events ReadFirst
  -- It comes after a repeated START.
  --
  -- .. S byte
  bad_restart : (front : List Event) → front ≢ [] → events ≡ front ++ Start ∷ [] → ByteReason events BadRestart
  -- It comes after an ACK. After an ACK every byte may follow or none, but where only the packet
  -- error code of a reply may.
  --
  -- .. A byte
  bad_pec_sent : (front : List Event) → events ≡ front ++ Ack ∷ [] → ByteReason events BadPec

-- Why an ACK is refused after events that NACK alone may follow.
pub data AckReason (events : List Event) : Reason → Type 0 where
  -- It takes an address for writing: no device has it.
  --
  -- .. S addr+W A
  unknown_device : (front : List Event) → (addr : ℕ) → events ≡ front ++ Start ∷ Byte (write_address addr) ∷ []
      → AckReason events UnknownDevice
  -- It takes the first byte of a body: no body that is allowed there begins with it.
  --
  -- .. S addr+W A code A
  unknown_command : (front : List Event) → (addr : ℕ) → (code : ℕ) → events ≡ front ++ leg (write_address addr ∷ [])
      ++ Byte code ∷ []
      → AckReason events UnknownCommand
  -- It takes a later byte of a body.
  --
  -- .. S addr+W A code A bytes A .. byte A
  bad_pec_taken : (front : List Event) → (addr : ℕ) → (code : ℕ) → (bytes : List ℕ) → (byte : ℕ)
      → events ≡ front ++ leg (write_address addr ∷ code ∷ bytes) ++ Byte byte ∷ [] → AckReason events BadPec
  -- It takes a byte of a reply: that was the last.
  --
  -- .. S addr+R A bytes A .. byte A
  too_long : (front : List Event) → (addr : ℕ) → (bytes : List ℕ) → (byte : ℕ)
      → events ≡ front ++ leg (read_address addr ∷ bytes) ++ Byte byte ∷ []
      → AckReason events TooLong

-- Why a NACK is refused after events that ACK alone may follow.
pub data NackReason (events : List Event) : Reason → Type 0 where
  -- It refuses a byte of a reply: that was not the last. NACK may follow any other byte, so there is
  -- no other case.
  --
  -- .. S addr+R A bytes A .. byte N
  too_short : (front : List Event) → (addr : ℕ) → (bytes : List ℕ) → (byte : ℕ)
      → events ≡ front ++ leg (read_address addr ∷ bytes) ++ Byte byte ∷ []
      → NackReason events TooShort

-- One thing is said where something holds, and another where it doesn't.
abbrev pub Whether : Type 0 → Type 0 → Type 0 → Type 0
Whether Holds Then Else = (Holds × Then) ⊎ ((¬ Holds) × Else)

module _ (profile : List DeviceParts) where
  -- some byte may follow
  abbrev pub SomeByteMayFollow : List Event → Type 0
  SomeByteMayFollow events = (b : ℕ) × MayFollow profile events (Byte b)

  -- an event may follow, and nothing else
  pub record FollowsAlone (events : List Event) (event : Event) : Type 0 where
    pub follows : MayFollow profile events event
    pub alone : (other : Event) → MayFollow profile events other → other ≡ event

  -- Why an event is refused after the events, some packet's beginning. It is asked only of an event
  -- that may not follow.
  abbrev pub IsReason : List Event → Event → Reason → Type 0
  IsReason events (Byte b) reason = Whether (SomeByteMayFollow events) (ByteReason events reason) (reason ≡ WrongEvent)
  IsReason events Ack reason = Whether (FollowsAlone events Nack) (AckReason events reason) (reason ≡ WrongEvent)
  IsReason events Nack reason = Whether (FollowsAlone events Ack) (NackReason events reason) (reason ≡ WrongEvent)
  IsReason events Start reason = reason ≡ WrongEvent
  IsReason events Stop reason = reason ≡ WrongEvent
