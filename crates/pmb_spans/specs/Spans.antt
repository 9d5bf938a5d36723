-- What a list of events reads as, each outcome with its events.
use Rattle.std.specs.Prelude.{◌≡◌, ℕ, ◌+◌, Bool, true, false, List, [], ◌∷◌, ◌++◌, length, map}
use Rattle.pmb_bus.specs.declared.event.Event.{Event}
use Rattle.pmb_command.specs.Parts.{DeviceParts}
use Rattle.pmb_transaction.specs.Packet.{Packet}
use Rattle.pmb_transaction.specs.Reading.{Outcome, Accepted, Refusal, PassedOver, RefusalData, RefusedAt, TruncatedAt}
use Rattle.pmb_transaction.specs.Transaction.{TransactionData}
pub use Rattle.pmb_transaction.specs.Cut.{moved_refusal}

-- A packet that was read; an event that was refused, after those of a packet under way; or events
-- that end inside a packet. Each has the number of events that came before the packet, and the
-- packet's own.
pub data Span : Type 0 where
  ReadSpan : (n : ℕ) → (events : List Event) → (t : TransactionData) → Span
  RefusedSpan : (n : ℕ) → (front : List Event) → (event : Event) → (refusal : RefusalData) → Span
  TruncatedSpan : (n : ℕ) → (front : List Event) → (refusal : RefusalData) → Span

-- what is read, without its place and its events
abbrev pub outcome : Span → Outcome
outcome (ReadSpan n events t) = Accepted t
outcome (RefusedSpan n front event refusal) = Refusal refusal
outcome (TruncatedSpan n front refusal) = Refusal refusal

-- all but an end inside a packet
abbrev pub is_whole : Span → Bool
is_whole (ReadSpan n events t) = true
is_whole (RefusedSpan n front event refusal) = true
is_whole (TruncatedSpan n front refusal) = false

-- a span n events further on
abbrev pub moved_span : ℕ → Span → Span
moved_span n (ReadSpan m events t) = ReadSpan (n + m) events t
moved_span n (RefusedSpan m front event refusal) = RefusedSpan (n + m) front event (moved_refusal n refusal)
moved_span n (TruncatedSpan m front refusal) = TruncatedSpan (n + m) front (moved_refusal n refusal)

-- spans n events further on
abbrev pub moved_spans : ℕ → List Span → List Span
moved_spans n spans = map (moved_span n) spans

module _ (profile : List DeviceParts) where
  -- The spans of events, where n events came before them, case by case as `ReadsFrom` has their
  -- outcomes.
  abbrev pub SpansFrom : ℕ → List Event → List Span → Type 0
  SpansFrom n events [] = events ≡ []
  SpansFrom n events (ReadSpan m front t ∷ more) =
      (m ≡ n) × (rest : List Event) × (events ≡ front ++ rest) × Packet profile t front
      × SpansFrom (n + length front) rest more
  SpansFrom n events (RefusedSpan m front event refusal ∷ more) =
      (m ≡ n) × (rest : List Event) × (events ≡ front ++ event ∷ rest) × RefusedAt profile n front event refusal
      × (passed : List Event) × (left : List Event) × PassedOver (event ∷ rest) passed left
      × SpansFrom (n + length front + length passed) left more
  SpansFrom n events (TruncatedSpan m front refusal ∷ more) =
      (m ≡ n) × (events ≡ front) × TruncatedAt profile n front refusal × (more ≡ [])

  -- The spans of what is left after the first STOP of events, as `ReadsAfterStop` has its outcomes.
  abbrev pub SpansAfterStop : ℕ → List Event → List Span → Type 0
  SpansAfterStop n events spans =
      (passed : List Event) × (left : List Event) × PassedOver events passed left
      × SpansFrom (n + length passed) left spans

  -- the spans of a whole list of events
  abbrev pub Spans : List Event → List Span → Type 0
  Spans events spans = SpansFrom 0 events spans
