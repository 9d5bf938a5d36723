-- How far a capture was scanned, and what each visit adds.
use Rattle.std.specs.Prelude.{◌≡◌, ◌≢◌, ℕ, ◌+◌, List, [], ◌∷◌, ◌++◌, filter, length}
use Rattle.pmb_bus.specs.declared.event.Event.{Event}
use Rattle.pmb_bus.specs.declared.event.Event.TheVariants.{Stop}
use Rattle.pmb_bus.specs.Event.{canonical_text}
use Rattle.pmb_command.specs.Parts.{DeviceParts}
use Rattle.pmb_reader.specs.Reader.{Standing, Open, Held, Passing, behind_passed}
use Rattle.pmb_spans.specs.Spans.{Span, ReadSpan, RefusedSpan, Spans, SpansAfterStop, SpansFrom, is_whole}
use Rattle.pmb_transaction.specs.Packet.{Packet}
use Rattle.pmb_transaction.specs.Reading.{RefusalData}
use Rattle.pmb_transaction.specs.Transaction.{TransactionData}

-- Under a profile these bytes were used, the words that have ended in them are the tokens of these
-- events, and these are the packets that ended and the refusals that came. The scan stands inside a
-- packet or between two (`Open`), or after a refusal, where it passes over what comes up to and
-- including the next STOP (`Passing`).
pub record Reached : Type 0 where
  pub profile : List DeviceParts
  pub text : List ℕ
  pub events : List Event
  pub spans : List Span
  pub standing : Standing

-- nothing was given yet
abbrev pub at_start : List DeviceParts → Reached
at_start profile = record { profile = profile; text = []; events = []; spans = []; standing = Open 0 [] }

-- ---- what each visit adds

-- more bytes
abbrev pub behind_bytes : Reached → List ℕ → Reached
behind_bytes reached bytes = record reached { text = reached.text ++ bytes }

-- where the scan stands after an event that ends no packet and is not refused
abbrev pub standing_after : Standing → Event → Standing
standing_after (Open n events) event = Open n (events ++ event ∷ [])
standing_after (Held n refusal) event = Held n refusal
standing_after (Passing n) event = behind_passed n event

-- such an event
abbrev pub behind_event : Reached → Event → Reached
behind_event reached event = record reached {
  events = reached.events ++ event ∷ [];
  standing =
      standing_after reached.standing event;
}

-- Where a packet is read such an event is no STOP: that ends the packet, or is refused. None comes
-- while a refusal is held.
abbrev pub MayGoOn : Standing → Event → Type 0
MayGoOn (Open n events) event = event ≢ Stop
MayGoOn (Held n refusal) event = ⊥
MayGoOn (Passing n) event = Unit {0}

-- An event that ends a packet, which began after n events with those of `front`.
abbrev pub behind_packet : Reached → ℕ → List Event → Event → TransactionData → Reached
behind_packet reached n front event t = record reached {
  events = reached.events ++ event ∷ [];
  spans = reached.spans ++ ReadSpan n (front ++ event ∷ []) t ∷ [];
  standing = Open (n + length front + 1) [];
}

-- A whole packet at once, which began after n events: its bytes, its events and its transaction.
abbrev pub behind_whole : Reached → ℕ → List ℕ → List Event → TransactionData → Reached
behind_whole reached n bytes events t = record reached {
  text = reached.text ++ bytes;
  events = reached.events ++ events;
  spans = reached.spans ++ ReadSpan n events t ∷ [];
  standing = Open (n + length events) [];
}

-- An event that is refused after those of `front`, with which a packet began after n events.
abbrev pub behind_refusal : Reached → ℕ → List Event → Event → RefusalData → Reached
behind_refusal reached n front event refusal = record reached {
  events = reached.events ++ event ∷ [];
  spans = reached.spans ++ RefusedSpan n front event refusal ∷ [];
  standing = behind_passed (n + length front) event;
}

-- These bytes are the canonical text of these events, the packet of a transaction.
pub record IsWhole (profile : List DeviceParts) (t : TransactionData) (events : List Event)
    (bytes : List ℕ) : Type 0 where
  pub packet : Packet profile t events
  pub text : bytes ≡ canonical_text events

-- ---- what the whole capture reads as

-- no refusal is held
abbrev pub IsReading : Standing → Type 0
IsReading (Open n events) = Unit {0}
IsReading (Held n refusal) = ⊥
IsReading (Passing n) = Unit {0}

module _ (profile : List DeviceParts) where
  -- The spans of what is read from there on, where these events follow. Inside a packet it is read
  -- from its beginning, with them. After a refusal they are passed over up to and including the
  -- first STOP, and those after it are read.
  abbrev pub SpansBehind : Standing → List Event → List Span → Type 0
  SpansBehind (Open n events) rest spans = SpansFrom profile n (events ++ rest) spans
  SpansBehind (Held n refusal) rest spans = ⊥
  SpansBehind (Passing n) rest spans = SpansAfterStop profile n rest spans

-- What was reached is the beginning of what the capture reads as: whatever follows, its spans are
-- those reached, and then those of what follows. None of those reached is an end inside a packet.
pub record LeadsOn (reached : Reached) : Type 0 where
  pub reading : IsReading reached.standing
  pub leads : (rest : List Event) (others : List Span) → SpansBehind reached.profile reached.standing rest others
      → Spans reached.profile (reached.events ++ rest) (reached.spans ++ others)
  pub whole : filter is_whole reached.spans ≡ reached.spans

-- Where nothing follows, the spans are those reached and then `last`: one of an end inside a
-- packet, or none. None of those reached is such an end.
pub record EndsWith (reached : Reached) (last : List Span) : Type 0 where
  pub spans : Spans reached.profile reached.events (reached.spans ++ last)
  pub whole : filter is_whole reached.spans ≡ reached.spans
  pub inside : filter is_whole last ≡ []
