-- What a reader returns for the next piece of a capture.
use Rattle.std.specs.Prelude.{◌≡◌, ℕ, ◌+◌, ◌⊎◌, List, [], ◌∷◌, ◌++◌, length}
use Rattle.pmb_bus.specs.declared.event.Event.{Event}
use Rattle.pmb_command.specs.Parts.{DeviceParts}
use Rattle.pmb_transaction.specs.Transaction.{TransactionData, transaction_data}
use Rattle.pmb_transaction.specs.Packet.{Packet}
use Rattle.pmb_transaction.specs.Capture.{EndsAtFirstStop, HasNoStop}
use Rattle.pmb_transaction.specs.Reading.{IsUnderWay, RefusalData, RefusedAt}
use Rattle.pmb_reader.specs.declared.feed.Outcome.{Outcome}
use Rattle.pmb_reader.specs.declared.feed.Outcome.TheVariants as answers
use Rattle.pmb_reader.specs.declared.reader.Reader.{Reader}
use Rattle.pmb_reader.specs.Refusal.{refusal_data}
use Rattle.pmb_reader.specs.Reader.{Standing, Open, Held, Passing, ReaderStandsAt}

-- Where a piece leads whose events are all used and end no packet. Where a packet is read, they are
-- more events of it. While events are passed over, a piece without STOP is passed over as a whole;
-- of another one the events up to and including its first STOP are passed over, and those after it
-- are the first of a packet. While a refusal is held no event is used.
abbrev pub Leads : Standing → List Event → Standing → Type 0
Leads (Open n events) piece behind = behind ≡ Open n (events ++ piece)
Leads (Held n refusal) piece behind = (piece ≡ []) × (behind ≡ Held n refusal)
Leads (Passing n) piece behind =
    (HasNoStop piece × (behind ≡ Passing (n + length piece)))
    ⊎ ((passed : List Event) × (rest : List Event) × (piece ≡ passed ++ rest) × EndsAtFirstStop passed
    × (behind ≡ Open (n + length passed) rest))

-- where a packet is read, some packet begins with its events so far, and they hold no whole one
abbrev pub IsUnderWayAt : List DeviceParts → Standing → Type 0
IsUnderWayAt profile (Open n events) = IsUnderWay profile events
IsUnderWayAt profile (Held n refusal) = Unit {0}
IsUnderWayAt profile (Passing n) = Unit {0}

-- The piece is used whole.
pub record ReaderNeedsMore (profile : List DeviceParts) (standing : Standing) (piece : List Event) (used : ℕ)
    (after : Reader) : Type 0 where
  pub not_held : (n : ℕ) (refusal : RefusalData) → standing ≡ Held n refusal → ⊥
  pub all : used ≡ length piece
  pub behind : Standing
  pub leads : Leads standing piece behind
  pub under_way : IsUnderWayAt profile behind
  pub stands : ReaderStandsAt profile after behind

-- The last event used ends the packet of a transaction, and no event before it ended one.
pub record EndsPacket (profile : List DeviceParts) (standing : Standing) (piece : List Event) (used : ℕ)
    (after : Reader) (t : TransactionData) : Type 0 where
  pub front : List Event
  pub event : Event
  pub rest : List Event
  pub split : piece ≡ front ++ event ∷ rest
  pub up_to : used ≡ length front + 1
  pub n : ℕ
  pub events : List Event
  pub leads : Leads standing front (Open n events)
  pub under_way : IsUnderWay profile events
  pub packet : Packet profile t (events ++ event ∷ [])
  pub stands : ReaderStandsAt profile after (Open (n + length events + 1) [])

-- The next event is refused, and not used.
pub record ReaderRefuses (profile : List DeviceParts) (standing : Standing) (piece : List Event) (used : ℕ)
    (after : Reader) (refusal : RefusalData) : Type 0 where
  pub front : List Event
  pub event : Event
  pub rest : List Event
  pub split : piece ≡ front ++ event ∷ rest
  pub up_to : used ≡ length front
  pub n : ℕ
  pub events : List Event
  pub leads : Leads standing front (Open n events)
  pub refused : RefusedAt profile n events event refusal
  pub stands : ReaderStandsAt profile after (Held (n + length events) refusal)

-- The refusal that is held is returned again.
pub record AnswersAgain (profile : List DeviceParts) (standing : Standing) (used : ℕ) (after : Reader)
    (refusal : RefusalData) : Type 0 where
  pub n : ℕ
  pub held : standing ≡ Held n refusal
  pub none : used ≡ 0
  pub stands : ReaderStandsAt profile after standing

-- what a piece comes to
abbrev pub ReaderFeeds : List DeviceParts → Standing → List Event → ℕ → Outcome → Reader → Type 0
ReaderFeeds profile standing piece used answers.More after = ReaderNeedsMore profile standing piece used after
ReaderFeeds profile standing piece used (answers.Packet t) after = EndsPacket profile standing piece used after
    (transaction_data t)
ReaderFeeds profile standing piece used (answers.Refused refusal) after =
    ReaderRefuses profile standing piece used after (refusal_data refusal) ⊎ AnswersAgain profile standing used after
    (refusal_data refusal)
