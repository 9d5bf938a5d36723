-- What a list of events reads as.
use Rattle.std.specs.Prelude.{◌≡◌, ◌≢◌, ℕ, ◌+◌, ◌⊎◌, List, [], ◌∷◌, ◌++◌, length, map}
use Rattle.pmb_bus.specs.declared.event.Event.{Event}
use Rattle.pmb_bus.specs.declared.kinds.Kinds.{Kinds}
use Rattle.pmb_bus.specs.Count.{capped}
use Rattle.pmb_bus.specs.Kinds.{AreKindsOf}
use Rattle.pmb_command.specs.Parts.{DeviceParts}
use Rattle.pmb_transaction.specs.declared.reason.Reason.{Reason}
use Rattle.pmb_transaction.specs.declared.reason.Reason.TheVariants.{Truncated}
use Rattle.pmb_transaction.specs.Transaction.{TransactionData}
use Rattle.pmb_transaction.specs.Packet.{Packet}
use Rattle.pmb_transaction.specs.Capture.{Capture, EndsAtFirstStop, HasNoStop, IsPacket, Viable, MayFollow}
use Rattle.pmb_transaction.specs.Reason.{IsReason}

-- A refusal: its place, which stays at the greatest u64, why, and the kinds of the events that
-- might have come there.
pub record RefusalData : Type 0 where
  pub at : ℕ
  pub reason : Reason
  pub expected : Kinds

-- what is read in turn
pub data Outcome : Type 0 where
  Accepted : TransactionData → Outcome
  Refusal : RefusalData → Outcome

-- After a refusal some events are passed over, and others are left.
pub data PassedOver (events passed left : List Event) : Type 0 where
  -- They are passed over up to and including the first STOP.
  --     event event .. STOP   event event ..
  --     ----- passed ------   ---- left ----
  to_first_stop : events ≡ passed ++ left → EndsAtFirstStop passed → PassedOver events passed left
  -- Where there is no STOP, all are passed over, and none are left.
  --     event event .. event
  --     ------ passed ------
  to_the_end : events ≡ passed → HasNoStop passed → left ≡ [] → PassedOver events passed left

module _ (profile : List DeviceParts) where
  -- A packet under way: some packet begins with the events, and they hold no whole one.
  pub record IsUnderWay (events : List Event) : Type 0 where
    pub viable : Viable profile events
    pub no_packet : (front rest : List Event) → events ≡ front ++ rest → ¬ (IsPacket profile front)

  -- The refusal of an event after those of a packet under way, before which n events came.
  pub record RefusedAt (n : ℕ) (front : List Event) (event : Event) (refusal : RefusalData) : Type 0 where
    pub under_way : IsUnderWay front
    pub refused : ¬ (MayFollow profile front event)
    pub at : refusal.at ≡ capped (n + length front)
    pub reason : IsReason profile front event refusal.reason
    pub expected : AreKindsOf (MayFollow profile front) refusal.expected

  -- The refusal of events that end inside a packet.
  pub record TruncatedAt (n : ℕ) (events : List Event) (refusal : RefusalData) : Type 0 where
    pub some : events ≢ []
    pub under_way : IsUnderWay events
    pub at : refusal.at ≡ capped (n + length events)
    pub reason : refusal.reason ≡ Truncated
    pub expected : AreKindsOf (MayFollow profile events) refusal.expected

  -- The outcomes that events read as, where n events came before them. A packet at their front is
  -- read, then the rest. Else the first event that no packet can have there is refused; from it on
  -- events are passed over, and what is left is read. Else, where there are some, they are truncated.
  abbrev pub ReadsFrom : ℕ → List Event → List Outcome → Type 0
  ReadsFrom n events [] = events ≡ []
  ReadsFrom n events (Accepted t ∷ more) =
      (front : List Event) × (rest : List Event) × (events ≡ front ++ rest) × Packet profile t front
      × ReadsFrom (n + length front) rest more
  ReadsFrom n events (Refusal refusal ∷ more) =
      ((front : List Event) × (event : Event) × (rest : List Event) × (events ≡ front ++ event ∷ rest)
      × RefusedAt n front event refusal
      × (passed : List Event) × (left : List Event) × PassedOver (event ∷ rest) passed left
      × ReadsFrom (n + length front + length passed) left more)
      ⊎ (TruncatedAt n events refusal × (more ≡ []))

  -- The outcomes of what is left after the first STOP of events, where n events came before them.
  -- Without a STOP none are left, and there is no outcome.
  abbrev pub ReadsAfterStop : ℕ → List Event → List Outcome → Type 0
  ReadsAfterStop n events outcomes =
      (passed : List Event) × (left : List Event) × PassedOver events passed left
      × ReadsFrom (n + length passed) left outcomes

  -- the reading of a whole list of events
  abbrev pub Reading : List Event → List Outcome → Type 0
  Reading events outcomes = ReadsFrom 0 events outcomes

  -- The reading of events, before which n came, as the first of some transactions: the capture of
  -- these, and after it nothing, or events that end inside one more packet, and are truncated.
  pub record ReadsAsFront (n : ℕ) (ts : List TransactionData) (events : List Event)
      (outcomes : List Outcome) : Type 0 where
    pub done : List TransactionData
    pub others : List TransactionData
    pub split : ts ≡ done ++ others
    pub whole : List Event
    pub begun : List Event
    pub cut : events ≡ whole ++ begun
    pub read : Capture profile done whole
    pub end : ((begun ≡ []) × (outcomes ≡ map Accepted done))
        ⊎ ((refusal : RefusalData) × TruncatedAt (n + length whole) begun refusal
        × (outcomes ≡ map Accepted done ++ Refusal refusal ∷ []))
