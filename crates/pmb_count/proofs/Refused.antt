-- What reads as transactions is not refused: the law `captures_are_not_refused`. A refusal that is
-- held would be among the outcomes of the whole capture, whatever follows the event.
use Rattle.std.proofs.Common.{◌≡◌, ℕ, ◌+◌, List, [], ◌∷◌, ◌++◌, length, map, refl}
use Rattle.pmb_bus.specs.declared.event.Event.{Event}
use Rattle.pmb_command.specs.Parts.{DeviceParts}
use Rattle.pmb_transaction.specs.Transaction.{TransactionData}
use Rattle.pmb_transaction.specs.Reading.{Accepted, Outcome, PassedOver, Reading, ReadsAfterStop, ReadsFrom, Refusal}
use Rattle.pmb_transaction.specs.Reading.{RefusalData}
use Rattle.pmb_reader.specs.declared.reader.Reader.{Reader}
use Rattle.pmb_reader.specs.Reader.{Standing, Open, Held, Passing}
use Rattle.pmb_reader.specs.Reading.{HasRead, HeldEvent, IsDue, IsDueAt, Remains}

-- transactions have no refusal among them
no_refusal : (ts : List TransactionData) (before later : List Outcome) (refusal : RefusalData)
    → (before ++ Refusal refusal ∷ []) ++ later ≡ map Accepted ts → ⊥
no_refusal [] [] later refusal same = cc same
no_refusal [] (outcome ∷ before) later refusal same = cc same
no_refusal (t ∷ ts) [] later refusal same = cc same
no_refusal (t ∷ ts) (outcome ∷ before) later refusal same = no_refusal ts before later refusal (cc same)

module _ (profile : List DeviceParts) (reads : (n : ℕ) (events : List Event)
    → (outcomes : List Outcome) × ReadsFrom profile n events outcomes)
    (some_passed : (events : List Event) → (passed : List Event) × (left : List Event)
    × PassedOver events passed left) where
  -- what is read after the next STOP
  after_stop : (n : ℕ) (events : List Event) → (outcomes : List Outcome) × ReadsAfterStop profile n events outcomes
  after_stop n events =
      let over = some_passed events in
      let later = reads (n + length over.0) over.1 in (later.0, (over.0, over.1, over.2, later.1))

  -- ---- a refusal that is held

  module _ (ts : List TransactionData) (events more : List Event) (event : Event) (outcomes : List Outcome)
      (refusal : RefusalData)
      (written : (others : List Outcome) → Reading profile (events ++ event ∷ more) others
      → others ≡ map Accepted ts) where
    none_held : (standing : Standing) → IsDueAt (HeldEvent event) standing
        → ((behind : List Event) (later : List Outcome) → IsDue (HeldEvent event) behind
        → Remains profile standing behind later
        → ReadsFrom profile 0 (events ++ behind) ((outcomes ++ Refusal refusal ∷ []) ++ later)) → ⊥
    -- a refusal is held, whatever is read after the next STOP
    none_held (Open n front) at read = absurd at
    none_held (Held n held) at read =
        let later = after_stop n (event ∷ more) in
        no_refusal ts outcomes later.0 refusal
        (written ((outcomes ++ Refusal refusal ∷ []) ++ later.0) (read (event ∷ more) later.0 (more, refl) later.1))
    none_held (Passing n) at read = absurd at

    pub none_refused : (reader : Reader) → HasRead profile reader events (HeldEvent event)
        (outcomes ++ Refusal refusal ∷ []) → ⊥
    none_refused reader read = none_held read.standing read.at read.reads
