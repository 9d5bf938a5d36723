-- How many packets and refusals there are among outcomes.
use Rattle.std.specs.Prelude.{◌≡◌, ℕ, ◌+◌, List, [], ◌∷◌}
use Rattle.pmb_bus.specs.Count.{capped}
use Rattle.pmb_transaction.specs.Transaction.{TransactionData}
use Rattle.pmb_transaction.specs.Reading.{Accepted, Outcome, Refusal}
use Rattle.pmb_reader.specs.declared.reader.Took.{Took}
use Rattle.pmb_reader.specs.declared.reader.Took.TheVariants as took
use Rattle.pmb_reader.specs.Refusal.{refusal_data}
use Rattle.pmb_count.specs.declared.capture_counts.CaptureCounts.{CaptureCounts}

abbrev pub packets : List Outcome → ℕ
packets [] = 0
packets (Accepted t ∷ outcomes) = packets outcomes + 1
packets (Refusal refusal ∷ outcomes) = packets outcomes

abbrev pub refusals : List Outcome → ℕ
refusals [] = 0
refusals (Accepted t ∷ outcomes) = refusals outcomes
refusals (Refusal refusal ∷ outcomes) = refusals outcomes + 1

-- The counts of outcomes, each of which stays at the greatest u64.
pub record IsCountOf (count : CaptureCounts) (outcomes : List Outcome) : Type 0 where
  pub packets_are : count.packets ≡ capped (packets outcomes)
  pub refusals_are : count.refusals ≡ capped (refusals outcomes)

-- what one event adds to what is read
abbrev pub IsAdded : Took → List Outcome → Type 0
IsAdded took.Continues added = added ≡ []
IsAdded took.Packet added = (t : TransactionData) × (added ≡ Accepted t ∷ [])
IsAdded (took.Refused refusal) added = added ≡ Refusal (refusal_data refusal) ∷ []
