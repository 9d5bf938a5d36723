-- A capture that is cut after a STOP, and what its pieces read as.
use Rattle.std.specs.Prelude.{◌≡◌, ◌≢◌, ℕ, ◌+◌, List, [], ◌∷◌, ◌++◌, map}
use Rattle.pmb_bus.specs.Count.{capped}
use Rattle.pmb_bus.specs.declared.event.Event.{Event}
use Rattle.pmb_bus.specs.declared.event.Event.TheVariants.{Stop}
use Rattle.pmb_transaction.specs.declared.reason.Reason.TheVariants.{Truncated}
use Rattle.pmb_transaction.specs.Reading.{Outcome, Accepted, Refusal, RefusalData}

-- The last of the events is STOP; others may stand before it.
pub record EndsWithStop (events : List Event) : Type 0 where
  pub front : List Event
  pub split : events ≡ front ++ Stop ∷ []

-- A refusal n events further on: its place moves, and stays at the greatest u64.
abbrev pub moved_refusal : ℕ → RefusalData → RefusalData
moved_refusal n refusal = record refusal { at = capped (n + refusal.at) }

-- an outcome n events further on
abbrev pub moved_outcome : ℕ → Outcome → Outcome
moved_outcome n (Accepted t) = Accepted t
moved_outcome n (Refusal refusal) = Refusal (moved_refusal n refusal)

-- outcomes n events further on
abbrev pub moved : ℕ → List Outcome → List Outcome
moved n outcomes = map (moved_outcome n) outcomes

-- an outcome other than the truncation of a packet
abbrev pub IsNotTruncated : Outcome → Type 0
IsNotTruncated outcome = (refusal : RefusalData) → outcome ≡ Refusal refusal → refusal.reason ≢ Truncated
