use Rattle.std.proofs.Common.{◌≡◌, ◌++◌, ℕ, List, length}
use Rattle.pmb_bus.specs.declared.event.Event.{Event}
use Rattle.pmb_draft.specs.machine.Draft.{DraftStands}
use Rattle.pmb_draft.proofs.Taking.{TakenSoFar}
use Rattle.pmb_draft.proofs.draft.Draft.take_piece.Given as goal

-- the words so far are taken
abbrev pub invariant-words : goal.invariant-words
invariant-words l = record {
  front : List ℕ;
  whole : l.fn.piece ≡ front ++ l.rest;
  taken : (bytes : List ℕ) (events : List Event) → DraftStands l.fn.self bytes events
      → TakenSoFar l.fn.self l.self front bytes;
}

abbrev pub decreases-words : goal.decreases-words
decreases-words l = length l.rest
