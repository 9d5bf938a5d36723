use Rattle.std.proofs.Common.{[], ◌∷◌, arith}
use Rattle.pmb_observed.specs.declared.spot.PhaseKey.TheVariants.{OnPhase, AllPhases, UnknownPhase}
use Rattle.pmb_observed.proofs.Numbered.{numbered_at, other_at}
use Rattle.pmb_observed.proofs.phases.phase_of.Goals as goal

pub returns-then-index-counted : goal.returns-then-index-counted
returns-then-index-counted c =
    numbered_at OnPhase (AllPhases ∷ UnknownPhase ∷ []) 0 c.args.phases c.args.index c.args.index
    (omega (arith, c.if-index-counted.true, c.from-counted.ensures)) (omega arith)

pub returns-then-index-counted-2 : goal.returns-then-index-counted-2
returns-then-index-counted-2 c =
    other_at OnPhase (AllPhases ∷ UnknownPhase ∷ []) 0 c.args.phases c.args.index 0
    (omega (arith, c.if-index-counted-2.true, c.from-counted.ensures))

pub returns-else-index-counted-2 : goal.returns-else-index-counted-2
returns-else-index-counted-2 c =
    other_at OnPhase (AllPhases ∷ UnknownPhase ∷ []) 0 c.args.phases c.args.index 1
    (omega (arith, c.requires, c.if-index-counted.false, c.if-index-counted-2.false, c.from-counted.ensures))
