use Rattle.std.proofs.Common.{◌≡◌, ℕ, Option, Some, [], ◌∷◌, ap, arith, length}
use Rattle.pmb_observed.specs.Spot.{phase_keys}
use Rattle.pmb_observed.specs.declared.spot.PhaseKey.TheVariants.{OnPhase, AllPhases, UnknownPhase}
use Rattle.pmb_observed.proofs.Numbered.{numbered_count}
use Rattle.pmb_observed.proofs.phases.phase_count.Goals as goal

pub returns-in-Some-clause-count : goal.returns-in-Some-clause-count
returns-in-Some-clause-count c =
    let same : length (phase_keys c.args.phases) ≡ length (phase_keys (Some c.in-Some.phases))
    = ap (λ (phases : Option ℕ). length (phase_keys phases)) c.in-Some.is in
    omega (
      arith,
      same,
      c.from.ensures,
      numbered_count OnPhase (AllPhases ∷ UnknownPhase ∷ []) 0 c.in-Some.phases,
    )
