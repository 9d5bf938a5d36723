use Rattle.std.proofs.Common.{◌<◌, Option, ℕ, [], ◌∷◌, arith, length, subst}
use Rattle.pmb_observed.specs.Spot.{phase_keys}
use Rattle.pmb_observed.specs.declared.spot.PhaseKey.TheVariants.{OnPhase, AllPhases, UnknownPhase}
use Rattle.pmb_observed.proofs.Numbered.{numbered_count}
use Rattle.pmb_observed.proofs.phases.phase_at.Goals as goal

pub phase_of-requires : goal.phase_of-requires
phase_of-requires c =
    omega (
      arith,
      subst (λ (phases : Option ℕ). c.args.index < length (phase_keys phases)) c.in-Some.is c.requires,
      numbered_count OnPhase (AllPhases ∷ UnknownPhase ∷ []) 0 c.in-Some.phases,
    )
