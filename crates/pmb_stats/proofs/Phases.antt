-- The phase that data belong to is one of the command's phases in the order of output, and comes there once.
use Rattle.std.proofs.Common.{◌≡◌, ℕ, ◌+◌, Bool, true, cond, Option, Some, None, [], ◌∷◌, arith, eqb, ltb, map}
use Rattle.std.proofs.Common.{refl, ◌∙◌}
use Rattle.std.proofs.lemmas.Bool.{ltb-true}
use Rattle.std.proofs.lemmas.List.Sums.{sum_by-append}
use Rattle.std.specs.List.{count_by, range_with_len}
use Rattle.pmb_observed.specs.Spot.{has_phase, phase_key, phase_keys, same_phase}
use Rattle.pmb_observed.specs.declared.spot.PhaseKey.{PhaseKey}
use Rattle.pmb_observed.specs.declared.spot.PhaseKey.TheVariants.{OnPhase, AllPhases, UnknownPhase, Unphased}
use Rattle.pmb_stats.proofs.Numbered.{absent, within}
use Rattle.pmb_stats.proofs.Pages.{chosen}

pub key_has_phase : (phases selected : Option ℕ) → has_phase phases (phase_key phases selected) ≡ true
key_has_phase None selected = refl
key_has_phase (Some phases) None = refl
key_has_phase (Some phases) (Some phase) =
    chosen (λ key. has_phase (Some phases) key ≡ true) (eqb phase 255) AllPhases _ (λ _. refl)
    (λ _. chosen (λ key. has_phase (Some phases) key ≡ true) (ltb phase phases) (OnPhase phase) UnknownPhase
    (λ is. is) (λ _. refl))

count_keys : (p : PhaseKey → Bool) (phases : ℕ)
    → count_by p (phase_keys (Some phases))
    ≡ count_by p (map OnPhase (range_with_len 0 phases)) + count_by p (AllPhases ∷ UnknownPhase ∷ [])
count_keys p phases =
    sum_by-append (λ k. cond (p k) 1 0) (map OnPhase (range_with_len 0 phases)) (AllPhases ∷ UnknownPhase ∷ [])

pub phase_comes_once : (phases : Option ℕ) (key : PhaseKey) → has_phase phases key ≡ true
    → count_by (same_phase key) (phase_keys phases) ≡ 1
phase_comes_once None (OnPhase phase) has = cc
phase_comes_once None AllPhases has = cc
phase_comes_once None UnknownPhase has = cc
phase_comes_once None Unphased has = refl
phase_comes_once (Some phases) (OnPhase phase) has =
    let less = ltb-true phase phases has in
    count_keys (same_phase (OnPhase phase)) phases
    ∙ omega (
      arith,
      within (same_phase (OnPhase phase)) OnPhase phase 0 phases (λ other. refl) (omega arith) (omega (arith, less)),
    )
phase_comes_once (Some phases) AllPhases has =
    count_keys (same_phase AllPhases) phases
    ∙ omega (arith, absent (same_phase AllPhases) OnPhase (λ phase. refl) 0 phases)
phase_comes_once (Some phases) UnknownPhase has =
    count_keys (same_phase UnknownPhase) phases
    ∙ omega (arith, absent (same_phase UnknownPhase) OnPhase (λ phase. refl) 0 phases)
phase_comes_once (Some phases) Unphased has = cc
