-- Facts that are told one after the other are told together. For `put_parts`, `put_packet`, `put_end` and
-- the visits.
use Rattle.std.proofs.Common.{ℕ, List, [], ◌++◌, append-nil, append_assoc, refl, sym, ap, ◌∙◌, subst}
use Rattle.pmb_command.specs.Parts.{DeviceParts}
use Rattle.pmb_facts.specs.Fact.{FactData}
use Rattle.pmb_keeper.specs.Setting.{Setting}
use Rattle.pmb_fact_stream.specs.declared.stream.Stream.{Stream}
use Rattle.pmb_fact_stream.specs.Choice.{ChoiceData}
use Rattle.pmb_fact_stream.specs.Keeping.{IsTold, KeepsOn, setting_under}
use Rattle.pmb_fact_stream.specs.Lines.{fact_lines}
use Rattle.pmb_fact_stream.specs.Stream.{IsSame, KeepsFacts, TellsFacts, stream_choice, stream_profile}
use Rattle.pmb_fact_stream.proofs.Lines.{lines_append}

-- ---- kept

pub keeps_none : (Kept : List FactData → Type 0) → KeepsOn Kept Kept []
keeps_none Kept before holds = subst Kept (sym (append-nil before)) holds

pub keeps_both : (A B C : List FactData → Type 0) (first second : List FactData) → KeepsOn A B first
    → KeepsOn B C second → KeepsOn A C (first ++ second)
keeps_both A B C first second a b before holds =
    subst C (append_assoc before first second) (b (before ++ first) (a before holds))

-- ---- told

module _ (choice : ChoiceData) (profile : List DeviceParts) where
  pub told_none : (Kept : List FactData → Type 0) → IsTold choice profile Kept Kept [] []
  told_none Kept = record { lines = refl; kept = keeps_none Kept }

  -- facts more
  pub tells_on : (A B C : List FactData → Type 0) (text added : List ℕ) (facts : List FactData)
      → IsTold choice profile B C added facts
      → KeepsOn (IsTold choice profile A B text) (IsTold choice profile A C (text ++ added)) facts
  tells_on A B C text added facts told before first = record {
    lines = ap (λ (t : List ℕ). t ++ added) first.lines
        ∙ ap (λ (t : List ℕ). fact_lines choice profile before ++ t) told.lines
        ∙ sym (lines_append choice profile before facts);
    kept = keeps_both A B C before facts first.kept told.kept;
  }

-- ---- under the same choice and profile

module _ {K : Type 0} (Keeps : K → Setting → List FactData → Type 0) (start now : Stream) (same : IsSame start now)
    (old new : K) (facts : List FactData) where
  pub same_kept : KeepsFacts Keeps now old new facts → KeepsFacts Keeps start old new facts
  same_kept kept =
      let holds = λ (c : ChoiceData) (p : List DeviceParts).
      KeepsOn (Keeps old (setting_under c p)) (Keeps new (setting_under c p)) facts in
      subst (λ (p : List DeviceParts). holds (stream_choice start) p) same.profile
      (subst (λ (c : ChoiceData). holds c (stream_profile now)) same.choice kept)

  pub same_told : (text : List ℕ) → TellsFacts Keeps now old new text facts → TellsFacts Keeps start old new text facts
  same_told text told =
      let holds = λ (c : ChoiceData) (p : List DeviceParts).
      IsTold c p (Keeps old (setting_under c p)) (Keeps new (setting_under c p)) text facts in
      subst (λ (p : List DeviceParts). holds (stream_choice start) p) same.profile
      (subst (λ (c : ChoiceData). holds c (stream_profile now)) same.choice told)
