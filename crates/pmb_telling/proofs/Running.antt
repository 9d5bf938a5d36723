-- What a run over a capture wrote and kept, said as `tell_kept` says it: under its choice, its profile and
-- what it does after a bad word. For `tell` and `tell_kept` of `src/run.rt`. The engine's own job is about the
-- `Teller` it
-- began with; its three values are those that it was made of.
use Rattle.std.proofs.Common.{◌≡◌, ℕ, Result, Ok, Err, List, [], ◌++◌, inl, inr, sym, subst}
use Rattle.pmb_command.specs.Bus.{IsBus}
use Rattle.pmb_command.specs.Parts.{DeviceParts}
use Rattle.pmb_io.specs.Engines.{engine_job}
use Rattle.pmb_facts.specs.Fact.{FactData}
use Rattle.pmb_io.specs.declared.fault.RunFault.{RunFault}
use Rattle.pmb_io.specs.declared.fault.RunFault.TheVariants.{Read, Write, TooManyReads}
use Rattle.pmb_io.specs.declared.fault.ToolFault.{ToolFault}
use Rattle.pmb_io.specs.declared.fault.ToolFault.TheVariants as tool
use Rattle.pmb_io.specs.declared.tally.Tally.{Tally}
use Rattle.pmb_io.specs.Runs.{AsTool, Job, Ran}
use Rattle.pmb_io.specs.Told.{ReaderTold, WriterTold}
use Rattle.pmb_io.proofs.RunLemmas.{failed_as, ran_as}
use Rattle.pmb_whole_input.specs.Whole.{Wrote}
use Rattle.pmb_scan.specs.declared.after_bad_token.AfterBadToken.{AfterBadToken}
use Rattle.pmb_telling.specs.declared.engine.Teller.{Teller}
use Rattle.pmb_telling.specs.Kept.{StopsKept, WritesKept, keeping_job}
use Rattle.pmb_telling.specs.Tell.{WritesToldFront, telling_job}
use Rattle.pmb_telling.specs.machine.Standing.{HasEnded, HasPutOut, HasStopped, teller_bad_words, teller_choice}
use Rattle.pmb_telling.specs.machine.Standing.{teller_profile}
use Rattle.pmb_telling.specs.machine.Standing.{teller_tally}
use Rattle.pmb_telling.proofs.Fronts.{opens_in}
use Rattle.pmb_keeper.specs.Setting.{Setting}
use Rattle.pmb_fact_stream.specs.Choice.{ChoiceData}
use Rattle.pmb_fact_stream.specs.Keeping.{KeepsOn, setting_under}

abbrev pub own_job : {K : Type 0} → (K → Setting → List FactData → Type 0) → Teller K → Teller K → Job (Unit {0})
own_job Keeps = engine_job (HasPutOut Keeps) (HasStopped Keeps) (HasEnded Keeps)

-- what is kept of facts, under the choice and the profile that it began with
abbrev pub kept_after : {K : Type 0} → (K → Setting → List FactData → Type 0) → K → ChoiceData → List DeviceParts
    → List FactData → Type 0
kept_after Keeps keeper choice profile = Keeps keeper (setting_under choice profile)

-- the same job under the names that it was made with
named_as : {K : Type 0} (Keeps : K → Setting → List FactData → Type 0) (now : K) (Holds : Job Tally → Type 0)
    (start : Teller K) (choice : ChoiceData)
    (profile : List DeviceParts) (after : AfterBadToken) → teller_choice start ≡ choice
    → teller_profile start ≡ profile → teller_bad_words start ≡ after
    → Holds (keeping_job (kept_after Keeps now (teller_choice start) (teller_profile start)) (teller_choice start)
    (teller_profile start) (teller_bad_words start))
    → Holds (keeping_job (kept_after Keeps now choice profile) choice profile after)
named_as Keeps now Holds start choice profile after same_choice same_profile same_after holds =
    let job = λ (k : ChoiceData) (p : List DeviceParts) (a : AfterBadToken).
    keeping_job (kept_after Keeps now k p) k p a in
    subst (λ (a : AfterBadToken). Holds (job choice profile a)) same_after
    (subst (λ (p : List DeviceParts). Holds (job choice p (teller_bad_words start))) same_profile
    (subst (λ (k : ChoiceData). Holds (job k (teller_profile start) (teller_bad_words start))) same_choice holds))

-- what holds of all facts after none holds of them
module _ (Old New : List FactData → Type 0) (choice : ChoiceData) (profile : List DeviceParts) (after : AfterBadToken)
    (none : Old []) (bytes text : List ℕ) (tally : Tally) where
  writes_all : WritesKept (KeepsOn Old New) choice profile after bytes text tally
      → WritesKept New choice profile after bytes text tally
  writes_all kept = record { writes = kept.writes; kept = kept.kept [] none }

module _ (Old New : List FactData → Type 0) (choice : ChoiceData) (profile : List DeviceParts) (after : AfterBadToken)
    (none : Old []) (bytes text : List ℕ) (tally : Tally) where
  stops_all : StopsKept (KeepsOn Old New) choice profile after bytes text tally
      → StopsKept New choice profile after bytes text tally
  stops_all stops = record {
    ends = stops.ends;
    writes = writes_all Old New choice profile after none bytes text tally stops.writes;
    whatever_follows = λ more. writes_all Old New choice profile after none (bytes ++ more) text tally
        (stops.whatever_follows more);
  }

module _ {R W K : Type 0} (reader_told : R → ReaderTold) (writer_told : W → WriterTold)
    (Keeps : K → Setting → List FactData → Type 0) (start now : Teller K)
    (choice : ChoiceData) (profile : List DeviceParts) (after : AfterBadToken)
    (same_choice : teller_choice start ≡ choice) (same_profile : teller_profile start ≡ profile)
    (same_after : teller_bad_words start ≡ after) (first : List ℕ) (old new : R × W) where
  pub tell_ran : (last : K) → last ≡ now.kept.keeper → (tally : Tally) → tally ≡ teller_tally now
      → kept_after Keeps start.kept.keeper choice profile []
      → Ran reader_told writer_told (own_job Keeps start now) first old new (Ok tt)
      → Ran reader_told writer_told (keeping_job (kept_after Keeps last choice profile) choice profile after)
      first old new (Ok tally)
  tell_ran last is tally counted begins ran =
      let job = keeping_job (kept_after Keeps now.kept.keeper (teller_choice start) (teller_profile start))
      (teller_choice start) (teller_profile start) (teller_bad_words start) in
      let none : kept_after Keeps start.kept.keeper (teller_choice start) (teller_profile start) [] =
      subst (λ (p : List DeviceParts). kept_after Keeps start.kept.keeper (teller_choice start) p []) (sym same_profile)
      (subst (λ (k : ChoiceData). kept_after Keeps start.kept.keeper k profile []) (sym same_choice) begins) in
      subst (λ (k : K). Ran reader_told writer_told (keeping_job (kept_after Keeps k choice profile) choice profile
      after) first old new (Ok tally)) (sym is)
      (named_as Keeps now.kept.keeper (λ job. Ran reader_told writer_told job first old new (Ok tally)) start choice
      profile after same_choice same_profile same_after
      (subst (λ (t : Tally). Ran reader_told writer_told job first old new (Ok t)) (sym counted)
      (ran_as reader_told writer_told (own_job Keeps start now) first old new job tt (teller_tally now)
      (λ bytes text ended. writes_all _ _ (teller_choice start) (teller_profile start) (teller_bad_words start) none
      bytes text (teller_tally now) ended)
      (λ bytes text stopped. stops_all _ _ (teller_choice start) (teller_profile start) (teller_bad_words start) none
      bytes text (teller_tally now) stopped)
      (λ bytes opened. opens_in Keeps opened.0.inside start opened.0 bytes opened.1 opened.2) ran)))

  pub tell_failed : (last : K) → last ≡ now.kept.keeper → (fault : RunFault) → IsBus profile
      → ((begun left : Teller K) (bytes text : List ℕ) → IsBus (teller_profile begun)
      → HasPutOut Keeps begun left bytes text
      → WritesToldFront (teller_choice begun) (teller_profile begun) (teller_bad_words begun) bytes text)
      → Ran reader_told writer_told (own_job Keeps start now) first old new (Err fault)
      → Ran reader_told writer_told (keeping_job (kept_after Keeps last choice profile) choice profile after)
      first old new (Err fault)
  tell_failed last is fault bus leaves ran =
      subst (λ (k : K). Ran reader_told writer_told (keeping_job (kept_after Keeps k choice profile) choice profile
      after) first old new (Err fault)) (sym is)
      (named_as Keeps now.kept.keeper (λ job. Ran reader_told writer_told job first old new (Err fault)) start choice
      profile after same_choice same_profile same_after
      (failed_as reader_told writer_told (own_job Keeps start now) first old new
      (keeping_job (kept_after Keeps now.kept.keeper (teller_choice start) (teller_profile start))
      (teller_choice start) (teller_profile start) (teller_bad_words start)) fault
      (λ bytes text written. leaves start now bytes text (subst IsBus (sym same_profile) bus) written) ran))

-- a run that keeps facts tells them
module _ {R W : Type 0} (reader_told : R → ReaderTold) (writer_told : W → WriterTold)
    (Kept : List FactData → Type 0) (choice : ChoiceData) (profile : List DeviceParts) (after : AfterBadToken)
    (first : List ℕ) (old new : R × W) where
  ran_told : (result : Result Tally RunFault)
      → Ran reader_told writer_told (keeping_job Kept choice profile after) first old new result
      → Ran reader_told writer_told (telling_job choice profile after) first old new result
  ran_told (Ok tally) ran =
      ran_as reader_told writer_told (keeping_job Kept choice profile after) first old new
      (telling_job choice profile after) tally tally (λ bytes text kept. kept.writes)
      (λ bytes text stops. record {
        ends = stops.ends;
        writes = stops.writes.writes;
        whatever_follows = λ more. (stops.whatever_follows more).writes;
      }) (λ bytes opened. opened) ran
  ran_told (Err fault) ran =
      failed_as reader_told writer_told (keeping_job Kept choice profile after) first old new
      (telling_job choice profile after) fault (λ bytes text front. front) ran

  pub tool_told : (result : Result Tally ToolFault)
      → AsTool (Ran reader_told writer_told (keeping_job Kept choice profile after) first old new) result
      → AsTool (Ran reader_told writer_told (telling_job choice profile after) first old new) result
  tool_told (Ok tally) ran = ran_told (Ok tally) ran
  tool_told (Err tool.Read) ran = ran_told (Err Read) ran
  tool_told (Err tool.Write) ran = ran_told (Err Write) ran
  tool_told (Err tool.TooManyReads) ran = ran_told (Err TooManyReads) ran
  tool_told (Err tool.ProfileTooLong) ran = ran
  tool_told (Err tool.Memory) ran = ran

-- a capture that was at hand as a whole is told
module _ {W K : Type 0} (told : W → WriterTold) (Keeps : K → Setting → List FactData → Type 0) (start now : Teller K)
    (choice : ChoiceData) (profile : List DeviceParts) (after : AfterBadToken)
    (same_choice : teller_choice start ≡ choice) (same_profile : teller_profile start ≡ profile)
    (same_after : teller_bad_words start ≡ after) (input : List ℕ) (old new : W) where
  pub whole_told : (tally : Tally) → tally ≡ teller_tally now → Wrote told (own_job Keeps start now) input old new tt
      → Wrote told (telling_job choice profile after) input old new tally
  whole_told tally counted wrote =
      let job = λ (k : ChoiceData) (p : List DeviceParts) (a : AfterBadToken). telling_job k p a in
      subst (λ (a : AfterBadToken). Wrote told (job choice profile a) input old new tally) same_after
      (subst (λ (p : List DeviceParts). Wrote told (job choice p (teller_bad_words start)) input old new tally)
      same_profile
      (subst (λ (k : ChoiceData). Wrote told (job k (teller_profile start) (teller_bad_words start)) input old new
      tally) same_choice
      (subst (λ (t : Tally). Wrote told (job (teller_choice start) (teller_profile start) (teller_bad_words start))
      input old new t) (sym counted) (record {
        text = wrote.text;
        is_text = elim wrote.is_text [
          | inl ended ↦ inl ended.writes
          | inr stopped ↦ inr (record {
            ends = stopped.ends;
            writes = stopped.writes.writes;
            whatever_follows = λ more. (stopped.whatever_follows more).writes;
          })
        ];
        appended = wrote.appended;
        none_failed = wrote.none_failed;
      }))))
