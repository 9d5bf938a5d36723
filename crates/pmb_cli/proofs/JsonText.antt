-- What `json`, and `stats` with `--json`, write is lines of JSON: for `tool`. Their text is the one that their job
-- is to write, under a profile that some text says, and laws say that such a text is lines of JSON.
use Rattle.std.proofs.Common.{◌≡◌, ◌≢◌, ◌<◌, ℕ, Option, Some, None, Ok, List, [], ◌++◌, inl, inr, refl, sym, ap}
use Rattle.std.proofs.Common.{subst, ◌∙◌}
use Rattle.std.specs.Prelude.{◌⊎◌}
use Rattle.std.specs.Io.KnownBytes.{Appends, Consumes}
use Rattle.std.proofs.lemmas.List.{append-nil}
use Rattle.std.proofs.lemmas.Option.{same_Some}
use Rattle.pmb_fact_stream.specs.Choice.{ChoiceData}
use Rattle.pmb_fact_stream.specs.declared.telling.Telling.TheVariants.{Objects}
use Rattle.pmb_io.specs.Count.{raised}
use Rattle.pmb_io.specs.Runs.{Done, Job, PartDone, Through}
use Rattle.pmb_io.specs.Told.{ReaderTold, WriterTold, told_by}
use Rattle.pmb_io.specs.declared.tally.Tally.{Tally}
use Rattle.pmb_json.specs.Lines.{AreJsonLines}
use Rattle.pmb_json.proofs.EachOf.{each_of_first, each_of_second}
use Rattle.pmb_json_text.specs.Spelling.{AreBytes}
use Rattle.pmb_preamble.specs.Front.{FirstMark, IsFront}
use Rattle.pmb_scan.specs.declared.after_bad_token.AfterBadToken.{AfterBadToken}
use Rattle.pmb_summary.specs.Choice.{SumsData}
use Rattle.pmb_summary.specs.Summing.{WritesSums, objects_of}
use Rattle.pmb_table.specs.Profile.{ProfileParts, SaysBus}
use Rattle.pmb_telling.specs.SoFar.{HasTold}
use Rattle.pmb_telling.specs.Text.{WritesTold}
use Rattle.pmb_args.specs.Asked.{Json, Stats, UnderProfile, Wanted}
use Rattle.pmb_args.specs.Facts.{FactsWanted}
use Rattle.pmb_args.specs.Stats.{StatsWanted}
use Rattle.pmb_args.specs.declared.exit_status.ExitStatus.{ExitStatus}
use Rattle.pmb_args.specs.declared.exit_status.ExitStatus.TheVariants as statuses
use Rattle.pmb_args.specs.declared.profile_place.ProfilePlace.{ProfilePlace}
use Rattle.pmb_args.specs.declared.profile_place.ProfilePlace.TheVariants.{Sample, Front}
use Rattle.pmb_args.specs.declared.stats_arguments.StatsForm.{StatsForm}
use Rattle.pmb_args.specs.declared.stats_arguments.StatsForm.TheVariants as forms
use Rattle.pmb_cli.specs.Facts.{choice_of}
use Rattle.pmb_cli.specs.JsonOutput.{AppendsJson, TellsBytes, WroteJson}
use Rattle.pmb_cli.specs.Stats.{sums_of, text_in}
use Rattle.pmb_cli.specs.Profiles.{BeginsWithProfile, PartUnderFront, UnderFront, UnderSample}
use Rattle.pmb_cli.specs.Tasks.{DidTask}
use Rattle.pmb_cli.specs.Works.{DoneUnder, PartDoneUnder, WritesRest, working}

-- ---- what is said of a text

-- What a job is to write under a profile is lines of JSON, where what is read is such.
pub record IsJsonJob (IsSuch : List ℕ → Type 0) (job : Job Tally) : Type 0 where
  pub whole : (tally : Tally) (bytes text : List ℕ) → IsSuch bytes → job.Whole tally bytes text → AreJsonLines text
  pub stops : (tally : Tally) (bytes text : List ℕ) → IsSuch bytes → job.Stops tally bytes text → AreJsonLines text
  pub front : (bytes text : List ℕ) → IsSuch bytes → job.Front bytes text → AreJsonLines text

-- .. under each that a text says
abbrev pub AreJsonJobs : (List ℕ → Type 0) → (ProfileParts → Job Tally) → Type 0
AreJsonJobs IsSuch job = (profile : List ℕ) (bus : ProfileParts) → SaysBus profile (Ok bus) → IsJsonJob IsSuch (job bus)

no_lines : AreJsonLines []
no_lines = record { lines = []; each = tt; whole = refl }

-- What the law says of a text that is told as objects: of a whole capture, and so far.
pub record WritesJson : Type 0 where
  pub whole : (profile : List ℕ) (bus : ProfileParts) (choice : ChoiceData) (after : AfterBadToken)
      (bytes text : List ℕ) (tally : Tally) → SaysBus profile (Ok bus) → choice.telling ≡ Objects → AreBytes bytes
      → WritesTold choice bus.devices after bytes text tally → AreJsonLines text
  pub so_far : (profile : List ℕ) (bus : ProfileParts) (choice : ChoiceData) (after : AfterBadToken)
      (bytes text : List ℕ) → SaysBus profile (Ok bus) → choice.telling ≡ Objects → AreBytes bytes
      → HasTold choice bus.devices after bytes text → AreJsonLines text

-- so it is of the job of `json`
json_jobs : WritesJson → (wanted : FactsWanted) → AreJsonJobs AreBytes (working (Json wanted))
json_jobs json wanted profile bus says =
    let choice : ChoiceData = choice_of Objects wanted bus.ignored in record {
      whole = λ tally bytes text small writes. json.whole profile bus choice wanted.after_bad_token bytes text tally
          says refl small writes;
      stops = λ tally bytes text small stops. json.whole profile bus choice wanted.after_bad_token bytes text tally
          says refl small stops.writes;
      front = λ bytes text small front. json.so_far profile bus choice wanted.after_bad_token bytes text says refl
          small front.so_far;
    }

-- What the law says of a text of sums as objects.
abbrev pub WritesSumsAsJson : Type 0
WritesSumsAsJson = (profile : List ℕ) (bus : ProfileParts) (sums : SumsData) (tally : Tally) (bytes text : List ℕ)
    → SaysBus profile (Ok bus) → WritesSums (objects_of sums bus.devices) sums bus.devices tally bytes text
    → AreJsonLines text

-- .. so that it is of the job of `stats` with `--json`, of any bytes; nothing is written before the end
sums_jobs : WritesSumsAsJson → (wanted : StatsWanted) → wanted.form ≡ forms.Objects
    → AreJsonJobs (λ bytes. Unit {0}) (working (Stats wanted))
sums_jobs json wanted objects profile bus says =
    let sums : SumsData = sums_of wanted bus.ignored in
    let as_objects : (tally : Tally) (bytes text : List ℕ)
    → WritesSums (text_in wanted.form sums bus.devices) sums bus.devices tally bytes text → AreJsonLines text =
    λ tally bytes text writes. json profile bus sums tally bytes text says
    (subst (λ (form : StatsForm). WritesSums (text_in form sums bus.devices) sums bus.devices tally bytes text) objects
    writes) in
    record {
      whole = λ tally bytes text such writes. as_objects tally bytes text writes;
      stops = λ tally bytes text such stops. as_objects tally bytes text stops.writes;
      front = λ bytes text such none. subst AreJsonLines (sym none) no_lines;
    }

-- ---- bytes

-- what is read of bytes is bytes
read_bytes : (old new : ReaderTold) (read : List ℕ) → TellsBytes old → Consumes old.left new.left read → AreBytes read
read_bytes old new read tells consumed = by old.left new.left tells.left consumed
  where
    by : (had has : Option (List ℕ)) → had ≡ Some tells.bytes → Consumes had has read → AreBytes read
    by None has is consumed = cc
    by (Some bytes) None is consumed = absurd consumed
    by (Some bytes) (Some more) is consumed =
        let whole : tells.bytes ≡ read ++ more = sym (same_Some bytes tells.bytes is) ∙ consumed in
        each_of_first (λ (byte : ℕ). byte < 256) read more (subst AreBytes whole tells.small)

-- and so is what follows the line after a profile
rest_bytes : (read profile rest : List ℕ) → IsFront read profile rest → AreBytes read → AreBytes rest
rest_bytes read profile rest (inl first) small =
    let behind : AreBytes (first.line ++ rest) = each_of_second (λ (byte : ℕ). byte < 256) profile (first.line ++ rest)
    (subst AreBytes first.mark.whole small) in
    each_of_second (λ (byte : ℕ). byte < 256) first.line rest behind
rest_bytes read profile rest (inr all) small = subst AreBytes (sym all.nothing) tt

-- ---- a writer

-- where nothing was written, that is no line
appends_none : (old new : Option (List ℕ)) → new ≡ old → Appends old new []
appends_none None new same = tt
appends_none (Some held) None same = cc
appends_none (Some held) (Some now) same = same_Some now held same ∙ sym (append-nil held)

nothing_appended : (old new : WriterTold) → new.held ≡ old.held → AppendsJson old new
nothing_appended old new same =
    record { text = []; appended = appends_none old.held new.held same; lines = no_lines }

-- ---- over a reader and a writer

-- What is read of a reader is such, and so is what follows the profile in it.
pub record ReadsSuch (IsSuch : List ℕ → Type 0) (old new : ReaderTold) : Type 0 where
  pub read : (read : List ℕ) → Consumes old.left new.left read → IsSuch read
  pub rest : (read profile rest : List ℕ) → IsFront read profile rest → IsSuch read → IsSuch rest

module _ {R W : Type 0} (reader_told : R → ReaderTold) (out_told : W → WriterTold) (IsSuch : List ℕ → Type 0)
    (job : ProfileParts → Job Tally) (json : AreJsonJobs IsSuch job) (old new : R × W)
    (such : ReadsSuch IsSuch (reader_told old.0) (reader_told new.0)) where
  abbrev Appended : Type 0
  Appended = AppendsJson (out_told old.1) (out_told new.1)

  through_lines : (Holds : List ℕ → List ℕ → Type 0)
      → ((bytes text : List ℕ) → IsSuch bytes → Holds bytes text → AreJsonLines text)
      → Through Holds [] (told_by reader_told out_told old) (told_by reader_told out_told new) → Appended
  through_lines Holds lines through = record {
    text = through.text;
    appended = through.appended;
    lines = lines through.read through.text (such.read through.read through.consumed) through.holds;
  }

  -- under the sample
  sample_done : (sample : List ℕ) (tally : Tally)
      → UnderSample (λ bus. Done reader_told out_told (job bus) tally [] old new) sample → Appended
  sample_done sample tally under = by under.holds
    where
      lines : IsJsonJob IsSuch (job under.bus)
      lines = json sample under.bus under.says

      by : Done reader_told out_told (job under.bus) tally [] old new → Appended
      by (inl ended) = through_lines ((job under.bus).Whole tally) (lines.whole tally) ended.through
      by (inr stopped) = through_lines ((job under.bus).Stops tally) (lines.stops tally) stopped.through

  sample_part : (sample : List ℕ)
      → UnderSample (λ bus. PartDone reader_told out_told (job bus) [] old new) sample → Appended
  sample_part sample under =
      through_lines ((job under.bus).Front) (json sample under.bus under.says).front under.holds

  -- under a profile that comes first
  module _ (IsCut : List ℕ → List ℕ → List ℕ → Type 0)
      (front : (read profile rest : List ℕ) → IsCut read profile rest → IsFront read profile rest)
      (begins : BeginsWithProfile IsCut (told_by reader_told out_told old) (told_by reader_told out_told new)) where
    rest_is_such : IsSuch begins.rest
    rest_is_such = such.rest begins.read begins.profile begins.rest
        (front begins.read begins.profile begins.rest begins.cut) (such.read begins.read begins.consumed)

    begins_lines : (IsJsonJob IsSuch (job begins.bus) → IsSuch begins.rest → AreJsonLines begins.text) → Appended
    begins_lines lines = record {
      text = begins.text;
      appended = begins.appended;
      lines = lines (json begins.profile begins.bus begins.says) rest_is_such;
    }

  front_done : (tally : Tally) → UnderFront (WritesRest reader_told out_told job old.0 new.0 tally)
      (told_by reader_told out_told old) (told_by reader_told out_told new) → Appended
  front_done tally under = begins_lines IsFront (λ read profile rest cut. cut) under.begins (by under.holds)
    where
      by : WritesRest reader_told out_told job old.0 new.0 tally under.begins.bus under.begins.rest under.begins.text
          under.begins.read → IsJsonJob IsSuch (job under.begins.bus) → IsSuch under.begins.rest
          → AreJsonLines under.begins.text
      by (inl whole) lines is = lines.whole tally under.begins.rest under.begins.text is whole.0
      by (inr stops) lines is = lines.stops tally under.begins.rest under.begins.text is stops.0

  front_part : PartUnderFront (λ bus. (job bus).Front) (told_by reader_told out_told old)
      (told_by reader_told out_told new) → Appended
  front_part (inl none) = nothing_appended (out_told old.1) (out_told new.1) none.unwritten
  front_part (inr part) = begins_lines FirstMark (λ read profile rest cut. inl cut) part.begins
      (λ lines is. lines.front part.begins.rest part.begins.text is part.holds)

  -- by where the profile is
  all_lines : (place : ProfilePlace) (sample : List ℕ) (tally : Tally)
      → DoneUnder reader_told out_told job place sample tally old new → Appended
  all_lines Sample sample tally done = sample_done sample tally done
  all_lines Front sample tally done = front_done tally done

  lines_so_far : (place : ProfilePlace) (sample : List ℕ)
      → PartDoneUnder reader_told out_told job place sample old new → Appended
  lines_so_far Sample sample part = sample_part sample part
  lines_so_far Front sample part = front_part part

-- ---- a task

module _ {R W E : Type 0} (reader_told : R → ReaderTold) (out_told : W → WriterTold) (err_told : E → WriterTold)
    (sample : List ℕ) (place : ProfilePlace) (wanted : Wanted) (IsSuch : List ℕ → Type 0)
    (json : AreJsonJobs IsSuch (working wanted)) (old new : R × W × E)
    (such : ReadsSuch IsSuch (reader_told old.0) (reader_told new.0)) where
  abbrev DidIt : ExitStatus → Type 0
  DidIt = DidTask reader_told out_told err_told sample (UnderProfile place wanted) old new

  abbrev Out : Type 0
  Out = AppendsJson (out_told old.1) (out_told new.1)

  unwritten_lines : new.1 ≡ old.1 → Out
  unwritten_lines same = nothing_appended (out_told old.1) (out_told new.1) (ap (λ (w : W). (out_told w).held) same)

  done_lines : (tally : Tally)
      → DoneUnder reader_told out_told (working wanted) place sample tally (old.0, old.1) (new.0, new.1) → Out
  done_lines tally done = all_lines reader_told out_told IsSuch (working wanted) json (old.0, old.1) (new.0, new.1)
      such place sample tally done

  ended_lines : (status : ExitStatus) → DidIt status → status ≢ statuses.IoFailed → Out
  ended_lines statuses.Done did other = let wrote = did.did.wrote tt in done_lines wrote.0 wrote.2
  ended_lines statuses.Refusals did other = let wrote = did.did.wrote tt in done_lines wrote.0 wrote.2
  ended_lines statuses.BadArguments did other = unwritten_lines (did.tells.unwritten (inl refl))
  ended_lines statuses.IoFailed did other = absurd (other refl)
  ended_lines statuses.NoMemory did other = unwritten_lines (did.tells.unwritten (inr refl))

  part_lines : ((out_told new.1).failures ≡ raised (out_told old.1).failures 1)
      ⊎ PartDoneUnder reader_told out_told (working wanted) place sample (old.0, old.1) (new.0, new.1)
      → ((out_told new.1).failures ≡ raised (out_told old.1).failures 1) ⊎ Out
  part_lines (inl failed) = inl failed
  part_lines (inr part) = inr (lines_so_far reader_told out_told IsSuch (working wanted) json (old.0, old.1)
      (new.0, new.1) such place sample part)

  pub task_lines : (status : ExitStatus) → DidIt status → WroteJson (out_told old.1) (out_told new.1) status
  task_lines status did = record {
    lines = ended_lines status did;
    part = λ failed. part_lines (did.did.part failed);
  }

-- what `json` writes, where the reader tells its bytes
pub json_lines : {R W E : Type 0} (reader_told : R → ReaderTold) (out_told : W → WriterTold)
    (err_told : E → WriterTold) (sample : List ℕ) → WritesJson → (place : ProfilePlace) (wanted : FactsWanted)
    (old new : R × W × E) → TellsBytes (reader_told old.0) → (status : ExitStatus)
    → DidTask reader_told out_told err_told sample (UnderProfile place (Json wanted)) old new status
    → WroteJson (out_told old.1) (out_told new.1) status
json_lines reader_told out_told err_told sample json place wanted old new tells status did =
    task_lines reader_told out_told err_told sample place (Json wanted) AreBytes (json_jobs json wanted) old new
    (record {
      read = λ read consumed. read_bytes (reader_told old.0) (reader_told new.0) read tells consumed;
      rest = rest_bytes;
    }) status did

-- and what `stats` does with `--json`
pub sums_lines : {R W E : Type 0} (reader_told : R → ReaderTold) (out_told : W → WriterTold)
    (err_told : E → WriterTold) (sample : List ℕ) → WritesSumsAsJson → (place : ProfilePlace) (wanted : StatsWanted)
    → wanted.form ≡ forms.Objects → (old new : R × W × E) (status : ExitStatus)
    → DidTask reader_told out_told err_told sample (UnderProfile place (Stats wanted)) old new status
    → WroteJson (out_told old.1) (out_told new.1) status
sums_lines reader_told out_told err_told sample json place wanted objects old new status did =
    task_lines reader_told out_told err_told sample place (Stats wanted) (λ bytes. Unit {0})
    (sums_jobs json wanted objects) old new
    (record { read = λ read consumed. tt; rest = λ read profile rest is such. tt }) status did
