-- What the status of a run says of its outcome: for `tool`, `run_lines`, `do_work`,
-- `run_under_front` and `run_under_sample`. By the outcome: the job was done, a read failed, a
-- write failed, or there were too many reads; reads and failures of the profile that comes first
-- are counted before (`IsBefore`).
use Rattle.std.proofs.Common.{◌≡◌, ◌≢◌, ◌∙◌, ap, ℕ, ◌+◌, ◌⊎◌, ◌==◌, if◌then◌else◌, Bool, true, false, Result, Ok, Err}
use Rattle.std.proofs.Common.{Some, List, [], ◌++◌, length-append, subst, inl, inr, refl, sym, arith}
use Rattle.std.specs.Io.KnownBytes.{Consumes}
use Rattle.pmb_io.specs.Count.{raised}
use Rattle.pmb_io.specs.Runs.{AsTool, Done, Job, PartDone, Ran, most_reads}
use Rattle.pmb_io.specs.Told.{ReaderTold, WriterTold}
use Rattle.pmb_io.specs.declared.empty.Empty.{Empty}
use Rattle.pmb_io.specs.declared.fault.ToolFault.{ToolFault}
use Rattle.pmb_io.specs.declared.fault.ToolFault.TheVariants.{Read, Write, TooManyReads, ProfileTooLong, Memory}
use Rattle.pmb_io.specs.declared.tally.Tally.{Tally}
use Rattle.pmb_io.proofs.Running.{raised_by_none, raised_twice}
use Rattle.pmb_io.proofs.Writing.{consumes_nothing, consumes_then}
use Rattle.pmb_preamble.specs.Front.{MadeFrontReads}
use Rattle.pmb_args.specs.ExitStatus.{EndedWell, run_status, status_of}
use Rattle.pmb_args.specs.declared.exit_status.ExitStatus.{ExitStatus}
use Rattle.pmb_args.specs.declared.exit_status.ExitStatus.TheVariants.{BadArguments, IoFailed, NoMemory}
use Rattle.pmb_args.specs.declared.exit_status.ExitStatus.TheVariants as statuses
use Rattle.pmb_cli.specs.Often.{MadeReadsInAll}
use Rattle.pmb_cli.specs.Statuses.{Does, StatusTells}
use Rattle.pmb_cli.proofs.Often.{reads_after, reads_of_front}

-- a run that ended did so well
well : (tally : Tally) → EndedWell (run_status (Ok tally))
well tally = by (tally.refusals == 0)
  where
    by : (b : Bool) → EndedWell (if b then statuses.Done else statuses.Refusals)
    by true = tt
    by false = tt

-- so its status is none that did not
not_well : (tally : Tally) (status : ExitStatus) → run_status (Ok tally) ≡ status → EndedWell status
not_well tally status is = subst EndedWell is (well tally)

-- of a fault it is none that ended well
pub fault_failed : (fault : ToolFault) → EndedWell (status_of fault) → ⊥
fault_failed Read ended = ended
fault_failed Write ended = ended
fault_failed TooManyReads ended = ended
fault_failed ProfileTooLong ended = ended
fault_failed Memory ended = ended

-- BadArguments where the profile is too long
pub is_too_long : (fault : ToolFault) → status_of fault ≡ BadArguments → fault ≡ ProfileTooLong
is_too_long Read bad = let clash : IoFailed ≡ BadArguments = bad in cc
is_too_long Write bad = let clash : IoFailed ≡ BadArguments = bad in cc
is_too_long TooManyReads bad = let clash : IoFailed ≡ BadArguments = bad in cc
is_too_long ProfileTooLong bad = refl
is_too_long Memory bad = let clash : NoMemory ≡ BadArguments = bad in cc

-- IoFailed where a read failed, if no write did and there were few reads
pub is_read : (fault : ToolFault) → (fault ≡ Write → ⊥) → (fault ≡ TooManyReads → ⊥) → status_of fault ≡ IoFailed
    → fault ≡ Read
is_read Read no_write few failed = refl
is_read Write no_write few failed = absurd (no_write refl)
is_read TooManyReads no_write few failed = absurd (few refl)
is_read ProfileTooLong no_write few failed = let clash : BadArguments ≡ IoFailed = failed in cc
is_read Memory no_write few failed = let clash : NoMemory ≡ IoFailed = failed in cc

-- and where the status is another, no read failed
pub no_failed_read : {A : Type 0} (answer : Result A ToolFault) (fault : ToolFault) → status_of fault ≢ IoFailed
    → answer ≡ Err fault → answer ≡ Err Read → ⊥
no_failed_read answer Read other is also = other refl
no_failed_read answer Write other is also = other refl
no_failed_read answer TooManyReads other is also = other refl
no_failed_read answer ProfileTooLong other is also = let clash : Err ProfileTooLong ≡ Err Read = sym is ∙ also in cc
no_failed_read answer Memory other is also = let clash : Err Memory ≡ Err Read = sym is ∙ also in cc

-- ---- a run

-- what was read of a reader before
pub record IsBefore (start mid : ReaderTold) : Type 0 where
  -- no read failed, and the end was not reached
  pub none_failed : mid.failures ≡ start.failures
  pub not_ended : mid.ended ≡ start.ended
  -- how often was read,
  pub few : MadeFrontReads start.reads mid.reads
  -- and what
  pub read : List ℕ
  pub consumed : Consumes start.left mid.left read

-- nothing
pub at_start : (told : ReaderTold) → IsBefore told told
at_start told = record {
  none_failed = refl;
  not_ended = refl;
  few = (0, omega arith, sym (raised_by_none told.reads));
  read = [];
  consumed = consumes_nothing told.left;
}

module _ {R W : Type 0} (reader_told : R → ReaderTold) (writer_told : W → WriterTold) (job : Job Tally) (first : List ℕ)
    (old new : R × W) where
  -- what it wrote, by its own status
  did : (outcome : Result Tally ToolFault) → AsTool (Ran reader_told writer_told job first old new) outcome
      → Does (λ tally. Done reader_told writer_told job tally first old new)
      (PartDone reader_told writer_told job first old new) (writer_told old.1) (writer_told new.1)
      (run_status outcome)
  -- the job is done
  did (Ok tally) ran = record {
    wrote = λ _. (tally, refl, ran.ok);
    part =
        λ failed. absurd (not_well tally IoFailed failed);
  }
  -- a read failed
  did (Err Read) ran = record { wrote = λ ended. absurd ended; part = λ _. inr (ran.before (inl refl)) }
  -- a write failed
  did (Err Write) ran = record { wrote = λ ended. absurd ended; part = λ _. inl (ran.write refl) }
  -- there were too many reads
  did (Err TooManyReads) ran = record { wrote = λ ended. absurd ended; part = λ _. inr (ran.before (inr refl)) }
  -- a run has neither of the last two
  did (Err ProfileTooLong) ran = absurd ran
  did (Err Memory) ran = absurd ran

  -- by the status that was returned for it
  pub run_did : (outcome : Result Tally ToolFault) (status : ExitStatus) → status ≡ run_status outcome
      → AsTool (Ran reader_told writer_told job first old new) outcome
      → Does (λ tally. Done reader_told writer_told job tally first old new)
      (PartDone reader_told writer_told job first old new) (writer_told old.1) (writer_told new.1) status
  run_did outcome status is ran = subst (Does (λ tally. Done reader_told writer_told job tally first old new)
      (PartDone reader_told writer_told job first old new) (writer_told old.1) (writer_told new.1)) (sym is)
      (did outcome ran)

  -- it is not refused
  pub run_unrefused : (outcome : Result Tally ToolFault)
      → AsTool (Ran reader_told writer_told job first old new) outcome → (run_status outcome ≡ BadArguments)
      ⊎ (run_status outcome ≡ NoMemory) → ⊥
  run_unrefused (Ok tally) ran (inl bad) = not_well tally BadArguments bad
  run_unrefused (Ok tally) ran (inr memory) = not_well tally NoMemory memory
  run_unrefused (Err Read) ran (inl bad) = let clash : IoFailed ≡ BadArguments = bad in cc
  run_unrefused (Err Read) ran (inr memory) = let clash : IoFailed ≡ NoMemory = memory in cc
  run_unrefused (Err Write) ran (inl bad) = let clash : IoFailed ≡ BadArguments = bad in cc
  run_unrefused (Err Write) ran (inr memory) = let clash : IoFailed ≡ NoMemory = memory in cc
  run_unrefused (Err TooManyReads) ran (inl bad) = let clash : IoFailed ≡ BadArguments = bad in cc
  run_unrefused (Err TooManyReads) ran (inr memory) = let clash : IoFailed ≡ NoMemory = memory in cc
  run_unrefused (Err ProfileTooLong) ran refused = ran
  run_unrefused (Err Memory) ran refused = ran

  -- ---- its status, where the reader was read before

  -- by its own status
  tells : (start : R) → IsBefore (reader_told start) (reader_told old.0) → (outcome : Result Tally ToolFault)
      → AsTool (Ran reader_told writer_told job first old new) outcome
      → StatusTells reader_told writer_told (start, old.1) new (run_status outcome)
  -- it ended: the tally says how well
  tells start before (Ok tally) ran = record {
    unwritten = λ refused. absurd (run_unrefused (Ok tally) ran refused);
    none_failed = λ _. (ran.no_read (λ is. cc) ∙ before.none_failed, ran.no_write (λ is. cc));
    io_failed = λ failed. absurd (not_well tally IoFailed failed);
    reads = reads_after _ _ _ before.few ran.reads;
  }
  -- a read failed: one failure more
  tells start before (Err Read) ran = record {
    unwritten = λ refused. absurd (run_unrefused (Err Read) ran refused);
    none_failed = λ other. absurd (other refl);
    io_failed = λ _. inl (
      ran.read refl ∙ ap (λ n. raised n 1) before.none_failed,
      ran.read_not_ended refl
          ∙ before.not_ended,
    );
    reads = reads_after _ _ _ before.few ran.reads;
  }
  -- a write failed
  tells start before (Err Write) ran = record {
    unwritten = λ refused. absurd (run_unrefused (Err Write) ran refused);
    none_failed = λ other. absurd (other refl);
    io_failed = λ _. inr (inl (ran.write refl));
    reads = reads_after _ _ _ before.few ran.reads;
  }
  -- too many reads: those before and those of the run together
  tells start before (Err TooManyReads) ran = record {
    unwritten = λ refused. absurd (run_unrefused (Err TooManyReads) ran refused);
    none_failed = λ other. absurd (other refl);
    io_failed = λ _.
        let many = ran.many refl in
        inr (inr (
          record {
            count = before.few.0 + most_reads;
            often = omega arith;
            counted = ran.too_many refl ∙ (ap (λ n. raised n most_reads) before.few.2
                ∙ raised_twice (reader_told start).reads before.few.0 most_reads);
            read = before.read ++ many.0.read;
            consumed = consumes_then (reader_told start).left (reader_told old.0).left
                (reader_told new.0).left before.read many.0.read before.consumed many.0.consumed;
            many = omega (arith, length-append before.read many.0.read, many.1);
          },
          ran.not_ended refl ∙ before.not_ended,
        ));
    reads = reads_after _ _ _ before.few ran.reads;
  }
  tells start before (Err ProfileTooLong) ran = absurd ran
  tells start before (Err Memory) ran = absurd ran

  -- by the status that was returned for it
  pub status_tells : (start : R) → IsBefore (reader_told start) (reader_told old.0)
      → (outcome : Result Tally ToolFault) (status : ExitStatus) → status ≡ run_status outcome
      → AsTool (Ran reader_told writer_told job first old new) outcome
      → StatusTells reader_told writer_told (start, old.1) new status
  status_tells start before outcome status is ran = subst (StatusTells reader_told writer_told (start, old.1) new)
      (sym is) (tells start before outcome ran)

-- ---- a run over a reader that has nothing, after the front of another

-- what such a reader tells
abbrev pub nothing_told : Empty → ReaderTold
nothing_told empty = record { left = Some []; given = 0; reads = 0; failures = 0; ended = true }

module _ {R W : Type 0} (reader_told : R → ReaderTold) (writer_told : W → WriterTold) (job : Job Tally)
    (empty empty_new : Empty) (out out_new : W) where
  -- a run over it
  abbrev NothingRan : Result Tally ToolFault → Type 0
  NothingRan = AsTool (Ran nothing_told writer_told job [] (empty, out) (empty_new, out_new))

  -- it fails in no read
  no_read_of_nothing : NothingRan (Err Read) → ⊥
  no_read_of_nothing ran = let never : 0 ≡ raised 0 1 = ran.read refl in omega (arith, never)

  -- and gives nothing
  nothing_is_few : NothingRan (Err TooManyReads) → ⊥
  nothing_is_few ran = let never : 0 ≡ raised 0 most_reads = ran.too_many refl in omega (arith, never)

  -- what its own status tells of the reader whose front was read
  all_tells : (start mid : R) → (reader_told mid).failures ≡ (reader_told start).failures
      → MadeFrontReads (reader_told start).reads (reader_told mid).reads
      → (outcome : Result Tally ToolFault) → NothingRan outcome
      → StatusTells reader_told writer_told (start, out) (mid, out_new) (run_status outcome)
  all_tells start mid none_failed few (Ok tally) ran = record {
    unwritten = λ refused. absurd (run_unrefused nothing_told writer_told job [] (empty, out) (empty_new, out_new)
        (Ok tally) ran refused);
    none_failed = λ _. (none_failed, ran.no_write (λ is. cc));
    io_failed = λ failed. absurd (not_well tally IoFailed failed);
    reads = reads_of_front _ _ few;
  }
  all_tells start mid none_failed few (Err Read) ran = absurd (no_read_of_nothing ran)
  all_tells start mid none_failed few (Err Write) ran = record {
    unwritten = λ refused. absurd (run_unrefused nothing_told writer_told job [] (empty, out) (empty_new, out_new)
        (Err Write) ran refused);
    none_failed = λ other. absurd (other refl);
    io_failed = λ _. inr (inl (ran.write refl));
    reads = reads_of_front _ _ few;
  }
  all_tells start mid none_failed few (Err TooManyReads) ran = absurd (nothing_is_few ran)
  all_tells start mid none_failed few (Err ProfileTooLong) ran = absurd ran
  all_tells start mid none_failed few (Err Memory) ran = absurd ran

  -- what the status tells that was returned for it
  pub nothing_tells : (start mid : R) → (reader_told mid).failures ≡ (reader_told start).failures
      → MadeFrontReads (reader_told start).reads (reader_told mid).reads
      → (outcome : Result Tally ToolFault) (status : ExitStatus) → status ≡ run_status outcome
      → AsTool (Ran nothing_told writer_told job [] (empty, out) (empty_new, out_new)) outcome
      → StatusTells reader_told writer_told (start, out) (mid, out_new) status
  nothing_tells start mid none_failed few outcome status is ran =
      subst (StatusTells reader_told writer_told (start, out) (mid, out_new)) (sym is)
      (all_tells start mid none_failed few outcome ran)

  module _ (Wrote : Tally → Type 0) (WrotePart : Type 0) (wrote : (tally : Tally)
      → Done nothing_told writer_told job tally [] (empty, out) (empty_new, out_new) → Wrote tally) where
    -- what was written for all profile, by its own status
    all_did : (outcome : Result Tally ToolFault) → NothingRan outcome
        → Does Wrote WrotePart (writer_told out) (writer_told out_new) (run_status outcome)
    -- it ended: what it did is what was asked for
    all_did (Ok tally) ran = record {
      wrote = λ _. (tally, refl, wrote tally ran.ok);
      part =
          λ failed. absurd (not_well tally IoFailed failed);
    }
    -- nothing is read of a reader that has nothing
    all_did (Err Read) ran = absurd (no_read_of_nothing ran)
    -- a write failed
    all_did (Err Write) ran = record { wrote = λ ended. absurd ended; part = λ _. inl (ran.write refl) }
    all_did (Err TooManyReads) ran = absurd (nothing_is_few ran)
    all_did (Err ProfileTooLong) ran = absurd ran
    all_did (Err Memory) ran = absurd ran

    -- by the status that was returned for it
    pub nothing_did : (outcome : Result Tally ToolFault) (status : ExitStatus) → status ≡ run_status outcome
        → AsTool (Ran nothing_told writer_told job [] (empty, out) (empty_new, out_new)) outcome
        → Does Wrote WrotePart (writer_told out) (writer_told out_new) status
    nothing_did outcome status is ran = subst (Does Wrote WrotePart (writer_told out) (writer_told out_new)) (sym is)
        (all_did outcome ran)

-- ---- of what was asked for

-- who does one does another that follows from it
pub does_as : (P Q : Tally → Type 0) (PPart QPart : Type 0) (old new : WriterTold) (status : ExitStatus)
    → ((tally : Tally) → P tally → Q tally) → (PPart → QPart) → Does P PPart old new status
    → Does Q QPart old new status
does_as P Q PPart QPart old new status wrote part does = record {
  wrote = λ done. let all = does.wrote done in (all.0, all.1, wrote all.0 all.2);
  part = λ failed. elim (does.part failed) [
    | inl write ↦ inl write
    | inr some ↦ inr (part some)
  ];
}

-- where the words are bad or there is no memory nothing is done
pub does_none : (P : Tally → Type 0) (PPart : Type 0) (old new : WriterTold) (status : ExitStatus)
    → (status ≡ BadArguments) ⊎ (status ≡ NoMemory) → Does P PPart old new status
does_none P PPart old new status (inl bad) =
    record {
      wrote = λ ended. absurd (subst EndedWell bad ended);
      part = λ failed. let clash : BadArguments ≡ IoFailed =
          sym bad ∙ failed in cc;
    }
does_none P PPart old new status (inr memory) =
    record {
      wrote = λ ended. absurd (subst EndedWell memory ended);
      part = λ failed. let clash : NoMemory ≡ IoFailed =
          sym memory ∙ failed in cc;
    }

-- and nothing failed, where nothing did
pub refused_tells : {R W : Type 0} (reader_told : R → ReaderTold) (writer_told : W → WriterTold) (old new : R) (out : W)
    (status : ExitStatus) → (status ≡ BadArguments) ⊎ (status ≡ NoMemory)
    → (reader_told new).failures ≡ (reader_told old).failures
    → MadeReadsInAll (reader_told old).reads (reader_told new).reads
    → StatusTells reader_told writer_told (old, out) (new, out) status
refused_tells reader_told writer_told old new out status (inl bad) none_failed reads = record {
  unwritten = λ _. refl;
  none_failed = λ _. (none_failed, refl);
  io_failed = λ failed. let clash : BadArguments ≡ IoFailed = sym bad ∙ failed in cc;
  reads = reads;
}
refused_tells reader_told writer_told old new out status (inr memory) none_failed reads = record {
  unwritten = λ _. refl;
  none_failed = λ _. (none_failed, refl);
  io_failed = λ failed. let clash : NoMemory ≡ IoFailed = sym memory ∙ failed in cc;
  reads = reads;
}

-- the two are not the same, and neither ended well
pub no_memory_is_not_bad : (status : ExitStatus) → status ≡ NoMemory → status ≡ BadArguments → ⊥
no_memory_is_not_bad status memory bad = let clash : NoMemory ≡ BadArguments = sym memory ∙ bad in cc

pub refused_ended : (status : ExitStatus) → (status ≡ BadArguments) ⊎ (status ≡ NoMemory) → EndedWell status → ⊥
refused_ended status (inl bad) ended = subst EndedWell bad ended
refused_ended status (inr memory) ended = subst EndedWell memory ended
