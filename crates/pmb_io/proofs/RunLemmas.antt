-- How a run ends, by its job, by a failed read or write, or after too many reads, and what a run
-- of one job says of another. For `each_piece` and `each_line`. Each end raises one count or none,
-- and a job that asks for less is met by the same run.
use Rattle.std.proofs.Common.{◌≡◌, ◌≤◌, ℕ, Result, Ok, Err, OnOk, List, ◌++◌, length, inl, inr, refl, ap, subst, sym}
use Rattle.std.proofs.Common.{◌∙◌, arith}
use Rattle.std.specs.Prelude.{IsErrAnd}
use Rattle.pmb_io.specs.Calls.{WriterTells}
use Rattle.pmb_io.specs.Count.{raised}
use Rattle.pmb_io.specs.Told.{ReaderTold, WriterTold}
use Rattle.pmb_io.specs.Runs.{AsTool, Done, Job, MadeReads, PartDone, Ran, as_tool_fault, most_reads}
use Rattle.pmb_io.specs.declared.fault.RunFault.{RunFault}
use Rattle.pmb_io.specs.declared.fault.RunFault.TheVariants.{Read, Write, TooManyReads}
use Rattle.pmb_io.specs.declared.fault.ToolFault.{ToolFault}
use Rattle.pmb_io.proofs.Running.{open_weaker, through_weaker}

-- what holds of a run that a fault ended holds of the tool's result with that fault
tool_fault : {A : Type 0} (Holds : Result A RunFault → Type 0) (fault : RunFault) → Holds (Err fault)
    → AsTool Holds (Err (as_tool_fault fault))
tool_fault Holds Read holds = holds
tool_fault Holds Write holds = holds
tool_fault Holds TooManyReads holds = holds

module _ {R W A : Type 0} (reader_told : R → ReaderTold) (writer_told : W → WriterTold) (job : Job A) (first : List ℕ)
    (old new : R × W) where
  -- ---- each of its ends

  -- the job is done
  pub ran_to_its_end : (answer : A) → (reader_told new.0).failures ≡ (reader_told old.0).failures
      → (writer_told new.1).failures ≡ (writer_told old.1).failures
      → MadeReads (reader_told old.0).reads (reader_told new.0).reads
      → Done reader_told writer_told job answer first old new
      → Ran reader_told writer_told job first old new (Ok answer)
  ran_to_its_end answer no_read no_write reads done = record {
    ok = done;
    read = λ is. cc;
    no_read = λ _. no_read;
    write = λ is. cc;
    no_write = λ _. no_write;
    reads = reads;
    too_many = λ is. cc;
    not_ended = λ is. cc;
    read_not_ended = λ is. cc;
    before = λ failed. elim failed [ inl is ↦ absurd (cc) | inr is ↦ absurd (cc) ];
    many = λ is. absurd (cc);
  }

  -- a read failed
  pub ran_into_read : (reader_told new.0).failures ≡ raised (reader_told old.0).failures 1
      → (writer_told new.1).failures ≡ (writer_told old.1).failures
      → MadeReads (reader_told old.0).reads (reader_told new.0).reads
      → (reader_told new.0).ended ≡ (reader_told old.0).ended → PartDone reader_told writer_told job first old new
      → Ran reader_told writer_told job first old new (Err Read)
  ran_into_read read no_write reads not_ended part = record {
    ok = tt;
    read = λ _. read;
    no_read = λ other. absurd (other refl);
    write = λ is. cc;
    no_write = λ _. no_write;
    reads = reads;
    too_many = λ is. cc;
    not_ended = λ _. not_ended;
    read_not_ended = λ _. not_ended;
    before = λ _. part;
    many = λ is. absurd (cc);
  }

  -- a write failed
  pub ran_into_write : (reader_told new.0).failures ≡ (reader_told old.0).failures
      → (writer_told new.1).failures ≡ raised (writer_told old.1).failures 1
      → MadeReads (reader_told old.0).reads (reader_told new.0).reads
      → Ran reader_told writer_told job first old new (Err Write)
  ran_into_write no_read write reads = record {
    ok = tt;
    read = λ is. cc;
    no_read = λ _. no_read;
    write = λ _. write;
    no_write = λ other. absurd (other refl);
    reads = reads;
    too_many = λ is. cc;
    not_ended = λ is. cc;
    read_not_ended = λ is. cc;
    before = λ failed. elim failed [ inl is ↦ absurd (cc) | inr is ↦ absurd (cc) ];
    many = λ is. absurd (cc);
  }

  -- there were too many reads
  pub ran_too_often : (reader_told new.0).failures ≡ (reader_told old.0).failures
      → (writer_told new.1).failures ≡ (writer_told old.1).failures
      → (reader_told new.0).reads ≡ raised (reader_told old.0).reads most_reads
      → (reader_told new.0).ended ≡ (reader_told old.0).ended
      → (part : PartDone reader_told writer_told job first old new) → most_reads ≤ length part.read
      → Ran reader_told writer_told job first old new (Err TooManyReads)
  ran_too_often no_read no_write often not_ended part many = record {
    ok = tt;
    read = λ is. cc;
    no_read = λ _. no_read;
    write = λ is. cc;
    no_write = λ _. no_write;
    reads = (most_reads, omega arith, often);
    too_many = λ _. often;
    not_ended = λ _. not_ended;
    read_not_ended = λ is. cc;
    before = λ _. part;
    many = λ _. (part, many);
  }

  -- the last text was put out, or was not written
  pub ran_to_last_write : (result : Result A RunFault) (mid : WriterTold) → WriterTells mid (writer_told new.1) result
      → mid.failures ≡ (writer_told old.1).failures
      → (reader_told new.0).failures ≡ (reader_told old.0).failures
      → MadeReads (reader_told old.0).reads (reader_told new.0).reads
      → (Written : Type 0) → OnOk result Written
      → (Written → (answer : A) → Done reader_told writer_told job answer first old new)
      → Ran reader_told writer_told job first old new result
  ran_to_last_write (Ok answer) mid tells same no_read reads Written written done =
      ran_to_its_end answer no_read (tells ∙ same) reads (done written answer)
  ran_to_last_write (Err fault) mid tells same no_read reads Written written done =
      subst (λ (why : RunFault). Ran reader_told writer_told job first old new (Err why)) (sym tells.0)
      (ran_into_write no_read (tells.1 ∙ ap (λ n. raised n 1) same) reads)

  -- a fault of a call is this call's
  pub ran_into : (result : Result A RunFault) (fault wanted : RunFault) → IsErrAnd result (λ told. told ≡ fault)
      → fault ≡ wanted
      → Ran reader_told writer_told job first old new (Err wanted)
      → Ran reader_told writer_told job first old new result
  ran_into (Ok answer) fault wanted is same ran = absurd is
  ran_into (Err told) fault wanted is same ran =
      subst (λ (why : RunFault). Ran reader_told writer_told job first old new (Err why)) (sym (is ∙ same)) ran

  -- and as the tool's
  pub tool_ran_into : (result : Result A ToolFault) (fault : RunFault)
      → IsErrAnd result (λ told. told ≡ as_tool_fault fault)
      → Ran reader_told writer_told job first old new (Err fault)
      → AsTool (Ran reader_told writer_told job first old new) result
  tool_ran_into (Ok answer) fault is ran = absurd is
  tool_ran_into (Err told) fault is ran = subst
      (λ (why : ToolFault). AsTool (Ran reader_told writer_told job first old new) (Err why)) (sym is)
      (tool_fault (Ran reader_told writer_told job first old new) fault ran)

  -- ---- of another job

  -- a done job is another, where what is written for it is written for that one
  pub done_as : {B : Type 0} (other : Job B) (answer : A) (answered : B)
      → ((bytes text : List ℕ) → job.Whole answer bytes text → other.Whole answered bytes text)
      → ((bytes text : List ℕ) → job.Stops answer bytes text → other.Stops answered bytes text)
      → ((bytes : List ℕ) → job.IsOpen bytes → other.IsOpen bytes)
      → Done reader_told writer_told job answer first old new
      → Done reader_told writer_told other answered first old new
  unfolding through_weaker
  done_as other answer answered whole stops opens (inl ended) =
      inl (record {
        through = through_weaker _ _ first _ _ whole ended.through;
        ended = ended.ended;
        at_end =
            ended.at_end;
      })
  done_as other answer answered whole stops opens (inr stopped) =
      inr (record {
        through = through_weaker _ _ first _ _ stops stopped.through;
        in_time =
            open_weaker reader_told _ _ first old.0 new.0 stopped.through.read opens stopped.in_time;
      })

  -- a run that ended well
  ran_done : {B : Type 0} (other : Job B) (answer : A) (answered : B)
      → (Done reader_told writer_told job answer first old new
      → Done reader_told writer_told other answered first old new)
      → Ran reader_told writer_told job first old new (Ok answer)
      → Ran reader_told writer_told other first old new (Ok answered)
  ran_done other answer answered done ran = record {
    ok = done ran.ok;
    read = λ is. cc;
    no_read = λ _. ran.no_read (λ is. cc);
    write = λ is. cc;
    no_write = λ _. ran.no_write (λ is. cc);
    reads = ran.reads;
    too_many = λ is. cc;
    not_ended = λ is. cc;
    read_not_ended = λ is. cc;
    before = λ failed. elim failed [ inl is ↦ absurd (cc) | inr is ↦ absurd (cc) ];
    many = λ is. absurd (cc);
  }

  pub ran_as : {B : Type 0} (other : Job B) (answer : A) (answered : B)
      → ((bytes text : List ℕ) → job.Whole answer bytes text → other.Whole answered bytes text)
      → ((bytes text : List ℕ) → job.Stops answer bytes text → other.Stops answered bytes text)
      → ((bytes : List ℕ) → job.IsOpen bytes → other.IsOpen bytes)
      → Ran reader_told writer_told job first old new (Ok answer)
      → Ran reader_told writer_told other first old new (Ok answered)
  ran_as other answer answered whole stops opens =
      ran_done other answer answered (done_as other answer answered whole stops opens)

  -- and one of a job that wants its whole input
  pub ended_as : {B : Type 0} (other : Job B) (answer : A) (answered : B)
      → ((bytes text : List ℕ) → job.Whole answer bytes text → other.Whole answered bytes text)
      → ((bytes text : List ℕ) → job.Stops answer bytes text → ⊥)
      → Ran reader_told writer_told job first old new (Ok answer)
      → Ran reader_told writer_told other first old new (Ok answered)
  unfolding through_weaker
  ended_as other answer answered whole never = ran_done other answer answered (λ done. elim done [
    | inl ended ↦ inl (record {
      through = through_weaker _ _ first _ _ whole ended.through;
      ended =
          ended.ended;
      at_end = ended.at_end;
    })
    | inr stopped ↦ absurd (never (first ++ stopped.through.read) stopped.through.text stopped.through.holds)
  ])

  -- and one that a fault ended
  pub failed_as : {B : Type 0} (other : Job B) (fault : RunFault)
      → ((bytes text : List ℕ) → job.Front bytes text → other.Front bytes text)
      → Ran reader_told writer_told job first old new (Err fault)
      → Ran reader_told writer_told other first old new (Err fault)
  unfolding through_weaker
  failed_as other fault front ran = record {
    ok = tt;
    read = λ is. ran.read (cc);
    no_read = λ not. ran.no_read (λ is. not (cc));
    write = λ is. ran.write (cc);
    no_write = λ not. ran.no_write (λ is. not (cc));
    reads = ran.reads;
    too_many = λ is. ran.too_many (cc);
    not_ended = λ is. ran.not_ended (cc);
    read_not_ended = λ is. ran.read_not_ended (cc);
    before = λ failed. through_weaker _ _ first _ _ front
        (ran.before (elim failed [ inl is ↦ inl (cc) | inr is ↦ inr (cc) ]));
    many = λ is. let many = ran.many (cc) in (through_weaker _ _ first _ _ front many.0, many.1);
  }
