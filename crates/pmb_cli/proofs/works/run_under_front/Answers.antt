use Rattle.std.proofs.Common.{◌≡◌, ◌∙◌, ℕ, true, List, Err, Ok, inl, inr, sym, ap, subst, refl}
use Rattle.pmb_io.specs.Runs.{AsTool, Ran}
use Rattle.pmb_keys.specs.declared.fault.FaultKind.TheVariants.{OutOfMemory}
use Rattle.pmb_io.specs.declared.fault.ToolFault.{ToolFault}
use Rattle.pmb_io.specs.declared.fault.ToolFault.TheVariants.{Read}
use Rattle.pmb_args.specs.ExitStatus.{EndedWell}
use Rattle.pmb_args.specs.declared.exit_status.ExitStatus.TheVariants.{IoFailed}
use Rattle.pmb_table.specs.Profile.{SaysBus}
use Rattle.pmb_run.specs.Lines.{OrNoMemory}
use Rattle.pmb_args.specs.Asked.{wanted_of}
use Rattle.pmb_cli.specs.Works.{DoneUnderFront, takes_memory, working}
use Rattle.pmb_cli.proofs.UnderFront.{done_after_mark, done_without_mark, part_after_mark, part_of_profile}
use Rattle.pmb_cli.proofs.Statuses.{does_as, does_none, fault_failed, is_read, is_too_long, no_failed_read}
use Rattle.pmb_cli.proofs.Statuses.{no_memory_is_not_bad, nothing_told, refused_ended, refused_tells}
use Rattle.pmb_cli.proofs.Memory.{front_alone, is_memory}
use Rattle.pmb_cli.proofs.Working.{nothing_worked_did, nothing_worked_tells, worked_did, worked_tells, worked_unread}
use Rattle.pmb_cli.proofs.Working.{worked_unrefused}
use Rattle.pmb_cli.proofs.Often.{reads_of_front}
use Rattle.pmb_cli.proofs.works.run_under_front.Goals as goal

-- The work is done on what follows the line `%%`. Nothing failed before it, so what failed did so after the profile.
pub returns-in-Ok-from_toml : goal.returns-in-Ok-from_toml
returns-in-Ok-from_toml g c =
    let bus = c.in-Ok-from_toml.bus in
    let says : SaysBus c.profile.result.now (Ok bus) = elim c.in-Ok-from_toml.ensures.says [
      | inl memory ↦ absurd (cc)
      | inr says ↦ says
    ] in
    let of_front = subst (λ (text : List ℕ). SaysBus text (Ok bus)) c.profile.ensures says in
    let marked = sym c.has_capture.ensures ∙ c.if-has_capture.true in
    let worked = subst (λ (rest : List ℕ). OrNoMemory
    ((takes_memory (wanted_of c.args.work.now) ≡ true) × (c.do_work.new.reader ≡ c.front.new.reader)
    × (c.do_work.new.out ≡ c.args.out.now))
    (AsTool (Ran g.R.Source.told g.W.Sink.told (working (wanted_of c.args.work.now) bus) rest
    (c.front.new.reader, c.args.out.now) (c.do_work.new.reader, c.do_work.new.out))) c.do_work.result) c.rest.ensures
    c.do_work.ensures in
    record {
      did = does_as _ _ _ _ _ _ _
          (λ tally done. done_after_mark g.R.Source.told c.one_front.ensures.stays g.W.Sink.told
          (working (wanted_of c.args.work.now)) bus c.args.reader.now c.front.new.reader c.args.out.now
          c.do_work.new.out c.in-Ok.front c.in-Ok.ensures.ok c.do_work.new.reader tally marked of_front done)
          (λ part. part_after_mark g.R.Source.told c.one_front.ensures.stays g.W.Sink.told
          (working (wanted_of c.args.work.now)) bus c.args.reader.now c.front.new.reader c.args.out.now
          c.do_work.new.out c.in-Ok.front c.in-Ok.ensures.ok c.do_work.new.reader marked of_front part)
          (worked_did g.R.Source.told g.W.Sink.told _ _ _ _ _ _ _ c.do_work.result _ c.ended.ensures.status worked);
      tells = worked_tells g.R.Source.told g.W.Sink.told _ _ _ _ _ _ _ c.args.reader.now (record {
        none_failed = c.in-Ok.ensures.no_read (λ is. cc);
        not_ended = c.in-Ok.ensures.mark_not_ended marked;
        few = c.in-Ok.ensures.reads;
        read = c.in-Ok.ensures.ok.read;
        consumed = c.in-Ok.ensures.ok.reads.gave.consumed;
      }) c.do_work.result _ c.ended.ensures.status c.do_work.ensures;
      bad = λ bad. absurd (worked_unrefused g.R.Source.told g.W.Sink.told _ _ _ _ _ _ _ c.do_work.result
          c.do_work.ensures (sym c.ended.ensures.status ∙ bad));
      bad_format = λ none. absurd none;
      memory = λ memory.
          inr (front_alone g.R.Source.told _ c.front.new.reader _ c.in-Ok.front c.in-Ok.ensures.ok
          c.in-Ok.ensures.mark_not_ended
          (worked_unread g.R.Source.told g.W.Sink.told _ _ _ _ _ _ _ c.do_work.result c.do_work.ensures
          (sym c.ended.ensures.status ∙ memory)));
      err_text = c.ended.ensures.err_told;
      quiet = c.ended.ensures.quiet;
    }

-- All was profile, and nothing follows.
pub returns-in-Ok-2 : goal.returns-in-Ok-2
returns-in-Ok-2 g c =
    let bus = c.in-Ok-from_toml.bus in
    let says : SaysBus c.profile.result.now (Ok bus) = elim c.in-Ok-from_toml.ensures.says [
      | inl memory ↦ absurd (cc)
      | inr says ↦ says
    ] in
    record {
      did = nothing_worked_did g.R.Source.told g.W.Sink.told _ (working (wanted_of c.args.work.now) bus) _ _ _ _
          (λ tally. DoneUnderFront g.R.Source.told g.W.Sink.told (working (wanted_of c.args.work.now)) tally
          (c.args.reader.now, c.args.out.now) (c.front.new.reader, c.do_work-in-Ok-2.new.out)) _
          (λ tally done. done_without_mark g.R.Source.told c.one_front.ensures.stays g.W.Sink.told
          (working (wanted_of c.args.work.now)) bus c.args.reader.now c.front.new.reader _ _ c.in-Ok.front
          c.in-Ok.ensures.ok nothing_told _ _ tally (sym c.has_capture.ensures ∙ c.if-has_capture.false)
          (subst (λ (text : List ℕ). SaysBus text (Ok bus)) c.profile.ensures says) refl done)
          c.do_work-in-Ok-2.result _ c.ended-in-Ok-2.ensures.status c.do_work-in-Ok-2.ensures;
      tells = nothing_worked_tells g.R.Source.told g.W.Sink.told _ _ _ _ _ _ c.args.reader.now c.front.new.reader
          (c.in-Ok.ensures.no_read (λ is. cc)) c.in-Ok.ensures.reads c.do_work-in-Ok-2.result _
          c.ended-in-Ok-2.ensures.status c.do_work-in-Ok-2.ensures;
      bad = λ bad. absurd (worked_unrefused nothing_told g.W.Sink.told _ _ _ _ _ _ _ c.do_work-in-Ok-2.result
          c.do_work-in-Ok-2.ensures (sym c.ended-in-Ok-2.ensures.status ∙ bad));
      bad_format = λ none. absurd none;
      memory = λ memory. inr (front_alone g.R.Source.told _ c.front.new.reader _ c.in-Ok.front c.in-Ok.ensures.ok
          c.in-Ok.ensures.mark_not_ended refl);
      err_text = c.ended-in-Ok-2.ensures.err_told;
      quiet = c.ended-in-Ok-2.ensures.quiet;
    }

-- The profile has a fault, or there was no memory for it; nothing was read after it.
pub returns : goal.returns
returns g c =
    let fault = c.in-Err-from_toml.fault in
    record {
      did = does_none _ _ _ _ _ c.report_fault.ensures.refused;
      tells = refused_tells g.R.Source.told g.W.Sink.told _ _ _ _ c.report_fault.ensures.refused
          (c.in-Ok.ensures.no_read (λ is. cc)) (reads_of_front _ _ c.in-Ok.ensures.reads);
      bad = λ bad. inr (inl (
        refl,
        inr (record {
          parts = c.in-Ok.front;
          fault = fault;
          reads = c.in-Ok.ensures.ok;
          says = elim c.in-Err-from_toml.ensures.says [
            | inl memory ↦
                let what : fault.what ≡ OutOfMemory = cc in
                absurd (no_memory_is_not_bad _ (c.report_fault.ensures.memory what) bad)
            | inr says ↦ subst (λ text. SaysBus text (Err fault)) c.profile.ensures says
          ];
        }),
      ));
      bad_format = λ none. absurd none;
      memory = λ memory. inr (front_alone g.R.Source.told _ c.front.new.reader _ c.in-Ok.front c.in-Ok.ensures.ok
          c.in-Ok.ensures.mark_not_ended refl);
      err_text = λ failed. c.report_fault.ensures.text;
      quiet = λ ended. absurd (refused_ended _ c.report_fault.ensures.refused ended);
    }

-- No front was read. IoFailed is the status of a failed read, BadArguments that of a profile that
-- is too long, NoMemory that of memory.
pub returns-in-Err : goal.returns-in-Err
returns-in-Err g c =
    let fault = c.in-Err.fault in
    let is_failed_read : c.report.result ≡ IoFailed → fault ≡ Read = λ failed.
    is_read fault (λ is. c.in-Err.ensures.no_write (ap (λ (f : ToolFault). Err f) is))
    (λ is. c.in-Err.ensures.few_reads (ap (λ (f : ToolFault). Err f) is)) (sym c.report.ensures.status ∙ failed) in
    record {
      did = record {
        wrote = λ ended. absurd (fault_failed fault (subst EndedWell c.report.ensures.status ended));
        part = λ failed. inr (part_of_profile g.R.Source.told c.one_front.ensures.stays g.W.Sink.told
            (working (wanted_of c.args.work.now)) c.args.reader.now c.front.new.reader _
            (c.in-Err.ensures.before_read (ap (λ (f : ToolFault). Err f) (is_failed_read failed))));
      };
      tells = record {
        unwritten = λ _. refl;
        none_failed = λ other. (
          c.in-Err.ensures.no_read
              (no_failed_read _ fault (λ failed. other (c.report.ensures.status ∙ failed)) refl),
          refl,
        );
        io_failed = λ failed. inl (
          c.in-Err.ensures.read (ap (λ (f : ToolFault). Err f) (is_failed_read failed)),
          c.in-Err.ensures.read_not_ended (ap (λ (f : ToolFault). Err f) (is_failed_read failed)),
        );
        reads = reads_of_front _ _ c.in-Err.ensures.reads;
      };
      bad = λ bad. inr (inl (
        refl,
        inl (c.in-Err.ensures.too_long
            (ap (λ (f : ToolFault). Err f) (is_too_long fault (sym c.report.ensures.status ∙ bad)))),
      ));
      bad_format = λ none. absurd none;
      memory = λ memory. inr (inl (c.in-Err.ensures.before_memory
          (ap (λ (f : ToolFault). Err f) (is_memory fault (sym c.report.ensures.status ∙ memory)))));
      err_text = λ failed. c.report.ensures.err_told;
      quiet = λ ended. absurd (fault_failed fault (subst EndedWell c.report.ensures.status ended));
    }
