use Rattle.std.proofs.Common.{◌∙◌, [], inl, inr, refl, subst, sym}
use Rattle.pmb_convert.specs.Lines.{converting}
use Rattle.pmb_convert.specs.declared.conversion.Conversion.{Conversion}
use Rattle.pmb_io.specs.Runs.{AsTool, Ran}
use Rattle.pmb_cli.proofs.Formats.{none_is_named}
use Rattle.pmb_cli.proofs.Often.{none_in_all}
use Rattle.pmb_cli.proofs.Statuses.{at_start, does_as, does_none, no_memory_is_not_bad, refused_ended, refused_tells}
use Rattle.pmb_cli.proofs.Statuses.{run_did, run_unrefused, status_tells}
use Rattle.pmb_cli.proofs.tasks.run_lines.Goals as goal

-- The text names a format: its lines are converted, and there is no fault of memory or of a profile.
pub returns-in-Ok-clause-did : goal.returns-in-Ok-clause-did
returns-in-Ok-clause-did g c =
    let ran = subst (λ (conversion : Conversion). AsTool
    (Ran g.R.Source.told g.W.Sink.told (converting conversion) _ (c.args.reader.now, c.args.out.now)
    (c.convert_lines.new.reader, c.convert_lines.new.writer)) c.convert_lines.result) c.conversion.ensures
    c.convert_lines.ensures in
    record {
      did = does_as _ _ _ _ _ _ _ (λ tally done. record {
        format = c.in-Ok.format;
        names = c.in-Ok.ensures;
        holds =
            done;
      }) (λ part. record { format = c.in-Ok.format; names = c.in-Ok.ensures; holds = part })
          (run_did g.R.Source.told g.W.Sink.told _ _ _ _ c.convert_lines.result _ c.ended.ensures.status ran);
      tells = status_tells g.R.Source.told g.W.Sink.told _ _ _ _ c.args.reader.now (at_start _) c.convert_lines.result _
          c.ended.ensures.status ran;
      bad = λ bad. absurd (run_unrefused g.R.Source.told g.W.Sink.told _ _ _ _ c.convert_lines.result ran
          (inl (sym c.ended.ensures.status ∙ bad)));
      bad_format = λ none. absurd (none_is_named c.one_format.ensures.named _ c.in-Ok.format c.in-Ok.ensures none);
      memory = λ memory. absurd (run_unrefused g.R.Source.told g.W.Sink.told _ _ _ _ c.convert_lines.result ran
          (inr (sym c.ended.ensures.status ∙ memory)));
      err_text = c.ended.ensures.err_told;
      quiet = c.ended.ensures.quiet;
    }

-- It names none: nothing is read.
pub returns-in-Err-clause-did : goal.returns-in-Err-clause-did
returns-in-Err-clause-did g c =
    let bad = c.report_format.ensures.status in
    record {
      did = does_none _ _ _ _ _ (inl bad);
      tells = refused_tells g.R.Source.told g.W.Sink.told _ _ _ _ (inl bad) refl (none_in_all _);
      bad = λ _. inl (c.in-Err.fault, c.in-Err.ensures);
      bad_format = λ none. (inl bad, refl);
      memory = λ memory. absurd (no_memory_is_not_bad _ memory bad);
      err_text = λ failed. c.report_format.ensures.err_told;
      quiet = λ ended. absurd (refused_ended _ (inl bad) ended);
    }

-- Either way there is no want of memory.
pub returns-in-Ok-clause-needless : goal.returns-in-Ok-clause-needless
returns-in-Ok-clause-needless g c memory =
    let ran = subst (λ (conversion : Conversion). AsTool
    (Ran g.R.Source.told g.W.Sink.told (converting conversion) [] (c.args.reader.now, c.args.out.now)
    (c.convert_lines.new.reader, c.convert_lines.new.writer)) c.convert_lines.result) c.conversion.ensures
    c.convert_lines.ensures in
    run_unrefused g.R.Source.told g.W.Sink.told _ _ _ _ c.convert_lines.result ran
    (inr (sym c.ended.ensures.status ∙ memory))

pub returns-in-Err-clause-needless : goal.returns-in-Err-clause-needless
returns-in-Err-clause-needless g c memory = no_memory_is_not_bad _ memory c.report_format.ensures.status
