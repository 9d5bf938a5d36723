use Rattle.std.proofs.Common.{◌≡◌, ◌∙◌, inr, refl, sym}
use Rattle.pmb_args.specs.declared.exit_status.ExitStatus.TheVariants.{NoMemory}
use Rattle.pmb_cli.proofs.Often.{none_in_all}
use Rattle.pmb_cli.proofs.Statuses.{at_start, does_as, does_none, no_memory_is_not_bad, refused_ended, refused_tells}
use Rattle.pmb_cli.proofs.Working.{worked_did, worked_tells, worked_unread, worked_unrefused}
use Rattle.pmb_cli.proofs.works.run_under_sample.Goals as goal

-- What was done was so under the sample profile.
pub returns-in-Ok : goal.returns-in-Ok
returns-in-Ok g c = record {
  did = does_as _ _ _ _ _ _ _ (λ tally done. record { bus = c.in-Ok.bus; says = c.in-Ok.ensures.ok; holds = done })
      (λ part. record { bus = c.in-Ok.bus; says = c.in-Ok.ensures.ok; holds = part })
      (worked_did g.R.Source.told g.W.Sink.told _ _ _ _ _ _ _ c.do_work.result _ c.ended.ensures.status
      c.do_work.ensures);
  tells = worked_tells g.R.Source.told g.W.Sink.told _ _ _ _ _ _ _ c.args.reader.now
      (at_start _) c.do_work.result _ c.ended.ensures.status c.do_work.ensures;
  bad = λ bad. absurd (worked_unrefused g.R.Source.told g.W.Sink.told _ _ _ _ _ _ _ c.do_work.result c.do_work.ensures
      (sym c.ended.ensures.status ∙ bad));
  bad_format = λ none. absurd none;
  memory = λ memory. worked_unread g.R.Source.told g.W.Sink.told _ _ _ _ _ _ _ c.do_work.result c.do_work.ensures
      (sym c.ended.ensures.status ∙ memory);
  err_text = c.ended.ensures.err_told;
  quiet = c.ended.ensures.quiet;
}

-- There was no memory for the sample.
pub returns-in-Err : goal.returns-in-Err
returns-in-Err g c =
    let no_memory : c.report.result ≡ NoMemory = rw c.in-Err.ensures.memory at c.report.ensures.status in
    record {
      did = does_none _ _ _ _ _ (inr no_memory);
      tells = refused_tells g.R.Source.told g.W.Sink.told _ _ _ _ (inr no_memory) refl (none_in_all _);
      bad = λ bad. absurd (no_memory_is_not_bad _ no_memory bad);
      bad_format = λ none. absurd none;
      memory = λ memory. refl;
      err_text = λ failed. c.report.ensures.err_told;
      quiet = λ ended. absurd (refused_ended _ (inr no_memory) ended);
    }
