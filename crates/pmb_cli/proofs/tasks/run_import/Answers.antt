use Rattle.std.proofs.Common.{◌∙◌, inl, inr, sym}
use Rattle.pmb_cli.proofs.Statuses.{at_start, does_as, run_did, run_unrefused, status_tells}
use Rattle.pmb_cli.proofs.tasks.run_import.Goals as goal

-- A recording is read, and there is no fault of memory or of a profile.
pub returns-clause-did : goal.returns-clause-did
returns-clause-did g c = record {
  did = does_as _ _ _ _ _ _ _ (λ tally done. done) (λ part. part)
      (run_did g.R.Source.told g.W.Sink.told _ _ _ _ c.import.result _ c.ended.ensures.status c.import.ensures);
  tells = status_tells g.R.Source.told g.W.Sink.told _ _ _ _ c.args.reader.now (at_start _) c.import.result _
      c.ended.ensures.status c.import.ensures;
  bad = λ bad. absurd (run_unrefused g.R.Source.told g.W.Sink.told _ _ _ _ c.import.result c.import.ensures
      (inl (sym c.ended.ensures.status ∙ bad)));
  bad_format = λ none. absurd none;
  memory = λ memory. absurd (run_unrefused g.R.Source.told g.W.Sink.told _ _ _ _ c.import.result c.import.ensures
      (inr (sym c.ended.ensures.status ∙ memory)));
  err_text = c.ended.ensures.err_told;
  quiet = c.ended.ensures.quiet;
}

pub returns-clause-needless : goal.returns-clause-needless
returns-clause-needless g c memory =
    run_unrefused g.R.Source.told g.W.Sink.told _ _ _ _ c.import.result c.import.ensures
    (inr (sym c.ended.ensures.status ∙ memory))
