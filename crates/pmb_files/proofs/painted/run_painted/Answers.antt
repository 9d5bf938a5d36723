use Rattle.pmb_files.specs.Painted.{ran}
use Rattle.pmb_files.proofs.Ended.{went_on_from}
use Rattle.pmb_files.proofs.painted.run_painted.Goals as goal

-- there was memory, and the writer that paints is over the one that was given
pub returns-in-Ok : goal.returns-in-Ok
returns-in-Ok g c = record {
  ran = λ not_asked.
      let done = c.run_on.ensures.ran not_asked in (
        done.0,
        done.1,
        ran (went_on_from _ _ _ _ _ _ _ _ _ _ _ _ _ _ _ c.in-Ok.ensures.inner done.2),
      );
}
