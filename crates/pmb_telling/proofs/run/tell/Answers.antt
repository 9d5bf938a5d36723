-- With a keeper that keeps nothing.
use Rattle.pmb_telling.proofs.Running.{tool_told}
use Rattle.pmb_telling.proofs.run.tell.Goals as goal

pub returns : goal.returns
returns g c =
    tool_told g.R.Source.told g.W.Sink.told _ _ _ _ _ _ _ _ c.tell_kept-told.ensures
