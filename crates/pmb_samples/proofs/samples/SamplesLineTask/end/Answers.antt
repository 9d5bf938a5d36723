use Rattle.pmb_samples.proofs.Ending.{ends_on_ok}
use Rattle.pmb_samples.proofs.samples.SamplesLineTask.end.Goals as goal

pub returns-clause-ends : goal.returns-clause-ends
returns-clause-ends g c start lines text stands =
    ends_on_ok c.take_last.result start c.args.self.now _ lines text _ _ _ _ stands c.take_last.ensures.now
    c.take_last.ensures.puts
