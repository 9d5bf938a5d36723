use Rattle.std.proofs.Common.{subst}
use Rattle.pmb_args.specs.Asked.{SubcommandAsks, asking_of}
use Rattle.pmb_args.proofs.tasks.find_task.Goals as goal

-- What is kept of the words is what they ask for.
pub returns-in-Ok-task_of : goal.returns-in-Ok-task_of
returns-in-Ok-task_of g c = (
  asking_of c.in-Ok-task_of.field-0,
  record {
    no_fault = c.in-Ok.ensures.kinds;
    asks = subst (λ s. SubcommandAsks s (asking_of c.in-Ok-task_of.field-0)) c.in-Ok.ensures.matches c.in-Ok-task_of.ensures;
  },
)
