use Rattle.pmb_bus.specs.Kinds.{AreKindsOf}
use Rattle.pmb_reader.specs.Reader.{CanCome}
use Rattle.pmb_reader.proofs.Modes.{while_open, while_held, while_passing, no_kinds, all_kinds}
use Rattle.pmb_reader.proofs.reader.Reader.expected.Goals as goal

pub returns-in-Open : goal.returns-in-Open
returns-in-Open c = λ profile.
    while_open profile c.args.self.now (λ s. AreKindsOf (CanCome profile s) c.expected.result) c.in-Open.is
    (λ n events stands. c.expected.ensures profile events stands.inside)

pub returns-in-Held : goal.returns-in-Held
returns-in-Held c = λ profile.
    while_held profile c.args.self.now (λ s. AreKindsOf (CanCome profile s) c.empty.result) _ c.in-Held.is
    (λ n refusal same stands. no_kinds c.empty.result c.empty.ensures.bits c.empty.ensures.holds)

pub returns-in-Passing : goal.returns-in-Passing
returns-in-Passing c = λ profile.
    while_passing profile c.args.self.now (λ s. AreKindsOf (CanCome profile s) c.all.result) c.in-Passing.is
    (λ n stands. all_kinds c.all.result c.all.ensures.bits c.all.ensures.holds)
