use Rattle.std.proofs.Common.{Ok, Err, refl, sym, ◌∙◌}
use Rattle.pmb_reader.specs.Reader.{ReaderFinishes}
use Rattle.pmb_reader.proofs.Modes.{while_open, while_held, while_passing}
use Rattle.pmb_reader.proofs.reader.Reader.finish.Goals as goal

pub returns-then-is_between : goal.returns-then-is_between
returns-then-is_between c = λ profile.
    while_open profile c.args.self.now (λ s. ReaderFinishes profile s (Ok tt)) c.in-Open.is
    (λ n events stands. (c.is_between.ensures profile events stands.inside).0 c.if-is_between.true)

pub returns-else-is_between : goal.returns-else-is_between
returns-else-is_between c = λ profile.
    while_open profile c.args.self.now (λ s. ReaderFinishes profile s _) c.in-Open.is
    (λ n events stands. record {
      some = λ none. cc (sym ((c.is_between.ensures profile events stands.inside).1 none) ∙ c.if-is_between.false);
      under_way = stands.inside.goes;
      at = stands.counted;
      reason = refl;
      expected = c.expected.ensures profile events stands.inside;
    })

pub returns-in-Held : goal.returns-in-Held
returns-in-Held c = λ profile.
    let held = c.in-Held.refusal in
    while_held profile c.args.self.now (λ s. ReaderFinishes profile s (Err held)) held c.in-Held.is
    (λ n refusal same stands. same)

pub returns-in-Passing : goal.returns-in-Passing
returns-in-Passing c = λ profile.
    while_passing profile c.args.self.now (λ s. ReaderFinishes profile s (Ok tt)) c.in-Passing.is (λ n stands. tt)
