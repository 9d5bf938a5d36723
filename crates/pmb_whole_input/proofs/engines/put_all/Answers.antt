use Rattle.std.proofs.Common.{[], ◌++◌, inl, subst}
use Rattle.std.proofs.lemmas.Result.{on_ok_weaker}
use Rattle.pmb_io.specs.Engines.{Either, PutsOut}
use Rattle.pmb_io.proofs.Writing.{writes_then}
use Rattle.pmb_whole_input.proofs.engines.put_all.Goals as goal

-- The text for the end follows that for the input.
pub returns-in-More-clause-puts : goal.returns-in-More-clause-puts
returns-in-More-clause-puts g c =
    let start = c.args.engine.now in
    let taken = subst (λ flow. PutsOut (λ more. Either
    (g.E.Engine.Stands start c.take.new.self c.args.input.now more)
    (g.E.Engine.Stops start c.take.new.self c.args.input.now more) flow)
    (g.W.Sink.told c.args.writer.now).held c.args.waiting.now.items
    (g.W.Sink.told c.take.new.writer).held c.take.new.waiting.items) c.in-More.is
    (c.in_ok-take.ensures.takes start [] [] c.requires) in
    on_ok_weaker c.end.result (λ ended. record {
      text = taken.text ++ ended.text;
      writes = writes_then _ _ _ _ _ _ _ _ taken.writes ended.writes;
      holds = inl ended.holds;
    }) (c.end.ensures.ends start c.args.input.now taken.text taken.holds)
