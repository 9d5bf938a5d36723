use Rattle.std.proofs.Common.{refl, subst, ◌++◌, ◌∙◌}
use Rattle.pmb_io.specs.Engines.{PutsOut}
use Rattle.pmb_telling.specs.machine.Standing.{HasPutOut, HasStopped, TakesLine}
use Rattle.pmb_telling.proofs.Taking.{took_more, took_none, took_then}
use Rattle.pmb_telling.proofs.engine.TellerEngine.take.Goals as goal

pub lines-init : goal.lines-init
lines-init g c = record {
  failures = refl;
  took = took_none g.K.Keeper.Keeps c.args.self.now c.args.piece.now _ _;
}

-- reading begins anew
pub lines-preserved : goal.lines-preserved
lines-preserved g c = record {
  failures = c.in_ok-take_line.ensures.failed ∙ c.lines.invariant.failures;
  took = took_more g.K.Keeper.Keeps c.args.self.now c.lines.self c.take_line.new.self c.args.piece.now c.lines.rest.now
      c.in-Bytes.bytes.now _ _ _ _ _ _ c.lines.invariant.took
      (λ start bytes text stands.
      subst (λ left. PutsOut (λ more. TakesLine g.K.Keeper.Keeps start c.take_line.new.self bytes c.lines.rest.now
      left (text ++ more))
      (g.W.Sink.told c.lines.writer).held c.lines.waiting.items (g.W.Sink.told c.take_line.new.writer).held
      c.take_line.new.waiting.items) c.in-Bytes.is
      (c.in_ok-take_line.ensures.takes start bytes text stands));
}

-- all of the piece is used
pub returns-in-Nothing-clause-takes : goal.returns-in-Nothing-clause-takes
returns-in-Nothing-clause-takes g c start bytes text stands =
    let took = c.lines.invariant.took start bytes text stands in
    took_then (HasPutOut g.K.Keeper.Keeps start c.lines.self) (HasPutOut g.K.Keeper.Keeps start c.take_line.new.self)
    bytes text took.0 c.lines.rest.now
    c.args.piece.now _ _ _ _ _ _ took.1 took.2
    (subst (λ left. PutsOut (λ more. TakesLine g.K.Keeper.Keeps start c.take_line.new.self (bytes ++ took.0)
    c.lines.rest.now left
    ((text ++ took.2.text) ++ more))
    (g.W.Sink.told c.lines.writer).held c.lines.waiting.items (g.W.Sink.told c.take_line.new.writer).held
    c.take_line.new.waiting.items) c.in-Nothing.is
    (c.in_ok-take_line.ensures.takes start (bytes ++ took.0) (text ++ took.2.text) took.2.holds))

-- no more is wanted
pub returns-in-Stop-clause-takes : goal.returns-in-Stop-clause-takes
returns-in-Stop-clause-takes g c start bytes text stands =
    let took = c.lines.invariant.took start bytes text stands in
    took_then (HasPutOut g.K.Keeper.Keeps start c.lines.self) (HasStopped g.K.Keeper.Keeps start c.take_line.new.self)
    bytes text took.0 c.lines.rest.now
    c.args.piece.now _ _ _ _ _ _ took.1 took.2
    (subst (λ left. PutsOut (λ more. TakesLine g.K.Keeper.Keeps start c.take_line.new.self (bytes ++ took.0)
    c.lines.rest.now left
    ((text ++ took.2.text) ++ more))
    (g.W.Sink.told c.lines.writer).held c.lines.waiting.items (g.W.Sink.told c.take_line.new.writer).held
    c.take_line.new.waiting.items) c.in-Stop.is
    (c.in_ok-take_line.ensures.takes start (bytes ++ took.0) (text ++ took.2.text) took.2.holds))
