use Rattle.std.proofs.Common.{◌++◌, map, subst}
use Rattle.std.proofs.lemmas.Result.{on_ok_weaker}
use Rattle.pmb_io.specs.Engines.{PutsOut}
use Rattle.pmb_io.proofs.Writing.{writes_then}
use Rattle.pmb_scan.specs.Scan.{TakesEnd}
use Rattle.pmb_spans.specs.Spans.{outcome}
use Rattle.pmb_capture.specs.machine.Account.{AccountStands}
use Rattle.pmb_capture.proofs.Endings.{ends_bad, ends_whole, fault_puts, fault_text}
use Rattle.pmb_capture.proofs.capture.CaptureEngine.end.Goals as goal

-- the bytes spell events
pub returns-in-None-clause-ends : goal.returns-in-None-clause-ends
returns-in-None-clause-ends g c start bytes text written =
    let taken = subst (λ end. PutsOut (λ more. TakesEnd
    (λ reached text. AccountStands g.O.Output.text g.O.Output.Stands start.account c.take_end.new.visitor
    (map outcome reached.spans) text) written.reached end c.take_end.new.self (text ++ more))
    (g.W.Sink.told c.args.writer.now).held c.args.waiting.now.items (g.W.Sink.told c.take_end.new.writer).held
    c.take_end.new.waiting.items) c.in-None.is
    (c.in_ok-take_end.ensures.takes start.account written.reached text written.stands written.written) in
    on_ok_weaker c.end_events.result (λ ends. record {
      text = taken.text ++ ends.text;
      writes = writes_then _ _ _ _ _ _ _ _ taken.writes ends.writes;
      holds = ends_whole g.O.Output.text g.O.Output.Stands start c.end_events.new.self bytes text taken.text ends.text
          written.reached taken.holds.there written.profile written.is_text written.stands.lexer.begins
          taken.holds.profile taken.holds.spells ends.holds;
    }) (c.end_events.ensures.ends start.account taken.holds.there (text ++ taken.text) taken.holds.reads
    taken.holds.visited)

-- the word under way is no token
pub returns-in-Some-clause-ends : goal.returns-in-Some-clause-ends
returns-in-Some-clause-ends g c start bytes text written =
    let taken = subst (λ end. PutsOut (λ more. TakesEnd
    (λ reached text. AccountStands g.O.Output.text g.O.Output.Stands start.account c.take_end.new.visitor
    (map outcome reached.spans) text) written.reached end c.take_end.new.self (text ++ more))
    (g.W.Sink.told c.args.writer.now).held c.args.waiting.now.items (g.W.Sink.told c.take_end.new.writer).held
    c.take_end.new.waiting.items) c.in-Some.is
    (c.in_ok-take_end.ensures.takes start.account written.reached text written.stands written.written) in
    let can_end = c.stop_at.ensures.can_end written.reached written.bus taken.holds.reads in
    let output = g.O.Output.text start.account.output in
    let tally = c.stop_at.new.self.account.tally in
    on_ok_weaker c.stop_at.result (λ puts. record {
      text = taken.text ++ fault_text output tally c.in-Some.fault;
      writes = writes_then _ _ _ _ _ _ _ _ taken.writes puts;
      holds = ends_bad g.O.Output.text g.O.Output.Stands start c.stop_at.new.self c.take_end.new.visitor bytes text
          taken.text written.reached can_end.0 c.in-Some.fault written.profile written.is_text
          written.stands.lexer.begins
          can_end.1 taken.holds.visited taken.holds.bad taken.holds.at c.stop_at.ensures.counted;
    }) (fault_puts c.stop_at.result g.O.Output.text c.take_end.new.visitor.output output tally c.in-Some.fault _ _ _ _
    taken.holds.visited.same c.stop_at.ensures.puts)
