use Rattle.std.proofs.Common.{ℕ, Ok, ◌++◌, ap, map, subst, sym, ◌∙◌}
use Rattle.pmb_command.specs.Bus.{IsBus}
use Rattle.pmb_io.specs.Engines.{PutsOut}
use Rattle.pmb_io.proofs.Writing.{writes_then}
use Rattle.pmb_scan.specs.Scan.{TakesPiece}
use Rattle.pmb_spans.specs.Spans.{outcome}
use Rattle.pmb_capture.specs.machine.Account.{AccountStands}
use Rattle.pmb_capture.proofs.Endings.{fault_puts, fault_text, stops_bad}
use Rattle.pmb_capture.proofs.capture.CaptureEngine.take.Goals as goal

-- all of the piece is used
pub returns-in-All-clause-takes : goal.returns-in-All-clause-takes
returns-in-All-clause-takes g c start bytes text written =
    let taken = subst (λ taken. PutsOut (λ more. TakesPiece
    (λ reached text. AccountStands g.O.Output.text g.O.Output.Stands start.account c.take_words.new.visitor
    (map outcome reached.spans) text) written.reached c.args.piece.now taken c.take_words.new.self (text ++ more))
    (g.W.Sink.told c.args.writer.now).held c.args.waiting.now.items (g.W.Sink.told c.take_words.new.writer).held
    c.take_words.new.waiting.items) c.in-All.is
    (c.in_ok-take_words.ensures.takes start.account written.reached text written.stands written.written) in record {
      text = taken.text;
      writes = taken.writes;
      holds = record {
        reached = taken.holds.there;
        profile = taken.holds.profile ∙ written.profile;
        bus = subst IsBus (sym taken.holds.profile) written.bus;
        is_text = taken.holds.used ∙ ap (λ b. b ++ c.args.piece.now) written.is_text;
        stands = taken.holds.stands;
        written = taken.holds.visited;
      };
    }

-- a word of it is no token
pub returns-in_ok-stop_at-in-Fault-clause-takes : goal.returns-in_ok-stop_at-in-Fault-clause-takes
returns-in_ok-stop_at-in-Fault-clause-takes g c start bytes text written =
    let taken = subst (λ taken. PutsOut (λ more. TakesPiece
    (λ reached text. AccountStands g.O.Output.text g.O.Output.Stands start.account c.take_words.new.visitor
    (map outcome reached.spans) text) written.reached c.args.piece.now taken c.take_words.new.self (text ++ more))
    (g.W.Sink.told c.args.writer.now).held c.args.waiting.now.items (g.W.Sink.told c.take_words.new.writer).held
    c.take_words.new.waiting.items) c.in-Fault.is
    (c.in_ok-take_words.ensures.takes start.account written.reached text written.stands written.written) in
    let stopped = c.in_ok-stop_at-in-Fault.ensures in
    let can_end = stopped.can_end taken.holds.there (subst IsBus (sym taken.holds.profile) written.bus)
    taken.holds.reads in
    let output = g.O.Output.text start.account.output in
    let tally = c.stop_at.new.self.account.tally in record {
      text = taken.text ++ fault_text output tally c.in-Fault.fault;
      writes = writes_then _ _ _ _ _ _ _ _ taken.writes
          (fault_puts {T = Unit {0}} {F = ℕ} (Ok tt) g.O.Output.text c.take_words.new.visitor.output output tally
          c.in-Fault.fault _ _ _ _ taken.holds.visited.same stopped.puts);
      holds = stops_bad g.O.Output.text g.O.Output.Stands start c.stop_at.new.self c.take_words.new.visitor bytes
          c.args.piece.now text taken.text written.reached taken.holds.there can_end.0 c.in-Fault.fault written.profile
          written.is_text
          taken.holds.profile can_end.1 taken.holds.visited taken.holds.bad taken.holds.at stopped.counted;
    }
