use Rattle.std.proofs.Common.{◌≡◌, ◌∙◌, ap, List, ℕ, ◌++◌, Option, Some, subst}
use Rattle.std.proofs.lemmas.Result.{on_err_weaker}
use Rattle.std.specs.Option.{ForSome}
use Rattle.pmb_io.specs.Calls.{AppendsFront}
use Rattle.pmb_colour.specs.declared.lines.Lines.{Lines}
use Rattle.pmb_colour.specs.Onward.{told_held, told_pieces}
use Rattle.pmb_colour.specs.Painting.{Held, pieces_of}
use Rattle.pmb_colour.specs.Pieces.{shown}
use Rattle.pmb_colour.specs.machine.Painter.{held_by, inner_of}
use Rattle.pmb_colour.proofs.Gone.{all_sent, front_onward, held_more, held_none, holds_more, painted_more, passed_more, went_well}
use Rattle.pmb_colour.proofs.painted.PaintedSink.write_all.Goals as goal

-- lines are painted
pub invariant_of-self : goal.invariant_of-self
invariant_of-self g c =
    let old = c.args.self.now in
    let text = old.told.bytes in
    let more = c.args.bytes.now in
    let both = c.append.new.self.bytes in
    let held = held_by old.painter in
    let told = g.W.Sink.told in
    let before = g.S.Start.before in
    let well = λ (none : (told (inner_of c.paint.new.self)).failures ≡ 0).
    went_well c.paint.result _ _ c.paint.ensures.failed none c.paint.ensures.puts in
    let after = λ (none : (told (inner_of c.paint.new.self)).failures ≡ 0).
    (went_well c.paint.result _ _ c.paint.ensures.failed none c.paint.ensures.held).1 in
    let now : (told (inner_of c.paint.new.self)).failures ≡ 0 → held_by c.paint.new.self ≡ told_held old.lines both =
    λ none. held_more old.lines c.in-Some.lines text more both held (held_by c.paint.new.self) c.in-Some.is
    c.append.ensures (after none) (old.line (well none).0) (old.rest (well none).0) in
    record {
      same = old.same;
      shows = λ none. subst (λ (t : List ℕ). ForSome before
          (λ first. (told (inner_of c.paint.new.self)).held ≡ Some (first ++ t)))
          (painted_more old.lines c.in-Some.lines text more both held c.in-Some.is c.append.ensures
          (old.line (well none).0) (old.rest (well none).0))
          (holds_more before (told (inner_of old.painter)).held (told (inner_of c.paint.new.self)).held _ _
          (old.shows (well none).0)
          (all_sent _ _ _ _ _ (old.sent (well none).0) c.paint.ensures.sent (well none).1));
      sent = λ none. c.paint.ensures.sent;
      line = λ none. ap (λ (h : Held). h.line) (now none);
      rest = λ none. ap (λ (h : Held). h.is_rest) (now none);
    }

-- none are
pub invariant_of-self-in-None : goal.invariant_of-self-in-None
invariant_of-self-in-None g c =
    let old = c.args.self.now in
    let text = old.told.bytes in
    let more = c.args.bytes.now in
    let both = c.append.new.self.bytes in
    let told = g.W.Sink.told in
    let before = g.S.Start.before in
    let well = λ (none : (told (inner_of c.pass.new.self)).failures ≡ 0).
    went_well c.pass.result _ _ c.pass.ensures.failed none c.pass.ensures.passed in
    let same : told_held old.lines text ≡ told_held old.lines both = held_none old.lines text both c.in-None.is in
    record {
      same = old.same;
      shows = λ none. subst (λ (t : List ℕ). ForSome before
          (λ first. (told (inner_of c.pass.new.self)).held ≡ Some (first ++ t)))
          (passed_more old.lines text more both c.in-None.is c.append.ensures)
          (holds_more before (told (inner_of old.painter)).held (told (inner_of c.pass.new.self)).held _ _
          (old.shows (well none).0) (well none).1);
      sent = λ none. c.pass.ensures.waiting ∙ old.sent (well none).0;
      line = λ none. ap (λ (h : Held). h.line) c.pass.ensures.held
          ∙ (old.line (well none).0 ∙ ap (λ (h : Held). h.line) same);
      rest = λ none. ap (λ (h : Held). h.is_rest) c.pass.ensures.held
          ∙ (old.rest (well none).0 ∙ ap (λ (h : Held). h.is_rest) same);
    }

-- the first write that fails, where lines are painted
pub returns-in-Some-clause-onward : goal.returns-in-Some-clause-onward
returns-in-Some-clause-onward g c none =
    let old = c.args.self.now in
    let text = old.told.bytes in
    let more = c.args.bytes.now in
    let both = c.append.new.self.bytes in
    let held = held_by old.painter in
    let before = g.S.Start.before in
    let from = (g.W.Sink.told (inner_of old.painter)).held in
    let to = (g.W.Sink.told (inner_of c.paint.new.self)).held in
    let first = shown (told_pieces old.lines text) in
    let second = shown (pieces_of c.in-Some.lines held more) in
    on_err_weaker c.paint.result
    (λ front. subst (λ (ls : Option Lines). AppendsFront before to (shown (told_pieces ls both))) old.same
    (subst (λ (t : List ℕ). AppendsFront before to t)
    (painted_more old.lines c.in-Some.lines text more both held c.in-Some.is c.append.ensures (old.line none) (old.rest none))
    (front_onward before from to first second (old.shows none)
    (subst (λ (w : List ℕ). AppendsFront from to (w ++ second)) (old.sent none) front))))
    c.paint.ensures.front

-- .. and where none are
pub returns-in-None-clause-onward : goal.returns-in-None-clause-onward
returns-in-None-clause-onward g c none =
    let old = c.args.self.now in
    let text = old.told.bytes in
    let more = c.args.bytes.now in
    let both = c.append.new.self.bytes in
    let before = g.S.Start.before in
    let from = (g.W.Sink.told (inner_of old.painter)).held in
    let to = (g.W.Sink.told (inner_of c.pass.new.self)).held in
    let first = shown (told_pieces old.lines text) in
    on_err_weaker c.pass.result
    (λ front. subst (λ (ls : Option Lines). AppendsFront before to (shown (told_pieces ls both))) old.same
    (subst (λ (t : List ℕ). AppendsFront before to t) (passed_more old.lines text more both c.in-None.is c.append.ensures)
    (front_onward before from to first more (old.shows none) front)))
    c.pass.ensures.front
