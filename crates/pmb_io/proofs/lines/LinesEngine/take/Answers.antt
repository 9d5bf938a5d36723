use Rattle.std.proofs.Common.{◌++◌, ◌∷◌, ◌∙◌, [], List, ℕ, length, sym, ap, subst, append_assoc, append-nil, take, refl}
use Rattle.std.proofs.Common.{rules, arith, eq-eqb}
use Rattle.std.proofs.Math.Seq.{take-length}
use Rattle.std.proofs.lemmas.Bool.{eqb-true}
use Rattle.pmb_io.specs.Lines.{HasNoLf, cut, ended_lines, line_feed}
use Rattle.pmb_io.specs.machine.Lines.{StandsInLine}
use Rattle.pmb_io.proofs.LineLemmas.{cut_behind, none_in_front}
use Rattle.pmb_io.proofs.LineRuns.{keeps_bytes}
use Rattle.pmb_io.proofs.Running.{puts_then}
use Rattle.pmb_io.proofs.Writing.{writes_nothing}
use Rattle.pmb_io.proofs.lines.LinesEngine.take.Goals as goal

pub loop-len-init : goal.loop-len-init
loop-len-init g c = record {
  front = [];
  whole = refl;
  failures = refl;
  took = λ start bytes text stands. record {
    text = [];
    writes = writes_nothing _ _;
    holds = subst (λ (b : List ℕ). StandsInLine (g.T.LineTask.Stands start c.args.self.now.task) g.row.MOST
        c.args.self.now.line.items c.args.self.now.is_longer b (text ++ [])) (sym (append-nil bytes))
        (subst (λ (t : List ℕ). StandsInLine (g.T.LineTask.Stands start c.args.self.now.task) g.row.MOST
        c.args.self.now.line.items c.args.self.now.is_longer bytes t) (sym (append-nil text)) stands);
  };
}

-- The bytes before the first LF are lent.
pub take_ended-requires : goal.take_ended-requires
take_ended-requires g c = (
  search rules,
  none_in_front c.loop-len.rest.now c.in-Some.len
      (λ at below is. c.in-Some.ensures.0.before at (omega arith) below (eq-eqb _ 10 is)),
)

pub loop-len-preserved : goal.loop-len-preserved
loop-len-preserved g c =
    let so_far = c.loop-len.invariant in
    let len = c.in-Some.len in
    let lent = take len c.loop-len.rest.now in record {
      front = so_far.front ++ (lent ++ line_feed ∷ []);
      whole = cut_behind c.args.piece.now so_far.front c.loop-len.rest.now len so_far.whole
          (omega (arith, c.in-Some.ensures.0.high)) (eqb-true _ 10 c.in-Some.ensures.1);
      failures = c.in_ok-take_ended.ensures.failed ∙ so_far.failures;
      took = λ start bytes text stands.
          let took = so_far.took start bytes text stands in
          puts_then (StandsInLine (g.T.LineTask.Stands start c.loop-len.self.task) g.row.MOST c.loop-len.self.line.items
          c.loop-len.self.is_longer)
          (StandsInLine (g.T.LineTask.Stands start c.take_ended.new.self.task) g.row.MOST
          c.take_ended.new.self.line.items c.take_ended.new.self.is_longer)
          bytes text so_far.front (lent ++ line_feed ∷ []) _ _ _ _ _ _ took
          (c.in_ok-take_ended.ensures.takes start (bytes ++ so_far.front) (text ++ took.text) took.holds);
    }

-- What follows the last LF of the piece belongs to the line under way.
pub returns-clause-takes : goal.returns-clause-takes
returns-clause-takes g c start bytes text stands =
    let so_far = c.loop-len.invariant in
    let took = so_far.took start.task bytes text stands in
    let kept = c.keep.ensures.kept (cut (bytes ++ so_far.front)).rest took.holds.kept in
    let longer = c.keep.ensures.longer (cut (bytes ++ so_far.front)).rest took.holds.kept took.holds.longer in
    let given = subst (λ task. g.T.LineTask.Stands start.task task (ended_lines g.row.MOST (bytes ++ so_far.front))
    (text ++ took.text)) (sym c.keep.ensures.task) took.holds.given in
    let Stands = StandsInLine (g.T.LineTask.Stands start.task c.keep.new.self.task) g.row.MOST
    c.keep.new.self.line.items c.keep.new.self.is_longer in
    let no_lf : HasNoLf c.loop-len.rest.now = subst HasNoLf (take-length c.loop-len.rest.now)
    (none_in_front c.loop-len.rest.now (length c.loop-len.rest.now)
    (λ at below is. c.in_default.ensures at (omega arith) below (eq-eqb _ 10 is))) in
    let stands_at : Stands ((bytes ++ so_far.front) ++ c.loop-len.rest.now) (text ++ took.text) =
    keeps_bytes (g.T.LineTask.Stands start.task c.keep.new.self.task) g.row.MOST (bytes ++ so_far.front)
    (text ++ took.text) c.keep.new.self.line.items c.keep.new.self.is_longer c.loop-len.rest.now no_lf kept longer
    given in record {
      text = took.text;
      writes = took.writes;
      holds = subst (λ (all : List ℕ). Stands all (text ++ took.text))
          (append_assoc bytes so_far.front c.loop-len.rest.now ∙ ap (λ (piece : List ℕ). bytes ++ piece)
          (sym so_far.whole)) stands_at;
    }
