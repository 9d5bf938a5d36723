use Rattle.std.proofs.Common.{◌≡◌, ◌∙◌, ◌++◌, ◌∷◌, [], ℕ, List, ◌+◌, ◌-◌, length, take, drop, sym, ap, subst, append_assoc, refl, arith}
use Rattle.std.proofs.Common.{eq-eqb}
use Rattle.std.proofs.Math.Seq.{take-length}
use Rattle.std.proofs.lemmas.Bool.{eqb-true}
use Rattle.std.proofs.lemmas.List.{length-take}
use Rattle.std.proofs.lemmas.Result.{on_ok_weaker}
use Rattle.pmb_io.specs.Lines.{HasNoLf, TextLine, ended_line, last_lines, line_text, lines_of}
use Rattle.pmb_io.proofs.Writing.{writes_nothing, writes_then}
use Rattle.pmb_whole_input.proofs.Lines.{first_line, none_in_front, only_last}
use Rattle.pmb_whole_input.proofs.tasks.put_all.Goals as goal

pub loop-len-init : goal.loop-len-init
loop-len-init g c = record {
  given = [];
  lines = refl;
  within = omega arith;
  failures = refl;
  put = record { text = []; writes = writes_nothing _ _; holds = c.requires };
}

pub loop-len-preserved : goal.loop-len-preserved
loop-len-preserved g c =
    let so_far = c.loop-len.invariant in
    let most = g.row.MOST in
    let len = c.in-Some.len in
    let text = c.loop-len.rest.now in
    let line = take len text in
    let no_lf : HasNoLf line = none_in_front text len
    (λ at below is. c.in-Some.ensures.0.before at (omega arith) below (eq-eqb _ 10 is)) in
    let split = first_line most text len (omega (arith, c.in-Some.ensures.0.high)) (eqb-true _ 10 c.in-Some.ensures.1)
    no_lf in
    let took = c.in_ok-take_line.ensures.takes c.args.task.now so_far.given so_far.put.text so_far.put.holds in
    let handed : line_text c.ended.result ≡ ended_line most line = c.ended.ensures in record {
      given = so_far.given ++ ended_line most line ∷ [];
      lines = so_far.lines ∙ (ap (λ (l : List TextLine). so_far.given ++ l) split
          ∙ sym (append_assoc so_far.given (ended_line most line ∷ []) (lines_of most _)));
      within = omega (arith, length-take (length text - (len + 1)) (drop (len + 1) text), so_far.within);
      failures = c.in_ok-take_line.ensures.failed ∙ so_far.failures;
      put = record {
        text = so_far.put.text ++ took.text;
        writes = writes_then _ _ _ _ _ _ _ _ so_far.put.writes took.writes;
        holds = subst (λ (l : TextLine). g.T.LineTask.Stands c.args.task.now c.take_line.new.self
            (so_far.given ++ l ∷ []) (so_far.put.text ++ took.text)) handed took.holds;
      };
    }

-- What follows the last LF is the last line.
pub returns-clause-puts : goal.returns-clause-puts
returns-clause-puts g c =
    let so_far = c.loop-len.invariant in
    let most = g.row.MOST in
    let rest = c.loop-len.rest.now in
    let start = c.args.task.now in
    let no_lf : HasNoLf rest = subst HasNoLf (take-length rest) (none_in_front rest (length rest)
    (λ at below is. c.in_default.ensures at (omega arith) below (eq-eqb _ 10 is))) in
    let all : lines_of most c.args.input.now ≡ so_far.given ++ last_lines most rest =
    so_far.lines ∙ ap (λ (l : List TextLine). so_far.given ++ l) (only_last most rest no_lf) in
    let last = c.in_ok-take_last.ensures.takes start so_far.given so_far.put.text so_far.put.holds in
    on_ok_weaker c.end.result (λ ended. record {
      text = so_far.put.text ++ (last.text ++ ended.text);
      writes = writes_then _ _ _ _ _ _ _ _ so_far.put.writes (writes_then _ _ _ _ _ _ _ _ last.writes ended.writes);
      holds = subst (λ (lines : List TextLine). g.T.LineTask.Ends start c.end.new.self lines
          (so_far.put.text ++ (last.text ++ ended.text))) (sym all)
          (subst (λ (t : List ℕ). g.T.LineTask.Ends start c.end.new.self (so_far.given ++ last_lines most rest) t)
          (append_assoc so_far.put.text last.text ended.text) ended.holds);
    }) (c.end.ensures.ends start (so_far.given ++ last_lines most rest) (so_far.put.text ++ last.text) last.holds)
