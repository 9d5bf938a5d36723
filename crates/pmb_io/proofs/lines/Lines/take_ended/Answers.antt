use Rattle.std.proofs.Common.{◌≡◌, ◌++◌, ◌∷◌, ◌∙◌, [], List, ℕ, false, refl, ap, sym, subst, append_assoc, rules}
use Rattle.std.proofs.lemmas.Bool.{eqb-true}
use Rattle.std.proofs.lemmas.List.{nil_from_length}
use Rattle.std.proofs.lemmas.Result.{on_ok_weaker}
use Rattle.pmb_io.specs.Lines.{TextLine, cut, ended_line, ended_lines, line_feed, line_text}
use Rattle.pmb_io.specs.machine.Lines.{StandsInLine, ended_kept}
use Rattle.pmb_io.proofs.LineRuns.{after_lf, after_whole, keeps_bytes}
use Rattle.pmb_io.proofs.lines.Lines.take_ended.Goals as goal

-- The line lies whole in the piece.
pub returns-then-not-self-clause-takes : goal.returns-then-not-self-clause-takes
returns-then-not-self-clause-takes g c start before text stands =
    let Given = g.T.LineTask.Stands start c.take_line.new.self in
    let line_is : line_text c.ended_line-line.result ≡ ended_line g.row.MOST c.args.bytes.now =
    c.ended_line-line.ensures in
    let none : c.args.self.now.line.items ≡ [] = nil_from_length c.args.self.now.line.items
    (eqb-true _ 0 (sym c.is_empty.ensures ∙ c.if-is_empty.true)) in
    let short : c.args.self.now.is_longer ≡ false = search (rules, c.if-not-self.true) in
    on_ok_weaker c.take_line.result (λ taken. record {
      text = taken.text;
      writes = taken.writes;
      holds = after_whole Given g.row.MOST before (text ++ taken.text) c.args.self.now.line.items c.args.bytes.now
          c.args.self.now.is_longer c.requires none short stands.kept stands.longer
          (subst (λ (l : TextLine). Given (ended_lines g.row.MOST before ++ l ∷ []) (text ++ taken.text)) line_is
          taken.holds);
    }) (c.take_line.ensures.takes start (ended_lines g.row.MOST before) text stands.given)

-- It goes on from the piece before.
pub returns-clause-takes : goal.returns-clause-takes
returns-clause-takes g c start before text stands =
    let kept = c.keep.ensures.kept (cut before).rest stands.kept in
    let longer = c.keep.ensures.longer (cut before).rest stands.kept stands.longer in
    let given = subst (λ task. g.T.LineTask.Stands start task (ended_lines g.row.MOST before) text)
    (sym c.keep.ensures.task) stands.given in
    let with_bytes = keeps_bytes (g.T.LineTask.Stands start c.keep.new.self.task) g.row.MOST before text
    c.keep.new.self.line.items c.keep.new.self.is_longer c.args.bytes.now c.requires kept longer given in
    let taken = c.in_ok-take_line.ensures.takes start (ended_lines g.row.MOST (before ++ c.args.bytes.now)) text
    with_bytes.given in
    let Given = g.T.LineTask.Stands start c.take_line-2.new.self in
    let line_is : line_text c.ended_line-line-2.result
    ≡ ended_kept c.keep.new.self.line.items c.keep.new.self.is_longer =
    c.ended_line-line-2.ensures ∙ ap (λ (kept : List ℕ). ended_kept kept c.keep.new.self.is_longer)
    c.as_slice.ensures.value in record {
      text = taken.text;
      writes = taken.writes;
      holds = subst (λ (bytes : List ℕ). StandsInLine Given g.row.MOST c.clear.new.self.items false bytes
          (text ++ taken.text)) (append_assoc before c.args.bytes.now (line_feed ∷ []))
          (after_lf Given g.row.MOST (before ++ c.args.bytes.now) (text ++ taken.text) c.keep.new.self.line.items
          c.clear.new.self.items c.keep.new.self.is_longer line_feed refl with_bytes.kept with_bytes.longer
          c.clear.ensures
          (subst (λ (l : TextLine). Given (ended_lines g.row.MOST (before ++ c.args.bytes.now) ++ l ∷ [])
          (text ++ taken.text)) line_is taken.holds));
    }
