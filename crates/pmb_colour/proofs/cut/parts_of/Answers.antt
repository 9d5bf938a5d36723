use Rattle.std.proofs.Common.{◌∙◌, sym, arith}
use Rattle.pmb_colour.proofs.Cutting.{tail_begins, tail_goes_on}
use Rattle.pmb_colour.proofs.cut.parts_of.Goals as goal
use Rattle.pmb_colour.proofs.cut.parts_of.Goals.{then-ends, else-ends}

pub loop-index-preserved : goal.loop-index-preserved
loop-index-preserved c =
    let line = c.args.line.now in
    let cell = c.loop-index.cell in
    let tail = c.loop-index.tail in
    let i = c.loop-index.index in
    let so_far = c.loop-index.invariant in
    elim c.if-ends.branch [
      | then-ends w ↦ record {
        before = omega (arith, w.cell-is, w.tail-is, so_far.after);
        after = omega (arith, w.tail-is);
        parts = rw (w.cell-is, w.tail-is) (tail_begins line cell tail i 0 so_far.before so_far.after c.loop-index-test.true
            (sym c.ends.ensures ∙ w.if-ends.true) ∙ so_far.parts);
      }
      | else-ends w ↦ record {
        before = omega (arith, w.cell-is, w.tail-is, so_far.before);
        after = omega (arith, w.tail-is, so_far.after);
        parts = rw (w.cell-is, w.tail-is) (tail_goes_on line cell tail i 0 so_far.after c.loop-index-test.true
            (sym c.ends.ensures ∙ w.if-ends.false) ∙ so_far.parts);
      }
    ]
