use Rattle.std.proofs.Common.{◌≡◌, ◌∙◌, ℕ, ◌-◌, Option, ◌++◌, length, take, drop, ap, sym, arith}
use Rattle.std.proofs.lemmas.List.{length-take}
use Rattle.arrayvec.specs.ArrayVec.{ArrayVec}
use Rattle.pmb_colour.specs.declared.colour.Colour.{Colour}
use Rattle.pmb_colour.specs.declared.cut.Cut.TheVariants.{Cells}
use Rattle.pmb_colour.specs.Pieces.{painted}
use Rattle.pmb_colour.specs.Table.{count_piece}
use Rattle.pmb_colour.proofs.Cutting.{says_ends, says_goes_on}
use Rattle.pmb_colour.proofs.pieces.append_counts.Goals as goal
use Rattle.pmb_colour.proofs.pieces.append_counts.Goals.{then-ends, else-ends}

pub loop-index-preserved : goal.loop-index-preserved
loop-index-preserved g c =
    let text = c.args.text.now in
    let start = c.loop-index.start in
    let i = c.loop-index.index in
    let out = c.loop-index.out.items in
    let piece = take (i - start) (drop start text) in
    elim c.if-ends.branch [
      | then-ends w ↦
          let longer : length c.if-ends.out.items ≡ length w.append_painted.new.out.items =
          ap (λ (o : ArrayVec ℕ). length o.items) w.out-is in
          record {
            after = omega (arith, w.start-is);
            says = says_ends Cells count_piece text start _ i 0 out _ _ w.start-is c.loop-index-test.true
                (sym c.ends.ensures ∙ w.if-ends.true)
                (ap (λ (o : ArrayVec ℕ). o.items) w.out-is ∙ (w.append_painted.ensures.says
                ∙ ap (λ (colour : Option Colour). out ++ painted colour piece) w.count_colour.ensures))
                c.loop-index.invariant.says;
            room = omega (
              arith,
              longer,
              w.start-is,
              w.append_painted.ensures.longer,
              length-take (i - start) (drop start text),
              c.loop-index.invariant.room,
              c.loop-index.invariant.after,
            );
          }
      | else-ends w ↦
          let same : length c.if-ends.out.items ≡ length out = ap (λ (o : ArrayVec ℕ). length o.items) w.out-is in
          record {
            after = omega (arith, w.start-is, c.loop-index.invariant.after);
            says = says_goes_on Cells count_piece text start _ i 0 out _ _ w.start-is c.loop-index.invariant.after
                c.loop-index-test.true (sym c.ends.ensures ∙ w.if-ends.false)
                (ap (λ (o : ArrayVec ℕ). o.items) w.out-is) c.loop-index.invariant.says;
            room = omega (arith, same, w.start-is, c.loop-index.invariant.room, c.loop-index.invariant.after);
          }
    ]
