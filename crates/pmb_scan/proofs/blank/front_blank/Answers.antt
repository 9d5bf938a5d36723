use Rattle.std.proofs.Common.{◌+◌, Bool, false, subst, take, arith}
use Rattle.pmb_scan.proofs.Blanks.{IsBlank, blank_more, spells_nothing}
use Rattle.pmb_scan.proofs.blank.front_blank.Goals.{then-not-in_comment, else-not-in_comment}
use Rattle.pmb_scan.proofs.blank.front_blank.Goals as goal

pub loop-i-preserved : goal.loop-i-preserved
loop-i-preserved c =
    let text = c.args.text.now in
    let more = blank_more text c.loop-i.i c.loop-i.in_comment c.in-Some.after (omega arith) c.loop-i.invariant.so_far
    c.in-Some.ensures in
    elim c.if-not-in_comment.branch [
      | then-not-in_comment w ↦ record {
        so_far = more;
        counted = rw w.blank-is (subst (λ (after : Bool). IsBlank (take (c.loop-i.i + 1) text) after)
            w.if-not-in_comment.true more);
        within = omega (arith, w.blank-is);
      }
      | else-not-in_comment w ↦ record {
        so_far = more;
        counted = rw w.blank-is c.loop-i.invariant.counted;
        within = omega (arith, w.blank-is, c.loop-i.invariant.within);
      }
    ]

pub returns-in_default-clause-spells : goal.returns-in_default-clause-spells
returns-in_default-clause-spells c = spells_nothing (take c.loop-i.blank c.args.text.now) false
    c.loop-i.invariant.counted

pub returns-clause-spells : goal.returns-clause-spells
returns-clause-spells c = spells_nothing (take c.loop-i.blank c.args.text.now) false c.loop-i.invariant.counted
