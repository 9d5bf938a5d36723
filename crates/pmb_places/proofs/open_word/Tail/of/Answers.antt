use Rattle.std.proofs.Common.{sym, ◌∙◌, arith}
use Rattle.pmb_places.proofs.Tails.{at_comment, at_separator, at_word}
use Rattle.pmb_places.proofs.open_word.Tail.of.Goals.{then-in_comment, then-in_comment-via-then-in_comment}
use Rattle.pmb_places.proofs.open_word.Tail.of.Goals.{then-in_comment-via-else-in_comment+then-is_separator}
use Rattle.pmb_places.proofs.open_word.Tail.of.Goals.{else-in_comment+else-is_separator}
use Rattle.pmb_places.proofs.open_word.Tail.of.Goals as goal

pub loop-i-preserved : goal.loop-i-preserved
loop-i-preserved c = record {
  tail = λ text is.
      let tail = c.loop-i.invariant.tail text is in
      elim c.if-in_comment.branch [
        | then-in_comment w ↦
            elim w.then-in_comment.branch [
              | then-in_comment-via-then-in_comment w' ↦
                  at_comment text c.args.bytes.now c.loop-i.i c.loop-i.in_comment c.is_in_comment-in_comment.result
                  c.loop-i.from c.if-in_comment.from
                  c.loop-i-test.true c.is_in_comment-in_comment.ensures tail w'.if-in_comment.true w.from-is
              | then-in_comment-via-else-in_comment+then-is_separator w' ↦
                  at_separator text c.args.bytes.now c.loop-i.i c.loop-i.in_comment c.is_in_comment-in_comment.result
                  c.loop-i.from c.if-in_comment.from
                  c.loop-i-test.true c.is_in_comment-in_comment.ensures tail
                  (sym w'.is_separator.ensures ∙ w'.if-is_separator.true) w.from-is
            ]
        | else-in_comment+else-is_separator w ↦
            at_word text c.args.bytes.now c.loop-i.i c.loop-i.in_comment c.is_in_comment-in_comment.result c.loop-i.from
            c.if-in_comment.from
            c.loop-i-test.true c.is_in_comment-in_comment.ensures tail c.loop-i.invariant.within w.if-in_comment.false
            (sym w.is_separator.ensures ∙ w.if-is_separator.false) w.from-is
      ];
  within = elim c.if-in_comment.branch [
    | then-in_comment w ↦ omega arith
    | else-in_comment+else-is_separator w ↦ omega
        arith
  ];
}
