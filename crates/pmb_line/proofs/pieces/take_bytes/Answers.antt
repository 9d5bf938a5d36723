use Rattle.std.proofs.Common.{◌≡◌, Some, [], ◌∷◌, length, refl, sym, ap, ◌∙◌, arith}
use Rattle.pmb_line.specs.machine.Left.{left}
use Rattle.pmb_line.proofs.Partials.{append-nil}
use Rattle.pmb_line.proofs.Standing.{adds_more}
use Rattle.pmb_line.proofs.pieces.take_bytes.Goals as goal

pub loop-word-init : goal.loop-word-init
loop-word-init g c = record {
  adds = record {
    bs = [];
    front = [];
    split = refl;
    are_bytes = refl;
    added =
        sym (append-nil c.args.bytes.now.items);
  };
  ahead = refl;
  ahead_end = refl;
  ends = refl;
  few = c.is_full-is_full.ensures.fits;
  full = c.is_full-is_full.ensures.value;
  shrinks = omega arith;
}

pub loop-word-preserved : goal.loop-word-preserved
loop-word-preserved g c =
    let so_far = c.loop-word.invariant in
    let next : left c.loop-word.words ≡ c.in-Some.word ∷ left c.next.new.self = sym so_far.ahead
    ∙ c.in-Some.ensures.some in
    record {
      adds = adds_more _ _ _ _ _ _ c.in-Some.word c.in-Byte.byte so_far.adds next
          (c.in-Some-token.is ∙ ap Some c.in-Byte.is) c.push.ensures.items;
      ahead = refl;
      ahead_end = c.in-Some.ensures.end ∙ so_far.ahead_end;
      ends = c.in-Some.ensures.end ∙ so_far.ahead_end;
      few = c.is_full-is_full-in-Some.ensures.fits;
      full = c.is_full-is_full-in-Some.ensures.value;
      shrinks = omega (arith, ap length next, so_far.shrinks);
    }
