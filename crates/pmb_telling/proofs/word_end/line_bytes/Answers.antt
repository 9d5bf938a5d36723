use Rattle.std.proofs.Common.{◌∷◌, [], get_or, subst, sym, take, arith}
use Rattle.std.proofs.lemmas.List.{take_more}
use Rattle.pmb_io.specs.Lines.{HasNoLf}
use Rattle.pmb_telling.proofs.Words.{no_lf_append}
use Rattle.pmb_telling.proofs.word_end.line_bytes.Goals as goal

-- a byte more that is no LF
pub loop-byte-preserved : goal.loop-byte-preserved
loop-byte-preserved c =
    let bytes = c.args.bytes.now in
    let index = c.loop-byte.byte-index in record {
      counted = omega (arith, c.loop-byte.invariant.counted);
      in_line = subst HasNoLf (sym (take_more bytes index 0 (omega arith)))
          (no_lf_append (take index bytes) (get_or bytes index 0 ∷ []) c.loop-byte.invariant.in_line
          (c.if-byte-eq10.false, tt));
    }
