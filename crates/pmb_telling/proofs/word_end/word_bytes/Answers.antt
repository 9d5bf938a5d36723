use Rattle.std.proofs.Common.{◌≡◌, ◌∷◌, [], List, ℕ, get_or, subst, sym, take, arith, ◌∙◌}
use Rattle.std.proofs.lemmas.List.{take_more}
use Rattle.pmb_bus.specs.Text.{front_word}
use Rattle.pmb_telling.proofs.Words.{solid_both, solid_byte}
use Rattle.pmb_telling.proofs.word_end.word_bytes.Goals as goal

-- a byte more of the word
pub loop-byte-preserved : goal.loop-byte-preserved
loop-byte-preserved c =
    let bytes = c.args.bytes.now in
    let index = c.loop-byte.byte-index in record {
      counted = omega (arith, c.loop-byte.invariant.counted);
      word = subst (λ (w : List ℕ). front_word w ≡ w) (sym (take_more bytes index 0 (omega arith)))
          (solid_both (take index bytes) (get_or bytes index 0 ∷ []) c.loop-byte.invariant.word
          (solid_byte (get_or bytes index 0) (sym c.ends_word.ensures ∙ c.if-ends_word.false)));
    }
