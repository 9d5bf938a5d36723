-- The bytes so far, and one more.
use Rattle.std.proofs.Common.{ℕ, [], ◌∷◌, ◌++◌, ◌∙◌, ap, take, get_or, arith}
use Rattle.hex.specs.Hex.{encode_lower}
use Rattle.pmb_json_text.specs.declared.item_order.ItemOrder.{ItemOrder}
use Rattle.pmb_json_text.specs.declared.item_order.ItemOrder.TheVariants.{First}
use Rattle.pmb_meaning.specs.Words.{byte_texts, spaced}
use Rattle.pmb_meaning.proofs.Turns.{appended_more, place_more, spaced_in_parts, spaced_piece, text_more}
use Rattle.pmb_meaning.proofs.words.append_each_byte.Goals as goal

pub loop-byte-preserved : goal.loop-byte-preserved
loop-byte-preserved g c =
    let bytes = c.args.bytes.now in
    let i = c.loop-byte.byte-index in
    let out = c.loop-byte.out.items in
    let digits = encode_lower (get_or bytes i 0 ∷ []) in
    record {
      text =
          appended_more c.args.out.now.items (spaced First (byte_texts (take i bytes))) _ c.loop-byte.invariant.text
          (spaced_piece c.loop-byte.place digits out c.append_between.ensures.text c.append_digits.ensures.text
          ∙ ap (λ (p : ItemOrder). out ++ spaced p (digits ∷ [])) c.loop-byte.invariant.place)
          (text_more spaced spaced_in_parts (λ (byte : ℕ). encode_lower (byte ∷ [])) bytes i 0 c.loop-byte-test.true);
      place = place_more bytes i 0 c.loop-byte-test.true;
      short =
          omega (
            arith,
            c.append_between.ensures.short,
            c.append_digits.ensures.short,
            c.loop-byte.invariant.short,
          );
    }
