-- The digits so far, and those of one byte more.
use Rattle.std.proofs.Common.{List, ℕ, [], ◌∷◌, ◌++◌, get_or, take, sym, ap, ◌∙◌, append_assoc, arith}
use Rattle.std.proofs.lemmas.List.{append-nil, take_more}
use Rattle.hex.specs.Hex.{encode_lower, encode_with}
use Rattle.pmb_json_text.proofs.Plain.{digits_append}
use Rattle.pmb_json_text.proofs.hex_digits.append_all_digits.Goals as goal

pub loop-byte-init : goal.loop-byte-init
unfolding encode_with
loop-byte-init g c = record { text = sym (append-nil c.args.out.now.items); short = omega arith }

pub loop-byte-preserved : goal.loop-byte-preserved
loop-byte-preserved g c =
    let bytes = c.args.bytes.now in
    let i = c.loop-byte.byte-index in
    let byte = get_or bytes i 0 in
    record {
      text = c.append_digits.ensures.text ∙ ap (λ (t : List ℕ). t ++ encode_lower (byte ∷ []))
          c.loop-byte.invariant.text
          ∙ append_assoc c.args.out.now.items (encode_lower (take i bytes)) (encode_lower (byte ∷ []))
          ∙ ap (λ (t : List ℕ). c.args.out.now.items ++ t)
          (sym (digits_append (take i bytes) (byte ∷ []))
          ∙ ap encode_lower (sym (take_more bytes i 0 c.loop-byte-test.true)));
      short = omega arith;
    }
