-- Digits stand in a string as they are.
use Rattle.std.proofs.Common.{◌++◌, List, ℕ, ap, ◌∙◌, sym, arith}
use Rattle.hex.specs.Hex.{encode_lower}
use Rattle.pmb_json_text.proofs.Pieces.{text_appended}
use Rattle.pmb_json_text.proofs.Plain.{all_plain_as_they_are, are_bytes, digits_are_plain}
use Rattle.pmb_json_text.proofs.hex_digits.append_quoted_digits.Goals as goal

pub returns-clause-text : goal.returns-clause-text
returns-clause-text g c =
    let bytes = c.args.bytes.now in
    let plain = all_plain_as_they_are (encode_lower bytes)
    (digits_are_plain bytes (are_bytes bytes (λ i. omega (arith, c.type_inv.bytes i)))) in
    text_appended (encode_lower bytes) c.args.out.now.items c.push.ensures.items
    (c.append_all_digits.ensures.text ∙ ap (λ (t : List ℕ). c.push.new.self.items ++ t) (sym plain))
    c.push-2.ensures.items
