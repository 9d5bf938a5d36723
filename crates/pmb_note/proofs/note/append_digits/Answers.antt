use Rattle.std.proofs.Common.{◌∷◌, [], arith}
use Rattle.std.proofs.lemmas.Grind.{common_steps}
use Rattle.std.proofs.lemmas.Str.{IsUtf8-from_ascii}
use Rattle.hex.specs.Hex.{encode_lower, lower_digits}
use Rattle.hex.proofs.HexLemmas.{IsAscii-encode_with}
use Rattle.pmb_note.proofs.Texts.{digits_are_ascii}
use Rattle.pmb_note.proofs.note.append_digits.Goals as goal

pub returns : goal.returns
returns g c = record {
  items = grind (arith, common_steps);
  longer = grind (arith, common_steps);
  utf8 = IsUtf8-from_ascii (encode_lower (c.args.byte ∷ []))
      (IsAscii-encode_with lower_digits (c.args.byte ∷ []) digits_are_ascii);
}
