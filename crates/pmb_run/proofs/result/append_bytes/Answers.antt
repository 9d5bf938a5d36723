use Rattle.std.proofs.Common.{◌≡◌, ℕ, ◌+◌, ◌-◌, ◌<◌, ◌++◌, ◌∷◌, [], List, codes, length, take, drop, get_or, ap, sym}
use Rattle.std.proofs.Common.{◌∙◌, append_assoc, arith}
use Rattle.std.specs.List.{flat_map}
use Rattle.std.proofs.lemmas.List.{append-nil, flat_map_more, length-append, take_more}
use Rattle.hex.specs.Hex.{encode_lower, lower_digits}
use Rattle.hex.proofs.HexLemmas.{length-encode_with}
use Rattle.pmb_run.proofs.result.append_bytes.Goals as goal

-- a byte after another
abbrev byte_behind : ℕ → List ℕ
byte_behind b = codes " " ++ encode_lower (b ∷ [])

-- the text of one byte more
more_bytes : (before now spaced last bytes : List ℕ) (i : ℕ) → i < length bytes
    → now ≡ before ++ flat_map byte_behind (take i bytes) → spaced ≡ now ++ codes " "
    → last ≡ spaced ++ encode_lower (get_or bytes i 0 ∷ []) → last ≡ before ++ flat_map byte_behind (take (i + 1) bytes)
more_bytes before now spaced last bytes i within so_far space digits =
    let b = get_or bytes i 0 in
    digits ∙ ap (λ (xs : List ℕ). xs ++ encode_lower (b ∷ [])) space
    ∙ append_assoc now (codes " ") (encode_lower (b ∷ []))
    ∙ ap (λ (xs : List ℕ). xs ++ byte_behind b) so_far ∙ flat_map_more byte_behind before (take i bytes) b
    ∙ ap (λ (xs : List ℕ). before ++ flat_map byte_behind xs) (sym (take_more bytes i 0 within))

-- two digits are two bytes
two_digits : (before after : List ℕ) (b : ℕ) → after ≡ before ++ encode_lower (b ∷ [])
    → length after ≡ length before + 2
two_digits before after b appended =
    ap length appended ∙ length-append before (encode_lower (b ∷ []))
    ∙ ap (λ (n : ℕ). length before + n) (length-encode_with lower_digits (b ∷ []))

pub loop-byte-init : goal.loop-byte-init
loop-byte-init c = record {
  text = sym (append-nil _);
  len = omega (arith, two_digits _ _ _ c.append_byte.ensures);
}

pub loop-byte-preserved : goal.loop-byte-preserved
loop-byte-preserved c =
    let rest = take (length c.args.bytes.now - 1) (drop 1 c.args.bytes.now) in
    let spaced : length c.append-in-loop-byte.new.line.items ≡ length c.loop-byte.line.items + 1 =
    ap length c.append-in-loop-byte.ensures ∙ length-append c.loop-byte.line.items (codes " ") in
    record {
      text = more_bytes _ _ _ _ rest c.loop-byte.byte-index c.loop-byte-test.true c.loop-byte.invariant.text
          c.append-in-loop-byte.ensures c.append_byte-in-loop-byte.ensures;
      len = omega (arith, spaced, c.loop-byte.invariant.len, two_digits _ _ _ c.append_byte-in-loop-byte.ensures);
    }
