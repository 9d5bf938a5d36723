use Rattle.std.proofs.Common.{◌≡◌, ◌+◌, ◌*◌, ◌++◌, ◌∷◌, [], codes, length, take}
use Rattle.std.specs.List.{flat_map}
use Rattle.hex.specs.Hex.{encode_lower}
use Rattle.pmb_run.proofs.result.append_bytes.Given as goal

-- the bytes so far, each with a space before it
abbrev pub invariant-loop-byte : goal.invariant-loop-byte
invariant-loop-byte l = record {
  text : l.line.items ≡ l.initial.line.items ++ flat_map (λ b. codes " " ++ encode_lower (b ∷ []))
      (take l.byte-index l.rest);
  len : length l.line.items ≡ length l.fn.line.items + 2 + 3 * l.byte-index;
}
