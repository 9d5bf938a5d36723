use Rattle.std.proofs.Common.{◌≡◌, ℕ, Bool, true, ◌&&◌, ltb, List, [], ◌∷◌, ◌++◌, Result, Ok, Err, refl, sym, subst}
use Rattle.std.proofs.Common.{arith}
use Rattle.std.specs.Prelude.{OnOk, IsOk}
use Rattle.std.specs.Str.{IsAscii}
use Rattle.std.proofs.lemmas.Bool.{and_parts, ltb-true}
use Rattle.std.proofs.lemmas.Str.{IsUtf8-from_ascii}
use Rattle.std.proofs.lemmas.Str.Ascii.{IsAscii-nil, IsAscii-cons, IsAscii-push}
use Rattle.hex.specs.Hex.{lower_digits, encode_lower}
use Rattle.hex.proofs.HexLemmas.{IsAscii-encode_with}
use Rattle.pmb_bus.proofs.event.byte_text.Goals as goal

-- what holds of a result that is `Ok`
at_ok : {T E P : Type 0} (r : Result T E) → IsOk r → OnOk r P → P
at_ok (Ok x) ok holds = holds
at_ok (Err e) ok holds = cc ok

-- a test of each byte, which computes
abbrev all_ascii : List ℕ → Bool
all_ascii [] = true
all_ascii (b ∷ bytes) = ltb b 128 && all_ascii bytes

-- bytes that pass the test are ASCII
IsAscii-from_test : (bytes : List ℕ) → all_ascii bytes ≡ true → IsAscii bytes
IsAscii-from_test [] passes = IsAscii-nil
IsAscii-from_test (b ∷ bytes) passes =
    let parts = and_parts (ltb b 128) (all_ascii bytes) passes in
    IsAscii-cons b bytes (ltb-true b 128 parts.0) (IsAscii-from_test bytes parts.1)

pub unwrap-requires : goal.unwrap-requires
unwrap-requires c =
    let written : c.encode_to_slice.new.output ≡ encode_lower (c.args.byte ∷ []) =
    at_ok c.encode_to_slice.result (c.encode_to_slice.ensures.fits.1 refl) c.encode_to_slice.ensures.written in
    let ascii = IsAscii-encode_with lower_digits (c.args.byte ∷ []) (IsAscii-from_test lower_digits refl) in
    c.from_byte_string.ensures.variant.1
    (
    IsUtf8-from_ascii (c.encode_to_slice.new.output ++ 32 ∷ [])
    (IsAscii-push c.encode_to_slice.new.output 32 (subst IsAscii (sym written) ascii) (omega arith))
    )
