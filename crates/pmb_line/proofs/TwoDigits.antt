-- The table `TWO_DIGITS`, computed as a whole for all 256 bytes: at 2b and 2b + 1 are the two hex
-- digits of b. For `append_byte` of `src/byte_text.rt`, which pushes a space (32) and these two.
use Rattle.std.proofs.Common.{◌≡◌, ◌∙◌, ℕ, ◌+◌, ◌*◌, ◌/◌, ◌%◌, ◌<◌, Bool, true, ◌==◌, List, [], ◌∷◌, ◌++◌, get_or, refl}
use Rattle.std.proofs.Common.{sym, ap, append_assoc}
use Rattle.std.specs.Prelude.{slice_index}
use Rattle.std.proofs.lemmas.Bool.{agree_below, agree_below_at, eqb-true}
use Rattle.hex.specs.Hex.{encode_lower, encode_with, lower_digits}
use Rattle.pmb_line.specs.declared.byte_text.TheConstants.{TWO_DIGITS}

-- the test of the first digit of a byte, which computes
abbrev high_is_right : ℕ → Bool
high_is_right b = slice_index lower_digits (b / 16) == get_or TWO_DIGITS (2 * b) 0

-- .. and of the second
abbrev low_is_right : ℕ → Bool
low_is_right b = slice_index lower_digits (b % 16) == get_or TWO_DIGITS (2 * b + 1) 0

highs_are_right : agree_below high_is_right (λ b. true) 256 ≡ true
highs_are_right = refl

lows_are_right : agree_below low_is_right (λ b. true) 256 ≡ true
lows_are_right = refl

high_of : (b : ℕ) → b < 256 → slice_index lower_digits (b / 16) ≡ get_or TWO_DIGITS (2 * b) 0
high_of b byte =
    eqb-true (slice_index lower_digits (b / 16)) (get_or TWO_DIGITS (2 * b) 0)
    (agree_below_at high_is_right (λ b. true) 256 b highs_are_right byte)

low_of : (b : ℕ) → b < 256 → slice_index lower_digits (b % 16) ≡ get_or TWO_DIGITS (2 * b + 1) 0
low_of b byte =
    eqb-true (slice_index lower_digits (b % 16)) (get_or TWO_DIGITS (2 * b + 1) 0)
    (agree_below_at low_is_right (λ b. true) 256 b lows_are_right byte)

-- the two digits of a byte, by the table
pub two_digits : (b : ℕ) → b < 256 → encode_lower (b ∷ []) ≡ get_or TWO_DIGITS (2 * b) 0
    ∷ get_or TWO_DIGITS (2 * b + 1) 0 ∷ []
unfolding encode_with
two_digits b byte =
    ap (λ high. high ∷ slice_index lower_digits (b % 16) ∷ []) (high_of b byte)
    ∙ ap (λ low. get_or TWO_DIGITS (2 * b) 0 ∷ low ∷ []) (low_of b byte)

-- a space and the two digits, pushed one after the other
pub pushed : (old one two three : List ℕ) (b place : ℕ) → b < 256 → place ≡ b → one ≡ old ++ 32 ∷ []
    → two ≡ one ++ get_or TWO_DIGITS (2 * place) 0 ∷ []
    → three ≡ two ++ get_or TWO_DIGITS (2 * place + 1) 0 ∷ [] → three ≡ old ++ 32 ∷ encode_lower (b ∷ [])
pushed old one two three b place byte is first second third =
    let high = get_or TWO_DIGITS (2 * place) 0 in
    let low = get_or TWO_DIGITS (2 * place + 1) 0 in
    third
    ∙ ap (λ xs. xs ++ low ∷ []) (second ∙ ap (λ xs. xs ++ high ∷ []) first)
    ∙ append_assoc (old ++ 32 ∷ []) (high ∷ []) (low ∷ [])
    ∙ append_assoc old (32 ∷ []) (high ∷ low ∷ [])
    ∙ ap (λ (n : ℕ). old ++ 32 ∷ get_or TWO_DIGITS (2 * n) 0 ∷ get_or TWO_DIGITS (2 * n + 1) 0 ∷ []) is
    ∙ ap (λ (digits : List ℕ). old ++ 32 ∷ digits) (sym (two_digits b byte))
