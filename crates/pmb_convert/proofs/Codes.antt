-- Codes in their four hexadecimal digits: for `code`. What std's `hex` decodes into two bytes is
-- the code that the digits write, high byte first; where it refuses them they write none.
use Rattle.std.proofs.Common.{◌≡◌, ℕ, Some, None, Result, Ok, Err, List, refl, ap, MatchResult, w16}
use Rattle.std.specs.Int.{from_be_bytes}
use Rattle.hex.specs.Hex.{decode_sized}
use Rattle.hex.specs.declared.error.FromHexError.{FromHexError}
use Rattle.pmb_convert.specs.Answer.{code_of, word_of}

-- what `hex` writes of four digits
pub reads_word : (text out : List ℕ) (r : Result Unit FromHexError)
    → MatchResult (decode_sized text 2) (λ bytes. (r ≡ Ok tt) × (out ≡ bytes)) (λ e. r ≡ Err e)
    → (r ≡ Ok tt → Some (from_be_bytes w16 out) ≡ code_of text)
unfolding code_of
reads_word text out r = by_result (decode_sized text 2)
  where
    by_result : (d : Result (List ℕ) FromHexError)
        → MatchResult d (λ bytes. (r ≡ Ok tt) × (out ≡ bytes)) (λ e. r ≡ Err e) → r ≡ Ok tt
        → Some (from_be_bytes w16 out) ≡ word_of d
    by_result (Ok bytes) decoded ok = ap (λ (b : List ℕ). Some (from_be_bytes w16 b)) decoded.1
    by_result (Err e) decoded ok = cc

pub reads_no_word : (text out : List ℕ) (r : Result Unit FromHexError) (e : FromHexError)
    → MatchResult (decode_sized text 2) (λ bytes. (r ≡ Ok tt) × (out ≡ bytes)) (λ e. r ≡ Err e)
    → (r ≡ Err e → None ≡ code_of text)
unfolding code_of
reads_no_word text out r e = by_result (decode_sized text 2)
  where
    by_result : (d : Result (List ℕ) FromHexError)
        → MatchResult d (λ bytes. (r ≡ Ok tt) × (out ≡ bytes)) (λ e. r ≡ Err e) → r ≡ Err e → None ≡ word_of d
    by_result (Ok bytes) decoded err = cc
    by_result (Err f) decoded err = refl
