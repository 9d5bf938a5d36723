-- What `hex` reads of a VOUT_MODE's two digits: for `byte`, and for the law `one_format`. Two
-- digits decode to their byte; any other text decodes to none, or to another number of bytes.
use Rattle.std.proofs.Common.{◌≡◌, ℕ, ◌+◌, ◌*◌, ◌≤◌, ◌/◌, ◌%◌, ◌==◌, if◌then◌else◌, Bool, true, false, Option, Some}
use Rattle.std.proofs.Common.{None, Result, Ok, Err, List, [], ◌∷◌, length, get_or, refl, sym, ap, ◌∙◌, subst, arith}
use Rattle.std.proofs.Common.{MatchResult}
use Rattle.std.proofs.lemmas.Bool.Decides.{nat_tests}
use Rattle.hex.specs.Hex.{decode_pairs, decode_sized, digit_or_error, hex_digit_value, ◌>>=◌}
use Rattle.hex.specs.declared.error.FromHexError.{FromHexError}
use Rattle.pmb_convert.specs.Spelling.{WritesMode}

-- what two digits of these values decode to
abbrev pair : ℕ → ℕ → Option ℕ → Option ℕ → Result (List ℕ) FromHexError
pair high low h l = (digit_or_error high 0 h >>= (λ x. digit_or_error low 1 l >>= (λ y. Ok (x * 16 + y)))) >>=
    (λ byte. Ok (byte ∷ []))

decoded_pair : (high low : ℕ) → decode_sized (high ∷ low ∷ []) 1 ≡ pair high low (hex_digit_value high)
    (hex_digit_value low)
unfolding decode_pairs
decoded_pair high low = refl

-- what is written decodes
pub written_decodes : (text : List ℕ) (mode : ℕ) → WritesMode text mode → decode_sized text 1 ≡ Ok (mode ∷ [])
written_decodes text mode writes =
    ap (λ t. decode_sized t 1) writes.two ∙ decoded_pair writes.high writes.low
    ∙ ap (λ h. pair writes.high writes.low h (hex_digit_value writes.low)) writes.high_is
    ∙ ap (λ l. pair writes.high writes.low (Some writes.high_value) l) writes.low_is
    ∙ ap (λ (m : ℕ). Ok (m ∷ [])) (sym writes.value)

-- and what decodes to one byte is written so
pair_written : (high low : ℕ) (h l : Option ℕ) (bytes : List ℕ) → hex_digit_value high ≡ h → hex_digit_value low ≡ l
    → pair high low h l ≡ Ok bytes
    → WritesMode (high ∷ low ∷ []) (get_or bytes 0 0)
pair_written high low None l bytes high_is low_is ok = cc
pair_written high low (Some h) None bytes high_is low_is ok = cc
pair_written high low (Some h) (Some l) bytes high_is low_is ok =
    let is : bytes ≡ (h * 16 + l) ∷ [] = cc in
    record {
      high = high;
      low = low;
      high_value = h;
      low_value = l;
      two = refl;
      high_is = high_is;
      low_is = low_is;
      value = ap (λ bs. get_or bs 0 0) is;
    }

-- a longer text is refused
longer : (n : ℕ) (decoded : Result (List ℕ) FromHexError) (odd wrong : FromHexError) (bytes : List ℕ) → 3 ≤ n
    → (if n % 2 == 1 then Err odd else if n / 2 == 1 then decoded else Err wrong) ≡ Ok bytes → ⊥
longer n decoded odd wrong bytes long = by (n % 2 == 1) (n / 2 == 1) refl refl
  where
    by : (p q : Bool) → (n % 2 == 1) ≡ p → (n / 2 == 1) ≡ q → (if p then Err odd else if q then decoded else Err wrong)
        ≡ Ok bytes → ⊥
    by true q is_odd one ok = cc
    by false false is_odd one ok = cc
    by false true is_odd one ok = absurd (grind (arith, nat_tests))

pub decodes_written : (text bytes : List ℕ) → decode_sized text 1 ≡ Ok bytes → WritesMode text (get_or bytes 0 0)
decodes_written [] bytes ok = cc
decodes_written (a ∷ []) bytes ok = cc
decodes_written (high ∷ low ∷ []) bytes ok =
    pair_written high low (hex_digit_value high) (hex_digit_value low) bytes refl refl
    (sym (decoded_pair high low) ∙ ok)
decodes_written (a ∷ b ∷ c ∷ rest) bytes ok =
    absurd (longer (length (a ∷ b ∷ c ∷ rest)) (decode_pairs 0 (a ∷ b ∷ c ∷ rest)) _ _ bytes (omega arith) ok)

-- ---- what `hex` answers

pub reads_mode : (text out : List ℕ) (r : Result Unit FromHexError)
    → MatchResult (decode_sized text 1) (λ bytes. (r ≡ Ok tt) × (out ≡ bytes)) (λ e. r ≡ Err e) → r ≡ Ok tt
    → WritesMode text (get_or out 0 0)
reads_mode text out r = by_result (decode_sized text 1) refl
  where
    by_result : (d : Result (List ℕ) FromHexError) → decode_sized text 1 ≡ d
        → MatchResult d (λ bytes. (r ≡ Ok tt) × (out ≡ bytes)) (λ e. r ≡ Err e) → r ≡ Ok tt
        → WritesMode text (get_or out 0 0)
    by_result (Ok bytes) is decoded ok = subst (λ bs. WritesMode text (get_or bs 0 0)) (sym decoded.1)
        (decodes_written text bytes is)
    by_result (Err e) is decoded ok = cc

pub reads_no_mode : (text out : List ℕ) (r : Result Unit FromHexError) (e : FromHexError)
    → MatchResult (decode_sized text 1) (λ bytes. (r ≡ Ok tt) × (out ≡ bytes)) (λ e. r ≡ Err e) → r ≡ Err e → (mode : ℕ)
    → ¬ (WritesMode text mode)
reads_no_mode text out r e decoded err mode writes =
    let ok = subst (λ d. MatchResult d (λ bytes. (r ≡ Ok tt) × (out ≡ bytes)) (λ e. r ≡ Err e))
    (written_decodes text mode writes) decoded in
    let is : r ≡ Ok tt = ok.0 in
    cc

-- and two digits write one VOUT_MODE
pub one_mode : (text : List ℕ) (a b : ℕ) → WritesMode text a → WritesMode text b → a ≡ b
one_mode text a b left right =
    let same : Ok (a ∷ []) ≡ Ok (b ∷ []) = sym (written_decodes text a left) ∙ written_decodes text b right in
    cc
