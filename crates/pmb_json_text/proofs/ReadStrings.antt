-- A string is read back by the reader of the crate `json`, as its characters in UTF-8. For the laws
-- `spelling_reads_back` and `line_reads_back`. Byte by byte: a plain byte is itself, an escape is a
-- code unit below 256, which is no surrogate. 34 is the quote, 92 117 48 48 are `\u00`.
use Rattle.std.proofs.Common.{◌≡◌, ℕ, ◌/◌, ◌%◌, ◌<◌, Bool, true, false, not, cond, ◌==◌, List, [], ◌∷◌, ◌++◌}
use Rattle.std.proofs.Common.{slice_index, Option, Some, None, unwrap_or, option_and_then, refl, sym, ap, ap₂, ◌∙◌}
use Rattle.std.proofs.Common.{arith, inl, inr, ◌⊎◌, append_assoc}
use Rattle.std.proofs.lemmas.Bool.{cases_Bool, eqb-true, le-ltb, ne_eqb, not-true}
use Rattle.std.proofs.lemmas.Str.{encode_ascii}
use Rattle.std.specs.Char.{encode_utf8}
use Rattle.hex.specs.Hex.{lower_digits}
use Rattle.json.specs.Token.{string}
use Rattle.json.specs.Text.{content, plain, prepend, code_unit, is_high_surrogate, is_low_surrogate, after_high}
use Rattle.json.specs.Word.{is_operator, is_space}
use Rattle.json.specs.Lex.{Lexeme, Mode, token, string_token, lex, lex_byte, between, in_string, operator, space, other}
use Rattle.pmb_json_text.specs.Spelling.{is_plain, escaped, all_escaped, quoted, AreBytes}
use Rattle.pmb_json_text.specs.ReadBack.{in_utf8}
use Rattle.pmb_json_text.proofs.Plain.{below, digit_is_plain}
use Rattle.pmb_json_text.proofs.Grammar.{plain_parts}
use Rattle.pmb_json_text.proofs.OneSpelling.{escape_as_six, plain_as_one}

-- what the reader makes of a byte's spelling, before any text
record Passes (byte : ℕ) : Type 0 where
  -- it is read as its character, and the lexer stays inside the string
  read : (rest : List ℕ) → content plain (escaped byte ++ rest) ≡ prepend (encode_utf8 byte) (content plain rest)
  lexed : (rest : List ℕ) → lex in_string (escaped byte ++ rest) ≡ lex in_string rest

-- ---- plain bytes

stays_inside : (o s : Bool) (byte : ℕ) (rest : List ℕ) (k : Mode → List Lexeme)
    → lex_byte in_string (cond o operator (cond s space other)) byte rest k ≡ k in_string
stays_inside true s byte rest k = refl
stays_inside false true byte rest k = refl
stays_inside false false byte rest k = refl

plain_lexed : (byte : ℕ) (rest : List ℕ) → is_plain byte ≡ true → lex in_string (byte ∷ rest) ≡ lex in_string rest
unfolding lex
plain_lexed byte rest is =
    let parts = plain_parts byte is in
    rw (ne_eqb byte 34 parts.2, ne_eqb byte 92 parts.3)
    (stays_inside (is_operator byte) (is_space byte) byte rest (λ m. lex m rest))

plain_read : (byte : ℕ) (rest : List ℕ) → is_plain byte ≡ true
    → content plain (byte ∷ rest) ≡ prepend (encode_utf8 byte) (content plain rest)
unfolding content
plain_read byte rest is =
    let parts = plain_parts byte is in
    let ascii : byte < 128 = omega (arith, parts.1) in
    rw (ne_eqb byte 34 parts.2, ne_eqb byte 92 parts.3, le-ltb byte 32 parts.0)
    (ap (λ (t : List ℕ). prepend t (content plain rest)) (sym (encode_ascii byte ascii)))

-- ---- escapes

some_from : (o : Option ℕ) (n : ℕ) → n < 256 → unwrap_or o 256 ≡ n → o ≡ Some n
some_from (Some m) n less same = ap Some same
some_from None n less same = absurd (omega (arith, same))

abbrev unit_of : ℕ → Option ℕ
unit_of byte = code_unit 48 48 (slice_index lower_digits (byte / 16)) (slice_index lower_digits (byte % 16))

unit : (byte : ℕ) → byte < 256 → unit_of byte ≡ Some byte
unfolding code_unit
unit byte less = some_from (unit_of byte) byte less
    (eqb-true (unwrap_or (unit_of byte) 256) byte
    (below (λ (b : ℕ). unwrap_or (unit_of b) 256 == b) 256 byte refl less))

not_high : (byte : ℕ) → byte < 256 → is_high_surrogate byte ≡ false
not_high byte less = not-true (is_high_surrogate byte) (below (λ (b : ℕ). not (is_high_surrogate b)) 256 byte refl less)

not_low : (byte : ℕ) → byte < 256 → is_low_surrogate byte ≡ false
not_low byte less = not-true (is_low_surrogate byte) (below (λ (b : ℕ). not (is_low_surrogate b)) 256 byte refl less)

-- what follows the digits, by the unit that they spell
abbrev of_unit : List ℕ → ℕ → Option (List ℕ)
of_unit rest u =
    cond (is_high_surrogate u) (content (after_high u) rest)
    (cond (is_low_surrogate u) None (prepend (encode_utf8 u) (content plain rest)))

escape_read : (byte : ℕ) (rest : List ℕ) → byte < 256
    → content plain (92 ∷ 117 ∷ 48 ∷ 48 ∷ slice_index lower_digits (byte / 16) ∷ slice_index lower_digits (byte % 16)
    ∷ rest) ≡ prepend (encode_utf8 byte) (content plain rest)
unfolding content
escape_read byte rest less =
    ap (option_and_then (of_unit rest)) (unit byte less)
    ∙ ap₂ (λ (a b : Bool). cond a (content (after_high byte) rest)
    (cond b None (prepend (encode_utf8 byte) (content plain rest)))) (not_high byte less) (not_low byte less)

escape_lexed : (byte : ℕ) (rest : List ℕ) → byte < 256
    → lex in_string (92 ∷ 117 ∷ 48 ∷ 48 ∷ slice_index lower_digits (byte / 16) ∷ slice_index lower_digits (byte % 16)
    ∷ rest) ≡ lex in_string rest
unfolding lex
escape_lexed byte rest less =
    plain_lexed (slice_index lower_digits (byte / 16)) (slice_index lower_digits (byte % 16) ∷ rest)
    (digit_is_plain (byte / 16) (omega arith))
    ∙ plain_lexed (slice_index lower_digits (byte % 16)) rest (digit_is_plain (byte % 16) (omega arith))

-- ---- strings

passes : (byte : ℕ) → byte < 256 → Passes byte
passes byte less = by_case (cases_Bool (is_plain byte))
  where
    by_case : (is_plain byte ≡ true) ⊎ (is_plain byte ≡ false) → Passes byte
    by_case (inl is) = record {
      read = λ rest. ap (content plain) (plain_as_one byte rest is) ∙ plain_read byte rest is;
      lexed = λ rest. ap (lex in_string) (plain_as_one byte rest is) ∙ plain_lexed byte rest is;
    }
    by_case (inr is) = record {
      read = λ rest. ap (content plain) (escape_as_six byte rest is) ∙ escape_read byte rest less;
      lexed = λ rest. ap (lex in_string) (escape_as_six byte rest is) ∙ escape_lexed byte rest less;
    }

content_back : (bytes rest : List ℕ) → AreBytes bytes → content plain (all_escaped bytes ++ 34 ∷ rest)
    ≡ Some (in_utf8 bytes)
unfolding content
content_back [] rest fit = refl
content_back (byte ∷ bytes) rest fit =
    ap (content plain) (append_assoc (escaped byte) (all_escaped bytes) (34 ∷ rest))
    ∙ (passes byte fit.0).read (all_escaped bytes ++ 34 ∷ rest)
    ∙ ap (prepend (encode_utf8 byte)) (content_back bytes rest fit.1)

lexed_over : (bytes rest : List ℕ) → AreBytes bytes → lex in_string (all_escaped bytes ++ 34 ∷ rest) ≡ lex between rest
unfolding lex
lexed_over [] rest fit = refl
lexed_over (byte ∷ bytes) rest fit =
    ap (lex in_string) (append_assoc (escaped byte) (all_escaped bytes) (34 ∷ rest))
    ∙ (passes byte fit.0).lexed (all_escaped bytes ++ 34 ∷ rest)
    ∙ lexed_over bytes rest fit.1

pub lexed_string : (bytes rest : List ℕ) → AreBytes bytes → lex between (quoted bytes ++ rest)
    ≡ token (string (in_utf8 bytes)) ∷ lex between rest
unfolding lex
lexed_string bytes rest fit =
    ap (λ (t : List ℕ). lex between (34 ∷ t)) (append_assoc (all_escaped bytes) (34 ∷ []) rest)
    ∙ ap₂ (λ (o : Option (List ℕ)) (l : List Lexeme). token (string_token o) ∷ l) (content_back bytes rest fit)
    (lexed_over bytes rest fit)
