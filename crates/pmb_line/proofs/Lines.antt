-- The line that is written for a transaction spells it, with a comment after it too. For the laws
-- `line_spells`, `packet_has_line` and `comments_say_nothing`. Each token's text has no blank and
-- no CR, so the text between spaces is one word, and that word says the token; digits are computed
-- for all sixteen.
use Rattle.std.proofs.Common.{◌≡◌, ℕ, ◌<◌, ◌+◌, ◌*◌, ◌/◌, ◌%◌, Bool, true, false, not, ◌==◌, ◌&&◌, Option, Some, None}
use Rattle.std.proofs.Common.{List, [], ◌∷◌, ◌++◌, map, length, slice_index, refl, sym, ap, subst, ◌∙◌, arith}
use Rattle.std.proofs.Common.{append-nil, append_assoc}
use Rattle.std.specs.Prelude.{codes, if◌then◌else◌, unwrap_or}
use Rattle.std.specs.List.{flat_map, AllByRecursion}
use Rattle.std.proofs.lemmas.Bool.{agree_below, agree_below_at, and_parts, eqb-true}
use Rattle.hex.specs.Hex.{encode_lower, encode_with, hex_digit_value, lower_digits}
use Rattle.pmb_command.specs.Wire.{AreByteValues}
use Rattle.pmb_transaction.specs.Transaction.{PartData, TransactionData}
use Rattle.pmb_transaction.specs.Transaction as says
use Rattle.pmb_line.specs.declared.token.Token.{Token}
use Rattle.pmb_line.specs.declared.token.Token.TheVariants.{Byte, Write, Read, Call, Refused, Alert, Nobody, Pec, Plus}
use Rattle.pmb_line.specs.declared.token.Token.TheVariants.{Colon}
use Rattle.pmb_line.specs.Words.{texts, line_words, words_from, without_cr}
use Rattle.pmb_line.specs.Token.{token_of, token_text, byte_of_digits, or_keyword}
use Rattle.pmb_line.specs.Spelling.{ArePartBytes, HasBytes, HasLine, SpellsTransaction, bytes, mark, part, parts}
use Rattle.pmb_line.specs.Spelling.{part_before, tokens, line, spaced}
use Rattle.pmb_line.specs.machine.Reading.{ends_line_word}
use Rattle.pmb_line.specs.machine.LineText.{behind}
use Rattle.pmb_line.specs.machine.Front.{EndsWord}
use Rattle.pmb_line.proofs.WordLemmas.{AllGo, word_then}

-- ---- digits

-- a byte that is one of a word, and no CR
abbrev is_plain : ℕ → Bool
-- 13 is CR
is_plain b = not (ends_line_word b) && not (b == 13)

abbrev all_plain : List ℕ → Bool
all_plain [] = true
all_plain (b ∷ rest) = is_plain b && all_plain rest

-- the sixteen digits, computed as a whole
digits_plain : agree_below (λ d. is_plain (slice_index lower_digits d)) (λ d. true) 16 ≡ true
digits_plain = refl

digits_read : agree_below (λ d. unwrap_or (hex_digit_value (slice_index lower_digits d)) 99 == d) (λ d. true) 16 ≡ true
digits_read = refl

has_value : (o : Option ℕ) (d : ℕ) → unwrap_or o 99 ≡ d → d < 16 → o ≡ Some d
has_value (Some v) d is small = ap Some is
has_value None d is small = absurd (omega arith)

digit_value : (d : ℕ) → d < 16 → hex_digit_value (slice_index lower_digits d) ≡ Some d
digit_value d small =
    has_value (hex_digit_value (slice_index lower_digits d)) d
    (eqb-true (unwrap_or (hex_digit_value (slice_index lower_digits d)) 99) d
    (agree_below_at (λ d. unwrap_or (hex_digit_value (slice_index lower_digits d)) 99 == d)
    (λ d. true) 16 d digits_read small)) small

two_digits : (high low hv lv : ℕ) (keyword : Option Token) → hex_digit_value high ≡ Some hv
    → hex_digit_value low ≡ Some lv
    → or_keyword (byte_of_digits (hex_digit_value high) (hex_digit_value low)) keyword ≡ Some (Byte (hv * 16 + lv))
two_digits high low hv lv keyword first second =
    ap (λ (o : Option ℕ). or_keyword (byte_of_digits o (hex_digit_value low)) keyword) first
    ∙ ap (λ (o : Option ℕ). or_keyword (byte_of_digits (Some hv) o) keyword) second

byte_says : (b : ℕ) → b < 256 → token_of (encode_lower (b ∷ [])) ≡ Some (Byte b)
unfolding encode_with
byte_says b small =
    let high : b / 16 < 16 = omega arith in
    let low : b % 16 < 16 = omega arith in
    let whole : (b / 16) * 16 + b % 16 ≡ b = omega arith in
    two_digits (slice_index lower_digits (b / 16)) (slice_index lower_digits (b % 16)) (b / 16) (b % 16) _
    (digit_value (b / 16) high) (digit_value (b % 16) low)
    ∙ ap (λ n. Some (Byte n)) whole

digit_plain : (d : ℕ) → d < 16 → is_plain (slice_index lower_digits d) ≡ true
digit_plain d small = agree_below_at (λ d. is_plain (slice_index lower_digits d)) (λ d. true) 16 d digits_plain small

both_plain : (a b : ℕ) → is_plain a ≡ true → is_plain b ≡ true → all_plain (a ∷ b ∷ []) ≡ true
both_plain a b first second = ap (λ v. v && (is_plain b && true)) first ∙ ap (λ v. v && true) second

byte_plain : (b : ℕ) → b < 256 → all_plain (encode_lower (b ∷ [])) ≡ true
unfolding encode_with
byte_plain b small =
    let high : b / 16 < 16 = omega arith in
    let low : b % 16 < 16 = omega arith in
    both_plain (slice_index lower_digits (b / 16)) (slice_index lower_digits (b % 16)) (digit_plain (b / 16) high)
    (digit_plain (b % 16) low)

-- ---- tokens

abbrev pub IsSmall : Token → Type 0
IsSmall (Byte b) = b < 256
IsSmall _ = Unit {0}

token_plain : (t : Token) → IsSmall t → all_plain (token_text t) ≡ true
token_plain (Byte b) small = byte_plain b small
token_plain _ small = refl

token_says : (t : Token) → IsSmall t → token_of (token_text t) ≡ Some t
token_says (Byte b) small = byte_says b small
token_says _ small = refl

-- a text with a byte
record Shape (text : List ℕ) : Type 0 where
  -- the first byte, and the others
  b : ℕ
  w : List ℕ
  is : text ≡ b ∷ w

token_shape : (t : Token) → Shape (token_text t)
unfolding encode_with
token_shape (Byte b) = record {
  b = slice_index lower_digits (b / 16);
  w = slice_index lower_digits (b % 16) ∷ [];
  is =
      refl;
}
token_shape Write = record { b = 119; w = codes "rite"; is = refl }
token_shape Read = record { b = 114; w = codes "ead"; is = refl }
token_shape Call = record { b = 99; w = codes "all"; is = refl }
token_shape Refused = record { b = 114; w = codes "efused"; is = refl }
token_shape Alert = record { b = 97; w = codes "lert"; is = refl }
token_shape Nobody = record { b = 110; w = codes "one"; is = refl }
token_shape Pec = record { b = 112; w = codes "ec"; is = refl }
token_shape Plus = record { b = 43; w = []; is = refl }
token_shape Colon = record { b = 58; w = []; is = refl }

not_true : (v : Bool) → not v ≡ true → v ≡ false
not_true true is = cc is
not_true false is = refl

all_go : (text : List ℕ) → all_plain text ≡ true → AllGo text
all_go [] plain = tt
all_go (b ∷ rest) plain =
    let parts = and_parts (is_plain b) (all_plain rest) plain in
    let this = and_parts (not (ends_line_word b)) (not (b == 13)) parts.0 in
    (not_true (ends_line_word b) this.0, all_go rest parts.1)

-- ---- words

one_word : (at : ℕ) (text rest : List ℕ) → Shape text → AllGo text → EndsWord rest
    → words_from at (text ++ rest) ≡ record { at = at; text = text } ∷ words_from (at + length text) rest
one_word at text rest shape go ends =
    subst (λ xs. words_from at (xs ++ rest) ≡ record { at = at; text = xs } ∷ words_from (at + length xs) rest)
    (sym shape.is)
    (word_then at shape.b shape.w rest (subst AllGo shape.is go) ends)

-- a text at whose front a word ends, and that has no word of its own
pub record IsWordless (tail : List ℕ) : Type 0 where
  -- a word before it ends there, and there are no words in it
  pub ends : EndsWord tail
  pub none : (at : ℕ) → words_from at tail ≡ []

no_tail : IsWordless []
no_tail = record { ends = λ some. absurd (omega arith); none = λ at. refl }

tail_ends : (ts : List Token) (tail : List ℕ) → EndsWord tail → EndsWord (behind ts ++ tail)
tail_ends [] tail ends = ends
tail_ends (t ∷ ts) tail ends = λ some. refl

words_behind : (at : ℕ) (ts : List Token) (tail : List ℕ) → AllByRecursion IsSmall ts → IsWordless tail
    → texts (words_from at (behind ts ++ tail)) ≡ map token_text ts
words_behind at [] tail small wordless = ap texts (wordless.none at)
words_behind at (t ∷ ts) tail small wordless =
    ap (λ xs. texts (words_from at (32 ∷ xs))) (append_assoc (token_text t) (behind ts) tail)
    ∙ ap texts (one_word (at + 1) (token_text t) (behind ts ++ tail) (token_shape t)
    (all_go (token_text t) (token_plain t small.0)) (tail_ends ts tail wordless.ends))
    ∙ ap (λ xs. token_text t ∷ xs) (words_behind (at + 1 + length (token_text t)) ts tail small.1 wordless)

words_spaced : (ts : List Token) (tail : List ℕ) → AllByRecursion IsSmall ts → IsWordless tail
    → texts (words_from 0 (spaced (map token_text ts) ++ tail)) ≡ map token_text ts
words_spaced [] tail small wordless = ap texts (wordless.none 0)
words_spaced (t ∷ ts) tail small wordless =
    ap (λ xs. texts (words_from 0 xs)) (append_assoc (token_text t) (behind ts) tail)
    ∙ ap texts (one_word 0 (token_text t) (behind ts ++ tail) (token_shape t)
    (all_go (token_text t) (token_plain t small.0)) (tail_ends ts tail wordless.ends))
    ∙ ap (λ xs. token_text t ∷ xs) (words_behind (0 + length (token_text t)) ts tail small.1 wordless)

-- ---- no CR

abbrev no_cr : List ℕ → Bool
no_cr [] = true
-- 13 is CR
no_cr (b ∷ rest) = not (b == 13) && no_cr rest

no_cr-append : (a b : List ℕ) → no_cr a ≡ true → no_cr b ≡ true → no_cr (a ++ b) ≡ true
no_cr-append [] b first second = second
no_cr-append (x ∷ a) b first second =
    let parts = and_parts (not (x == 13)) (no_cr a) first in
    ap (λ v. v && no_cr (a ++ b)) parts.0 ∙ no_cr-append a b parts.1 second

plain_no_cr : (text : List ℕ) → all_plain text ≡ true → no_cr text ≡ true
plain_no_cr [] plain = refl
plain_no_cr (b ∷ rest) plain =
    let parts = and_parts (is_plain b) (all_plain rest) plain in
    let this = and_parts (not (ends_line_word b)) (not (b == 13)) parts.0 in
    ap (λ v. v && no_cr rest) this.1 ∙ plain_no_cr rest parts.1

behind_no_cr : (ts : List Token) → AllByRecursion IsSmall ts → no_cr (behind ts) ≡ true
behind_no_cr [] small = refl
behind_no_cr (t ∷ ts) small = no_cr-append (token_text t) (behind ts)
    (plain_no_cr (token_text t) (token_plain t small.0)) (behind_no_cr ts small.1)

spaced_no_cr : (ts : List Token) → AllByRecursion IsSmall ts → no_cr (spaced (map token_text ts)) ≡ true
spaced_no_cr [] small = refl
spaced_no_cr (t ∷ ts) small = no_cr-append (token_text t) (behind ts)
    (plain_no_cr (token_text t) (token_plain t small.0)) (behind_no_cr ts small.1)

whole_line : (text : List ℕ) → no_cr text ≡ true → without_cr text ≡ text
whole_line [] none = refl
whole_line (b ∷ []) none =
    let parts = and_parts (not (b == 13)) true none in
    ap (λ v. if v then [] else (b ∷ [])) (not_true (b == 13) parts.0)
whole_line (b ∷ c ∷ rest) none =
    let parts = and_parts (not (b == 13)) (no_cr (c ∷ rest)) none in
    ap (λ xs. b ∷ xs) (whole_line (c ∷ rest) parts.1)

all_say : (ts : List Token) → AllByRecursion IsSmall ts → map token_of (map token_text ts) ≡ map Some ts
all_say [] small = refl
all_say (t ∷ ts) small = ap (λ x. x ∷ map token_of (map token_text ts)) (token_says t small.0)
    ∙ ap (λ xs. Some t ∷ xs) (all_say ts small.1)

-- ---- transactions

small-append : (xs ys : List Token) → AllByRecursion IsSmall xs → AllByRecursion IsSmall ys
    → AllByRecursion IsSmall (xs ++ ys)
small-append [] ys first second = second
small-append (x ∷ xs) ys first second = (first.0, small-append xs ys first.1 second)

small_bytes : (bs : List ℕ) → AreByteValues bs → AllByRecursion IsSmall (bytes bs)
small_bytes [] small = tt
small_bytes (b ∷ bs) small = (small.0, small_bytes bs small.1)

small_pec : (is_so : Bool) → AllByRecursion IsSmall (mark Pec is_so)
small_pec true = (tt, tt)
small_pec false = tt

small_read : (is_so : Bool) → AllByRecursion IsSmall (mark Read is_so)
small_read true = (tt, tt)
small_read false = tt

small_part : (p : PartData) → ArePartBytes p → AllByRecursion IsSmall (part p)
small_part p small = (
  small.0,
  (
    small.1,
    small-append (bytes p.bytes) (mark Pec p.pec) (small_bytes p.bytes small.2)
        (small_pec p.pec),
  ),
)

small_parts : (ps : List PartData) → AllByRecursion ArePartBytes ps → AllByRecursion IsSmall (parts ps)
small_parts [] small = tt
small_parts (p ∷ []) small = small_part p small.0
small_parts (p ∷ q ∷ ps) small = small-append (part p) (Plus ∷ parts (q ∷ ps)) (small_part p small.0)
    (tt, small_parts (q ∷ ps) small.1)

small_before : (ps : List PartData) → AllByRecursion ArePartBytes ps → AllByRecursion IsSmall (flat_map part_before ps)
small_before [] small = tt
small_before (p ∷ ps) small = small-append (part_before p) (flat_map part_before ps)
    (small-append (part p) (Plus ∷ []) (small_part p small.0) (tt, tt)) (small_before ps small.1)

small_tokens : (t : TransactionData) → HasBytes t → AllByRecursion IsSmall (tokens t)
-- the keyword, then the bytes of each part
small_tokens (says.Write ps) small = (tt, small_parts ps small)
-- address and code, then the reply
small_tokens (says.Read t) small = (
  tt,
  (
    small.0,
    (small.1, (tt, small-append (bytes t.reply) (mark Pec t.pec) (small_bytes t.reply small.2) (small_pec t.pec))),
  ),
)
-- the same with the bytes that are sent, before `:`
small_tokens (says.Call t) small = (
  tt,
  (
    small.0,
    (
      small.1,
      small-append (bytes t.bytes ++ Colon ∷ bytes t.reply) (mark Pec t.pec)
          (small-append (bytes t.bytes) (Colon ∷ bytes t.reply) (small_bytes t.bytes small.2)
          (tt, small_bytes t.reply small.3)) (small_pec t.pec),
    ),
  ),
)
-- the parts, then the refused address and its bytes
small_tokens (says.Refused t) small = (
  tt,
  small-append (flat_map part_before t.parts ++ Byte t.addr ∷ bytes t.sent) (mark Read t.at_read)
      (small-append (flat_map part_before t.parts) (Byte t.addr ∷ bytes t.sent) (small_before t.parts small.0)
      (small.1, small_bytes t.sent small.2)) (small_read t.at_read),
)
small_tokens (says.Alert t) small = (tt, (small, small_pec t.pec))
small_tokens says.NoAlert small = (tt, (tt, tt))

-- the line that is written spells the transaction
pub line_spells : (t : TransactionData) → HasLine t → HasBytes t → SpellsTransaction (texts (line_words (line t))) t
line_spells t has_line has_bytes =
    let small = small_tokens t has_bytes in
    record {
      has_line = has_line;
      says = ap (λ xs. map token_of (texts (words_from 0 xs)))
          (whole_line (line t) (spaced_no_cr (tokens t) small) ∙ sym (append-nil (line t)))
          ∙ ap (map token_of) (words_spaced (tokens t) [] small no_tail) ∙ all_say (tokens t) small;
    }

-- ---- comments

-- a CR at the end of a longer text is at the end of what is after
cr_behind : (front : List ℕ) (b : ℕ) (back : List ℕ) → without_cr (front ++ b ∷ back) ≡ front ++ without_cr (b ∷ back)
cr_behind [] b back = refl
cr_behind (x ∷ []) b back = refl
cr_behind (x ∷ y ∷ front) b back = ap (λ xs. x ∷ xs) (cr_behind (y ∷ front) b back)

-- a space and a comment have no word
comment_wordless : (comment : List ℕ) → IsWordless (codes " #" ++ comment)
comment_wordless comment = record { ends = λ some. refl; none = λ at. refl }

-- with a comment after it, the line spells the transaction too
pub noted_line_spells : (t : TransactionData) (comment : List ℕ) → HasLine t → HasBytes t
    → SpellsTransaction (texts (line_words (line t ++ (codes " # " ++ comment)))) t
noted_line_spells t comment has_line has_bytes =
    let small = small_tokens t has_bytes in
    -- 32 and 35 are the space and `#`
    let rest = without_cr (32 ∷ comment) in
    record {
      has_line = has_line;
      says = ap (λ xs. map token_of (texts (words_from 0 xs))) (cr_behind (line t) 32 (35 ∷ 32 ∷ comment))
          ∙ ap (map token_of) (words_spaced (tokens t) (codes " #" ++ rest) small (comment_wordless rest))
          ∙ all_say (tokens t) small;
    }
