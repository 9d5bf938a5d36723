-- A line holds no LF, and the line of a transaction that isn't too large has at most 12,544 bytes.
-- For the law `lines_are_short`. Each word is counted with the space before it: a byte is three, a
-- part with 255 bytes of data at most 775, so 16 of them with a `+` each fit.
use Rattle.std.proofs.Common.{◌≡◌, ◌≢◌, ℕ, zero, suc, ◌+◌, ◌*◌, ◌/◌, ◌%◌, ◌≤◌, Bool, true, false, not, ◌==◌, ◌&&◌}
use Rattle.std.proofs.Common.{get_or, List, [], ◌∷◌, ◌++◌, map, length, length-append, refl, ap, ◌∙◌, arith}
use Rattle.std.specs.List.{All, AllByRecursion, flat_map}
use Rattle.std.proofs.lemmas.Bool.{and_from, and_parts, both_ways, eq-eqb, not-true}
use Rattle.std.proofs.lemmas.List.Elements.{All-cons, All-nil}
use Rattle.hex.specs.Hex.{encode_with, lower_digits}
use Rattle.pmb_transaction.specs.Transaction.{PartData, TransactionData}
use Rattle.pmb_transaction.specs.Transaction as says
use Rattle.pmb_line.specs.declared.token.Token.{Token}
use Rattle.pmb_line.specs.declared.token.Token.TheVariants.{Byte, Write, Read, Call, Refused, Alert, Pec, Plus, Colon}
use Rattle.pmb_line.specs.Token.{token_text}
use Rattle.pmb_line.specs.Spelling.{bytes, mark, part, parts, part_before, tokens, line, spaced}
use Rattle.pmb_line.specs.Fault.{IsPartWithin, IsWithin}
use Rattle.pmb_line.specs.machine.LineText.{behind}
use Rattle.pmb_line.proofs.Writings.{behind-append}

-- ---- no LF

abbrev no_lf : List ℕ → Bool
no_lf [] = true
-- 10 is LF
no_lf (b ∷ text) = not (b == 10) && no_lf text

no_lf-append : (a b : List ℕ) → no_lf a ≡ true → no_lf b ≡ true → no_lf (a ++ b) ≡ true
no_lf-append [] b first second = second
no_lf-append (x ∷ a) b first second =
    let here = and_parts (not (x == 10)) (no_lf a) first in
    and_from (not (x == 10)) (no_lf (a ++ b)) here.0 (no_lf-append a b here.1 second)

-- at each place of a text, and after it
no_lf-at : (text : List ℕ) (i : ℕ) → no_lf text ≡ true → not (get_or text i 0 == 10) ≡ true
no_lf-at [] i none = refl
no_lf-at (b ∷ text) zero none = (and_parts (not (b == 10)) (no_lf text) none).0
no_lf-at (b ∷ text) (suc i) none = no_lf-at text i (and_parts (not (b == 10)) (no_lf text) none).1

no_lf-all : (text : List ℕ) → no_lf text ≡ true → All (λ b. b ≢ 10) text
no_lf-all [] none = All-nil (λ (b : ℕ). b ≢ 10)
no_lf-all (b ∷ text) none =
    let here = and_parts (not (b == 10)) (no_lf text) none in
    All-cons (λ (x : ℕ). x ≢ 10) b text (λ same. both_ways (b == 10) (not-true (b == 10) here.0) (eq-eqb b 10 same))
    (no_lf-all text here.1)

digits_no_lf : no_lf lower_digits ≡ true
digits_no_lf = refl

token_no_lf : (t : Token) → no_lf (token_text t) ≡ true
unfolding encode_with
token_no_lf (Byte b) =
    and_from _ _ (no_lf-at lower_digits (b / 16) digits_no_lf)
    (and_from _ true (no_lf-at lower_digits (b % 16) digits_no_lf) refl)
token_no_lf _ = refl

behind_no_lf : (ts : List Token) → no_lf (behind ts) ≡ true
behind_no_lf [] = refl
behind_no_lf (t ∷ ts) = no_lf-append (token_text t) (behind ts) (token_no_lf t) (behind_no_lf ts)

spaced_no_lf : (ts : List Token) → no_lf (spaced (map token_text ts)) ≡ true
spaced_no_lf [] = refl
spaced_no_lf (t ∷ ts) = no_lf-append (token_text t) (behind ts) (token_no_lf t) (behind_no_lf ts)

-- a line has no LF
pub line_has_no_lf : (t : TransactionData) → All (λ b. b ≢ 10) (line t)
line_has_no_lf t = no_lf-all (line t) (spaced_no_lf (tokens t))

-- ---- lengths

-- how long some tokens are, each after a space
abbrev size : List Token → ℕ
size ts = length (behind ts)

size-append : (xs ys : List Token) → size (xs ++ ys) ≡ size xs + size ys
size-append xs ys = ap length (behind-append xs ys) ∙ length-append (behind xs) (behind ys)

size-cons : (t : Token) (ts : List Token) → size (t ∷ ts) ≡ 1 + length (token_text t) + size ts
size-cons t ts =
    let spaced_out : size (t ∷ ts) ≡ suc (length (token_text t ++ behind ts)) = refl in
    omega (arith, spaced_out, length-append (token_text t) (behind ts))

byte_length : (b : ℕ) → length (token_text (Byte b)) ≡ 2
unfolding encode_with
byte_length b = refl

size-byte : (b : ℕ) (ts : List Token) → size (Byte b ∷ ts) ≡ 3 + size ts
size-byte b ts = omega (arith, size-cons (Byte b) ts, byte_length b)

size-bytes : (bs : List ℕ) → size (bytes bs) ≡ 3 * length bs
size-bytes [] = refl
size-bytes (b ∷ bs) = omega (arith, size-byte b (bytes bs), size-bytes bs)

size-mark : (token : Token) (is_so : Bool) → size (mark token is_so) ≤ 1 + length (token_text token)
size-mark token true = omega (arith, size-cons token [])
size-mark token false = omega arith

size-part : (p : PartData) → IsPartWithin p → size (part p) ≤ 775
size-part p within =
    omega (
      arith,
      within,
      size-byte p.addr (Byte p.code ∷ bytes p.bytes ++ mark Pec p.pec),
      size-byte p.code (bytes p.bytes ++ mark Pec p.pec),
      size-append (bytes p.bytes) (mark Pec p.pec),
      size-bytes p.bytes,
      size-mark Pec p.pec,
    )

size-parts : (ps : List PartData) → AllByRecursion IsPartWithin ps → size (parts ps) ≤ 777 * length ps
size-parts [] within = omega arith
size-parts (p ∷ []) within = omega (arith, size-part p within.0)
size-parts (p ∷ q ∷ ps) within =
    omega (
      arith,
      size-part p within.0,
      size-append (part p) (Plus ∷ parts (q ∷ ps)),
      size-cons Plus (parts (q ∷ ps)),
      size-parts (q ∷ ps) within.1,
    )

size-before : (ps : List PartData) → AllByRecursion IsPartWithin ps → size (flat_map part_before ps) ≤ 777 * length ps
size-before [] within = omega arith
size-before (p ∷ ps) within =
    omega (
      arith,
      size-part p within.0,
      size-append (part_before p) (flat_map part_before ps),
      size-append (part p) (Plus ∷ []),
      size-cons Plus [],
      size-before ps within.1,
    )

-- the first word, and the others after it
line_length : (first : Token) (others : List Token) → length (spaced (map token_text (first ∷ others)))
    ≡ length (token_text first) + size others
line_length first others = length-append (token_text first) (behind others)

-- the line of a transaction that is not too large
pub line_is_short : (t : TransactionData) → IsWithin t → length (line t) ≤ 12544
-- 16 parts of up to 777
line_is_short (says.Write ps) within = omega (
  arith,
  line_length Write (parts ps),
  size-parts ps within.each,
  within.few,
)
-- a read: its words in order
line_is_short (says.Read t) within =
    omega (
      arith,
      within,
      line_length Read (Byte t.addr ∷ Byte t.code ∷ Colon ∷ bytes t.reply ++ mark Pec t.pec),
      size-byte t.addr (Byte t.code ∷ Colon ∷ bytes t.reply ++ mark Pec t.pec),
      size-byte t.code (Colon ∷ bytes t.reply ++ mark Pec t.pec),
      size-cons Colon (bytes t.reply ++ mark Pec t.pec),
      size-append (bytes t.reply) (mark Pec t.pec),
      size-bytes t.reply,
      size-mark Pec t.pec,
    )
-- a call: the same with the bytes that are sent
line_is_short (says.Call t) within =
    let spoken = bytes t.bytes ++ Colon ∷ bytes t.reply in
    omega (
      arith,
      within.few_sent,
      within.few_replied,
      line_length Call (Byte t.addr ∷ Byte t.code ∷ spoken ++ mark Pec t.pec),
      size-byte t.addr (Byte t.code ∷ spoken ++ mark Pec t.pec),
      size-byte t.code (spoken ++ mark Pec t.pec),
      size-append spoken (mark Pec t.pec),
      size-append (bytes t.bytes) (Colon ∷ bytes t.reply),
      size-bytes t.bytes,
      size-cons Colon (bytes t.reply),
      size-bytes t.reply,
      size-mark Pec t.pec,
    )
-- up to 15 parts, an address and 258 bytes
line_is_short (says.Refused t) within =
    let before = flat_map part_before t.parts in
    let spoken = before ++ Byte t.addr ∷ bytes t.sent in
    omega (
      arith,
      within.few_sent,
      within.few_parts.few,
      line_length Refused (spoken ++ mark Read t.at_read),
      size-append spoken (mark Read t.at_read),
      size-append before (Byte t.addr ∷ bytes t.sent),
      size-before t.parts within.few_parts.each,
      size-byte t.addr (bytes t.sent),
      size-bytes t.sent,
      size-mark Read t.at_read,
    )
line_is_short (says.Alert t) within = omega (
  arith,
  line_length Alert (Byte t.byte ∷ mark Pec t.pec),
  size-byte t.byte (mark Pec t.pec),
  size-mark Pec t.pec,
)
line_is_short says.NoAlert within = omega arith
