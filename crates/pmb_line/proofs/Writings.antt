-- The text of a line, piece by piece: the keyword, then each token after a space. For
-- `append_line`, `append_parts` and `line_of` of `src/line_text.rt`. What was appended so far is
-- the old text and the first of the tokens' texts; all of it is ASCII, and so text in UTF-8.
use Rattle.std.proofs.Common.{◌≡◌, ℕ, ◌≤◌, ◌-◌, Bool, true, false, ◌&&◌, ltb, Result, Ok, Err, get_or, take, drop, List}
use Rattle.std.proofs.Common.{[], ◌∷◌, ◌++◌, map, length, refl, sym, ap, ◌∙◌, append_assoc, arith}
use Rattle.std.specs.Prelude.{codes, IsOk, MatchResult}
use Rattle.std.specs.Str.{IsAscii, IsUtf8}
use Rattle.std.proofs.Math.Seq.{take-length}
use Rattle.std.proofs.lemmas.Bool.{and_parts, ltb-true}
use Rattle.std.proofs.lemmas.List.{length-drop, take_all}
use Rattle.std.proofs.lemmas.Str.{IsAscii-append, IsUtf8-from_ascii}
use Rattle.std.proofs.lemmas.Str.Ascii.{IsAscii-nil, IsAscii-cons}
use Rattle.hex.proofs.HexLemmas.{IsAscii-encode_with}
use Rattle.std.specs.List.{flat_map}
use Rattle.std.proofs.lemmas.List.{map-append}
use Rattle.std.proofs.lemmas.Grind.{flat_map-append}
use Rattle.hex.specs.Hex.{lower_digits}
use Rattle.pmb_transaction.specs.declared.part.Part.{Part}
use Rattle.pmb_transaction.specs.Transaction.{PartData, TransactionData, part_data}
use Rattle.pmb_line.specs.declared.token.Token.{Token}
use Rattle.pmb_line.specs.declared.token.Token.TheVariants.{Byte, Write, Read, Call, Refused, Alert, Nobody, Pec, Plus}
use Rattle.pmb_line.specs.declared.token.Token.TheVariants.{Colon}
use Rattle.pmb_line.specs.Token.{token_text}
use Rattle.pmb_line.specs.Spelling.{bytes, mark, part, parts, tokens, line, spaced}
use Rattle.pmb_line.specs.machine.LineText.{behind}
use Rattle.pmb_line.proofs.Partials.{append-nil}

pub behind-append : (xs ys : List Token) → behind (xs ++ ys) ≡ behind xs ++ behind ys
behind-append xs ys =
    ap (flat_map (λ w. codes " " ++ w)) (map-append token_text xs ys) ∙ flat_map-append (λ w. codes " " ++ w)
    (map token_text xs) (map token_text ys)

-- the first word alone
pub first : (old keyword out : List ℕ) → out ≡ old ++ keyword → out ≡ old ++ (keyword ++ behind [])
first old keyword out is = is ∙ ap (λ xs. old ++ xs) (sym (append-nil keyword))

-- and words after it
pub more : (old keyword : List ℕ) (xs ys : List Token) (mid new : List ℕ) → mid ≡ old ++ (keyword ++ behind xs)
    → new ≡ mid ++ behind ys → new ≡ old ++ (keyword ++ behind (xs ++ ys))
more old keyword xs ys mid new so_far is =
    is ∙ ap (λ zs. zs ++ behind ys) so_far ∙ append_assoc old (keyword ++ behind xs) (behind ys)
    ∙ ap (λ zs. old ++ zs) (append_assoc keyword (behind xs) (behind ys))
    ∙ ap (λ zs. old ++ (keyword ++ zs)) (sym (behind-append xs ys))

-- a mark that is there or not
pub marks : (token : Token) (old new : List ℕ) (is_so : Bool) → (is_so ≡ true → new ≡ old ++ behind (token ∷ []))
    → (is_so ≡ false → new ≡ old) → new ≡ old ++ behind (mark token is_so)
marks token old new true marked unmarked = marked refl
marks token old new false marked unmarked = unmarked refl ∙ sym (append-nil old)

-- PART { + PART }, the first part apart
abbrev pub part_behind : PartData → List Token
part_behind p = Plus ∷ part p

pub parts-first : (p : PartData) (ps : List PartData) → parts (p ∷ ps) ≡ part p ++ flat_map part_behind ps
parts-first p [] = sym (append-nil (part p))
parts-first p (q ∷ ps) = ap (λ xs. part p ++ Plus ∷ xs) (parts-first q ps)

-- a list, its first element apart
pub first_and_rest : {A : Type 0} (xs : List A) (x : A) → 1 ≤ length xs → x ≡ get_or xs 0 x
    → xs ≡ x ∷ take (length xs - 1) (drop 1 xs)
first_and_rest [] x some is = absurd (omega (arith, some))
first_and_rest (y ∷ xs) x some is =
    let whole : take (length (drop 1 (y ∷ xs))) (drop 1 (y ∷ xs)) ≡ drop 1 (y ∷ xs) = take-length (drop 1 (y ∷ xs)) in
    let long : length (y ∷ xs) - 1 ≡ length (drop 1 (y ∷ xs)) = sym (length-drop 1 (y ∷ xs)) in
    ap (λ z. z ∷ xs) (sym is) ∙ ap (λ zs. x ∷ zs) (sym (ap (λ n. take n (drop 1 (y ∷ xs))) long ∙ whole))

pub parts_text : (old mid new : List ℕ) (all : List Part) (p : Part) (rest : List Part) (n : ℕ) → all ≡ p ∷ rest
    → mid ≡ old ++ behind (part (part_data p))
    → new ≡ mid ++ behind (flat_map part_behind (map part_data (take n rest))) → length rest ≤ n
    → new ≡ old ++ behind (parts (map part_data all))
parts_text old mid new all p rest n split first_is rest_is whole =
    let taken : take n rest ≡ rest = take_all n rest whole in
    rest_is ∙ ap (λ xs. xs ++ behind (flat_map part_behind (map part_data (take n rest)))) first_is
    ∙ ap (λ (ps : List Part). (old ++ behind (part (part_data p))) ++ behind (flat_map part_behind (map part_data ps)))
    taken
    ∙ append_assoc old (behind (part (part_data p))) (behind (flat_map part_behind (map part_data rest)))
    ∙ ap (λ xs. old ++ xs) (sym (behind-append (part (part_data p)) (flat_map part_behind (map part_data rest))))
    ∙ ap (λ ts. old ++ behind ts) (sym (parts-first (part_data p) (map part_data rest)))
    ∙ ap (λ (ps : List Part). old ++ behind (parts (map part_data ps))) (sym split)

-- ---- ASCII

abbrev all_ascii : List ℕ → Bool
all_ascii [] = true
all_ascii (b ∷ bytes) = ltb b 128 && all_ascii bytes

IsAscii-from_test : (bytes : List ℕ) → all_ascii bytes ≡ true → IsAscii bytes
IsAscii-from_test [] passes = IsAscii-nil
IsAscii-from_test (b ∷ bytes) passes =
    let test = and_parts (ltb b 128) (all_ascii bytes) passes in
    IsAscii-cons b bytes (ltb-true b 128 test.0) (IsAscii-from_test bytes test.1)

ascii_token : (t : Token) → IsAscii (token_text t)
ascii_token (Byte b) = IsAscii-encode_with lower_digits (b ∷ []) (IsAscii-from_test lower_digits refl)
ascii_token Write = IsAscii-from_test (token_text Write) refl
ascii_token Read = IsAscii-from_test (token_text Read) refl
ascii_token Call = IsAscii-from_test (token_text Call) refl
ascii_token Refused = IsAscii-from_test (token_text Refused) refl
ascii_token Alert = IsAscii-from_test (token_text Alert) refl
ascii_token Nobody = IsAscii-from_test (token_text Nobody) refl
ascii_token Pec = IsAscii-from_test (token_text Pec) refl
ascii_token Plus = IsAscii-from_test (token_text Plus) refl
ascii_token Colon = IsAscii-from_test (token_text Colon) refl

ascii_behind : (ts : List Token) → IsAscii (behind ts)
ascii_behind [] = IsAscii-nil
ascii_behind (t ∷ ts) = IsAscii-append (codes " " ++ token_text t) (behind ts)
    (IsAscii-append (codes " ") (token_text t) (IsAscii-from_test (codes " ") refl) (ascii_token t)) (ascii_behind ts)

ascii_words : (ts : List Token) → IsAscii (spaced (map token_text ts))
ascii_words [] = IsAscii-nil
ascii_words (t ∷ ts) = IsAscii-append (token_text t) (behind ts) (ascii_token t) (ascii_behind ts)

-- a line is text
pub line_is_text : (t : TransactionData) → IsUtf8 (line t)
line_is_text t = IsUtf8-from_ascii (line t) (ascii_words (tokens t))

-- what `from_utf8` takes
pub ok_from_text : {T E : Type 0} (result : Result T E) (bytes : List ℕ) (P : T → Type 0) (Q : E → Type 0)
    → MatchResult result P (λ e. ¬ (IsUtf8 bytes) × Q e) → IsUtf8 bytes → IsOk result
ok_from_text (Ok x) bytes P Q cases text = refl
ok_from_text (Err e) bytes P Q cases text = absurd (cases.0 text)
