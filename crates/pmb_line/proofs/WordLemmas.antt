-- The words of a text from its front: a blank is passed over, a comment ends them, and the first
-- word is the bytes up to the next blank. For `next_word`, `before_cr` and `word_at` of
-- `src/words.rt`, and for `common_byte`. A word is built from its last byte to its first
-- (`lengthened`), so a word of n bytes is shown by induction over n.
use Rattle.std.proofs.Common.{◌≡◌, ℕ, ◌<◌, ◌≤◌, ◌+◌, zero, suc, true, false, ◌==◌, List, [], ◌∷◌, ◌++◌, length, take}
use Rattle.std.proofs.Common.{drop, slice_index, ◌-◌, Some, length-drop, refl, sym, ap, subst, inl, inr, ◌∙◌, arith}
use Rattle.std.specs.Prelude.{if◌then◌else◌, nat_lt, option_map}
use Rattle.std.proofs.lemmas.List.{drop-drop}
use Rattle.std.proofs.lemmas.Bool.{or_cases, or_parts, eqb-true}
use Rattle.std.proofs.lemmas.Bool.Decides.{nat_tests}
use Rattle.pmb_line.specs.Words.{Word, bounds, is_blank, is_comment, lengthened, word_behind, words_from, without_cr}
use Rattle.std.proofs.Math.Seq.{take-length}
use Rattle.pmb_line.specs.machine.Reading.{ends_line_word}
use Rattle.pmb_line.specs.machine.Front.{EndsWord}

-- a blank is passed over
pub pass_blank : (at b : ℕ) (rest : List ℕ) → is_blank b ≡ true → words_from at (b ∷ rest) ≡ words_from (at + 1) rest
pass_blank at b rest blank =
    let P : ℕ → Type 0 = λ x. words_from at (x ∷ rest) ≡ words_from (at + 1) rest in
    elim (or_cases (b == 32) (b == 9) blank) [
      | inl space ↦ subst P (sym (eqb-true b 32 space)) refl
      | inr tab ↦ subst P (sym (eqb-true b 9 tab)) refl
    ]

-- after a comment's first byte there is no word
pub stop_comment : (at b : ℕ) (rest : List ℕ) → is_comment b ≡ true → words_from at (b ∷ rest) ≡ []
stop_comment at b rest comment = ap (λ v. if v then [] else
    (if is_blank b then words_from (at + 1) rest else lengthened at b (words_from (at + 1) rest))) comment

-- a byte of a word
word_byte : (at b : ℕ) (rest : List ℕ) → ends_line_word b ≡ false
    → words_from at (b ∷ rest) ≡ lengthened at b (words_from (at + 1) rest)
word_byte at b rest goes =
    let parts = or_parts (is_blank b) (is_comment b) goes in
    ap (λ v. if v then [] else (if is_blank b then words_from (at + 1) rest else lengthened at b
    (words_from (at + 1) rest))) parts.1
    ∙ ap (λ v. if v then words_from (at + 1) rest else lengthened at b (words_from (at + 1) rest)) parts.0

-- words begin at an offset or after it
abbrev BeginFrom : ℕ → List Word → Type 0
BeginFrom at [] = Unit {0}
BeginFrom at (word ∷ ws) = at ≤ word.at

lengthened_begins : (at b : ℕ) (ws : List Word) → BeginFrom at (lengthened at b ws)
lengthened_begins at b [] = omega arith
lengthened_begins at b (word ∷ ws) =
    elim (word.at == at + 1) as (λ v. BeginFrom at
    (if v then record { at = at; text = b ∷ word.text } ∷ ws else record { at = at; text = b ∷ [] } ∷ word ∷ ws)) [
      | true ↦ omega arith
      | false ↦ omega arith
    ]

later : (at : ℕ) (ws : List Word) → BeginFrom (at + 1) ws → BeginFrom at ws
later at [] begin = tt
later at (word ∷ ws) begin = omega (arith, begin)

begin_from : (at : ℕ) (text : List ℕ) → BeginFrom at (words_from at text)
begin_from at [] = tt
begin_from at (b ∷ rest) =
    elim (is_comment b) as (λ v. BeginFrom at
    (if v then [] else (if is_blank b then words_from (at + 1) rest else lengthened at b
    (words_from (at + 1) rest)))) [
      | true ↦ tt
      | false ↦ elim (is_blank b) as (λ v. BeginFrom at
          (if v then words_from (at + 1) rest else lengthened at b (words_from (at + 1) rest))) [
            | true ↦ later at (words_from (at + 1) rest) (begin_from (at + 1) rest)
            | false ↦ lengthened_begins at b (words_from (at + 1) rest)
          ]
    ]

-- a byte is a word alone, where the next one does not begin directly after it
apart : (at b : ℕ) (ws : List Word) → BeginFrom (at + 2) ws → lengthened at b ws ≡ record { at = at; text = b ∷ [] }
    ∷ ws
apart at b [] begin = refl
apart at b (word ∷ ws) begin =
    let other : (word.at == at + 1) ≡ false = grind (arith, nat_tests) in
    ap (λ v. if v then record { at = at; text = b ∷ word.text } ∷ ws else record { at = at; text = b ∷ [] } ∷ word ∷ ws)
    other

-- and lengthens one that does
joined : (at b : ℕ) (text : List ℕ) (ws : List Word) → lengthened at b (record { at = at + 1; text = text } ∷ ws)
    ≡ record { at = at; text = b ∷ text } ∷ ws
joined at b text ws =
    let same : (at + 1 == at + 1) ≡ true = grind (arith, nat_tests) in
    ap (λ v. if v then record { at = at; text = b ∷ text } ∷ ws else record { at = at; text = b ∷ [] }
    ∷ record { at = at + 1; text = text } ∷ ws) same

ended : (at : ℕ) (text : List ℕ) → EndsWord text → BeginFrom (at + 1) (words_from at text)
ended at [] ends = tt
ended at (b ∷ rest) ends =
    elim (or_cases (is_blank b) (is_comment b) (ends (omega arith))) [
      | inl blank ↦ subst (BeginFrom (at + 1)) (sym (pass_blank at b rest blank)) (begin_from (at + 1) rest)
      | inr comment ↦ subst (BeginFrom (at + 1)) (sym (stop_comment at b rest comment)) tt
    ]

-- the first n bytes are those of a word
abbrev pub AreOfWord : ℕ → List ℕ → Type 0
AreOfWord n text = (i : ℕ) → i < n → ends_line_word (slice_index text i) ≡ false

-- and it ends there
abbrev pub EndsAt : ℕ → List ℕ → Type 0
EndsAt n text = n < length text → ends_line_word (slice_index text n) ≡ true

pub front_word : (n at : ℕ) (text : List ℕ) → suc n ≤ length text → AreOfWord (suc n) text → EndsAt (suc n) text
    → words_from at text ≡ record { at = at; text = take (suc n) text } ∷ words_from (at + suc n) (drop (suc n) text)
front_word n at [] within each ends = absurd (omega arith)
front_word zero at (b ∷ rest) within each ends =
    word_byte at b rest (each 0 (omega arith))
    ∙ apart at b (words_from (at + 1) rest) (subst (λ n. BeginFrom n (words_from (at + 1) rest)) (omega arith)
    (ended (at + 1) rest (λ some. ends (omega (arith, some)))))
front_word (suc n) at (b ∷ rest) within each ends =
    let behind = front_word n (at + 1) rest (omega (arith, within)) (λ i below. each (suc i) (omega (arith, below)))
    (λ more. ends (omega (arith, more))) in
    word_byte at b rest (each 0 (omega arith)) ∙ ap (lengthened at b) behind
    ∙ joined at b (take (suc n) rest) (words_from (at + 1 + suc n) (drop (suc n) rest))
    ∙ ap (λ m. record { at = at; text = b ∷ take (suc n) rest } ∷ words_from m (drop (suc n) rest)) (omega arith)

-- a line without the CR at its end
-- (13 is CR)
pub cr_left_out : (n : ℕ) (line : List ℕ) → length line ≡ suc n → slice_index line n ≡ 13
    → take n line ≡ without_cr line
cr_left_out n [] long last = absurd (omega arith)
cr_left_out zero (b ∷ []) long last =
    let same : b ≡ 13 = last in
    sym (ap (λ x. if x == 13 then [] else (b ∷ [])) same)
cr_left_out (suc n) (b ∷ []) long last = absurd (omega arith)
cr_left_out zero (b ∷ c ∷ rest) long last = absurd (omega arith)
cr_left_out (suc n) (b ∷ c ∷ rest) long last = ap (λ xs. b ∷ xs) (cr_left_out n (c ∷ rest) (omega arith) last)

-- and where there is none
pub no_cr : (n : ℕ) (line : List ℕ) → length line ≡ suc n → (slice_index line n ≡ 13 → ⊥) → line ≡ without_cr line
no_cr n [] long last = absurd (omega arith)
no_cr zero (b ∷ []) long last =
    let other : (b == 13) ≡ false = grind (arith, nat_tests, last) in
    sym (ap (λ v. if v then [] else (b ∷ [])) other)
no_cr (suc n) (b ∷ []) long last = absurd (omega arith)
no_cr zero (b ∷ c ∷ rest) long last = absurd (omega arith)
no_cr (suc n) (b ∷ c ∷ rest) long last = ap (λ xs. b ∷ xs) (no_cr n (c ∷ rest) (omega arith) last)

-- all that is left
pub take_all : (n : ℕ) (text : List ℕ) → take (length text - n) (drop n text) ≡ drop n text
take_all n text = ap (λ m. take m (drop n text)) (sym (length-drop n text)) ∙ take-length (drop n text)

-- the first word of a text after some blanks, as a reader takes it
pub first_word : (at start len : ℕ) (rest text : List ℕ)
    → words_from at rest ≡ words_from (at + start) (drop start rest) → text ≡ drop start rest
    → 0 < len → len ≤ length text → AreOfWord len text → EndsAt len text
    → words_from at rest ≡ record { at = at + start; text = take len text }
    ∷ words_from (at + start + len) (take (length text - len) (drop len text))
first_word at start zero rest text passed whole some within each ends = absurd (omega arith)
first_word at start (suc n) rest text passed whole some within each ends =
    passed ∙ ap (words_from (at + start)) (sym whole) ∙ front_word n (at + start) text within each ends
    ∙ ap (λ (xs : List ℕ). record { at = at + start; text = take (suc n) text } ∷ words_from (at + start + suc n) xs)
    (sym (take_all (suc n) text))

pub no_line : (line : List ℕ) → length line ≡ 0 → line ≡ without_cr line
no_line [] none = refl
no_line (b ∷ rest) none = absurd (omega (arith, none))

-- the first word after an offset
pub next_at : (at b len : ℕ) (text R T : List ℕ) → R ≡ drop at text → T ≡ drop (at + b) text
    → words_from at R ≡ words_from (at + b) (drop b R) → 0 < len → len ≤ length T
    → AreOfWord len T → EndsAt len T
    → words_from at (drop at text) ≡ record { at = at + b; text = take len T }
    ∷ words_from (at + b + len) (drop (at + b + len) text)
next_at at b zero text R T rest_is text_is passed some within each ends = absurd (omega arith)
next_at at b (suc n) text R T rest_is text_is passed some within each ends =
    let same : drop b R ≡ T = ap (drop b) rest_is ∙ drop-drop b at text ∙ sym text_is in
    ap (words_from at) (sym rest_is) ∙ passed ∙ ap (words_from (at + b)) same ∙ front_word n (at + b) T within each ends
    ∙ ap (λ xs. record { at = at + b; text = take (suc n) T } ∷ words_from (at + b + suc n) xs)
    (ap (drop (suc n)) text_is ∙ drop-drop (suc n) (at + b) text)

-- and whether it begins after another one
pub here : (from start len : ℕ) (text : List ℕ) (ws : List Word) → from ≤ start → length text ≡ len
    → Some (start, start + len) ≡ option_map bounds (word_behind from (record { at = start; text = text } ∷ ws))
here from start len text ws behind long =
    let not_before : nat_lt start from ≡ false = grind (arith, nat_tests) in
    ap (λ n. Some (start, start + n)) (sym long)
    ∙ ap (λ v. option_map bounds (if v then word_behind from ws else Some (record { at = start; text = text })))
    (sym not_before)

pub passed_by : (from start : ℕ) (text : List ℕ) (ws : List Word) → start < from
    → word_behind from (record { at = start; text = text } ∷ ws) ≡ word_behind from ws
passed_by from start text ws before =
    let is_before : nat_lt start from ≡ true = grind (arith, nat_tests) in
    ap (λ v. if v then word_behind from ws else Some (record { at = start; text = text })) is_before

-- ---- words that are written

-- bytes of words
abbrev pub AllGo : List ℕ → Type 0
AllGo [] = Unit {0}
AllGo (b ∷ rest) = (ends_line_word b ≡ false) × AllGo rest

pub word_then : (at b : ℕ) (w rest : List ℕ) → AllGo (b ∷ w) → EndsWord rest
    → words_from at (b ∷ w ++ rest) ≡ record { at = at; text = b ∷ w } ∷ words_from (at + length (b ∷ w)) rest
word_then at b [] rest go ends =
    word_byte at b rest go.0 ∙ apart at b (words_from (at + 1) rest)
    (subst (λ n. BeginFrom n (words_from (at + 1) rest)) (omega arith) (ended (at + 1) rest ends))
word_then at b (c ∷ w) rest go ends =
    word_byte at b (c ∷ w ++ rest) go.0 ∙ ap (lengthened at b) (word_then (at + 1) c w rest go.1 ends)
    ∙ joined at b (c ∷ w) (words_from (at + 1 + length (c ∷ w)) rest)
    ∙ ap (λ m. record { at = at; text = b ∷ c ∷ w } ∷ words_from m rest) (omega arith)
