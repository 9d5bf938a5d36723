-- The first word of a text, and the words behind it.
use Rattle.std.proofs.Common.{◌≡◌, ◌≢◌, ◌∙◌, ℕ, ◌≤◌, true, false, not, List, [], ◌∷◌, length, drop, take}
use Rattle.std.proofs.Common.{ap, refl, sym, arith, inl, inr, suc, ◌==◌}
use Rattle.std.proofs.lemmas.Bool.Decides.{nat_tests}
use Rattle.std.proofs.lemmas.Bool.{cases_Bool}
use Rattle.pmb_vcd.specs.Words.{begins_word, behind_blanks, is_blank, word_at, words}

pub words_behind : (text : List ℕ) → words (behind_blanks text) ≡ words text
words_behind [] = refl
words_behind (byte ∷ text) = elim (cases_Bool (is_blank byte)) [
  | inl blank ↦ rw blank (words_behind text)
  | inr none ↦
      let same : behind_blanks (byte ∷ text) ≡ byte ∷ text = rw none refl in
      ap words same
]

-- what follows the word with which a text begins
abbrev pub word_behind : List ℕ → List ℕ
word_behind text = drop (length (word_at text)) text

pub begins : (text : List ℕ) → behind_blanks text ≢ [] → begins_word (behind_blanks text) ≡ true
begins [] some = absurd (some refl)
begins (byte ∷ text) some = elim (cases_Bool (is_blank byte)) [
  | inl blank ↦
      let more : behind_blanks (byte ∷ text) ≡ behind_blanks text = rw blank refl in
      ap begins_word more ∙ begins text (λ none. some (more ∙ none))
  | inr none ↦ rw (none, none) refl
]

none_begins : (text : List ℕ) → begins_word text ≡ false → word_at text ≡ []
none_begins [] is = refl
none_begins (byte ∷ text) is = elim (cases_Bool (is_blank byte)) [
  | inl blank ↦ rw blank refl
  | inr none ↦ absurd (let other : not (is_blank byte) ≡ true = ap not none in cc)
]

-- one byte and what follows it
first_by : (byte : ℕ) (text : List ℕ) → is_blank byte ≡ false
    → (begins_word text ≡ true → words text ≡ word_at text ∷ words (word_behind text))
    → words (byte ∷ text) ≡ word_at (byte ∷ text) ∷ words (word_behind (byte ∷ text))
first_by byte text none rest = elim (cases_Bool (begins_word text)) [
  | inl goes_on ↦ rw (none, goes_on, rest goes_on) refl
  | inr ends ↦ rw (none, ends, none_begins text ends) refl
]

pub first : (text : List ℕ) → begins_word text ≡ true → words text ≡ word_at text ∷ words (word_behind text)
first [] is = cc
first (byte ∷ text) is = elim (cases_Bool (is_blank byte)) [
  | inl blank ↦ absurd (let other : not (is_blank byte) ≡ false = ap not blank in cc)
  | inr none ↦ first_by byte text none (first text)
]

pub taken : (text : List ℕ) → take (length (word_at text)) text ≡ word_at text
taken [] = refl
taken (byte ∷ text) = elim (cases_Bool (is_blank byte)) [
  | inl blank ↦ rw blank refl
  | inr none ↦ rw none (ap (λ (t : List ℕ). byte ∷ t) (taken text))
]

pub fits : (text : List ℕ) → length (word_at text) ≤ length text
fits [] = omega arith
fits (byte ∷ text) = elim (cases_Bool (is_blank byte)) [
  | inl blank ↦ rw blank (omega arith)
  | inr none ↦ rw none (omega (arith, fits text))
]

-- ---- a text that is cut there

pub first_is : (text from word rest : List ℕ) (count : ℕ) → from ≡ behind_blanks text → from ≢ []
    → count ≡ length (word_at from) → word ≡ take count from → rest ≡ drop count from → words text ≡ word ∷ words rest
first_is text from word rest count is some counts front back =
    let starts : begins_word from ≡ true =
    ap begins_word is ∙ begins text (λ none. some (is ∙ none)) in
    let whole : word ≡ word_at from = front ∙ ap (λ (k : ℕ). take k from) counts ∙ taken from in
    let behind : rest ≡ word_behind from = back ∙ ap (λ (k : ℕ). drop k from) counts in
    sym (words_behind text) ∙ ap words (sym is) ∙ first from starts
    ∙ ap (λ (w : List ℕ). w ∷ words (word_behind from)) (sym whole)
    ∙ ap (λ (r : List ℕ). word ∷ words r) (sym behind)

pub none_is : (text from : List ℕ) → from ≡ behind_blanks text → from ≡ [] → words text ≡ []
none_is text from is none = sym (words_behind text) ∙ ap words (sym is ∙ none)

-- ---- texts without bytes, and with some

not_none : (n : ℕ) → (suc n == 0) ≡ false
not_none n = grind (arith, nat_tests)

pub no_bytes : (text : List ℕ) → (length text == 0) ≡ true → text ≡ []
no_bytes [] is = refl
no_bytes (byte ∷ text) is =
    let other : (length (byte ∷ text) == 0) ≡ false = not_none (length text) in
    cc

pub some_bytes : (text : List ℕ) → (length text == 0) ≡ false → text ≢ []
some_bytes text is = λ none.
    let yes : (length text == 0) ≡ true = ap (λ (l : List ℕ). length l == 0) none in
    cc
