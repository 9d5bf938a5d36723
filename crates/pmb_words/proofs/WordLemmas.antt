-- The first word of a text.
use Rattle.std.proofs.Common.{◌≡◌, ◌≢◌, ℕ, ◌==◌, false, List, [], ◌∷◌, Option, length, refl, sym, ◌∙◌, ap, inl, inr}
use Rattle.std.proofs.lemmas.Bool.Decides.{eqb_tells}
use Rattle.pmb_words.specs.Parts.{blank, from_first, parted, pieces, pieces_behind, with_bytes, words}

pub first_piece : (at : ℕ) (text : List ℕ)
    → pieces at text ≡ (parted at text).front ∷ pieces_behind at (parted at text).rest
first_piece at [] = refl
first_piece at (b ∷ bs) =
    let later = first_piece at bs in
    elim (eqb_tells b at) [
      | inl same ↦ simp same.0
      | inr other ↦ simp (other.0, later)
    ]

-- a text that begins with no blank begins with a word
pub first_word : (b : ℕ) (bs : List ℕ) → (b == blank) ≡ false
    → words (b ∷ bs) ≡ (parted blank (b ∷ bs)).front ∷ with_bytes (pieces_behind blank (parted blank (b ∷ bs)).rest)
first_word b bs none = simp (none, first_piece blank bs)

pub first_of : (text : List ℕ) → (text ≢ []) → ((b : ℕ) (bs : List ℕ) → text ≡ b ∷ bs → (b == blank) ≡ false)
    → words text ≡ (parted blank text).front ∷ with_bytes (pieces_behind blank (parted blank text).rest)
first_of [] some first = absurd (some refl)
first_of (b ∷ bs) some first = first_word b bs (first b bs refl)

-- and its pieces from the first word on are all
pub pieces_of_word : (b : ℕ) (bs : List ℕ) → (b == blank) ≡ false
    → from_first (pieces blank (b ∷ bs)) ≡ pieces blank (b ∷ bs)
pieces_of_word b bs none = simp (none, first_piece blank bs)

pub pieces_from : (text : List ℕ) → (text ≢ []) → ((b : ℕ) (bs : List ℕ) → text ≡ b ∷ bs → (b == blank) ≡ false)
    → from_first (pieces blank text) ≡ pieces blank text
pieces_from [] some first = absurd (some refl)
pieces_from (b ∷ bs) some first = pieces_of_word b bs (first b bs refl)

-- a piece is taken
pub taken : (text piece : List ℕ) (rest : Option (List ℕ)) → piece ≡ (parted blank text).front
    → rest ≡ (parted blank text).rest → pieces blank text ≡ piece ∷ pieces_behind blank rest
taken text piece rest front behind =
    first_piece blank text
    ∙ ap (λ (f : List ℕ). f ∷ pieces_behind blank (parted blank text).rest) (sym front)
    ∙ ap (λ (r : Option (List ℕ)). piece ∷ pieces_behind blank r) (sym behind)

-- a word is taken
pub word_taken : (text word : List ℕ) (rest : Option (List ℕ)) → (text ≢ [])
    → ((b : ℕ) (bs : List ℕ) → text ≡ b ∷ bs → (b == blank) ≡ false) → word ≡ (parted blank text).front
    → rest ≡ (parted blank text).rest → words text ≡ word ∷ with_bytes (pieces_behind blank rest)
word_taken text word rest some first front behind =
    first_of text some first
    ∙ ap (λ (f : List ℕ). f ∷ with_bytes (pieces_behind blank (parted blank text).rest)) (sym front)
    ∙ ap (λ (r : Option (List ℕ)). word ∷ with_bytes (pieces_behind blank r)) (sym behind)

-- a text that has bytes is not empty
pub not_empty : (text : List ℕ) → (length text == 0) ≡ false → text ≢ []
not_empty [] is same = cc
not_empty (b ∷ bs) is same = cc
