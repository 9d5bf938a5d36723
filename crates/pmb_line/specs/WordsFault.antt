-- What is wrong with the words of a line, for lines of any kind: `Begins` says of words that some
-- line begins with them, `HasRoom` that there is room for what they say so far, and `Spells` what
-- they spell as a whole.
use Rattle.std.specs.Prelude.{◌≡◌, ◌≢◌, ℕ, List, [], ◌∷◌, ◌++◌, length, ◌⊎◌}
use Rattle.pmb_line.specs.declared.word_fault.WordFault.{WordFault}
use Rattle.pmb_line.specs.declared.word_fault.WordFault.TheVariants.{Blank, BadWord, TooLong}
use Rattle.pmb_line.specs.Words.{Word, texts, without_cr, line_words}

-- A word of a line, where there is room for all before it.
pub record At (HasRoom : List (List ℕ) → Type 0) (line : List ℕ) (before : List Word) (word : Word) : Type 0 where
  pub behind : List Word
  pub split : line_words line ≡ before ++ word ∷ behind
  pub room : HasRoom (texts before)

-- A word does not fit: no line can have it there.
pub record IsBadWord (Begins HasRoom : List (List ℕ) → Type 0) (line : List ℕ) (at : ℕ) : Type 0 where
  pub before : List Word
  pub word : Word
  pub stands : At HasRoom line before word
  pub place : at ≡ word.at
  pub unfit : Begins (texts (before ++ word ∷ [])) → ⊥

-- Words are missing at the end. The place is the line's length, in which a comment counts and a CR
-- that was dropped does not.
pub record IsCutShort {T : Type 0} (HasRoom : List (List ℕ) → Type 0) (Spells : List (List ℕ) → T → Type 0)
    (line : List ℕ) (at : ℕ) : Type 0 where
  pub some : line_words line ≢ []
  pub room : HasRoom (texts (line_words line))
  pub unfinished : (t : T) → Spells (texts (line_words line)) t → ⊥
  pub place : at ≡ length (without_cr line)

-- A word fits, but a list has no room for what it says.
pub record IsTooLong (Begins HasRoom : List (List ℕ) → Type 0) (line : List ℕ) (at : ℕ) : Type 0 where
  pub before : List Word
  pub word : Word
  pub stands : At HasRoom line before word
  pub place : at ≡ word.at
  pub fits : Begins (texts (before ++ word ∷ []))
  pub full : HasRoom (texts (before ++ word ∷ [])) → ⊥

-- the first fault of a line's words
abbrev pub IsWordsFault : {T : Type 0} → (List (List ℕ) → Type 0) → (List (List ℕ) → Type 0)
    → (List (List ℕ) → T → Type 0) → List ℕ → WordFault → Type 0
IsWordsFault Begins HasRoom Spells line Blank = line_words line ≡ []
IsWordsFault Begins HasRoom Spells line (BadWord at) = IsBadWord Begins HasRoom line at
    ⊎ IsCutShort HasRoom Spells line at
IsWordsFault Begins HasRoom Spells line (TooLong at) = IsTooLong Begins HasRoom line at
