-- Where a lexer stands in a text, and the lexer of `pmb_bus` that continues in the same way.
use Rattle.std.specs.Prelude.{◌≡◌, ℕ, ◌<◌, ◌≤◌, true, false, Option, Some, None, List, [], ◌∷◌, ◌++◌, length, codes}
use Rattle.pmb_bus.specs.declared.event.Event.{Event}
use Rattle.pmb_bus.specs.declared.lexer.LexFault.{LexFault}
use Rattle.pmb_bus.specs.declared.lexer.LexFault.TheVariants.{BadToken}
use Rattle.pmb_bus.specs.declared.lexer.Lexer.{Lexer}
use Rattle.pmb_bus.specs.Count.{capped}
use Rattle.pmb_bus.specs.Lexer.{LexerStandsAt}
use Rattle.pmb_bus.specs.Text.{ends_in_comment, ended_words, open_word, BeginsText, EndedWordsSpell, EndsBetween}
use Rattle.pmb_bus.specs.Text.{WordBeginsAt}
use Rattle.pmb_firmware.specs.declared.lexer.PmbLexer.{PmbLexer}

-- A word of these bytes is under way at the end of a text. As a text of their own they are under way
-- too.
pub record IsOpen (text word : List ℕ) : Type 0 where
  pub front : List ℕ
  pub split : text ≡ front ++ word
  pub between : EndsBetween front
  pub opened : open_word text ≡ word
  pub outside : ends_in_comment text ≡ false
  pub alone : open_word word ≡ word
  pub clear : ends_in_comment word ≡ false
  pub none_ended : ended_words word ≡ []

-- What the place of a lexer says of a text of n bytes. In a comment one of them was its `#`.
pub data IsPlace (lexer : PmbLexer) (n : ℕ) (text : List ℕ) : Type 0 where
  between : lexer.place ≡ 0 → EndsBetween text → IsPlace lexer n text
  comment : lexer.place ≡ 1 → open_word text ≡ [] → ends_in_comment text ≡ true → 0 < n → IsPlace lexer n text
  one : lexer.place ≡ 2 → IsOpen text (lexer.first ∷ []) → WordBeginsAt n text lexer.at → IsPlace lexer n text
  two : lexer.place ≡ 3 → IsOpen text (lexer.first ∷ lexer.second ∷ []) → WordBeginsAt n text lexer.at
      → IsPlace lexer n text

pub record StandsAt (lexer : PmbLexer) (n : ℕ) (text : List ℕ) (events : List Event) : Type 0 where
  pub ended : EndedWordsSpell text events
  pub begins : BeginsText text
  pub counted : lexer.used ≡ capped n
  pub place : IsPlace lexer n text

-- a lexer has met a fault, which it answers from then on
pub record IsFaulted (lexer : PmbLexer) (fault : LexFault) : Type 0 where
  pub place : 4 ≤ lexer.place
  pub kept : fault ≡ BadToken lexer.at

-- ---- the lexer that continues in the same way

-- a lexer was given bytes in which no word ends, or no text begins with them
abbrev pub ResumesBehind : List ℕ → Option Lexer → Type 0
ResumesBehind bytes (Some lexer) = LexerStandsAt lexer (length bytes) bytes []
ResumesBehind bytes None = BeginsText bytes → ended_words bytes ≡ [] → ⊥

-- What follows a text reads as what follows its tail: both end in the same word under way, and in a
-- comment or not, and no word has ended in the tail.
pub record IsTail (text tail : List ℕ) : Type 0 where
  pub word : open_word text ≡ open_word tail
  pub comment : ends_in_comment text ≡ ends_in_comment tail
  pub none_ended : ended_words tail ≡ []

-- what comes before the tail: a text that ends between words, or any where the tail opens a comment
pub data IsBehind (text tail : List ℕ) : Type 0 where
  word : (front : List ℕ) → text ≡ front ++ tail → EndsBetween front → IsBehind text tail
  hash : tail ≡ codes "#" → IsBehind text tail

-- a lexer stands at the tail of a text
pub record StandsAtTail (text : List ℕ) (lexer : Lexer) : Type 0 where
  pub tail : List ℕ
  pub is_tail : IsTail text tail
  pub is_behind : IsBehind text tail
  pub stands : LexerStandsAt lexer (length tail) tail []

abbrev pub Resumes : PmbLexer → List ℕ → Option Lexer → Type 0
Resumes from text (Some lexer) = StandsAtTail text lexer
Resumes from text None = ⊥
