-- What events a text spells.
use Rattle.std.specs.Prelude.{◌≡◌, ℕ, ◌+◌, ◌==◌, ◌||◌, Bool, true, false, Some, None, if◌then◌else◌, List, [], ◌∷◌}
use Rattle.std.specs.Prelude.{◌++◌, length, map, filter}
use Rattle.std.specs.List.{slice_split}
use Rattle.pmb_bus.specs.declared.event.Event.{Event}
use Rattle.pmb_bus.specs.Count.{capped}
use Rattle.pmb_bus.specs.Event.{character, event_of}

-- space, tab, LF and CR separate words
abbrev pub is_separator : ℕ → Bool
is_separator b = b == character " " || b == character "\t" || b == character "\n" || b == character "\r"

-- Whether a byte stands in a comment, given whether the one before does: a comment runs from `#` up
-- to the next LF.
abbrev pub in_comment : Bool → ℕ → Bool
in_comment before b = if b == character "\n" then false else (before || b == character "#")

-- The text with a space in place of each byte of a comment.
abbrev pub blanked_from : Bool → List ℕ → List ℕ
blanked_from before [] = []
blanked_from before (b ∷ rest) = (if in_comment before b then character " " else b)
    ∷ blanked_from (in_comment before b) rest

abbrev pub blanked : List ℕ → List ℕ
blanked text = blanked_from false text

-- whether the text ends in a comment
abbrev pub ends_in_comment_from : Bool → List ℕ → Bool
ends_in_comment_from before [] = before
ends_in_comment_from before (b ∷ rest) = ends_in_comment_from (in_comment before b) rest

abbrev pub ends_in_comment : List ℕ → Bool
ends_in_comment text = ends_in_comment_from false text

-- the runs of bytes between separators outside comments, empty ones too
abbrev pub runs : List ℕ → List (List ℕ)
runs text = slice_split is_separator (blanked text)

-- whether a run is a word: it is not empty
abbrev pub is_word : List ℕ → Bool
is_word [] = false
is_word (b ∷ rest) = true

-- the words of a text
abbrev pub words : List ℕ → List (List ℕ)
words text = filter is_word (runs text)

-- words that are the tokens of events, in order
abbrev pub AreTokens : List (List ℕ) → List Event → Type 0
AreTokens ws events = map event_of ws ≡ map Some events

-- A text spells events if its words are their tokens, in order.
abbrev pub Spells : List ℕ → List Event → Type 0
Spells text events = AreTokens (words text) events

-- some text that spells events begins so
abbrev pub BeginsText : List ℕ → Type 0
BeginsText text = (more : List ℕ) × (events : List Event) × Spells (text ++ more) events

-- all but the last
abbrev pub all_but_last : List (List ℕ) → List (List ℕ)
all_but_last [] = []
all_but_last (run ∷ []) = []
all_but_last (run ∷ next ∷ more) = run ∷ all_but_last (next ∷ more)

-- the last one
abbrev pub last_run : List (List ℕ) → List ℕ
last_run [] = []
last_run (run ∷ []) = run
last_run (run ∷ next ∷ more) = last_run (next ∷ more)

-- The word under way at the end of a text, which further bytes may lengthen; `[]` if there is none.
abbrev pub open_word : List ℕ → List ℕ
open_word text = last_run (runs text)

-- A text ends between words: no word is under way, and no comment.
abbrev pub EndsBetween : List ℕ → Type 0
EndsBetween text = (open_word text ≡ []) × (ends_in_comment text ≡ false)

-- The word under way at the end of a text of n bytes has its first byte at `at`, counted from 0 and
-- staying at the greatest u64.
abbrev pub WordBeginsAt : ℕ → List ℕ → ℕ → Type 0
WordBeginsAt n text at = (first : ℕ) × (first + length (open_word text) ≡ n) × (at ≡ capped first)

-- the words before that: those that a separator or a comment has ended
abbrev pub ended_words : List ℕ → List (List ℕ)
ended_words text = filter is_word (all_but_last (runs text))

-- the words that have ended in a text are the tokens of events
abbrev pub EndedWordsSpell : List ℕ → List Event → Type 0
EndedWordsSpell text events = AreTokens (ended_words text) events

-- the first one
abbrev pub first_run : List (List ℕ) → List ℕ
first_run [] = []
first_run (run ∷ more) = run

-- the word at the very front of a text; `[]` if a separator or a comment stands there
abbrev pub front_word : List ℕ → List ℕ
front_word text = first_run (runs text)

-- The first word of a text that is no token begins at `place`; those before it are the tokens of
-- the events.
pub record FirstBadWord (text : List ℕ) (events : List Event) (place : ℕ) : Type 0 where
  pub front : List ℕ
  pub rest : List ℕ
  pub split : text ≡ front ++ rest
  pub at : length front ≡ place
  pub between : EndsBetween front
  pub spells : Spells front events
  pub word : is_word (front_word rest) ≡ true
  pub no_token : event_of (front_word rest) ≡ None
