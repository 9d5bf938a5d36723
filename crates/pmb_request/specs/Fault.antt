-- What is wrong with the words of a request line.
use Rattle.std.specs.Prelude.{◌≡◌, ℕ, ◌≤◌, List, [], ◌∷◌, ◌++◌, length, Some}
use Rattle.pmb_transaction.specs.Transaction.{PartData}
use Rattle.pmb_line.specs.declared.word_fault.WordFault.{WordFault}
use Rattle.pmb_line.specs.declared.token.Token.TheVariants.{Plus}
use Rattle.pmb_line.specs.Token.{token_of}
use Rattle.pmb_line.specs.Words.{Word}
use Rattle.pmb_line.specs.WordsFault.{IsWordsFault}
use Rattle.pmb_line.specs.WordsFault as words_fault
use Rattle.pmb_line.specs.Fault.{ArePartsWithin}
use Rattle.pmb_request.specs.Spelling.{Task, to_read, to_call, to_set, to_get, Wording, Write, Ask, Spells}

-- ---- how much a request holds

-- up to 255 bytes of a call
abbrev pub IsTaskWithin : Task → Type 0
IsTaskWithin to_read = Unit {0}
IsTaskWithin (to_call bytes) = length bytes ≤ 255
IsTaskWithin (to_set quantity) = Unit {0}
IsTaskWithin to_get = Unit {0}

-- and up to 16 parts of a write, of up to 255 bytes each
abbrev pub IsWithin : Wording → Type 0
IsWithin (Write parts) = ArePartsWithin 16 parts
IsWithin (Ask command task) = IsTaskWithin task

-- ---- how lines begin

-- The line of some request, of any size, begins with the words.
pub record BeginsRequest (front : List (List ℕ)) : Type 0 where
  pub more : List (List ℕ)
  pub wording : Wording
  pub spells : Spells (front ++ more) wording

-- There is room for what the words say so far: a request that is not too large can have them there.
-- The `+` after the 16th part of a write needs no room yet; the address after it does.
pub data HasRoom (front : List (List ℕ)) : Type 0 where
  goes_on : (more : List (List ℕ)) (wording : Wording) → Spells (front ++ more) wording → IsWithin wording
      → HasRoom front
  plus : (before : List (List ℕ)) (word : List ℕ) (parts : List PartData) → front ≡ before ++ word ∷ []
      → token_of word ≡ Some Plus
      → Spells before (Write parts) → IsWithin (Write parts) → HasRoom front

-- ---- the faults

-- a word of a line, where there is room for all before it
abbrev pub At : List ℕ → List Word → Word → Type 0
At line before word = words_fault.At HasRoom line before word

-- a word does not fit: no such line can have it there
abbrev pub IsBadWord : List ℕ → ℕ → Type 0
IsBadWord line at = words_fault.IsBadWord BeginsRequest HasRoom line at

-- words are missing at the end
abbrev pub IsCutShort : List ℕ → ℕ → Type 0
IsCutShort line at = words_fault.IsCutShort HasRoom Spells line at

-- a word fits, but a list has no room for what it says
abbrev pub IsTooLong : List ℕ → ℕ → Type 0
IsTooLong line at = words_fault.IsTooLong BeginsRequest HasRoom line at

-- the first fault of a line whose words ask for nothing, or for something too large
abbrev pub IsFault : List ℕ → WordFault → Type 0
IsFault line fault = IsWordsFault BeginsRequest HasRoom Spells line fault
