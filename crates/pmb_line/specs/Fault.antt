-- What is wrong with a line.
use Rattle.std.specs.Prelude.{◌≡◌, ℕ, ◌≤◌, List, [], ◌∷◌, ◌++◌, length, Some}
use Rattle.std.specs.List.{AllByRecursion}
use Rattle.pmb_transaction.specs.Transaction.{PartData, TransactionData}
use Rattle.pmb_transaction.specs.Transaction as says
use Rattle.pmb_line.specs.declared.word_fault.WordFault.{WordFault}
use Rattle.pmb_line.specs.declared.token.Token.TheVariants.{Plus}
use Rattle.pmb_line.specs.Token.{token_of}
use Rattle.pmb_line.specs.Words.{Word}
use Rattle.pmb_line.specs.WordsFault.{IsWordsFault}
use Rattle.pmb_line.specs.WordsFault as words_fault
use Rattle.pmb_line.specs.Spelling.{SpellsTransaction}

-- ---- how much a transaction holds

abbrev pub IsPartWithin : PartData → Type 0
IsPartWithin p = length p.bytes ≤ 255

-- up to `most` parts, of up to 255 bytes of data each
pub record ArePartsWithin (most : ℕ) (ps : List PartData) : Type 0 where
  pub few : length ps ≤ most
  pub each : AllByRecursion IsPartWithin ps

-- data and a reply of up to 255 bytes each
pub record IsCallWithin (data_bytes : List ℕ) (reply : List ℕ) : Type 0 where
  pub few_sent : length data_bytes ≤ 255
  pub few_replied : length reply ≤ 255

-- up to 15 parts, and up to 258 bytes
pub record IsRefusedWithin (ps : List PartData) (sent : List ℕ) : Type 0 where
  pub few_parts : ArePartsWithin 15 ps
  pub few_sent : length sent ≤ 258

abbrev pub IsWithin : TransactionData → Type 0
IsWithin (says.Write ps) = ArePartsWithin 16 ps
IsWithin (says.Read t) = length t.reply ≤ 255
IsWithin (says.Call t) = IsCallWithin t.bytes t.reply
IsWithin (says.Refused t) = IsRefusedWithin t.parts t.sent
IsWithin (says.Alert t) = Unit {0}
IsWithin says.NoAlert = Unit {0}

-- ---- how lines begin

-- The line of some transaction, of any size, begins with the words.
pub record BeginsLine (front : List (List ℕ)) : Type 0 where
  pub more : List (List ℕ)
  pub t : TransactionData
  pub spells : SpellsTransaction (front ++ more) t

-- There is room for what the words say so far: a transaction that is not too large can have them
-- there. The `+` after the 16th part of a write needs no room yet; the address after it does.
pub data HasRoom (front : List (List ℕ)) : Type 0 where
  goes_on : (more : List (List ℕ)) (t : TransactionData) → SpellsTransaction (front ++ more) t → IsWithin t
      → HasRoom front
  plus : (before : List (List ℕ)) (word : List ℕ) (ps : List PartData) → front ≡ before ++ word ∷ []
      → token_of word ≡ Some Plus
      → SpellsTransaction before (says.Write ps) → IsWithin (says.Write ps) → HasRoom front

-- ---- the faults

-- a word of a line, where there is room for all before it
abbrev pub At : List ℕ → List Word → Word → Type 0
At line before word = words_fault.At HasRoom line before word

-- a word does not fit: no such line can have it there
abbrev pub IsBadWord : List ℕ → ℕ → Type 0
IsBadWord line at = words_fault.IsBadWord BeginsLine HasRoom line at

-- words are missing at the end
abbrev pub IsCutShort : List ℕ → ℕ → Type 0
IsCutShort line at = words_fault.IsCutShort HasRoom SpellsTransaction line at

-- a word fits, but a list has no room for what it says
abbrev pub IsTooLong : List ℕ → ℕ → Type 0
IsTooLong line at = words_fault.IsTooLong BeginsLine HasRoom line at

-- the first fault of a line that spells no transaction which is not too large
abbrev pub IsFault : List ℕ → WordFault → Type 0
IsFault line fault = IsWordsFault BeginsLine HasRoom SpellsTransaction line fault
