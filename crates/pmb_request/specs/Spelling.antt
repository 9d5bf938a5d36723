-- What the words of a request line ask for.
--
--     write PART { + PART }                   PART = ADDR CODE {BYTE} [pec]
--     read ADDR CODE [pec]
--     call ADDR CODE {BYTE} [pec]
--     set ADDR CODE QUANTITY [pec]
--     get ADDR CODE [pec]
use Rattle.std.specs.Prelude.{◌≡◌, ℕ, Bool, true, false, Some, List, [], ◌∷◌, ◌++◌, map, codes}
use Rattle.pmb_transaction.specs.Transaction.{PartData}
use Rattle.pmb_transaction.specs.Transaction as says
use Rattle.pmb_line.specs.declared.token.Token.{Token}
use Rattle.pmb_line.specs.declared.token.Token.TheVariants.{Byte, Read, Call, Pec}
use Rattle.pmb_line.specs.Token.{token_of}
use Rattle.pmb_line.specs.Spelling.{SpellsTransaction}
use Rattle.pmb_request.specs.Request.{Command}

-- What is asked of a command code: to read it, to call it with bytes, to set it to the quantity of
-- a text, or to get its quantity. Any text will do here: whether it is a quantity's is asked later.
pub data Task : Type 0 where
  to_read : Task
  to_call : List ℕ → Task
  to_set : List ℕ → Task
  to_get : Task

-- what a line asks for
pub data Wording : Type 0 where
  Write : List PartData → Wording
  Ask : Command → Task → Wording

-- what a word has to be: one that says a token, or this very text
pub data Wanted : Type 0 where
  token : Token → Wanted
  text : List ℕ → Wanted

abbrev pub IsWanted : Wanted → List ℕ → Type 0
IsWanted (token t) word = token_of word ≡ Some t
IsWanted (text t) word = word ≡ t

-- the words are those that are wanted, in order
abbrev pub AreWanted : List Wanted → List (List ℕ) → Type 0
AreWanted [] [] = Unit {0}
AreWanted [] (word ∷ words) = ⊥
AreWanted (wanted ∷ more) [] = ⊥
AreWanted (wanted ∷ more) (word ∷ words) = IsWanted wanted word × AreWanted more words

-- the first word
abbrev pub keyword : Task → Wanted
keyword to_read = token Read
keyword (to_call bytes) = token Call
keyword (to_set quantity) = text (codes "set")
keyword to_get = text (codes "get")

-- what stands after the code
abbrev pub operands : Task → List Wanted
operands to_read = []
operands (to_call bytes) = map (λ b. token (Byte b)) bytes
operands (to_set quantity) = text quantity ∷ []
operands to_get = []

-- `pec` if the flag is set, else nothing
abbrev pub mark : Bool → List Wanted
mark true = token Pec ∷ []
mark false = []

-- the words that ask a command for it, in order
abbrev pub asking : Command → Task → List Wanted
asking c task = keyword task ∷ token (Byte c.addr) ∷ token (Byte c.code) ∷ operands task ++ mark c.pec

-- The words ask for it. A write is spelled as in the lines of transactions.
abbrev pub Spells : List (List ℕ) → Wording → Type 0
Spells words (Write parts) = SpellsTransaction words (says.Write parts)
Spells words (Ask command task) = AreWanted (asking command task) words
