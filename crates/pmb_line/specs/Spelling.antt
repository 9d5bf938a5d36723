-- Lines as spellings of transactions.
--
--     write PART { + PART }                   PART = ADDR CODE {BYTE} [pec]
--     read ADDR CODE : {BYTE} [pec]
--     call ADDR CODE {BYTE} : {BYTE} [pec]
--     refused {PART +} ADDR {BYTE} [read]
--     alert BYTE [pec]
--     alert none
use Rattle.std.specs.Prelude.{◌≡◌, ◌≢◌, ℕ, ◌<◌, Bool, true, false, Some, List, [], ◌∷◌, ◌++◌, map, codes}
use Rattle.std.specs.List.{AllByRecursion, flat_map}
use Rattle.pmb_command.specs.Wire.{AreByteValues}
use Rattle.pmb_transaction.specs.Transaction.{PartData, ReadData, CallData, RefusedData, AlertData, TransactionData}
use Rattle.pmb_transaction.specs.Transaction as says
use Rattle.pmb_line.specs.declared.token.Token.{Token}
use Rattle.pmb_line.specs.declared.token.Token.TheVariants.{Byte, Write, Read, Call, Refused, Alert, Nobody, Pec, Plus}
use Rattle.pmb_line.specs.declared.token.Token.TheVariants.{Colon}
use Rattle.pmb_line.specs.Token.{token_of, token_text}

-- bytes, in order
abbrev pub bytes : List ℕ → List Token
bytes bs = map Byte bs

-- `pec` or `read` if the flag is set, else nothing
abbrev pub mark : Token → Bool → List Token
mark token true = token ∷ []
mark token false = []

-- ADDR CODE {BYTE} [pec]
abbrev pub part : PartData → List Token
part p = Byte p.addr ∷ Byte p.code ∷ bytes p.bytes ++ mark Pec p.pec

-- PART { + PART }
abbrev pub parts : List PartData → List Token
parts [] = []
parts (p ∷ []) = part p
parts (p ∷ q ∷ ps) = part p ++ Plus ∷ parts (q ∷ ps)

-- PART +
abbrev pub part_before : PartData → List Token
part_before p = part p ++ Plus ∷ []

-- the tokens of a transaction's line
abbrev pub tokens : TransactionData → List Token
tokens (says.Write ps) = Write ∷ parts ps
tokens (says.Read t) = Read ∷ Byte t.addr ∷ Byte t.code ∷ Colon ∷ bytes t.reply ++ mark Pec t.pec
tokens (says.Call t) = Call ∷ Byte t.addr ∷ Byte t.code ∷ bytes t.bytes ++ Colon ∷ bytes t.reply ++ mark Pec t.pec
tokens (says.Refused t) = Refused ∷ flat_map part_before t.parts ++ Byte t.addr ∷ bytes t.sent ++ mark Read t.at_read
tokens (says.Alert t) = Alert ∷ Byte t.byte ∷ mark Pec t.pec
tokens says.NoAlert = Alert ∷ Nobody ∷ []

-- a write has a part
abbrev pub HasLine : TransactionData → Type 0
HasLine (says.Write ps) = ps ≢ []
HasLine (says.Read t) = Unit {0}
HasLine (says.Call t) = Unit {0}
HasLine (says.Refused t) = Unit {0}
HasLine (says.Alert t) = Unit {0}
HasLine says.NoAlert = Unit {0}

-- Words spell a transaction: they say its tokens, in order.
pub record SpellsTransaction (words : List (List ℕ)) (t : TransactionData) : Type 0 where
  pub has_line : HasLine t
  pub says : map token_of words ≡ map Some (tokens t)

-- words with a space between each two
abbrev pub spaced : List (List ℕ) → List ℕ
spaced [] = []
spaced (word ∷ words) = word ++ flat_map (λ w. codes " " ++ w) words

-- the one line that is written for a transaction
abbrev pub line : TransactionData → List ℕ
line t = spaced (map token_text (tokens t))

-- its numbers are bytes
abbrev pub ArePartBytes : PartData → Type 0
ArePartBytes p = (p.addr < 256) × (p.code < 256) × AreByteValues p.bytes

abbrev pub HasBytes : TransactionData → Type 0
HasBytes (says.Write ps) = AllByRecursion ArePartBytes ps
HasBytes (says.Read t) = (t.addr < 256) × (t.code < 256) × AreByteValues t.reply
HasBytes (says.Call t) = (t.addr < 256) × (t.code < 256) × AreByteValues t.bytes × AreByteValues t.reply
HasBytes (says.Refused t) = AllByRecursion ArePartBytes t.parts × (t.addr < 256) × AreByteValues t.sent
HasBytes (says.Alert t) = t.byte < 256
HasBytes says.NoAlert = Unit {0}
