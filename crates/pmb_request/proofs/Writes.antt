-- Lines that begin with `write`, which are read as those of transactions. For `parse_write` and
-- the law `request_or_fault`. No other request begins so, so that such a line, its beginnings, its
-- room and its faults are those of a transaction's line.
use Rattle.std.proofs.Common.{◌≡◌, ℕ, false, Option, Some, List, [], ◌∷◌, ◌++◌, map, refl, sym, ap, subst, inl, inr}
use Rattle.std.proofs.Common.{◌∙◌}
use Rattle.std.specs.Prelude.{codes}
use Rattle.pmb_transaction.specs.Transaction.{PartData, TransactionData}
use Rattle.pmb_transaction.specs.Transaction as says
use Rattle.pmb_line.specs.declared.token.Token.{Token}
use Rattle.pmb_line.specs.declared.token.Token.TheVariants as said
use Rattle.pmb_line.specs.declared.word_fault.WordFault.{WordFault}
use Rattle.pmb_line.specs.declared.word_fault.WordFault.TheVariants.{Blank, BadWord, TooLong}
use Rattle.pmb_line.specs.Fault as of_transaction
use Rattle.pmb_line.specs.Spelling.{SpellsTransaction}
use Rattle.pmb_line.specs.Token.{token_of}
use Rattle.pmb_line.specs.Words.{Word, texts, line_words}
use Rattle.pmb_request.specs.Request.{WriteParts}
use Rattle.pmb_request.specs.Spelling.{Task, to_read, to_call, to_set, to_get, Wording, Write, Ask, IsWanted, keyword}
use Rattle.pmb_request.specs.Spelling.{Spells}
use Rattle.pmb_request.specs.Fault.{At, BeginsRequest, HasRoom, goes_on, plus, IsWithin, IsBadWord, IsCutShort}
use Rattle.pmb_request.specs.Fault.{IsTooLong, IsFault}
use Rattle.pmb_request.specs.RequestFault.{SpellsRequest}
use Rattle.pmb_request.specs.machine.Reading.{IsWriteLine}

-- words that begin with `write`
abbrev BeginsWrite : List (List ℕ) → Type 0
BeginsWrite [] = ⊥
BeginsWrite (word ∷ words) = token_of word ≡ Some said.Write

-- no keyword of another request is `write`
no_keyword : (task : Task) (word : List ℕ) → token_of word ≡ Some said.Write → IsWanted (keyword task) word → ⊥
no_keyword to_read word write is = cc (write, is)
no_keyword (to_call bytes) word write is = cc (write, is)
no_keyword (to_set quantity) word write is =
    let other : token_of (codes "set") ≡ Some said.Write = ap token_of (sym is) ∙ write in
    cc other
no_keyword to_get word write is =
    let other : token_of (codes "get") ≡ Some said.Write = ap token_of (sym is) ∙ write in
    cc other

asks_write : (words : List (List ℕ)) (wording : Wording) → BeginsWrite words → Spells words wording
    → (parts : List PartData) × (wording ≡ Write parts)
asks_write words (Write parts) begun spells = (parts, refl)
asks_write [] (Ask c task) begun spells = absurd begun
asks_write (word ∷ words) (Ask c task) begun spells = absurd (no_keyword task word begun spells.0)

first_token : (words : List (List ℕ)) (token : Token) (rest : List (Option Token)) → BeginsWrite words
    → map token_of words ≡ Some token ∷ rest → token ≡ said.Write
first_token [] token rest begun is = absurd begun
first_token (word ∷ words) token rest begun is =
    let first : token_of word ≡ Some token = cc is in
    cc (first, begun)

pub spells_write : (words : List (List ℕ)) (t : TransactionData) → BeginsWrite words → SpellsTransaction words t
    → (parts : List PartData) × (t ≡ says.Write parts)
spells_write words (says.Write parts) begun spells = (parts, refl)
spells_write words (says.Read t) begun spells = cc (first_token words said.Read _ begun spells.says)
spells_write words (says.Call t) begun spells = cc (first_token words said.Call _ begun spells.says)
spells_write words (says.Refused t) begun spells = cc (first_token words said.Refused _ begun spells.says)
spells_write words (says.Alert t) begun spells = cc (first_token words said.Alert _ begun spells.says)
spells_write words says.NoAlert begun spells = cc (first_token words said.Alert _ begun spells.says)

-- ---- how lines begin

begins_more : (front more : List (List ℕ)) → BeginsWrite front → BeginsWrite (front ++ more)
begins_more [] more begun = absurd begun
begins_more (word ∷ front) more begun = begun

-- a request line that begins so is a transaction's
begins_transaction : (front : List (List ℕ)) → BeginsWrite front → BeginsRequest front → of_transaction.BeginsLine front
begins_transaction front begun request =
    let is = asks_write (front ++ request.more) request.wording (begins_more front request.more begun) request.spells in
    record {
      more = request.more;
      t = says.Write is.0;
      spells =
          subst (Spells (front ++ request.more)) is.1 request.spells;
    }

begins_request : (front : List (List ℕ)) → BeginsWrite front → of_transaction.BeginsLine front → BeginsRequest front
begins_request front begun line =
    let is = spells_write (front ++ line.more) line.t (begins_more front line.more begun) line.spells in
    record {
      more = line.more;
      wording = Write is.0;
      spells =
          subst (SpellsTransaction (front ++ line.more)) is.1 line.spells;
    }

-- and has as much room
room_transaction : (front : List (List ℕ)) → BeginsWrite front → HasRoom front → of_transaction.HasRoom front
room_transaction front begun (goes_on more wording spells within) =
    let is = asks_write (front ++ more) wording (begins_more front more begun) spells in
    of_transaction.goes_on more (says.Write is.0) (subst (Spells (front ++ more)) is.1 spells)
    (subst IsWithin is.1 within)
room_transaction front begun (plus before word parts split is spells within) =
    of_transaction.plus before word parts split is spells within

room_request : (front : List (List ℕ)) → BeginsWrite front → of_transaction.HasRoom front → HasRoom front
room_request front begun (of_transaction.goes_on more t spells within) =
    let is = spells_write (front ++ more) t (begins_more front more begun) spells in
    goes_on more (Write is.0) (subst (SpellsTransaction (front ++ more)) is.1 spells)
    (subst of_transaction.IsWithin is.1 within)
room_request front begun (of_transaction.plus before word parts split is spells within) =
    plus before word parts split is spells within

-- before the first word there is room
room_before : (front : List (List ℕ)) → front ≡ [] → HasRoom front
room_before front none =
    subst HasRoom (sym none) (goes_on (codes "get" ∷ codes "00" ∷ codes "00" ∷ [])
    (Ask (record { addr = 0; code = 0; pec = false }) to_get) (refl, (refl, (refl, tt))) tt)

-- ---- lines

-- the words of the line up to one of them
front_begins : (line : List ℕ) (before behind : List Word) (word : Word) → IsWriteLine line
    → line_words line ≡ before ++ word ∷ behind
    → BeginsWrite (texts (before ++ word ∷ []))
front_begins line [] behind word is split =
    let same : word ≡ is.first = cc (split, is.split) in
    ap (λ (w : Word). token_of w.text) same ∙ is.says
front_begins line (first ∷ before) behind word is split =
    let same : first ≡ is.first = cc (split, is.split) in
    ap (λ (w : Word). token_of w.text) same ∙ is.says

room_at : (line : List ℕ) (before behind : List Word) (word : Word) → IsWriteLine line
    → line_words line ≡ before ++ word ∷ behind → of_transaction.HasRoom (texts before) → HasRoom (texts before)
room_at line [] behind word is split room = room_before [] refl
room_at line (first ∷ before) behind word is split room =
    let same : first ≡ is.first = cc (split, is.split) in
    room_request (texts (first ∷ before)) (ap (λ (w : Word). token_of w.text) same ∙ is.says) room

at_word : (line : List ℕ) (before : List Word) (word : Word) → IsWriteLine line → of_transaction.At line before word
    → At line before word
at_word line before word is stands = record {
  behind = stands.behind;
  split = stands.split;
  room =
      room_at line before stands.behind word is stands.split stands.room;
}

bad_word : (line : List ℕ) (at : ℕ) → IsWriteLine line → of_transaction.IsBadWord line at → IsBadWord line at
bad_word line at is fault = record {
  before = fault.before;
  word = fault.word;
  stands = at_word line fault.before fault.word is fault.stands;
  place = fault.place;
  unfit = λ begun.
      fault.unfit (begins_transaction (texts (fault.before ++ fault.word ∷ []))
      (front_begins line fault.before fault.stands.behind fault.word is fault.stands.split) begun);
}

too_long : (line : List ℕ) (at : ℕ) → IsWriteLine line → of_transaction.IsTooLong line at → IsTooLong line at
too_long line at is fault =
    let begun = front_begins line fault.before fault.stands.behind fault.word is fault.stands.split in
    record {
      before = fault.before;
      word = fault.word;
      stands = at_word line fault.before fault.word is fault.stands;
      place = fault.place;
      fits = begins_request (texts (fault.before ++ fault.word ∷ [])) begun fault.fits;
      full = λ room. fault.full (room_transaction (texts (fault.before ++ fault.word ∷ [])) begun room);
    }

-- the words of the whole line
pub line_begins : (line : List ℕ) → IsWriteLine line → BeginsWrite (texts (line_words line))
line_begins line is = subst (λ ws. BeginsWrite (texts ws)) (sym is.split) is.says

cut_short : (line : List ℕ) (at : ℕ) → IsWriteLine line → of_transaction.IsCutShort line at → IsCutShort line at
cut_short line at is fault =
    let begun = line_begins line is in
    record {
      some = fault.some;
      room = room_request (texts (line_words line)) begun fault.room;
      unfinished = λ wording spells.
          let write = asks_write (texts (line_words line)) wording begun spells in
          fault.unfinished (says.Write write.0) (subst (Spells (texts (line_words line))) write.1 spells);
      place = fault.place;
    }

-- the fault of such a line is that of a transaction's
pub fault_of_write : (line : List ℕ) (fault : WordFault) → IsWriteLine line → of_transaction.IsFault line fault
    → IsFault line fault
fault_of_write line Blank is none = none
fault_of_write line (BadWord at) is (inl fault) = inl (bad_word line at is fault)
fault_of_write line (BadWord at) is (inr fault) = inr (cut_short line at is fault)
fault_of_write line (TooLong at) is fault = too_long line at is fault

-- and what it spells is a request to write
pub write_spelled : (mode : ℕ → Option ℕ) (line : List ℕ) (parts : List PartData)
    → SpellsTransaction (texts (line_words line)) (says.Write parts)
    → of_transaction.IsWithin (says.Write parts) → SpellsRequest mode line (WriteParts parts)
write_spelled mode line parts spells within =
    record { wording = Write parts; spells = spells; within = within; means = refl }
