-- What taking a piece of a line leaves of its words.
use Rattle.std.specs.Prelude.{◌≡◌, ℕ, ◌+◌, ◌≤◌, Option, Some, Result, Ok, Err, Bool, true, false, List, [], ◌∷◌, ◌++◌}
use Rattle.std.specs.Prelude.{length, map}
use Rattle.pmb_transaction.specs.Transaction.{PartData, TransactionData}
use Rattle.pmb_transaction.specs.Transaction as says
use Rattle.pmb_line.specs.declared.token.Token.{Token}
use Rattle.pmb_line.specs.declared.token.Token.TheVariants.{Byte, Plus}
use Rattle.pmb_line.specs.declared.word_fault.WordFault.{WordFault}
use Rattle.pmb_line.specs.declared.word_fault.WordFault.TheVariants.{BadWord, TooLong}
use Rattle.pmb_line.specs.declared.words.Located.{Located}
use Rattle.pmb_line.specs.declared.pieces.ByteWord.{ByteWord}
use Rattle.pmb_line.specs.machine.Reading.{Partial, LineStandsAt, SaysTransaction, IsWordFaultOf, tokens_said}
use Rattle.pmb_line.specs.machine.Reading.{part_with, write_next, read_colon, read_reply, read_pec, call_data}
use Rattle.pmb_line.specs.machine.Reading.{call_reply, call_pec, refused_next}

-- The next word is not this one.
abbrev pub IsNotNext : Token → List Located → Type 0
IsNotNext token left = (word : Located) (rest : List Located) → left ≡ word ∷ rest → word.token ≡ Some token → ⊥

-- The next word is no byte.
abbrev pub IsNoByteNext : List Located → Type 0
IsNoByteNext left = (word : Located) (rest : List Located) (b : ℕ) → left ≡ word ∷ rest → word.token ≡ Some (Byte b) → ⊥

-- What is wrong where something else is wanted: nothing is left of a line that ends at `length`, or
-- another word comes.
pub data Misses (Is : Option Token → Type 0) (left : List Located) (length : ℕ) (fault : WordFault) : Type 0 where
  short : left ≡ [] → fault ≡ BadWord length → Misses Is left length fault
  other : (word : Located) (rest : List Located) → left ≡ word ∷ rest → (Is word.token → ⊥) → fault ≡ BadWord word.at
      → Misses Is left length fault

-- a byte is said
abbrev pub IsByteToken : Option Token → Type 0
IsByteToken token = (b : ℕ) × (token ≡ Some (Byte b))

abbrev pub TakesByte : List Located → ℕ → Result ByteWord WordFault → List Located → Type 0
TakesByte before length (Ok word) after = before ≡ record { at = word.at; token = Some (Byte word.byte) } ∷ after
TakesByte before length (Err fault) after = Misses IsByteToken before length fault

-- this word is taken
abbrev pub TakesToken : Token → List Located → ℕ → Result Unit WordFault → List Located → Type 0
TakesToken token before length (Ok done) after = (at : ℕ) × (before ≡ record { at = at; token = Some token } ∷ after)
TakesToken token before length (Err fault) after = Misses (λ said. said ≡ Some token) before length fault

-- or not, where it doesn't come
abbrev pub TakesIf : Token → List Located → Bool → List Located → Type 0
TakesIf token before true after = (at : ℕ) × (before ≡ record { at = at; token = Some token } ∷ after)
TakesIf token before false after = (before ≡ after) × IsNotNext token after

-- Bytes were taken, and added to a list.
pub record AddsBytes (before : List Located) (old new : List ℕ) (after : List Located) : Type 0 where
  pub bs : List ℕ
  pub front : List Located
  pub split : before ≡ front ++ after
  pub are_bytes : tokens_said front ≡ map (λ b. Some (Byte b)) bs
  pub added : new ≡ old ++ bs

-- One more comes, but the list is full.
pub record AddsTooMany (most : ℕ) (before : List Located) (old new : List ℕ) (fault : WordFault) : Type 0 where
  pub word : Located
  pub rest : List Located
  pub b : ℕ
  pub adds : AddsBytes before old new (word ∷ rest)
  pub is_byte : word.token ≡ Some (Byte b)
  pub full : length new ≡ most
  pub fault_is : fault ≡ TooLong word.at

abbrev pub TakesBytes : ℕ → List Located → List ℕ → Result Unit WordFault → List ℕ → List Located → Type 0
TakesBytes most before old (Ok done) new after = AddsBytes before old new after × IsNoByteNext after
TakesBytes most before old (Err fault) new after = AddsTooMany most before old new fault

-- no word is left, or a `+` is taken
abbrev pub TakesPlus : List Located → Result Bool WordFault → List Located → Type 0
TakesPlus before (Ok true) after = (at : ℕ) × (before ≡ record { at = at; token = Some Plus } ∷ after)
TakesPlus before (Ok false) after = (before ≡ []) × (after ≡ [])
TakesPlus before (Err fault) after = (word : Located) × (rest : List Located) × (before ≡ word ∷ rest)
    × (word.token ≡ Some Plus → ⊥) × (fault ≡ BadWord word.at)

-- no word is left
abbrev pub TakesEnd : List Located → Result Unit WordFault → Type 0
TakesEnd before (Ok done) = before ≡ []
TakesEnd before (Err fault) = (word : Located) × (rest : List Located) × (before ≡ word ∷ rest)
    × (fault ≡ BadWord word.at)

-- ---- what a reader answers that stood before the piece

-- all words are those of a transaction
abbrev pub ReadsLine : List Located → ℕ → TransactionData → Result Unit WordFault → Type 0
ReadsLine all length t (Ok done) = SaysTransaction all t
ReadsLine all length t (Err fault) = IsWordFaultOf all length fault

-- a part of a write, and whether a `+` follows
abbrev pub ReadsPart : List Located → ℕ → List PartData → Result Bool WordFault → List Located → Type 0
ReadsPart all length ps (Ok true) after = LineStandsAt all (write_next ps) after
ReadsPart all length ps (Ok false) after = SaysTransaction all (says.Write ps)
ReadsPart all length ps (Err fault) after = IsWordFaultOf all length fault

-- a part of a write comes, or all have come
abbrev pub WritesOn : List Located → List PartData → Bool → List Located → Type 0
WritesOn all ps true left = LineStandsAt all (write_next ps) left
WritesOn all ps false left = SaysTransaction all (says.Write ps)

-- The words before the `:` of a read or a call.
pub data Asked : Type 0 where
  read_of : ℕ → ℕ → Asked
  call_of : ℕ → ℕ → List ℕ → Asked

-- where the `:` comes
abbrev pub at_colon : Asked → Partial
at_colon (read_of a c) = read_colon a c
at_colon (call_of a c bs) = call_data a c bs

-- after it, and a reply so far
abbrev pub at_reply : Asked → List ℕ → Partial
at_reply (read_of a c) rs = read_reply a c rs
at_reply (call_of a c bs) rs = call_reply a c bs rs

-- after the `pec` of a reply
abbrev pub at_pec : Asked → List ℕ → Partial
at_pec (read_of a c) rs = read_pec a c rs
at_pec (call_of a c bs) rs = call_pec a c bs rs

-- the transaction with a reply
abbrev pub replied : Asked → List ℕ → Bool → TransactionData
replied (read_of a c) rs pec = says.Read (record { addr = a; code = c; reply = rs; pec = pec })
replied (call_of a c bs) rs pec = says.Call (record { addr = a; code = c; bytes = bs; reply = rs; pec = pec })

-- No byte more comes of a call's data.
abbrev pub NoDataNext : Asked → List Located → Type 0
NoDataNext (read_of a c) left = Unit {0}
NoDataNext (call_of a c bs) left = IsNoByteNext left

-- A part more of a refused packet, of an address and the bytes after it.
pub record Pushed (ps : List PartData) (addr : ℕ) (sent : List ℕ) (pec : Bool) (after : List PartData) : Type 0 where
  pub code : ℕ
  pub bs : List ℕ
  pub split : sent ≡ code ∷ bs
  pub few : length ps + 1 ≤ 15
  pub few_bytes : length bs ≤ 255
  pub pushed : after ≡ ps ++ part_with addr code bs pec ∷ []

-- There is no code, or no room.
pub data NotPushed (ps : List PartData) (sent : List ℕ) (at : ℕ) (fault : WordFault) : Type 0 where
  codeless : sent ≡ [] → fault ≡ BadWord at → NotPushed ps sent at fault
  full : (code : ℕ) (bs : List ℕ) → sent ≡ code ∷ bs → (length ps + 1 ≤ 15 → length bs ≤ 255 → ⊥) → fault ≡ TooLong at
      → NotPushed ps sent at fault

abbrev pub PushesPart : List PartData → ℕ → List ℕ → Bool → ℕ → Result Unit WordFault → List PartData → Type 0
PushesPart ps addr sent pec at (Ok done) after = Pushed ps addr sent pec after
PushesPart ps addr sent pec at (Err fault) after = NotPushed ps sent at fault

-- an address of a refused packet and the bytes after it: a part, or what was refused
abbrev pub ReadsLeg : List Located → ℕ → List PartData → ℕ → List ℕ → Bool → Result Bool WordFault → List Located
    → Type 0
ReadsLeg all length ps addr sent at_read (Ok true) after = LineStandsAt all (refused_next ps) after
ReadsLeg all length ps addr sent at_read (Ok false) after =
    SaysTransaction all (says.Refused (record { parts = ps; addr = addr; sent = sent; at_read = at_read }))
ReadsLeg all length ps addr sent at_read (Err fault) after = IsWordFaultOf all length fault

-- a part of a refused packet comes, or all has come
abbrev pub RefusesOn : List Located → TransactionData → List PartData → Bool → List Located → Type 0
RefusesOn all t ps true left = LineStandsAt all (refused_next ps) left
RefusesOn all t ps false left = SaysTransaction all t
