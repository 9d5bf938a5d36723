-- Where a reader of a line stands between two words: what the words so far say.
use Rattle.std.specs.Prelude.{◌≡◌, ℕ, ◌≤◌, ◌+◌, ◌⊎◌, Bool, true, false, Option, Some, None, ◌||◌, List, [], ◌∷◌, ◌++◌}
use Rattle.std.specs.Prelude.{length, map}
use Rattle.pmb_transaction.specs.Transaction.{PartData, TransactionData}
use Rattle.pmb_transaction.specs.Transaction as says
use Rattle.pmb_line.specs.declared.token.Token.{Token}
use Rattle.pmb_line.specs.declared.token.Token.TheVariants.{Byte}
use Rattle.pmb_line.specs.declared.word_fault.WordFault.{WordFault}
use Rattle.pmb_line.specs.declared.word_fault.WordFault.TheVariants.{Blank, BadWord, TooLong}
use Rattle.pmb_line.specs.declared.words.Located.{Located}
use Rattle.pmb_line.specs.machine.Stop as stop
use Rattle.pmb_line.specs.Words.{Word, is_blank, is_comment}
use Rattle.pmb_line.specs.Token.{byte_of, token_of}
use Rattle.pmb_line.specs.NextWord.{after_word, no_word, on_byte, on_byte_or_pec, on_pec}
use Rattle.std.specs.List.{AllByRecursion}
use Rattle.pmb_line.specs.Fault.{ArePartsWithin, IsCallWithin, IsPartWithin, IsRefusedWithin}

-- a part of these
abbrev pub part_with : ℕ → ℕ → List ℕ → Bool → PartData
part_with addr code bytes pec = record { addr = addr; code = code; bytes = bytes; pec = pec }

-- The words so far. `_next` is after the keyword or a `+`, where an address comes.
pub data Partial : Type 0 where
  nothing : Partial
  write_next : List PartData → Partial
  write_code : List PartData → ℕ → Partial
  write_data : List PartData → ℕ → ℕ → List ℕ → Partial
  write_pec : List PartData → ℕ → ℕ → List ℕ → Partial
  read_next : Partial
  read_code : ℕ → Partial
  read_colon : ℕ → ℕ → Partial
  read_reply : ℕ → ℕ → List ℕ → Partial
  read_pec : ℕ → ℕ → List ℕ → Partial
  call_next : Partial
  call_code : ℕ → Partial
  call_data : ℕ → ℕ → List ℕ → Partial
  call_reply : ℕ → ℕ → List ℕ → List ℕ → Partial
  call_pec : ℕ → ℕ → List ℕ → List ℕ → Partial
  refused_next : List PartData → Partial
  refused_sent : List PartData → ℕ → List ℕ → Partial
  refused_pec : List PartData → ℕ → ℕ → List ℕ → Partial
  refused_read : List PartData → ℕ → List ℕ → Partial
  alert_next : Partial
  alert_byte : ℕ → Partial
  alert_pec : ℕ → Partial
  alert_none : Partial

-- the first word
abbrev pub on_keyword : Option Token → Option Partial
on_keyword token =
    after_word (record no_word {
      write = Some (write_next []);
      read = Some read_next;
      call = Some call_next;
      refused =
          Some (refused_next []);
      alert = Some alert_next;
    }) token

-- after a part, where there may be data more, `pec` and `+`
abbrev pub on_data : Option Token → (ℕ → Partial) → Partial → Partial → Option Partial
on_data token more pec plus = after_word
    (record no_word { byte = λ b. Some (more b); pec = Some pec; plus = Some plus }) token

-- after `pec`, where a `+` may come
abbrev pub on_plus : Option Token → Partial → Option Partial
on_plus token plus = after_word (record no_word { plus = Some plus }) token

-- where a colon may come
abbrev pub on_colon : Option Token → Partial → Option Partial
on_colon token colon = after_word (record no_word { colon = Some colon }) token

-- where bytes may come, and a colon
abbrev pub on_bytes : Option Token → (ℕ → Partial) → Partial → Option Partial
on_bytes token more colon = after_word (record no_word { byte = λ b. Some (more b); colon = Some colon }) token

-- what was sent to the address of a `refused` is a part where it has a code
abbrev pub as_part : List ℕ → (ℕ → List ℕ → Partial) → Option Partial
as_part [] part = None
as_part (code ∷ bytes) part = Some (part code bytes)

-- after what was sent
abbrev pub on_sent : Option Token → List PartData → ℕ → List ℕ → Option Partial
on_sent token ps addr sent = after_word (record no_word {
  byte = λ b. Some (refused_sent ps addr (sent ++ b ∷ []));
  read = Some (refused_read ps addr sent);
  pec = as_part sent (λ code bytes. refused_pec ps addr code bytes);
  plus = as_part sent (λ code bytes. refused_next (ps ++ part_with addr code bytes false ∷ []));
}) token

-- after `alert`
abbrev pub on_alert : Option Token → Option Partial
on_alert token = after_word (record no_word { byte = λ b. Some (alert_byte b); nobody = Some alert_none }) token

-- what one word more says, if it fits
abbrev pub step : Partial → Option Token → Option Partial
step nothing token = on_keyword token
step (write_next ps) token = on_byte token (λ b. write_code ps b)
step (write_code ps a) token = on_byte token (λ b. write_data ps a b [])
step (write_data ps a c bs) token = on_data token (λ b. write_data ps a c (bs ++ b ∷ [])) (write_pec ps a c bs)
    (write_next (ps ++ part_with a c bs false ∷ []))
step (write_pec ps a c bs) token = on_plus token (write_next (ps ++ part_with a c bs true ∷ []))
step read_next token = on_byte token (λ b. read_code b)
step (read_code a) token = on_byte token (λ b. read_colon a b)
step (read_colon a c) token = on_colon token (read_reply a c [])
step (read_reply a c bs) token = on_byte_or_pec token (λ b. read_reply a c (bs ++ b ∷ [])) (read_pec a c bs)
step (read_pec a c bs) token = None
step call_next token = on_byte token (λ b. call_code b)
step (call_code a) token = on_byte token (λ b. call_data a b [])
step (call_data a c bs) token = on_bytes token (λ b. call_data a c (bs ++ b ∷ [])) (call_reply a c bs [])
step (call_reply a c bs rs) token = on_byte_or_pec token (λ b. call_reply a c bs (rs ++ b ∷ [])) (call_pec a c bs rs)
step (call_pec a c bs rs) token = None
step (refused_next ps) token = on_byte token (λ b. refused_sent ps b [])
step (refused_sent ps a bs) token = on_sent token ps a bs
step (refused_pec ps a c bs) token = on_plus token (refused_next (ps ++ part_with a c bs true ∷ []))
step (refused_read ps a bs) token = None
step alert_next token = on_alert token
step (alert_byte b) token = on_pec token (alert_pec b)
step (alert_pec b) token = None
step alert_none token = None

-- what words more say, if they all fit
abbrev pub run : Option Partial → List (Option Token) → Option Partial
run None tokens = None
run (Some s) [] = Some s
run (Some s) (token ∷ tokens) = run (step s token) tokens

-- the transaction that they spell, if no word is missing
abbrev pub finish : Partial → Option TransactionData
finish nothing = None
finish (write_next ps) = None
finish (write_code ps a) = None
finish (write_data ps a c bs) = Some (says.Write (ps ++ part_with a c bs false ∷ []))
finish (write_pec ps a c bs) = Some (says.Write (ps ++ part_with a c bs true ∷ []))
finish read_next = None
finish (read_code a) = None
finish (read_colon a c) = None
finish (read_reply a c bs) = Some (says.Read (record { addr = a; code = c; reply = bs; pec = false }))
finish (read_pec a c bs) = Some (says.Read (record { addr = a; code = c; reply = bs; pec = true }))
finish call_next = None
finish (call_code a) = None
finish (call_data a c bs) = None
finish (call_reply a c bs rs) = Some (says.Call (record { addr = a; code = c; bytes = bs; reply = rs; pec = false }))
finish (call_pec a c bs rs) = Some (says.Call (record { addr = a; code = c; bytes = bs; reply = rs; pec = true }))
finish (refused_next ps) = None
finish (refused_sent ps a bs) = Some (says.Refused (record { parts = ps; addr = a; sent = bs; at_read = false }))
finish (refused_pec ps a c bs) = None
finish (refused_read ps a bs) = Some (says.Refused (record { parts = ps; addr = a; sent = bs; at_read = true }))
finish alert_next = None
finish (alert_byte b) = Some (says.Alert (record { byte = b; pec = false }))
finish (alert_pec b) = Some (says.Alert (record { byte = b; pec = true }))
finish alert_none = Some says.NoAlert

-- parts, and one more
pub record HasRoomForPart (most : ℕ) (ps : List PartData) (bs : List ℕ) : Type 0 where
  pub few : length ps + 1 ≤ most
  pub each : AllByRecursion IsPartWithin ps
  pub few_bytes : length bs ≤ 255

-- there is room for them
abbrev pub Room : Partial → Type 0
Room nothing = Unit {0}
Room (write_next ps) = ArePartsWithin 16 ps
Room (write_code ps a) = HasRoomForPart 16 ps []
Room (write_data ps a c bs) = HasRoomForPart 16 ps bs
Room (write_pec ps a c bs) = HasRoomForPart 16 ps bs
Room read_next = Unit {0}
Room (read_code a) = Unit {0}
Room (read_colon a c) = Unit {0}
Room (read_reply a c bs) = length bs ≤ 255
Room (read_pec a c bs) = length bs ≤ 255
Room call_next = Unit {0}
Room (call_code a) = Unit {0}
Room (call_data a c bs) = IsCallWithin bs []
Room (call_reply a c bs rs) = IsCallWithin bs rs
Room (call_pec a c bs rs) = IsCallWithin bs rs
Room (refused_next ps) = ArePartsWithin 15 ps
Room (refused_sent ps a bs) = IsRefusedWithin ps bs
Room (refused_pec ps a c bs) = HasRoomForPart 15 ps bs
Room (refused_read ps a bs) = IsRefusedWithin ps bs
Room alert_next = Unit {0}
Room (alert_byte b) = Unit {0}
Room (alert_pec b) = Unit {0}
Room alert_none = Unit {0}

-- a word as it is read: its place and what it says
abbrev pub located : Word → Located
located word = record { at = word.at; token = token_of word.text }

-- a byte that ends the word before it
abbrev pub ends_line_word : ℕ → Bool
ends_line_word b = is_blank b || is_comment b

-- the byte that a word spells
abbrev pub SpellsByte : List ℕ → Option ℕ → Type 0
SpellsByte word (Some b) = byte_of word ≡ Some (Byte b)
SpellsByte word None = byte_of word ≡ None

-- what words say
abbrev pub tokens_said : List Located → List (Option Token)
tokens_said ws = map (λ w. w.token) ws

-- Of all words, those before `left` say `s`, and there is room for it.
pub record LineStandsAt (all : List Located) (s : Partial) (left : List Located) : Type 0 where
  pub before : List Located
  pub split : all ≡ before ++ left
  pub ran : run (Some nothing) (tokens_said before) ≡ Some s
  pub room : Room s

-- ---- faults

-- a word does not fit
abbrev pub IsUnfit : List Located → ℕ → Type 0
IsUnfit all place = stop.IsUnfit (LineStandsAt all) (λ (s : Partial) (word : Located). step s word.token)
    (λ (word : Located). word.at) place

-- a word is missing at the end
abbrev pub IsShort : List Located → ℕ → ℕ → Type 0
IsShort all length place = stop.IsShort (LineStandsAt all) nothing finish length place

-- a word fits, but there is no room
abbrev pub IsFull : List Located → ℕ → Type 0
IsFull all place = stop.IsFull (LineStandsAt all) (λ (s : Partial) (word : Located). step s word.token) Room
    (λ (word : Located). word.at) place

-- what is wrong with a line of these words that ends at `length`
abbrev pub IsWordFaultOf : List Located → ℕ → WordFault → Type 0
IsWordFaultOf all length Blank = all ≡ []
IsWordFaultOf all length (BadWord place) = IsUnfit all place ⊎ IsShort all length place
IsWordFaultOf all length (TooLong place) = IsFull all place

-- The words spell a transaction.
pub record SaysTransaction (all : List Located) (t : TransactionData) : Type 0 where
  pub s : Partial
  pub stands : LineStandsAt all s []
  pub finished : finish s ≡ Some t
