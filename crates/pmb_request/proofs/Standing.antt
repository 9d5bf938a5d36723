-- How the pieces of a line lead from one place of a reader to the next, or to a fault: an address,
-- a code, a byte, a quantity, `pec`, the end. For `parse_read`, `parse_call`, `parse_set`,
-- `parse_get` and the steps of `command_words.rt`. The words before were taken with room; one more
-- that fits is taken, and any other one is the first fault, at its own place.
use Rattle.std.proofs.Common.{◌≡◌, ◌≢◌, ℕ, ◌≤◌, ◌<◌, Option, Some, None, List, [], ◌∷◌, ◌++◌, length, refl, sym, ap}
use Rattle.std.proofs.Common.{subst, inl, inr, ◌∙◌, append_assoc, arith, length-append}
use Rattle.std.proofs.lemmas.List.{map-append}
use Rattle.pmb_line.specs.declared.token.Token.{Token}
use Rattle.pmb_line.specs.declared.token.Token.TheVariants as said
use Rattle.pmb_line.specs.declared.word_fault.WordFault.{WordFault}
use Rattle.pmb_line.specs.declared.word_fault.WordFault.TheVariants.{BadWord, TooLong}
use Rattle.pmb_line.specs.LineFault.{word_fault}
use Rattle.pmb_line.specs.Token.{token_of}
use Rattle.pmb_line.specs.Words.{Word, texts}
use Rattle.pmb_request.specs.declared.verb.Verb.{Verb}
use Rattle.pmb_request.specs.declared.verb.Verb.TheVariants.{Read, Call, Set, Get}
use Rattle.pmb_request.specs.Spelling.{Task, to_read, to_call, to_set, to_get, Wording}
use Rattle.pmb_line.specs.NextWord.{on_byte, on_byte_or_pec, on_pec}
use Rattle.pmb_request.specs.machine.Reading.{Partial, nothing, writing, at_address, at_code, behind, behind_code}
use Rattle.pmb_request.specs.machine.Reading.{ended, on_more, step, run, finish, Room, StandsAt, AsksFor, IsFaultOf}
use Rattle.pmb_request.specs.machine.Pieces.{IsLineFaultOf, NoMoreBytes, WantsByte, said_byte}
use Rattle.pmb_request.proofs.Runs.{run-next}

-- before the first word
pub begin : (all : List Word) → StandsAt all nothing all
begin all = record { before = []; split = refl; ran = refl; room = tt; no_write = λ same. cc same }

-- one word more
pub next : (all : List Word) (s after : Partial) (word : Word) (before left : List Word) → StandsAt all s before
    → before ≡ word ∷ left → step s word.text ≡ Some after → Room after
    → after ≢ writing → StandsAt all after left
next all s after word before left stands same fits room other = record {
  before = stands.before ++ word ∷ [];
  split = stands.split ∙ ap (λ ws. stands.before ++ ws) same ∙ sym (append_assoc stands.before (word ∷ []) left);
  ran = ap (run (Some nothing)) (map-append (λ (w : Word). w.text) stands.before (word ∷ []))
      ∙ run-next (texts stands.before) word.text s after stands.ran fits;
  room = room;
  no_write = other;
}

-- no word is left
pub at_end : (all : List Word) (s : Partial) (left : List Word) → StandsAt all s left → left ≡ [] → StandsAt all s []
at_end all s left stands none = subst (StandsAt all s) none stands

pub asks : (all : List Word) (s : Partial) (left : List Word) (wording : Wording) → StandsAt all s left → left ≡ []
    → finish s ≡ Some wording → AsksFor all wording
asks all s left wording stands none finished =
    record { s = s; stands = at_end all s left stands none; finished = finished }

-- a word that does not fit
pub unfit_word : (all : List Word) (end : ℕ) (s : Partial) (word : Word) (before left : List Word)
    → StandsAt all s before → before ≡ word ∷ left → step s word.text ≡ None
    → IsFaultOf all end (BadWord word.at)
unfit_word all end s word before left stands same unfit =
    inl (record {
      s = s;
      word = word;
      left = left;
      stands = subst (StandsAt all s) same stands;
      unfit =
          unfit;
      place_is = refl;
    })

-- a word that is missing
pub missing : (all : List Word) (end : ℕ) (s : Partial) (left : List Word) → StandsAt all s left → left ≡ []
    → nothing ≢ s → finish s ≡ None → IsFaultOf all end (BadWord end)
missing all end s left stands none begun unfinished =
    inr (record {
      s = s;
      stands = at_end all s left stands none;
      begun = begun;
      unfinished = unfinished;
      place_is =
          refl;
    })

-- a word for which there is no room
pub full_word : (all : List Word) (end : ℕ) (s after : Partial) (word : Word) (before left : List Word)
    → StandsAt all s before → before ≡ word ∷ left → step s word.text ≡ Some after
    → (Room after → ⊥) → IsFaultOf all end (TooLong word.at)
full_word all end s after word before left stands same fits no_room =
    record {
      s = s;
      word = word;
      left = left;
      after = after;
      stands = subst (StandsAt all s) same stands;
      fits =
          fits;
      full = no_room;
      place_is = refl;
    }

-- ---- what a word says

pub byte_said : (token : Option Token) (b : ℕ) → said_byte token ≡ Some b → token ≡ Some (said.Byte b)
byte_said (Some (said.Byte x)) b is =
    let same : x ≡ b = cc is in
    ap (λ y. Some (said.Byte y)) same
byte_said _ b is = cc is

pub no_byte_said : (token : Option Token) → said_byte token ≡ None → (b : ℕ) → token ≡ Some (said.Byte b) → ⊥
no_byte_said token none b is =
    let said_so : said_byte token ≡ Some b = ap said_byte is in
    cc (none, said_so)

-- ---- words that do not fit

pub no_byte : (next : ℕ → Partial) (token : Option Token) → ((b : ℕ) → token ≡ Some (said.Byte b) → ⊥)
    → on_byte token next ≡ None
no_byte next (Some (said.Byte b)) not = absurd (not b refl)
no_byte next _ not = refl

pub no_pec : (pec : Partial) (token : Option Token) → (token ≡ Some said.Pec → ⊥) → on_pec token pec ≡ None
no_pec pec (Some said.Pec) not = absurd (not refl)
no_pec pec _ not = refl

pub no_operand : (more : ℕ → Partial) (pec : Partial) (token : Option Token)
    → ((b : ℕ) → token ≡ Some (said.Byte b) → ⊥) → (token ≡ Some said.Pec → ⊥) → on_byte_or_pec token more pec ≡ None
no_operand more pec (Some (said.Byte b)) not_byte not_pec = absurd (not_byte b refl)
no_operand more pec (Some said.Pec) not_byte not_pec = absurd (not_pec refl)
no_operand more pec _ not_byte not_pec = refl

-- neither a byte nor `pec`, at the end of a request
pub no_more : (a c : ℕ) (task : Task) (word : Word) (left rest : List Word) → left ≡ word ∷ rest → NoMoreBytes task left
    → (token_of word.text ≡ Some said.Pec → ⊥)
    → on_more a c task (token_of word.text) ≡ None
no_more a c to_read word left rest same none not = no_pec (ended a c to_read) (token_of word.text) not
no_more a c (to_call bytes) word left rest same none not =
    no_operand (λ b. behind a c (to_call (bytes ++ b ∷ []))) (ended a c (to_call bytes)) (token_of word.text)
    (λ b is. none word rest b same is) not
no_more a c (to_set quantity) word left rest same none not = no_pec (ended a c (to_set quantity))
    (token_of word.text) not
no_more a c to_get word left rest same none not = no_pec (ended a c to_get) (token_of word.text) not

-- ---- the pieces

-- an address, and a code
pub wants_address : (verb : Verb) → WantsByte (at_address verb) (λ b. at_code verb b)
wants_address verb = record {
  steps = λ word. refl;
  begun = λ e. cc e;
  unfinished = refl;
  room = λ b. tt;
  no_write =
      λ b e. cc e;
}

code_room : (verb : Verb) (a c : ℕ) → Room (behind_code verb a c)
code_room Read a c = tt
code_room Call a c = omega arith
code_room Set a c = tt
code_room Get a c = tt

code_no_write : (verb : Verb) (a c : ℕ) → behind_code verb a c ≢ writing
code_no_write Read a c same = cc same
code_no_write Call a c same = cc same
code_no_write Set a c same = cc same
code_no_write Get a c same = cc same

pub wants_code : (verb : Verb) (a : ℕ) → WantsByte (at_code verb a) (λ b. behind_code verb a b)
wants_code verb a = record {
  steps = λ word. refl;
  begun = λ e. cc e;
  unfinished = refl;
  room =
      λ b. code_room verb a b;
  no_write = λ b. code_no_write verb a b;
}

-- a byte that is wanted
pub byte_on : (all : List Word) (s : Partial) (to : ℕ → Partial) (b : ℕ) (word : Word) (before left : List Word)
    → WantsByte s to → StandsAt all s before → before ≡ word ∷ left
    → said_byte (token_of word.text) ≡ Some b → StandsAt all (to b) left
byte_on all s to b word before left wants stands same is =
    next all s (to b) word before left stands same
    (wants.steps word.text ∙ ap (λ t. on_byte t to) (byte_said (token_of word.text) b is)) (wants.room b)
    (wants.no_write b)

pub byte_unfit : (all : List Word) (end : ℕ) (s : Partial) (to : ℕ → Partial) (word : Word) (before left : List Word)
    → WantsByte s to → StandsAt all s before → before ≡ word ∷ left
    → said_byte (token_of word.text) ≡ None → IsFaultOf all end (BadWord word.at)
byte_unfit all end s to word before left wants stands same none =
    unfit_word all end s word before left stands same
    (wants.steps word.text ∙ no_byte to (token_of word.text) (no_byte_said (token_of word.text) none))

-- a byte more of a call
pub call_on : (all : List Word) (a c : ℕ) (bytes new : List ℕ) (b : ℕ) (word : Word) (before left : List Word)
    → StandsAt all (behind a c (to_call bytes)) before → before ≡ word ∷ left
    -- 255 bytes are the most that a call sends
    → said_byte (token_of word.text) ≡ Some b → length bytes < 255 → new ≡ bytes ++ b ∷ []
    → StandsAt all (behind a c (to_call new)) left
call_on all a c bytes new b word before left stands same is few added =
    let room : length (bytes ++ b ∷ []) ≤ 255 = omega (arith, length-append bytes (b ∷ []), few) in
    let more : ℕ → Partial = λ x. behind a c (to_call (bytes ++ x ∷ [])) in
    let there : StandsAt all (behind a c (to_call (bytes ++ b ∷ []))) left =
    next all (behind a c (to_call bytes)) (behind a c (to_call (bytes ++ b ∷ []))) word before left stands same
    (ap (λ t. on_byte_or_pec t more (ended a c (to_call bytes))) (byte_said (token_of word.text) b is)) room
    (λ e. cc e) in
    subst (λ bs. StandsAt all (behind a c (to_call bs)) left) (sym added) there

-- and one for which there is no room
pub call_full : (all : List Word) (end : ℕ) (a c : ℕ) (bytes : List ℕ) (b : ℕ) (word : Word) (before left : List Word)
    → StandsAt all (behind a c (to_call bytes)) before
    → before ≡ word ∷ left → said_byte (token_of word.text) ≡ Some b → length bytes ≡ 255
    → IsFaultOf all end (TooLong word.at)
call_full all end a c bytes b word before left stands same is long =
    let more : ℕ → Partial = λ x. behind a c (to_call (bytes ++ x ∷ [])) in
    full_word all end (behind a c (to_call bytes)) (behind a c (to_call (bytes ++ b ∷ []))) word before left stands same
    (ap (λ t. on_byte_or_pec t more (ended a c (to_call bytes))) (byte_said (token_of word.text) b is))
    (λ (room : length (bytes ++ b ∷ []) ≤ 255). absurd (omega (arith, length-append bytes (b ∷ []), long, room)))

-- `pec` at the end of a request
pec_step : (a c : ℕ) (task : Task) → on_more a c task (Some said.Pec) ≡ Some (ended a c task)
pec_step a c to_read = refl
pec_step a c (to_call bytes) = refl
pec_step a c (to_set quantity) = refl
pec_step a c to_get = refl

pub pec_on : (all : List Word) (a c : ℕ) (task : Task) (word : Word) (before left : List Word)
    → StandsAt all (behind a c task) before → before ≡ word ∷ left
    → token_of word.text ≡ Some said.Pec → StandsAt all (ended a c task) left
pec_on all a c task word before left stands same is =
    next all (behind a c task) (ended a c task) word before left stands same
    (ap (on_more a c task) is ∙ pec_step a c task) stands.room (λ e. cc e)

-- before the bytes of a call, in an empty list
pub no_bytes_yet : (all : List Word) (a c : ℕ) (bytes : List ℕ) (left : List Word)
    → StandsAt all (behind a c (to_call [])) left → bytes ≡ [] → StandsAt all (behind a c (to_call bytes)) left
no_bytes_yet all a c bytes left stands none = subst (λ bs. StandsAt all (behind a c (to_call bs)) left)
    (sym none) stands

-- a fault of the words is one of the line, which ends there
pub of_the_line : (all : List Word) (end now : ℕ) (fault : WordFault) → now ≡ end → IsFaultOf all now fault
    → IsLineFaultOf all end (word_fault fault)
of_the_line all end now fault same is = record {
  of_words = fault;
  is =
      subst (λ n. IsFaultOf all n fault) same is;
  named = refl;
}
