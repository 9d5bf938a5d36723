-- Each line spells a request, or has a first fault: the law `request_or_fault`. A reader goes
-- through the words: each leads to a next place with room, or is the fault; at the end a word is
-- missing or there is a wording. Of a quantity the text is read or not; `write` is decided below,
-- for transactions.
use Rattle.std.proofs.Common.{◌≡◌, ◌≢◌, ℕ, ◌≤◌, ◌⊎◌, Option, Some, IfSome, Result, Ok, Err, List, [], ◌∷◌, ◌++◌, length}
use Rattle.std.proofs.Common.{refl, ap, subst, inl, inr, ◌∙◌, arith}
use Rattle.std.proofs.lemmas.Bool.{cases_lt}
use Rattle.pmb_quantity.specs.Fraction.{Fraction}
use Rattle.pmb_quantity.specs.Reading.{reading}
use Rattle.pmb_quantity.specs.declared.quantity.QuantityFault.{QuantityFault}
use Rattle.pmb_line.specs.declared.token.Token.{Token}
use Rattle.pmb_line.specs.declared.token.Token.TheVariants as said
use Rattle.pmb_line.specs.declared.word_fault.WordFault.{WordFault}
use Rattle.pmb_line.specs.declared.word_fault.WordFault.TheVariants.{Blank, BadWord, TooLong}
use Rattle.pmb_line.specs.Fault as of_transaction
use Rattle.pmb_line.specs.Spelling.{SpellsTransaction}
use Rattle.pmb_line.specs.Token.{token_of}
use Rattle.pmb_line.specs.Words.{Word, line_words, texts, without_cr}
use Rattle.pmb_line.proofs.SomeReading.{spelled_or_fault}
use Rattle.pmb_request.specs.declared.request_fault.RequestFault.{RequestFault}
use Rattle.pmb_request.specs.declared.request_fault.RequestFault.TheVariants.{Quantity}
use Rattle.pmb_request.specs.declared.verb.Verb.{Verb}
use Rattle.pmb_request.specs.declared.verb.Verb.TheVariants.{Read, Call, Set, Get}
use Rattle.pmb_request.specs.Fault.{IsWithin}
use Rattle.pmb_request.specs.Request.{Command, RequestData, WriteParts, ReadBytes, CallBytes}
use Rattle.pmb_request.specs.Request as requests
use Rattle.pmb_request.specs.RequestFault.{IsRequestFault, SpellsRequest, of_words}
use Rattle.pmb_request.specs.Spelling.{Task, to_read, to_call, to_set, to_get, Wording, Write, Ask, Spells}
use Rattle.pmb_line.specs.NextWord.{on_byte, on_byte_or_pec, on_pec}
use Rattle.pmb_request.specs.machine.Reading.{AsksFor, IsFaultOf, IsWriteLine, Partial, Room, StandsAt, nothing}
use Rattle.pmb_request.specs.machine.Reading.{writing, at_address, at_code, at_quantity, behind, ended, begins}
use Rattle.pmb_request.specs.machine.Reading.{behind_code, finish, step, verb_of}
use Rattle.pmb_request.proofs.Faults.{asked, fault_of}
use Rattle.pmb_request.proofs.Runs.{cases}
use Rattle.pmb_request.proofs.Standing.{begin, full_word, next, unfit_word}
use Rattle.pmb_request.proofs.WholeLines.{at_verb, first_word, of_line}
use Rattle.pmb_request.proofs.Writes.{fault_of_write, line_begins, spells_write, write_spelled}

-- ---- places after the first word of a request that is no write

abbrev IsLater : Partial → Type 0
IsLater nothing = ⊥
IsLater writing = ⊥
IsLater (at_address verb) = Unit {0}
IsLater (at_code verb a) = Unit {0}
IsLater (at_quantity a c) = Unit {0}
IsLater (behind a c task) = Unit {0}
IsLater (ended a c task) = Unit {0}

no_write : (s : Partial) → IsLater s → s ≢ writing
no_write writing later = absurd later
no_write _ later = λ is. cc is

begun : (s : Partial) → IsLater s → nothing ≢ s
begun nothing later = absurd later
begun _ later = λ is. cc is

byte_later : (token : Option Token) (to : ℕ → Partial) → ((b : ℕ) → IsLater (to b)) → IfSome (on_byte token to) IsLater
byte_later (Some (said.Byte b)) to later = later b
byte_later _ to later = tt

pec_later : (token : Option Token) (pec : Partial) → IsLater pec → IfSome (on_pec token pec) IsLater
pec_later (Some said.Pec) pec later = later
pec_later _ pec later = tt

operand_later : (token : Option Token) (more : ℕ → Partial) (pec : Partial) → ((b : ℕ) → IsLater (more b)) → IsLater pec
    → IfSome (on_byte_or_pec token more pec) IsLater
operand_later (Some (said.Byte b)) more pec later also = later b
operand_later (Some said.Pec) more pec later also = also
operand_later _ more pec later also = tt

code_later : (verb : Verb) (a c : ℕ) → IsLater (behind_code verb a c)
code_later Read a c = tt
code_later Call a c = tt
code_later Set a c = tt
code_later Get a c = tt

step_later : (s : Partial) (word : List ℕ) → IsLater s → IfSome (step s word) IsLater
step_later nothing word later = absurd later
step_later writing word later = absurd later
step_later (at_address verb) word later = byte_later (token_of word) (λ b. at_code verb b) (λ b. tt)
step_later (at_code verb a) word later = byte_later (token_of word) (λ b. behind_code verb a b)
    (λ b. code_later verb a b)
step_later (at_quantity a c) word later = tt
step_later (behind a c to_read) word later = pec_later (token_of word) (ended a c to_read) tt
step_later (behind a c (to_call bytes)) word later =
    operand_later (token_of word) (λ b. behind a c (to_call (bytes ++ b ∷ []))) (ended a c (to_call bytes)) (λ b. tt) tt
step_later (behind a c (to_set quantity)) word later = pec_later (token_of word) (ended a c (to_set quantity)) tt
step_later (behind a c to_get) word later = pec_later (token_of word) (ended a c to_get) tt
step_later (ended a c task) word later = tt

-- ---- words

abbrev IsDecided : Type 0 → Type 0
IsDecided P = P ⊎ (P → ⊥)

task_room : (a c : ℕ) (task : Task) → IsDecided (Room (behind a c task))
task_room a c to_read = inl tt
task_room a c (to_call bytes) =
    -- 255 bytes are the most that a call sends
    elim (cases_lt 255 (length bytes)) [
      | inl many ↦ inr
          (λ (within : length bytes ≤ 255). absurd (omega (arith, many, within)))
      | inr within ↦ inl within
    ]
task_room a c (to_set quantity) = inl tt
task_room a c to_get = inl tt

room_or_not : (s : Partial) → IsDecided (Room s)
room_or_not nothing = inl tt
room_or_not writing = inl tt
room_or_not (at_address verb) = inl tt
room_or_not (at_code verb a) = inl tt
room_or_not (at_quantity a c) = inl tt
room_or_not (behind a c task) = task_room a c task
room_or_not (ended a c task) = task_room a c task

-- words ask for something, or have a first fault
abbrev IsAsked : List Word → ℕ → Type 0
IsAsked all end = ((wording : Wording) × AsksFor all wording) ⊎ ((fault : WordFault) × IsFaultOf all end fault)

at_end : (all : List Word) (end : ℕ) (s : Partial) → StandsAt all s [] → IsLater s → IsAsked all end
at_end all end s stands later =
    elim (cases (finish s)) [
      | inl unfinished ↦ inr (
        BadWord end,
        inr
            (record { s = s; stands = stands; begun = begun s later; unfinished = unfinished; place_is = refl }),
      )
      | inr finished ↦ inl (finished.0, record { s = s; stands = stands; finished = finished.1 })
    ]

reads_on : (all : List Word) (end : ℕ) (s : Partial) (left : List Word) → StandsAt all s left → IsLater s
    → IsAsked all end
reads_on all end s [] stands later = at_end all end s stands later
reads_on all end s (word ∷ left) stands later =
    elim (cases (step s word.text)) [
      | inl unfit ↦ inr (BadWord word.at, unfit_word all end s word (word ∷ left) left stands refl unfit)
      | inr found ↦
          let still : IsLater found.0 = subst (λ (o : Option Partial). IfSome o IsLater) found.1
          (step_later s word.text later) in
          elim (room_or_not found.0) [
            | inl room ↦ reads_on all end found.0 left
                (next all s found.0 word (word ∷ left) left stands refl found.1 room (no_write found.0 still)) still
            | inr full ↦ inr (
              TooLong word.at,
              full_word all end s found.0 word (word ∷ left) left stands refl found.1
                  full,
            )
          ]
    ]

reads_first : (all : List Word) (end : ℕ) (word : Word) (left : List Word) → all ≡ word ∷ left
    → (token_of word.text ≡ Some said.Write → ⊥) → IsAsked all end
reads_first all end word left same not =
    elim (cases (verb_of (token_of word.text) word.text)) [
      | inl none ↦ inr (
        BadWord word.at,
        unfit_word all end nothing word all left (begin all) same
            (first_word (token_of word.text) word.text not ∙ ap begins none),
      )
      | inr found ↦ reads_on all end (at_address found.0) left (at_verb all found.0 word left same not found.1) tt
    ]

-- ---- lines

module _ (mode : ℕ → Option ℕ) (line : List ℕ) where
  abbrev pub IsRequest : Type 0
  IsRequest = ((request : RequestData) × SpellsRequest mode line request)
      ⊎ ((fault : RequestFault) × IsRequestFault line fault)

  quantity_read : (c : Command) (text : List ℕ) (read : Result Fraction QuantityFault) → reading text ≡ read
      → Spells (texts (line_words line)) (Ask c (to_set text)) → IsRequest
  quantity_read c text (Ok q) is spells = inl (
    requests.Set c q (mode c.addr),
    record {
      wording = Ask c (to_set text);
      spells = spells;
      within = tt;
      means =
          (q, is, refl);
    },
  )
  quantity_read c text (Err fault) is spells =
      inr (Quantity fault, record { command = c; text = text; spells = spells; bad = is })

  of_wording : (wording : Wording) → Spells (texts (line_words line)) wording → IsWithin wording → IsRequest
  -- WRITE
  of_wording (Write parts) spells within =
      inl (WriteParts parts, record { wording = Write parts; spells = spells; within = within; means = refl })
  -- READ
  of_wording (Ask c to_read) spells within =
      inl (ReadBytes c, record { wording = Ask c to_read; spells = spells; within = within; means = refl })
  -- CALL
  of_wording (Ask c (to_call bytes)) spells within =
      inl (
        CallBytes c bytes,
        record {
          wording = Ask c (to_call bytes);
          spells = spells;
          within = within;
          means =
              refl;
        },
      )
  -- SET: if its quantity can be read
  of_wording (Ask c (to_set text)) spells within = quantity_read c text (reading text) refl spells
  -- GET: with the VOUT_MODE byte that its device has
  of_wording (Ask c to_get) spells within =
      inl (
        requests.Get c (mode c.addr),
        record {
          wording = Ask c to_get;
          spells = spells;
          within = within;
          means =
              refl;
        },
      )

  -- a line that begins with `write`
  write_line : IsWriteLine line → IsRequest
  write_line is =
      elim (spelled_or_fault line) [
        | inl spelled ↦
            let write = spells_write (texts (line_words line)) spelled.0 (line_begins line is) spelled.1 in
            inl (
              WriteParts write.0,
              write_spelled mode line write.0 (subst (SpellsTransaction (texts (line_words line))) write.1 spelled.1)
                  (subst of_transaction.IsWithin write.1 spelled.2),
            )
        | inr fault ↦ inr (of_words fault.0, of_line line fault.0 (fault_of_write line fault.0 is fault.1))
      ]

  -- and one that does not
  other_line : (word : Word) (left : List Word) → line_words line ≡ word ∷ left
      → (token_of word.text ≡ Some said.Write → ⊥) → IsRequest
  other_line word left same not =
      elim (reads_first (line_words line) (length (without_cr line)) word left same not) [
        | inl asks ↦ let is = asked line asks.0 asks.1 in of_wording asks.0 is.0 is.1
        | inr fault ↦ inr (of_words fault.0, of_line line fault.0 (fault_of line fault.0 fault.1))
      ]

  is_write : (token : Option Token) → (token ≡ Some said.Write) ⊎ (token ≡ Some said.Write → ⊥)
  is_write (Some said.Write) = inl refl
  is_write _ = inr (λ is. cc is)

  of_words_given : (words : List Word) → line_words line ≡ words → IsRequest
  of_words_given [] none = inr (of_words Blank, none)
  of_words_given (word ∷ left) same =
      elim (is_write (token_of word.text)) [
        | inl write ↦ write_line (record { first = word; rest = left; split = same; says = write })
        | inr not ↦ other_line word left same not
      ]

  pub request_or_fault : IsRequest
  request_or_fault = of_words_given (line_words line) refl
