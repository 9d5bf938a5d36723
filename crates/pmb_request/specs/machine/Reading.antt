-- Where a reader of a request line stands between two words: what the words so far ask for.
use Rattle.std.specs.Prelude.{◌≡◌, ◌≢◌, ℕ, ◌⊎◌, Bool, true, false, Option, Some, None, if◌then◌else◌, List, [], ◌∷◌}
use Rattle.std.specs.Prelude.{◌++◌, length, codes}
use Rattle.std.specs.Str.{bytes_eq}
use Rattle.pmb_line.specs.declared.token.Token.{Token}
use Rattle.pmb_line.specs.declared.token.Token.TheVariants as said
use Rattle.pmb_line.specs.declared.word_fault.WordFault.{WordFault}
use Rattle.pmb_line.specs.declared.word_fault.WordFault.TheVariants.{Blank, BadWord, TooLong}
use Rattle.pmb_line.specs.NextWord.{after_word, any_word, on_byte, on_byte_or_pec, on_pec}
use Rattle.pmb_line.specs.Token.{token_of}
use Rattle.pmb_line.specs.machine.Stop as stop
use Rattle.pmb_line.specs.Words.{Word, texts, line_words}
use Rattle.pmb_request.specs.declared.verb.Verb.{Verb}
use Rattle.pmb_request.specs.declared.verb.Verb.TheVariants.{Read, Call, Set, Get}
use Rattle.pmb_request.specs.Request.{Command}
use Rattle.pmb_request.specs.Spelling.{Task, to_read, to_call, to_set, to_get, Wording, Ask}
use Rattle.pmb_request.specs.Fault.{IsTaskWithin}

-- a command with or without a packet error code
abbrev pub command_with : ℕ → ℕ → Bool → Command
command_with addr code pec = record { addr = addr; code = code; pec = pec }

-- The words so far. After `write` the line is read as that of a transaction.
pub data Partial : Type 0 where
  nothing : Partial
  writing : Partial
  at_address : Verb → Partial
  at_code : Verb → ℕ → Partial
  at_quantity : ℕ → ℕ → Partial
  behind : ℕ → ℕ → Task → Partial
  ended : ℕ → ℕ → Task → Partial

-- ---- one word more

-- `set` or `get`
abbrev pub on_verb : List ℕ → Option Verb
on_verb word =
    if bytes_eq word (codes "set") then Some Set
    else if bytes_eq word (codes "get") then Some Get
    else None

-- what the first word asks for, if it is none of a write
abbrev pub verb_of : Option Token → List ℕ → Option Verb
verb_of token word = after_word (record (any_word (on_verb word)) { read = Some Read; call = Some Call }) token

abbrev pub begins : Option Verb → Option Partial
begins (Some verb) = Some (at_address verb)
begins None = None

-- the first word
abbrev pub on_first : Option Token → List ℕ → Option Partial
on_first token word = after_word (record (any_word (begins (verb_of token word))) { write = Some writing }) token

-- after the code
abbrev pub behind_code : Verb → ℕ → ℕ → Partial
behind_code Read a c = behind a c to_read
behind_code Call a c = behind a c (to_call [])
behind_code Set a c = at_quantity a c
behind_code Get a c = behind a c to_get

-- and what was asked for so far
abbrev pub on_more : ℕ → ℕ → Task → Option Token → Option Partial
on_more a c (to_call bytes) token = on_byte_or_pec token (λ b. behind a c (to_call (bytes ++ b ∷ [])))
    (ended a c (to_call bytes))
on_more a c to_read token = on_pec token (ended a c to_read)
on_more a c (to_set quantity) token = on_pec token (ended a c (to_set quantity))
on_more a c to_get token = on_pec token (ended a c to_get)

-- what one word more asks for, if it fits
abbrev pub step : Partial → List ℕ → Option Partial
step nothing word = on_first (token_of word) word
step writing word = Some writing
step (at_address verb) word = on_byte (token_of word) (λ b. at_code verb b)
step (at_code verb a) word = on_byte (token_of word) (λ b. behind_code verb a b)
step (at_quantity a c) word = Some (behind a c (to_set word))
step (behind a c task) word = on_more a c task (token_of word)
step (ended a c task) word = None

-- what words more ask for, if they all fit
abbrev pub run : Option Partial → List (List ℕ) → Option Partial
run None words = None
run (Some s) [] = Some s
run (Some s) (word ∷ words) = run (step s word) words

-- what they ask for, if no word is missing
abbrev pub finish : Partial → Option Wording
finish nothing = None
finish writing = None
finish (at_address verb) = None
finish (at_code verb a) = None
finish (at_quantity a c) = None
finish (behind a c task) = Some (Ask (command_with a c false) task)
finish (ended a c task) = Some (Ask (command_with a c true) task)

-- there is room for them
abbrev pub Room : Partial → Type 0
Room nothing = Unit {0}
Room writing = Unit {0}
Room (at_address verb) = Unit {0}
Room (at_code verb a) = Unit {0}
Room (at_quantity a c) = Unit {0}
Room (behind a c task) = IsTaskWithin task
Room (ended a c task) = IsTaskWithin task

-- ---- where a reader stands

-- Of all words, those before `left` ask for `s`, and there is room for it.
pub record StandsAt (all : List Word) (s : Partial) (left : List Word) : Type 0 where
  pub before : List Word
  pub split : all ≡ before ++ left
  pub ran : run (Some nothing) (texts before) ≡ Some s
  pub room : Room s
  pub no_write : s ≢ writing

-- all words are taken, and ask for it
pub record AsksFor (all : List Word) (wording : Wording) : Type 0 where
  pub s : Partial
  pub stands : StandsAt all s []
  pub finished : finish s ≡ Some wording

-- a line whose first word is `write`
pub record IsWriteLine (line : List ℕ) : Type 0 where
  pub first : Word
  pub rest : List Word
  pub split : line_words line ≡ first ∷ rest
  pub says : token_of first.text ≡ Some said.Write

-- ---- faults

-- a word does not fit
abbrev pub IsUnfit : List Word → ℕ → Type 0
IsUnfit all place = stop.IsUnfit (StandsAt all) (λ (s : Partial) (word : Word). step s word.text)
    (λ (word : Word). word.at) place

-- a word is missing at the end
abbrev pub IsShort : List Word → ℕ → ℕ → Type 0
IsShort all length place = stop.IsShort (StandsAt all) nothing finish length place

-- a word fits, but there is no room
abbrev pub IsFull : List Word → ℕ → Type 0
IsFull all place = stop.IsFull (StandsAt all) (λ (s : Partial) (word : Word). step s word.text) Room
    (λ (word : Word). word.at) place

-- what is wrong with a line of these words that ends at `length`
abbrev pub IsFaultOf : List Word → ℕ → WordFault → Type 0
IsFaultOf all length Blank = all ≡ []
IsFaultOf all length (BadWord place) = IsUnfit all place ⊎ IsShort all length place
IsFaultOf all length (TooLong place) = IsFull all place
