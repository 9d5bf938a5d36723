-- What taking a piece of a request line leaves of its words.
use Rattle.std.specs.Prelude.{◌≡◌, ◌≢◌, ℕ, Option, Some, None, Result, Ok, Err, Bool, List, ◌∷◌}
use Rattle.std.specs.Borrow.{Bor}
use Rattle.pmb_quantity.specs.Reading.{reading}
use Rattle.pmb_quantity.specs.declared.quantity.QuantityFault.{QuantityFault}
use Rattle.pmb_line.specs.declared.line_fault.LineFault.{LineFault}
use Rattle.pmb_line.specs.declared.token.Token.{Token}
use Rattle.pmb_line.specs.declared.token.Token.TheVariants as said
use Rattle.pmb_line.specs.declared.word_fault.WordFault.{WordFault}
use Rattle.pmb_line.specs.LineFault.{word_fault}
use Rattle.pmb_line.specs.NextWord.{after_word, no_word, on_byte}
use Rattle.pmb_line.specs.Token.{token_of}
use Rattle.pmb_line.specs.Words.{Word}
use Rattle.pmb_request.specs.declared.command_words.Target.{Target}
use Rattle.pmb_request.specs.declared.request.Request.{Request}
use Rattle.pmb_request.specs.declared.request_fault.RequestFault.{RequestFault}
use Rattle.pmb_request.specs.declared.request_fault.RequestFault.TheVariants.{Line, Quantity}
use Rattle.pmb_request.specs.declared.verb.Verb.{Verb}
use Rattle.pmb_request.specs.Request.{Command, request_data}
use Rattle.pmb_request.specs.Spelling.{Task, to_read, to_call, to_set, to_get, Wording, Ask}
use Rattle.pmb_request.specs.RequestFault.{Means}
use Rattle.pmb_request.specs.machine.Reading.{Partial, nothing, writing, behind, behind_code, step, finish}
use Rattle.pmb_request.specs.machine.Reading.{command_with, Room, StandsAt, AsksFor, IsFaultOf}

-- the byte that a word says
abbrev pub said_byte : Option Token → Option ℕ
said_byte token = after_word (record no_word { byte = λ b. Some b }) token

-- A place where a byte alone may come, and words are missing.
pub record WantsByte (s : Partial) (next : ℕ → Partial) : Type 0 where
  pub steps : (word : List ℕ) → step s word ≡ on_byte (token_of word) next
  pub begun : nothing ≢ s
  pub unfinished : finish s ≡ None
  pub room : (b : ℕ) → Room (next b)
  pub no_write : (b : ℕ) → next b ≢ writing

abbrev pub TakesByte : List Word → ℕ → (ℕ → Partial) → Result ℕ WordFault → List Word → Type 0
TakesByte all length next (Ok b) after = StandsAt all (next b) after
TakesByte all length next (Err fault) after = IsFaultOf all length fault

-- the address and the code
abbrev pub TakesTarget : List Word → ℕ → Verb → Result Target WordFault → List Word → Type 0
TakesTarget all length verb (Ok target) after = StandsAt all (behind_code verb target.addr target.code) after
TakesTarget all length verb (Err fault) after = IsFaultOf all length fault

-- The next word is no byte.
abbrev pub IsNoByteNext : List Word → Type 0
IsNoByteNext left = (word : Word) (rest : List Word) (b : ℕ) → left ≡ word ∷ rest
    → token_of word.text ≡ Some (said.Byte b) → ⊥

-- all bytes of a call
abbrev pub TakesBytes : List Word → ℕ → ℕ → ℕ → Result Unit WordFault → List ℕ → List Word → Type 0
TakesBytes all length a c (Ok done) bytes after = StandsAt all (behind a c (to_call bytes)) after × IsNoByteNext after
TakesBytes all length a c (Err fault) bytes after = IsFaultOf all length fault

-- No byte more comes of a call.
abbrev pub NoMoreBytes : Task → List Word → Type 0
NoMoreBytes to_read left = Unit {0}
NoMoreBytes (to_call bytes) left = IsNoByteNext left
NoMoreBytes (to_set quantity) left = Unit {0}
NoMoreBytes to_get left = Unit {0}

-- the text of a quantity
abbrev pub TakesQuantity : List Word → ℕ → ℕ → ℕ → Result (Bor (List ℕ)) WordFault → List Word → Type 0
TakesQuantity all length a c (Ok text) after = StandsAt all (behind a c (to_set text.now)) after
TakesQuantity all length a c (Err fault) after = IsFaultOf all length fault

-- `pec` or not, and the end of the words
abbrev pub TakesEnd : List Word → ℕ → ℕ → ℕ → Task → Result Bool WordFault → Type 0
TakesEnd all length a c task (Ok pec) = AsksFor all (Ask (command_with a c pec) task)
TakesEnd all length a c task (Err fault) = IsFaultOf all length fault

-- ---- what is answered to a whole line

-- the words ask for the request
pub record AsksForRequest (mode : ℕ → Option ℕ) (all : List Word) (request : Request) : Type 0 where
  pub wording : Wording
  pub asks : AsksFor all wording
  pub means : Means mode wording (request_data request)

-- a word, or a word that is missing, is at fault
pub record IsLineFaultOf (all : List Word) (length : ℕ) (fault : LineFault) : Type 0 where
  pub of_words : WordFault
  pub is : IsFaultOf all length of_words
  pub named : fault ≡ word_fault of_words

-- the words ask for a quantity to be set, but its text is none
pub record IsQuantityFaultOf (all : List Word) (fault : QuantityFault) : Type 0 where
  pub command : Command
  pub text : List ℕ
  pub asks : AsksFor all (Ask command (to_set text))
  pub bad : reading text ≡ Err fault

abbrev pub IsRequestFaultOf : List Word → ℕ → RequestFault → Type 0
IsRequestFaultOf all length (Line fault) = IsLineFaultOf all length fault
IsRequestFaultOf all length (Quantity fault) = IsQuantityFaultOf all fault
