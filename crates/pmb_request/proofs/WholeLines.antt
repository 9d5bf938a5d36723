-- What is returned for a whole line, from what is known of its words. For `parse_request`,
-- `parse_write` and the law `request_or_fault`. A request of the words is one of the line, and a
-- fault at a word is named as the line's; the first word is `write`, a verb, or a fault.
use Rattle.std.proofs.Common.{◌≡◌, ℕ, Option, Some, None, Result, Ok, Err, List, ◌∷◌, length, refl, sym, ap, subst, ◌∙◌}
use Rattle.std.specs.Prelude.{IfOk, IfErr}
use Rattle.pmb_command.specs.Parts.{DeviceParts}
use Rattle.pmb_transaction.specs.Transaction.{TransactionData}
use Rattle.pmb_note.specs.declared.context.Context.{Context}
use Rattle.pmb_note.specs.Context.{HasSeen, mode}
use Rattle.pmb_line.specs.declared.token.Token.{Token}
use Rattle.pmb_line.specs.declared.token.Token.TheVariants as said
use Rattle.pmb_line.specs.declared.word_fault.WordFault.{WordFault}
use Rattle.pmb_line.specs.declared.word_fault.WordFault.TheVariants.{Blank, BadWord, TooLong}
use Rattle.pmb_line.specs.Token.{token_of}
use Rattle.pmb_line.specs.Words.{Word, line_words, without_cr}
use Rattle.pmb_request.specs.declared.request.Request.{Request}
use Rattle.pmb_request.specs.declared.request_fault.RequestFault.{RequestFault}
use Rattle.pmb_request.specs.declared.request_fault.RequestFault.TheVariants.{Line, Quantity}
use Rattle.pmb_request.specs.declared.verb.Verb.{Verb}
use Rattle.pmb_request.specs.Request.{request_data}
use Rattle.pmb_request.specs.Fault.{IsFault}
use Rattle.pmb_request.specs.RequestFault.{IsRequestFault, SpellsRequest, of_words}
use Rattle.pmb_request.specs.machine.Reading.{nothing, at_address, begins, on_first, verb_of, StandsAt}
use Rattle.pmb_request.specs.machine.Pieces.{AsksForRequest, IsRequestFaultOf}
use Rattle.pmb_request.proofs.Faults.{asked, fault_of}
use Rattle.pmb_request.proofs.Standing.{begin, next, unfit_word}

-- a fault of the words
pub of_line : (line : List ℕ) (fault : WordFault) → IsFault line fault → IsRequestFault line (of_words fault)
of_line line Blank is = is
of_line line (BadWord at) is = is
of_line line (TooLong at) is = is

-- what stands for the words of a line stands for the line
pub spells : (mode : ℕ → Option ℕ) (line : List ℕ) (request : Request) → AsksForRequest mode (line_words line) request
    → SpellsRequest mode line (request_data request)
spells mode line request asks =
    let is = asked line asks.wording asks.asks in
    record { wording = asks.wording; spells = is.0; within = is.1; means = asks.means }

pub faulty : (line : List ℕ) (fault : RequestFault)
    → IsRequestFaultOf (line_words line) (length (without_cr line)) fault → IsRequestFault line fault
faulty line (Line fault) is = subst (λ f. IsRequestFault line (Line f)) (sym is.named)
    (of_line line is.of_words (fault_of line is.of_words is.is))
faulty line (Quantity fault) is = record {
  command = is.command;
  text = is.text;
  spells =
      (asked line _ is.asks).0;
  bad = is.bad;
}

-- and so for what is answered
pub spelled : (context : Context) (line : List ℕ) (result : Result Request RequestFault)
    → ((profile : List DeviceParts) (ts : List TransactionData) → HasSeen context profile ts
    → IfOk result (AsksForRequest (mode profile ts) (line_words line)))
    → IfOk result (λ request. (profile : List DeviceParts) (ts : List TransactionData) → HasSeen context profile ts
    → SpellsRequest (mode profile ts) line (request_data request))
spelled context line (Ok request) asks = λ (profile : List DeviceParts) (ts : List TransactionData)
    (seen : HasSeen context profile ts). spells (mode profile ts) line request (asks profile ts seen)
spelled context line (Err fault) asks = tt

pub faulted : (line : List ℕ) (end : ℕ) (result : Result Request RequestFault) → end ≡ length (without_cr line)
    → IfErr result (IsRequestFaultOf (line_words line) end)
    → IfErr result (IsRequestFault line)
faulted line end (Ok request) same is = tt
faulted line end (Err fault) same is = faulty line fault
    (subst (λ n. IsRequestFaultOf (line_words line) n fault) same is)

-- ---- the first word

-- it is no `write`
pub first_word : (token : Option Token) (word : List ℕ) → (token ≡ Some said.Write → ⊥)
    → on_first token word ≡ begins (verb_of token word)
first_word (Some said.Write) word not = absurd (not refl)
first_word _ word not = refl

pub at_verb : (all : List Word) (verb : Verb) (word : Word) (left : List Word) → all ≡ word ∷ left
    → (token_of word.text ≡ Some said.Write → ⊥)
    → verb_of (token_of word.text) word.text ≡ Some verb → StandsAt all (at_address verb) left
at_verb all verb word left same not is =
    next all nothing (at_address verb) word all left (begin all) same
    (first_word (token_of word.text) word.text not ∙ ap begins is) tt (λ e. cc e)

-- nor a verb
pub no_verb : (line : List ℕ) (word : Word) (left : List Word) → line_words line ≡ word ∷ left
    → (token_of word.text ≡ Some said.Write → ⊥)
    → verb_of (token_of word.text) word.text ≡ None → IsRequestFault line (of_words (BadWord word.at))
no_verb line word left same not none =
    of_line line (BadWord word.at) (fault_of line (BadWord word.at)
    (unfit_word (line_words line) (length (without_cr line)) nothing word (line_words line) left
    (begin (line_words line)) same (first_word (token_of word.text) word.text not ∙ ap begins none)))
