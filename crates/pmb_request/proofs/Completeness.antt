-- A reader takes each word of a request's line, and stands at its end. For the laws `one_request`,
-- `one_request_fault`, `no_request_with_a_fault` and `request_or_fault`, and for `parse_request`.
-- Word by word along the spelling of a wording: keyword, address, code, operands, and `pec` or
-- nothing.
use Rattle.std.proofs.Common.{◌≡◌, ℕ, Bool, true, false, Option, Some, List, [], ◌∷◌, ◌++◌, map, refl, sym, ap, ◌∙◌}
use Rattle.std.proofs.Common.{append_assoc}
use Rattle.pmb_line.specs.declared.token.Token.{Token}
use Rattle.pmb_line.specs.declared.token.Token.TheVariants as said
use Rattle.pmb_line.specs.Token.{token_of}
use Rattle.pmb_line.specs.Spelling.{parts}
use Rattle.pmb_request.specs.declared.verb.Verb.{Verb}
use Rattle.pmb_request.specs.declared.verb.Verb.TheVariants.{Read, Call, Set, Get}
use Rattle.pmb_request.specs.Request.{Command}
use Rattle.pmb_request.specs.Spelling.{Task, to_read, to_call, to_set, to_get, Wording, Write, Ask, token, IsWanted}
use Rattle.pmb_request.specs.Spelling.{AreWanted, keyword, operands, mark, Spells}
use Rattle.pmb_request.specs.Fault.{IsWithin}
use Rattle.pmb_line.specs.NextWord.{on_byte}
use Rattle.pmb_request.specs.machine.Reading.{Partial, nothing, writing, at_address, at_code, behind, ended}
use Rattle.pmb_request.specs.machine.Reading.{behind_code, on_first, on_more, step, run, finish, Room}
use Rattle.pmb_request.proofs.Runs.{run-writing}
use Rattle.pmb_request.proofs.Steps.{append-nil}

-- where a reader stands after the last word
abbrev pub place : Bool → ℕ → ℕ → Task → Partial
place true a c task = ended a c task
place false a c task = behind a c task

abbrev pub last_place : Wording → Partial
last_place (Write parts) = writing
last_place (Ask c task) = place c.pec c.addr c.code task

-- what a task begins with
abbrev verb : Task → Verb
verb to_read = Read
verb (to_call bytes) = Call
verb (to_set quantity) = Set
verb to_get = Get

-- the keyword
takes_keyword : (task : Task) (word : List ℕ) → IsWanted (keyword task) word
    → step nothing word ≡ Some (at_address (verb task))
takes_keyword to_read word is = ap (λ t. on_first t word) is
takes_keyword (to_call bytes) word is = ap (λ t. on_first t word) is
takes_keyword (to_set quantity) word is = ap (step nothing) is
takes_keyword to_get word is = ap (step nothing) is

-- `pec`, or nothing
takes_pec : (a c : ℕ) (task : Task) → on_more a c task (Some said.Pec) ≡ Some (ended a c task)
takes_pec a c to_read = refl
takes_pec a c (to_call bytes) = refl
takes_pec a c (to_set quantity) = refl
takes_pec a c to_get = refl

takes_mark : (a c : ℕ) (task : Task) (pec : Bool) (words : List (List ℕ)) → AreWanted (mark pec) words
    → run (Some (behind a c task)) words ≡ Some (place pec a c task)
takes_mark a c task true [] are = absurd are
takes_mark a c task true (word ∷ []) are = ap (λ t. run (on_more a c task t) []) are.0
    ∙ ap (λ o. run o []) (takes_pec a c task)
takes_mark a c task true (word ∷ more ∷ words) are = absurd are.1
takes_mark a c task false [] are = refl
takes_mark a c task false (word ∷ words) are = absurd are

-- the bytes of a call
takes_bytes : (a c : ℕ) (bytes xs : List ℕ) (pec : Bool) (words : List (List ℕ))
    → AreWanted (map (λ b. token (said.Byte b)) xs ++ mark pec) words
    → run (Some (behind a c (to_call bytes))) words ≡ Some (place pec a c (to_call (bytes ++ xs)))
takes_bytes a c bytes [] pec words are =
    takes_mark a c (to_call bytes) pec words are ∙ ap (λ ys. Some (place pec a c (to_call ys))) (sym (append-nil bytes))
takes_bytes a c bytes (x ∷ xs) pec [] are = absurd are
takes_bytes a c bytes (x ∷ xs) pec (word ∷ words) are =
    ap (λ t. run (on_more a c (to_call bytes) t) words) are.0 ∙ takes_bytes a c (bytes ++ x ∷ []) xs pec words are.1
    ∙ ap (λ ys. Some (place pec a c (to_call ys))) (append_assoc bytes (x ∷ []) xs)

-- what stands after the code
takes_operands : (a c : ℕ) (task : Task) (pec : Bool) (words : List (List ℕ))
    → AreWanted (operands task ++ mark pec) words
    → run (Some (behind_code (verb task) a c)) words ≡ Some (place pec a c task)
takes_operands a c to_read pec words are = takes_mark a c to_read pec words are
takes_operands a c (to_call bytes) pec words are = takes_bytes a c [] bytes pec words are
takes_operands a c (to_set quantity) pec [] are = absurd are
takes_operands a c (to_set quantity) pec (word ∷ words) are =
    takes_mark a c (to_set word) pec words are.1 ∙ ap (λ (w : List ℕ). Some (place pec a c (to_set w))) are.0
takes_operands a c to_get pec words are = takes_mark a c to_get pec words are

takes_all : (a c : ℕ) (task : Task) (pec : Bool) (words : List (List ℕ))
    → AreWanted (keyword task ∷ token (said.Byte a) ∷ token (said.Byte c) ∷ operands task ++ mark pec) words
    → run (Some nothing) words ≡ Some (place pec a c task)
takes_all a c task pec [] are = absurd are
takes_all a c task pec (w ∷ []) are = absurd are.1
takes_all a c task pec (w ∷ x ∷ []) are = absurd are.1.1
takes_all a c task pec (w ∷ x ∷ y ∷ words) are =
    ap (λ o. run o (x ∷ y ∷ words)) (takes_keyword task w are.0)
    ∙ ap (λ t. run (on_byte t (λ b. at_code (verb task) b)) (y ∷ words)) are.1.0
    ∙ ap (λ t. run (on_byte t (λ b. behind_code (verb task) a b)) words) are.1.1.0
    ∙ takes_operands a c task pec words are.1.1.1

-- a write
takes_write : (words : List (List ℕ)) (rest : List (Option Token)) → map token_of words ≡ Some said.Write ∷ rest
    → run (Some nothing) words ≡ Some writing
takes_write [] rest is = cc is
takes_write (word ∷ words) rest is =
    let first : token_of word ≡ Some said.Write = cc is in
    ap (λ t. run (on_first t word) words) first ∙ run-writing words

pub reached : (words : List (List ℕ)) (wording : Wording) → Spells words wording
    → run (Some nothing) words ≡ Some (last_place wording)
reached words (Write ps) spells = takes_write words (map Some (parts ps)) spells.says
reached words (Ask c task) spells = takes_all c.addr c.code task c.pec words spells

-- there is room for a wording that is not too large
place_room : (pec : Bool) (a c : ℕ) (task : Task) → Room (behind a c task) → Room (place pec a c task)
place_room true a c task room = room
place_room false a c task room = room

pub room_reached : (wording : Wording) → IsWithin wording → Room (last_place wording)
room_reached (Write parts) within = tt
room_reached (Ask c task) within = place_room c.pec c.addr c.code task within

-- no word is missing there
place_finished : (pec : Bool) (a c : ℕ) (task : Task)
    → finish (place pec a c task) ≡ Some (Ask (record { addr = a; code = c; pec = pec }) task)
place_finished true a c task = refl
place_finished false a c task = refl

pub finish_reached : (c : Command) (task : Task) → finish (last_place (Ask c task)) ≡ Some (Ask c task)
finish_reached c task = place_finished c.pec c.addr c.code task
