-- How each kind of line ends: the end of the words, or a `pec` that may be left out, and for a part
-- of a write a `+` or the end. For `read_data`, `read_reply` and `alert_into`. What a look at the
-- next words returns is matched with the reader's place, so that a word that comes too late doesn't
-- fit there.
use Rattle.std.proofs.Common.{◌≡◌, ℕ, Bool, true, false, Option, Some, None, Result, Ok, Err, List, [], ◌∷◌, ◌++◌, refl}
use Rattle.std.proofs.Common.{subst, ◌∙◌}
use Rattle.pmb_transaction.specs.Transaction.{PartData, TransactionData}
use Rattle.pmb_transaction.specs.Transaction as says
use Rattle.pmb_line.specs.declared.token.Token.{Token}
use Rattle.pmb_line.specs.declared.token.Token.TheVariants.{Pec, Plus}
use Rattle.pmb_line.specs.declared.word_fault.WordFault.{WordFault}
use Rattle.pmb_line.specs.declared.words.Located.{Located}
use Rattle.pmb_line.specs.machine.Reading.{Partial, write_next, write_data, write_pec, part_with, step, finish, Room}
use Rattle.pmb_line.specs.machine.Reading.{LineStandsAt}
use Rattle.pmb_line.specs.machine.Pieces.{IsNoByteNext, ReadsLine, ReadsPart, TakesEnd, TakesIf, TakesPlus}
use Rattle.pmb_line.proofs.Completions.{parts_push}
use Rattle.pmb_line.proofs.Standing.{next_of, says_so, unfit_word, no_data, no_plus}

-- the end of the words
pub ends : (all : List Located) (end : ℕ) (s : Partial) (t : TransactionData) (left : List Located)
    (result : Result Unit WordFault) → LineStandsAt all s left → finish s ≡ Some t
    → ((word : Located) (rest : List Located) → left ≡ word ∷ rest → step s word.token ≡ None) → TakesEnd left result
    → ReadsLine all end t result
ends all end s t left (Ok done) stands finished unfit none = says_so all s left t stands none finished
ends all end s t left (Err fault) stands finished unfit other =
    unfit_word all end s other.0 left other.1 fault stands other.2 (unfit other.0 other.1 other.2) other.3

-- a mark that may be left out, and the end of the words
pub tail : (all : List Located) (end : ℕ) (token : Token) (s marked : Partial) (t : Bool → TransactionData)
    (left after : List Located) (is_there : Bool) (result : Result Unit WordFault)
    → LineStandsAt all s left → step s (Some token) ≡ Some marked → (Room s → Room marked) → finish s ≡ Some (t false)
    → finish marked ≡ Some (t true)
    → ((word : Located) (rest : List Located) → left ≡ word ∷ rest → (word.token ≡ Some token → ⊥)
    → step s word.token ≡ None)
    → ((word : Option Token) → step marked word ≡ None)
    → TakesIf token left is_there after → TakesEnd after result → ReadsLine all end (t is_there) result
tail all end token s marked t left after true result stands takes room finished finished_marked unfit no_more there
    last =
    let stands_marked = next_of all s marked (record { at = there.0; token = Some token }) left after stands there.1
    takes (room stands.room) in
    ends all end marked (t true) after result stands_marked finished_marked (λ word rest same. no_more word.token) last
tail all end token s marked t left after false result stands takes room finished finished_marked unfit no_more there
    last =
    ends all end s (t false) after result (subst (LineStandsAt all s) there.0 stands) finished
    (λ word rest same. unfit word rest (there.0 ∙ same) (λ is. there.1 word rest same is)) last

-- ---- a part of a write

-- after the `pec` of a part, or where it is left out
plus_after : (all : List Located) (end : ℕ) (s : Partial) (ps : List PartData) (before after : List Located)
    (result : Result Bool WordFault) → LineStandsAt all s before
    → finish s ≡ Some (says.Write ps) → step s (Some Plus) ≡ Some (write_next ps) → Room (write_next ps)
    → ((word : Located) (rest : List Located) → before ≡ word ∷ rest → (word.token ≡ Some Plus → ⊥)
    → step s word.token ≡ None)
    → TakesPlus before result after → ReadsPart all end ps result after
plus_after all end s ps before after (Ok true) stands finished takes room unfit there =
    next_of all s (write_next ps) (record { at = there.0; token = Some Plus }) before after stands there.1 takes room
plus_after all end s ps before after (Ok false) stands finished takes room unfit none =
    says_so all s before (says.Write ps) stands none.0 finished
plus_after all end s ps before after (Err fault) stands finished takes room unfit other =
    unfit_word all end s other.0 before other.1 fault stands other.2 (unfit other.0 other.1 other.2 other.3) other.4

-- the end of a part
pub part_end : (all : List Located) (end : ℕ) (ps : List PartData) (a c : ℕ) (bs : List ℕ) (pec : Bool)
    (before mid after : List Located) (result : Result Bool WordFault)
    → LineStandsAt all (write_data ps a c bs) before → IsNoByteNext before → TakesIf Pec before pec mid
    → TakesPlus mid result after
    → ReadsPart all end (ps ++ part_with a c bs pec ∷ []) result after
part_end all end ps a c bs true before mid after result stands no_byte there last =
    let marked = next_of all (write_data ps a c bs) (write_pec ps a c bs) (record { at = there.0; token = Some Pec })
    before mid stands there.1 refl stands.room in
    plus_after all end (write_pec ps a c bs) (ps ++ part_with a c bs true ∷ []) mid after result marked refl refl
    (parts_push 16 ps (part_with a c bs true) stands.room)
    (λ word rest same not. no_plus _ word.token not) last
part_end all end ps a c bs false before mid after result stands no_byte there last =
    plus_after all end (write_data ps a c bs) (ps ++ part_with a c bs false ∷ []) mid after result
    (subst (LineStandsAt all (write_data ps a c bs)) there.0 stands) refl refl
    (parts_push 16 ps (part_with a c bs false) stands.room)
    (λ word rest same not. no_data _ _ _ word.token (λ b is. no_byte word rest b (there.0 ∙ same) is)
    (λ is. there.1 word rest same is) not) last
