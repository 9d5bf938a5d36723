-- How a reader goes on after the bytes that were sent to an address of a refused packet: by `read`,
-- by `pec` or `+` that make a part of them, or by the line's end. For `push_part`, `read_refused`
-- and `end_leg` of `src/refused.rt`. At that place (`refused_sent`) each other word doesn't fit,
-- and a part needs a code and room.
use Rattle.std.proofs.Common.{◌≡◌, ℕ, ◌≤◌, ◌+◌, Bool, true, false, Option, Some, None, Ok, List, [], ◌∷◌, ◌++◌, length}
use Rattle.std.proofs.Common.{refl, sym, ap, subst, arith}
use Rattle.pmb_transaction.specs.Transaction.{PartData, TransactionData}
use Rattle.pmb_transaction.specs.Transaction as says
use Rattle.pmb_line.specs.declared.token.Token.{Token}
use Rattle.pmb_line.specs.declared.token.Token.TheVariants.{Byte, Read, Pec, Plus}
use Rattle.pmb_line.specs.declared.word_fault.WordFault.{WordFault}
use Rattle.pmb_line.specs.declared.word_fault.WordFault.TheVariants.{TooLong}
use Rattle.pmb_line.specs.declared.words.Located.{Located}
use Rattle.pmb_line.specs.Fault.{ArePartsWithin}
use Rattle.pmb_line.specs.machine.Reading.{refused_next, refused_sent, refused_pec, refused_read, part_with, on_sent}
use Rattle.pmb_line.specs.machine.Reading.{step, LineStandsAt, IsWordFaultOf, HasRoomForPart}
use Rattle.pmb_line.specs.machine.Pieces.{NotPushed, codeless, full, Pushed, ReadsLeg, RefusesOn}
use Rattle.pmb_line.proofs.Completions.{parts_push}
use Rattle.pmb_line.proofs.Steps.{room_before}
use Rattle.pmb_line.proofs.Standing.{full_word, next_of, unfit_word}

pub no_sent : (token : Option Token) (ps : List PartData) (a : ℕ) (sent : List ℕ)
    → ((b : ℕ) → token ≡ Some (Byte b) → ⊥) → (token ≡ Some Read → ⊥) → (token ≡ Some Pec → ⊥) → (token ≡ Some Plus → ⊥)
    → on_sent token ps a sent ≡ None
no_sent (Some (Byte b)) ps a sent not_byte not_read not_pec not_plus = absurd (not_byte b refl)
no_sent (Some Read) ps a sent not_byte not_read not_pec not_plus = absurd (not_read refl)
no_sent (Some Pec) ps a sent not_byte not_read not_pec not_plus = absurd (not_pec refl)
no_sent (Some Plus) ps a sent not_byte not_read not_pec not_plus = absurd (not_plus refl)
no_sent _ ps a sent not_byte not_read not_pec not_plus = refl

-- `read`, after which no word fits
pub sent_read : (all : List Located) (ps : List PartData) (a : ℕ) (sent : List ℕ) (word : Located)
    (before left : List Located) → LineStandsAt all (refused_sent ps a sent) before
    → before ≡ word ∷ left → word.token ≡ Some Read → LineStandsAt all (refused_read ps a sent) left
sent_read all ps a sent word before left stands same is =
    next_of all (refused_sent ps a sent) (refused_read ps a sent) word before left stands same
    (ap (step (refused_sent ps a sent)) is) stands.room

-- `pec` makes a part of it, where there is a code and room
pub not_pushed_pec : (all : List Located) (end : ℕ) (ps : List PartData) (a : ℕ) (sent : List ℕ) (word : Located)
    (before left : List Located) (fault : WordFault)
    → LineStandsAt all (refused_sent ps a sent) before → before ≡ word ∷ left → word.token ≡ Some Pec
    → NotPushed ps sent word.at fault → IsWordFaultOf all end fault
not_pushed_pec all end ps a sent word before left fault stands same is (codeless none fault_is) =
    let there : LineStandsAt all (refused_sent ps a []) before =
    subst (λ bs. LineStandsAt all (refused_sent ps a bs) before) none stands in
    unfit_word all end (refused_sent ps a []) word before left fault there same (ap (step (refused_sent ps a [])) is)
    fault_is
not_pushed_pec all end ps a sent word before left fault stands same is (full code bs split no_room fault_is) =
    let there : LineStandsAt all (refused_sent ps a (code ∷ bs)) before =
    subst (λ xs. LineStandsAt all (refused_sent ps a xs) before) split stands in
    full_word all end (refused_sent ps a (code ∷ bs)) (refused_pec ps a code bs) word before left fault there same
    (ap (step (refused_sent ps a (code ∷ bs))) is)
    (λ (room : HasRoomForPart 15 ps bs). no_room room.few room.few_bytes) fault_is

-- and a `+`
pub not_pushed_plus : (all : List Located) (end : ℕ) (ps : List PartData) (a : ℕ) (sent : List ℕ) (word : Located)
    (before left : List Located) (fault : WordFault)
    → LineStandsAt all (refused_sent ps a sent) before → before ≡ word ∷ left → word.token ≡ Some Plus
    → NotPushed ps sent word.at fault → IsWordFaultOf all end fault
not_pushed_plus all end ps a sent word before left fault stands same is (codeless none fault_is) =
    let there : LineStandsAt all (refused_sent ps a []) before =
    subst (λ bs. LineStandsAt all (refused_sent ps a bs) before) none stands in
    unfit_word all end (refused_sent ps a []) word before left fault there same (ap (step (refused_sent ps a [])) is)
    fault_is
not_pushed_plus all end ps a sent word before left fault stands same is (full code bs split no_room fault_is) =
    let there : LineStandsAt all (refused_sent ps a (code ∷ bs)) before =
    subst (λ xs. LineStandsAt all (refused_sent ps a xs) before) split stands in
    full_word all end (refused_sent ps a (code ∷ bs)) (refused_next (ps ++ part_with a code bs false ∷ [])) word before
    left fault there same
    (ap (step (refused_sent ps a (code ∷ bs))) is)
    (λ (room : ArePartsWithin 15 (ps ++ part_with a code bs false ∷ [])). let for_part =
    room_before 15 ps a code bs false room in no_room for_part.few for_part.few_bytes) fault_is

-- there is room for the part
pub pushed_room : (all : List Located) (ps : List PartData) (a : ℕ) (sent : List ℕ) (pec : Bool) (after : List PartData)
    (before : List Located)
    → LineStandsAt all (refused_sent ps a sent) before → (pushed : Pushed ps a sent pec after)
    → HasRoomForPart 15 ps pushed.bs
pushed_room all ps a sent pec after before stands pushed =
    record { few = pushed.few; each = stands.room.few_parts.each; few_bytes = pushed.few_bytes }

pub pushed_pec : (all : List Located) (ps : List PartData) (a : ℕ) (sent : List ℕ) (after : List PartData)
    (word : Located) (before left : List Located)
    → LineStandsAt all (refused_sent ps a sent) before → before ≡ word ∷ left → word.token ≡ Some Pec
    → (pushed : Pushed ps a sent true after) → LineStandsAt all (refused_pec ps a pushed.code pushed.bs) left
pushed_pec all ps a sent after word before left stands same is pushed =
    let there : LineStandsAt all (refused_sent ps a (pushed.code ∷ pushed.bs)) before =
    subst (λ xs. LineStandsAt all (refused_sent ps a xs) before) pushed.split stands in
    next_of all (refused_sent ps a (pushed.code ∷ pushed.bs)) (refused_pec ps a pushed.code pushed.bs) word before left
    there same (ap (step (refused_sent ps a (pushed.code ∷ pushed.bs))) is)
    (pushed_room all ps a sent true after before stands pushed)

pub pushed_plus : (all : List Located) (ps : List PartData) (a : ℕ) (sent : List ℕ) (after : List PartData)
    (word : Located) (before left : List Located)
    → LineStandsAt all (refused_sent ps a sent) before → before ≡ word ∷ left → word.token ≡ Some Plus
    → Pushed ps a sent false after → LineStandsAt all (refused_next after) left
pushed_plus all ps a sent after word before left stands same is pushed =
    let p = part_with a pushed.code pushed.bs false in
    let there : LineStandsAt all (refused_sent ps a (pushed.code ∷ pushed.bs)) before =
    subst (λ xs. LineStandsAt all (refused_sent ps a xs) before) pushed.split stands in
    let on : LineStandsAt all (refused_next (ps ++ p ∷ [])) left =
    next_of all (refused_sent ps a (pushed.code ∷ pushed.bs)) (refused_next (ps ++ p ∷ [])) word before left there same
    (ap (step (refused_sent ps a (pushed.code ∷ pushed.bs))) is)
    (parts_push 15 ps p (pushed_room all ps a sent false after before stands pushed)) in
    subst (λ qs. LineStandsAt all (refused_next qs) left) (sym pushed.pushed) on

-- the `+` after its `pec`
pub pushed_both : (all : List Located) (ps : List PartData) (a : ℕ) (sent : List ℕ) (after : List PartData)
    (word : Located) (before mid left : List Located)
    → LineStandsAt all (refused_sent ps a sent) before → before ≡ word ∷ mid → word.token ≡ Some Pec
    → Pushed ps a sent true after
    → (at : ℕ) × (mid ≡ record { at = at; token = Some Plus } ∷ left) → LineStandsAt all (refused_next after) left
pushed_both all ps a sent after word before mid left stands same is pushed plus =
    let p = part_with a pushed.code pushed.bs true in
    let marked = pushed_pec all ps a sent after word before mid stands same is pushed in
    let on : LineStandsAt all (refused_next (ps ++ p ∷ [])) left =
    next_of all (refused_pec ps a pushed.code pushed.bs) (refused_next (ps ++ p ∷ []))
    (record { at = plus.0; token = Some Plus }) mid left marked plus.1 refl
    (parts_push 15 ps p marked.room) in
    subst (λ qs. LineStandsAt all (refused_next qs) left) (sym pushed.pushed) on

-- bytes, for which there is no room
pub no_room_for : (ps : List PartData) (sent : List ℕ) (at : ℕ) → 1 ≤ length sent
    → ((code : ℕ) (bs : List ℕ) → sent ≡ code ∷ bs → length ps + 1 ≤ 15 → length bs ≤ 255 → ⊥)
    → NotPushed ps sent at (TooLong at)
no_room_for ps [] at some no_room = absurd (omega (arith, some))
no_room_for ps (code ∷ bs) at some no_room = full code bs refl (no_room code bs refl) refl

-- a part, or what was refused
pub leg_on : (all : List Located) (end : ℕ) (ps : List PartData) (a : ℕ) (sent : List ℕ) (at_read : Bool)
    (goes_on : Bool) (left : List Located)
    → ReadsLeg all end ps a sent at_read (Ok goes_on) left
    → RefusesOn all (says.Refused (record { parts = ps; addr = a; sent = sent; at_read = at_read })) ps goes_on left
leg_on all end ps a sent at_read true left reads = reads
leg_on all end ps a sent at_read false left reads = reads
