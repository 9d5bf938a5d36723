-- A line as a whole: its first word is a keyword, the rest is read from there, and what is returned
-- is what the line spells or its first fault. For `read_any` and `read_words`. A reader stands
-- before the first word at first (`begin`), and the parts of the answer are those of `ReadsLine`.
use Rattle.std.proofs.Common.{◌≡◌, ℕ, Some, None, Result, Ok, Err, List, [], ◌∷◌, map, length, refl, ap, subst, ◌∙◌}
use Rattle.std.specs.Prelude.{OnOk, IfErr}
use Rattle.pmb_transaction.specs.Transaction.{TransactionData}
use Rattle.pmb_line.specs.declared.token.Token.{Token}
use Rattle.pmb_line.specs.declared.token.Token.TheVariants.{Write, Read, Call, Refused, Alert}
use Rattle.pmb_line.specs.declared.word_fault.WordFault.{WordFault}
use Rattle.pmb_line.specs.declared.words.Located.{Located}
use Rattle.pmb_line.specs.Words.{Word, texts, line_words, without_cr}
use Rattle.pmb_line.specs.Spelling.{SpellsTransaction}
use Rattle.pmb_line.specs.Fault.{IsFault, IsWithin}
use Rattle.pmb_line.specs.machine.Reading.{Partial, LineStandsAt, Room, nothing, on_keyword, located}
use Rattle.pmb_line.specs.machine.Pieces.{ReadsLine}
use Rattle.pmb_line.proofs.Faults.{fault_of, spelling, within}
use Rattle.pmb_line.proofs.Standing.{next_of}

-- before the first word
pub begin : (all : List Located) → LineStandsAt all nothing all
begin all = record { before = []; split = refl; ran = refl; room = tt }

pub no_keyword : (token : Token) → (token ≡ Write → ⊥) → (token ≡ Read → ⊥) → (token ≡ Call → ⊥) → (token ≡ Refused → ⊥)
    → (token ≡ Alert → ⊥) → on_keyword (Some token) ≡ None
no_keyword Write w r c f a = absurd (w refl)
no_keyword Read w r c f a = absurd (r refl)
no_keyword Call w r c f a = absurd (c refl)
no_keyword Refused w r c f a = absurd (f refl)
no_keyword Alert w r c f a = absurd (a refl)
no_keyword _ w r c f a = refl

-- the first word is a keyword, and the rest is read from there
pub reads_after : (all left : List Located) (end end_now : ℕ) (word : Located) (token : Token) (s : Partial)
    (t : TransactionData) (result : Result Unit WordFault) → all ≡ word ∷ left
    → word.token ≡ Some token → on_keyword (Some token) ≡ Some s → Room s → end_now ≡ end
    → ((words : List Located) → LineStandsAt words s left → ReadsLine words end_now t result)
    → ReadsLine all end t result
reads_after all left end end_now word token s t result same is begins room ends reads =
    let there = next_of all nothing s word all left (begin all) same (ap on_keyword is ∙ begins) room in
    subst (λ n. ReadsLine all n t result) ends (reads all there)

-- what is answered to a line
-- of whose words and end something is answered
pub reads_line : (line : List ℕ) (ws : List Word) (end : ℕ) (t : TransactionData) (result : Result Unit WordFault)
    → ws ≡ line_words line → end ≡ length (without_cr line)
    → ReadsLine (map located ws) end t result
    → ReadsLine (map located (line_words line)) (length (without_cr line)) t result
reads_line line ws end t result words ends reads =
    subst (λ n. ReadsLine (map located (line_words line)) n t result) ends
    (subst (λ (xs : List Word). ReadsLine (map located xs) end t result) words reads)

pub reads_ok : (line : List ℕ) (t : TransactionData) (result : Result Unit WordFault)
    → ReadsLine (map located (line_words line)) (length (without_cr line)) t result
    → OnOk result (SpellsTransaction (texts (line_words line)) t)
reads_ok line t (Ok done) says_so = spelling line t says_so
reads_ok line t (Err fault) says_so = tt

pub reads_within : (line : List ℕ) (t : TransactionData) (result : Result Unit WordFault)
    → ReadsLine (map located (line_words line)) (length (without_cr line)) t result → OnOk result (IsWithin t)
reads_within line t (Ok done) says_so = within (map located (line_words line)) t says_so
reads_within line t (Err fault) says_so = tt

pub reads_err : (line : List ℕ) (t : TransactionData) (result : Result Unit WordFault)
    → ReadsLine (map located (line_words line)) (length (without_cr line)) t result
    → IfErr result (λ fault. IsFault line fault)
reads_err line t (Ok done) says_so = tt
reads_err line t (Err fault) is = fault_of line fault is
