-- From one place of a reader to the next: one word more, bytes, the end, and each way in which a
-- word is missing, doesn't fit or finds no room. For `take_bytes`, `read_part`, `read_leg`,
-- `read_read` and the other functions that read a piece of a line. Each gives what their contracts
-- promise (`LineStandsAt`, `IsWordFaultOf`) from one `step`.
use Rattle.std.proofs.Common.{◌≡◌, ◌≢◌, ℕ, ◌≤◌, Option, Some, None, List, [], ◌∷◌, ◌++◌, map, length, refl, sym, ap}
use Rattle.std.proofs.Common.{subst, inl, inr, ◌∙◌, append_assoc, arith, length-append}
use Rattle.std.proofs.lemmas.List.{map-append}
use Rattle.pmb_line.specs.declared.token.Token.{Token}
use Rattle.pmb_line.specs.declared.token.Token.TheVariants.{Byte, Nobody, Pec, Plus, Colon}
use Rattle.pmb_line.specs.declared.word_fault.WordFault.{WordFault}
use Rattle.pmb_line.specs.declared.word_fault.WordFault.TheVariants.{BadWord, TooLong}
use Rattle.pmb_line.specs.declared.words.Located.{Located}
use Rattle.pmb_transaction.specs.Transaction.{TransactionData}
use Rattle.pmb_line.specs.machine.Reading.{Partial, nothing, run, step, finish, Room, LineStandsAt, SaysTransaction}
use Rattle.pmb_line.specs.machine.Reading.{IsWordFaultOf, tokens_said, on_data, on_plus, on_colon, on_bytes, on_alert}
use Rattle.pmb_line.specs.NextWord.{on_byte, on_byte_or_pec, on_pec}
use Rattle.pmb_line.specs.machine.Pieces.{AddsBytes, AddsTooMany, Misses, short, other}
use Rattle.pmb_line.proofs.Partials.{append-nil}
use Rattle.pmb_line.proofs.Steps.{run-append}

-- one word more
pub next : (all : List Located) (s after : Partial) (word : Located) (left : List Located)
    → LineStandsAt all s (word ∷ left) → step s word.token ≡ Some after → Room after
    → LineStandsAt all after left
next all s after word left stands fits room = record {
  before = stands.before ++ word ∷ [];
  split = stands.split ∙ sym (append_assoc stands.before (word ∷ []) left);
  ran = ap (run (Some nothing)) (map-append (λ (w : Located). w.token) stands.before (word ∷ []))
      ∙ run-append (Some nothing) (tokens_said stands.before) (word.token ∷ [])
      ∙ ap (λ o. run o (word.token ∷ [])) stands.ran ∙ ap (λ o. run o []) fits;
  room = room;
}

-- and where what is left is told by an equation
pub next_of : (all : List Located) (s after : Partial) (word : Located) (before left : List Located)
    → LineStandsAt all s before → before ≡ word ∷ left → step s word.token ≡ Some after
    → Room after → LineStandsAt all after left
next_of all s after word before left stands same fits room =
    next all s after word left (subst (LineStandsAt all s) same stands) fits room

-- no word is left
pub at_end : (all : List Located) (s : Partial) (left : List Located) → LineStandsAt all s left → left ≡ []
    → LineStandsAt all s []
at_end all s left stands none = subst (LineStandsAt all s) none stands

pub says_so : (all : List Located) (s : Partial) (left : List Located) (t : TransactionData) → LineStandsAt all s left
    → left ≡ [] → finish s ≡ Some t → SaysTransaction all t
says_so all s left t stands none finished =
    record { s = s; stands = at_end all s left stands none; finished = finished }

-- a word that does not fit
pub unfit_word : (all : List Located) (end : ℕ) (s : Partial) (word : Located) (before left : List Located)
    (fault : WordFault) → LineStandsAt all s before → before ≡ word ∷ left
    → step s word.token ≡ None → fault ≡ BadWord word.at → IsWordFaultOf all end fault
unfit_word all end s word before left fault stands same unfit is =
    let h : IsWordFaultOf all end (BadWord word.at) =
    inl (record {
      s = s;
      word = word;
      left = left;
      stands = subst (LineStandsAt all s) same stands;
      unfit =
          unfit;
      place_is = refl;
    }) in
    subst (IsWordFaultOf all end) (sym is) h

-- a word that is missing
pub missing : (all : List Located) (end : ℕ) (s : Partial) (left : List Located) (fault : WordFault)
    → LineStandsAt all s left → left ≡ [] → nothing ≢ s → finish s ≡ None
    → fault ≡ BadWord end → IsWordFaultOf all end fault
missing all end s left fault stands none begun unfinished is =
    let h : IsWordFaultOf all end (BadWord end) =
    inr (record {
      s = s;
      stands = at_end all s left stands none;
      begun = begun;
      unfinished = unfinished;
      place_is =
          refl;
    }) in
    subst (IsWordFaultOf all end) (sym is) h

-- a word for which there is no room
pub full_word : (all : List Located) (end : ℕ) (s after : Partial) (word : Located) (before left : List Located)
    (fault : WordFault) → LineStandsAt all s before → before ≡ word ∷ left
    → step s word.token ≡ Some after → (Room after → ⊥) → fault ≡ TooLong word.at → IsWordFaultOf all end fault
full_word all end s after word before left fault stands same fits full is =
    let h : IsWordFaultOf all end (TooLong word.at) =
    record {
      s = s;
      word = word;
      left = left;
      after = after;
      stands = subst (LineStandsAt all s) same stands;
      fits =
          fits;
      full = full;
      place_is = refl;
    } in
    subst (IsWordFaultOf all end) (sym is) h

-- where something is wanted, and all else is unfit
pub misses : (all : List Located) (end : ℕ) (s : Partial) (Is : Option Token → Type 0) (left : List Located)
    (fault : WordFault) → LineStandsAt all s left
    → nothing ≢ s → finish s ≡ None → ((word : Located) (rest : List Located) → left ≡ word ∷ rest → (Is word.token → ⊥)
    → step s word.token ≡ None) → Misses Is left end fault → IsWordFaultOf all end fault
misses all end s Is left fault stands begun unfinished unfit (short none is) =
    missing all end s left fault stands none begun unfinished is
misses all end s Is left fault stands begun unfinished unfit (other word rest same is_not is) =
    unfit_word all end s word left rest fault stands same (unfit word rest same is_not) is

-- bytes, one after the other
run_front : (s : List ℕ → Partial) (takes : (bs : List ℕ) (b : ℕ)
    → step (s bs) (Some (Byte b)) ≡ Some (s (bs ++ b ∷ []))) (bs xs : List ℕ)
    → run (Some (s bs)) (map (λ b. Some (Byte b)) xs) ≡ Some (s (bs ++ xs))
run_front s takes bs [] = ap (λ ys. Some (s ys)) (sym (append-nil bs))
run_front s takes bs (x ∷ xs) =
    ap (λ o. run o (map (λ b. Some (Byte b)) xs)) (takes bs x) ∙ run_front s takes (bs ++ x ∷ []) xs
    ∙ ap (λ ys. Some (s ys)) (append_assoc bs (x ∷ []) xs)

pub bytes_on : (all : List Located) (s : List ℕ → Partial) (takes : (bs : List ℕ) (b : ℕ)
    → step (s bs) (Some (Byte b)) ≡ Some (s (bs ++ b ∷ []))) (before : List Located)
    (old new : List ℕ) (after : List Located) → LineStandsAt all (s old) before → AddsBytes before old new after
    → Room (s new) → LineStandsAt all (s new) after
bytes_on all s takes before old new after stands adds room = record {
  before = stands.before ++ adds.front;
  split = stands.split ∙ ap (λ xs. stands.before ++ xs) adds.split ∙ sym (append_assoc stands.before adds.front after);
  ran = ap (run (Some nothing)) (map-append (λ (w : Located). w.token) stands.before adds.front)
      ∙ run-append (Some nothing) (tokens_said stands.before) (tokens_said adds.front)
      ∙ ap (λ o. run o (tokens_said adds.front)) stands.ran ∙ ap (run (Some (s old))) adds.are_bytes
      ∙ run_front s takes old adds.bs
      ∙ ap (λ ys. Some (s ys)) (sym adds.added);
  room = room;
}

-- and one more, for which there is no room
pub too_many : (all : List Located) (end : ℕ) (s : List ℕ → Partial) (takes : (bs : List ℕ) (b : ℕ)
    → step (s bs) (Some (Byte b)) ≡ Some (s (bs ++ b ∷ []))) (most : ℕ)
    (before : List Located) (old new : List ℕ) (fault : WordFault) → LineStandsAt all (s old) before
    → AddsTooMany most before old new fault → (length new ≤ most → Room (s new))
    → ((bs : List ℕ) → Room (s bs) → length bs ≤ most) → IsWordFaultOf all end fault
too_many all end s takes most before old new fault stands many room few =
    let there = bytes_on all s takes before old new (many.word ∷ many.rest) stands many.adds
    (room (omega (arith, many.full))) in
    full_word all end (s new) (s (new ++ many.b ∷ [])) many.word (many.word ∷ many.rest) many.rest fault there refl
    (ap (step (s new)) many.is_byte ∙ takes new many.b)
    (λ (one_more : Room (s (new ++ many.b ∷ []))). absurd
    (omega (arith, few (new ++ many.b ∷ []) one_more, length-append new (many.b ∷ []), many.full)))
    many.fault_is

-- ---- words that do not fit

pub no_byte : (next : ℕ → Partial) (token : Option Token) → (((b : ℕ) × (token ≡ Some (Byte b))) → ⊥)
    → on_byte token next ≡ None
no_byte next (Some (Byte b)) not = absurd (not (b, refl))
no_byte next _ not = refl

pub no_data : (more : ℕ → Partial) (pec plus : Partial) (token : Option Token) → ((b : ℕ) → token ≡ Some (Byte b) → ⊥)
    → (token ≡ Some Pec → ⊥) → (token ≡ Some Plus → ⊥)
    → on_data token more pec plus ≡ None
no_data more pec plus (Some (Byte b)) not_byte not_pec not_plus = absurd (not_byte b refl)
no_data more pec plus (Some Pec) not_byte not_pec not_plus = absurd (not_pec refl)
no_data more pec plus (Some Plus) not_byte not_pec not_plus = absurd (not_plus refl)
no_data more pec plus _ not_byte not_pec not_plus = refl

pub no_plus : (plus : Partial) (token : Option Token) → (token ≡ Some Plus → ⊥) → on_plus token plus ≡ None
no_plus plus (Some Plus) not = absurd (not refl)
no_plus plus _ not = refl

pub no_colon : (colon : Partial) (token : Option Token) → (token ≡ Some Colon → ⊥) → on_colon token colon ≡ None
no_colon colon (Some Colon) not = absurd (not refl)
no_colon colon _ not = refl

pub no_bytes : (more : ℕ → Partial) (colon : Partial) (token : Option Token) → ((b : ℕ) → token ≡ Some (Byte b) → ⊥)
    → (token ≡ Some Colon → ⊥)
    → on_bytes token more colon ≡ None
no_bytes more colon (Some (Byte b)) not_byte not_colon = absurd (not_byte b refl)
no_bytes more colon (Some Colon) not_byte not_colon = absurd (not_colon refl)
no_bytes more colon _ not_byte not_colon = refl

pub no_reply : (more : ℕ → Partial) (pec : Partial) (token : Option Token) → ((b : ℕ) → token ≡ Some (Byte b) → ⊥)
    → (token ≡ Some Pec → ⊥)
    → on_byte_or_pec token more pec ≡ None
no_reply more pec (Some (Byte b)) not_byte not_pec = absurd (not_byte b refl)
no_reply more pec (Some Pec) not_byte not_pec = absurd (not_pec refl)
no_reply more pec _ not_byte not_pec = refl

pub no_alert : (token : Option Token) → ((b : ℕ) → token ≡ Some (Byte b) → ⊥) → (token ≡ Some Nobody → ⊥)
    → on_alert token ≡ None
no_alert (Some (Byte b)) not_byte not_nobody = absurd (not_byte b refl)
no_alert (Some Nobody) not_byte not_nobody = absurd (not_nobody refl)
no_alert _ not_byte not_nobody = refl

pub no_pec : (pec : Partial) (token : Option Token) → (token ≡ Some Pec → ⊥) → on_pec token pec ≡ None
no_pec pec (Some Pec) not = absurd (not refl)
no_pec pec _ not = refl

-- and where the line's end is told by an equation
pub misses_of : (all : List Located) (end end_now : ℕ) (s : Partial) (Is : Option Token → Type 0) (left : List Located)
    (fault : WordFault) → end_now ≡ end → LineStandsAt all s left
    → nothing ≢ s → finish s ≡ None → ((word : Located) (rest : List Located) → left ≡ word ∷ rest → (Is word.token → ⊥)
    → step s word.token ≡ None) → Misses Is left end_now fault → IsWordFaultOf all end fault
misses_of all end end_now s Is left fault same stands begun unfinished unfit miss =
    subst (λ n. IsWordFaultOf all n fault) same (misses all end_now s Is left fault stands begun unfinished unfit miss)

-- one byte more
pub adds_more : (before left after : List Located) (old mid new : List ℕ) (word : Located) (b : ℕ)
    → AddsBytes before old mid left → left ≡ word ∷ after → word.token ≡ Some (Byte b)
    → new ≡ mid ++ b ∷ [] → AddsBytes before old new after
adds_more before left after old mid new word b adds same is added = record {
  bs = adds.bs ++ b ∷ [];
  front = adds.front ++ word ∷ [];
  split = adds.split ∙ ap (λ xs. adds.front ++ xs) same ∙ sym (append_assoc adds.front (word ∷ []) after);
  are_bytes = map-append (λ (w : Located). w.token) adds.front (word ∷ [])
      ∙ ap (λ xs. xs ++ word.token ∷ []) adds.are_bytes
      ∙ ap (λ (t : Option Token). map (λ b. Some (Byte b)) adds.bs ++ t ∷ []) is
      ∙ sym (map-append (λ b. Some (Byte b)) adds.bs (b ∷ []));
  added = added ∙ ap (λ xs. xs ++ b ∷ []) adds.added ∙ append_assoc old adds.bs (b ∷ []);
}
