-- What words ask for, taken one after the other by a reader that stands at a place of a line
-- (`Partial`). For `parse_request`, `parse_write` and the steps of `command_words.rt`. Words one
-- after the other lead where the second ones lead from where the first ones led; where there is
-- room after a word, there was room before it.
use Rattle.std.proofs.Common.{◌≡◌, ℕ, ◌≤◌, Option, Some, None, List, [], ◌∷◌, ◌++◌, length, refl, sym, ap, subst, inl}
use Rattle.std.proofs.Common.{inr, ◌⊎◌, ◌∙◌, append_assoc, arith, length-append}
use Rattle.pmb_line.specs.declared.token.Token.{Token}
use Rattle.pmb_line.specs.declared.token.Token.TheVariants as said
use Rattle.pmb_line.specs.Token.{token_of}
use Rattle.pmb_request.specs.Spelling.{to_read, to_call, to_set, to_get}
use Rattle.pmb_line.specs.NextWord.{on_byte, on_byte_or_pec}
use Rattle.pmb_request.specs.machine.Reading.{Partial, nothing, writing, at_address, at_code, at_quantity, behind}
use Rattle.pmb_request.specs.machine.Reading.{ended, step, run, Room}

pub run-append : (o : Option Partial) (xs ys : List (List ℕ)) → run o (xs ++ ys) ≡ run (run o xs) ys
run-append None xs ys = refl
run-append (Some s) [] ys = refl
run-append (Some s) (x ∷ xs) ys = run-append (step s x) xs ys

pub run-none : (words : List (List ℕ)) (s : Partial) → run None words ≡ Some s → ⊥
run-none words s is = cc is

-- an answer is some or none
pub cases : {A : Type 0} (o : Option A) → (o ≡ None) ⊎ ((x : A) × (o ≡ Some x))
cases None = inl refl
cases (Some x) = inr (x, refl)

-- after `write` all words are taken
pub run-writing : (words : List (List ℕ)) → run (Some writing) words ≡ Some writing
run-writing [] = refl
run-writing (word ∷ words) = run-writing words

-- words more, after words that are taken
pub run-behind : (front more : List (List ℕ)) (s at : Partial) → run (Some nothing) front ≡ Some s
    → run (Some nothing) (front ++ more) ≡ Some at → run (Some s) more ≡ Some at
run-behind front more s at is whole = ap (λ o. run o more) (sym is) ∙ sym (run-append (Some nothing) front more) ∙ whole

-- one word more, and what comes after it
pub run-one : (front : List (List ℕ)) (word : List ℕ) (more : List (List ℕ)) (s at : Partial)
    → run (Some nothing) front ≡ Some s
    → run (Some nothing) ((front ++ word ∷ []) ++ more) ≡ Some at → run (step s word) more ≡ Some at
run-one front word more s at is whole =
    run-behind front (word ∷ more) s at is (ap (run (Some nothing)) (sym (append_assoc front (word ∷ []) more)) ∙ whole)

-- a word more is taken
pub run-next : (front : List (List ℕ)) (word : List ℕ) (s after : Partial) → run (Some nothing) front ≡ Some s
    → step s word ≡ Some after → run (Some nothing) (front ++ word ∷ []) ≡ Some after
run-next front word s after is fits = run-append (Some nothing) front (word ∷ []) ∙ ap (λ o. run o (word ∷ [])) is
    ∙ ap (λ o. run o []) fits

-- ---- room: where there is room after a word, there was room before it

byte_room : (token : Option Token) (next : ℕ → Partial) (s after : Partial) → ((b : ℕ) → Room (next b) → Room s)
    → on_byte token next ≡ Some after → Room after → Room s
byte_room (Some (said.Byte b)) next s after had is room =
    let same : next b ≡ after = cc is in
    had b (subst Room (sym same) room)
byte_room _ next s after had is room = cc is

-- 255 bytes are the most that a call sends
fewer : (bytes : List ℕ) (b : ℕ) → length (bytes ++ b ∷ []) ≤ 255 → length bytes ≤ 255
fewer bytes b few = omega (arith, length-append bytes (b ∷ []))

operand_room : (token : Option Token) (a c : ℕ) (bytes : List ℕ) (after : Partial)
    → on_byte_or_pec token (λ b. behind a c (to_call (bytes ++ b ∷ []))) (ended a c (to_call bytes)) ≡ Some after
    → Room after → Room (behind a c (to_call bytes))
operand_room (Some (said.Byte b)) a c bytes after is room =
    let same : behind a c (to_call (bytes ++ b ∷ [])) ≡ after = cc is in
    fewer bytes b (subst Room (sym same) room)
operand_room (Some said.Pec) a c bytes after is room =
    let same : ended a c (to_call bytes) ≡ after = cc is in
    subst Room (sym same) room
operand_room _ a c bytes after is room = cc is

pub room_before : (s : Partial) (word : List ℕ) (after : Partial) → step s word ≡ Some after → Room after → Room s
room_before nothing word after is room = tt
room_before writing word after is room = tt
room_before (at_address verb) word after is room = tt
room_before (at_code verb a) word after is room = tt
room_before (at_quantity a c) word after is room = tt
room_before (behind a c to_read) word after is room = tt
room_before (behind a c (to_call bytes)) word after is room = operand_room (token_of word) a c bytes after is room
room_before (behind a c (to_set quantity)) word after is room = tt
room_before (behind a c to_get) word after is room = tt
room_before (ended a c task) word after is room = cc is

pub room_run : (s : Partial) (words : List (List ℕ)) (after : Partial) → run (Some s) words ≡ Some after → Room after
    → Room s
room_run s [] after is room =
    let same : s ≡ after = cc is in
    subst Room (sym same) room
room_run s (word ∷ words) after is room =
    elim (cases (step s word)) [
      | inl none ↦ absurd (run-none words after (ap (λ o. run o words) (sym none) ∙ is))
      | inr found ↦ room_before s word found.0 found.1
          (room_run found.0 words after (ap (λ o. run o words) (sym found.1) ∙ is) room)
    ]
