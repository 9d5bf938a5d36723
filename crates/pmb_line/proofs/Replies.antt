-- How a reader goes on to the `:` of a read or a call, through its reply, to `pec` or the end. For
-- `read_call` and `read_reply` of `src/reply.rt`. Reads and calls are taken together (`Asked`):
-- each fact is computed for both.
use Rattle.std.proofs.Common.{◌≡◌, ◌≢◌, ℕ, ◌≤◌, true, false, Option, Some, None, List, [], ◌∷◌, ◌++◌, length, refl, sym}
use Rattle.std.proofs.Common.{subst, arith}
use Rattle.pmb_line.specs.declared.token.Token.{Token}
use Rattle.pmb_line.specs.declared.token.Token.TheVariants.{Byte, Pec, Colon}
use Rattle.pmb_line.specs.declared.words.Located.{Located}
use Rattle.pmb_line.specs.machine.Reading.{nothing, call_next, call_code, call_data, step, finish, Room, LineStandsAt}
use Rattle.pmb_line.specs.machine.Pieces.{Asked, read_of, call_of, at_colon, at_reply, at_pec, replied, NoDataNext}
use Rattle.pmb_line.proofs.Standing.{next_of, no_bytes, no_colon, no_reply}

-- ---- before the `:`

-- the address and the code of a call, before its bytes
pub call_begun : (all : List Located) (a c a_at c_at : ℕ) (before mid after : List Located) (cleared : List ℕ)
    → LineStandsAt all call_next before → before ≡ record { at = a_at; token = Some (Byte a) } ∷ mid
    → mid ≡ record { at = c_at; token = Some (Byte c) } ∷ after → cleared ≡ []
    → LineStandsAt all (call_data a c cleared) after
call_begun all a c a_at c_at before mid after cleared stands a_is c_is none =
    let at_code = next_of all call_next (call_code a) (record { at = a_at; token = Some (Byte a) }) before mid stands
    a_is refl tt in
    let at_data = next_of all (call_code a) (call_data a c []) (record { at = c_at; token = Some (Byte c) }) mid after
    at_code c_is refl (record { few_sent = omega arith; few_replied = omega arith }) in
    subst (λ bs. LineStandsAt all (call_data a c bs) after) (sym none) at_data

-- ---- the `:`

colon_step : (asked : Asked) → step (at_colon asked) (Some Colon) ≡ Some (at_reply asked [])
colon_step (read_of a c) = refl
colon_step (call_of a c bs) = refl

pub colon_begun : (asked : Asked) → nothing ≢ at_colon asked
colon_begun (read_of a c) same = cc same
colon_begun (call_of a c bs) same = cc same

pub colon_unfinished : (asked : Asked) → finish (at_colon asked) ≡ None
colon_unfinished (read_of a c) = refl
colon_unfinished (call_of a c bs) = refl

pub colon_unfit : (asked : Asked) (left : List Located) → NoDataNext asked left → (word : Located) (rest : List Located)
    → left ≡ word ∷ rest → (word.token ≡ Some Colon → ⊥)
    → step (at_colon asked) word.token ≡ None
colon_unfit (read_of a c) left none word rest same not = no_colon _ word.token not
colon_unfit (call_of a c bs) left none word rest same not =
    no_bytes _ _ word.token (λ b is. none word rest b same is) not

-- ---- the reply

pub reply_step : (asked : Asked) (rs : List ℕ) (b : ℕ) → step (at_reply asked rs) (Some (Byte b))
    ≡ Some (at_reply asked (rs ++ b ∷ []))
reply_step (read_of a c) rs b = refl
reply_step (call_of a c bs) rs b = refl

pub reply_room : (asked : Asked) (rs : List ℕ) → Room (at_colon asked) → length rs ≤ 255 → Room (at_reply asked rs)
reply_room (read_of a c) rs room few = few
reply_room (call_of a c bs) rs room few = record { few_sent = room.few_sent; few_replied = few }

pub reply_begun : (all : List Located) (asked : Asked) (before after : List Located) (cleared : List ℕ)
    → LineStandsAt all (at_colon asked) before
    → (at : ℕ) × (before ≡ record { at = at; token = Some Colon } ∷ after) → cleared ≡ []
    → LineStandsAt all (at_reply asked cleared) after
reply_begun all asked before after cleared stands colon none =
    let there = next_of all (at_colon asked) (at_reply asked []) (record { at = colon.0; token = Some Colon }) before
    after stands colon.1 (colon_step asked) (reply_room asked [] stands.room (omega arith)) in
    subst (λ rs. LineStandsAt all (at_reply asked rs) after) (sym none) there

pub reply_short : (asked : Asked) (rs : List ℕ) → Room (at_reply asked rs) → length rs ≤ 255
reply_short (read_of a c) rs room = room
reply_short (call_of a c bs) rs room = room.few_replied

pub reply_finished : (asked : Asked) (rs : List ℕ) → finish (at_reply asked rs) ≡ Some (replied asked rs false)
reply_finished (read_of a c) rs = refl
reply_finished (call_of a c bs) rs = refl

pub reply_unfit : (asked : Asked) (rs : List ℕ) (token : Option Token) → ((b : ℕ) → token ≡ Some (Byte b) → ⊥)
    → (token ≡ Some Pec → ⊥) → step (at_reply asked rs) token ≡ None
reply_unfit (read_of a c) rs token not_byte not_pec = no_reply _ _ token not_byte not_pec
reply_unfit (call_of a c bs) rs token not_byte not_pec = no_reply _ _ token not_byte not_pec

-- ---- its `pec`

pub pec_step : (asked : Asked) (rs : List ℕ) → step (at_reply asked rs) (Some Pec) ≡ Some (at_pec asked rs)
pec_step (read_of a c) rs = refl
pec_step (call_of a c bs) rs = refl

pub pec_room : (asked : Asked) (rs : List ℕ) → Room (at_reply asked rs) → Room (at_pec asked rs)
pec_room (read_of a c) rs room = room
pec_room (call_of a c bs) rs room = room

pub pec_finished : (asked : Asked) (rs : List ℕ) → finish (at_pec asked rs) ≡ Some (replied asked rs true)
pec_finished (read_of a c) rs = refl
pec_finished (call_of a c bs) rs = refl

pub pec_last : (asked : Asked) (rs : List ℕ) (token : Option Token) → step (at_pec asked rs) token ≡ None
pec_last (read_of a c) rs token = refl
pec_last (call_of a c bs) rs token = refl
