-- The legs of a packet byte by byte, with the packet error code that is carried on: one byte, the
-- code, the end of a leg, the next one, STOP. For `Course::next_event` and `Leg::next_byte`. Each
-- is the definition of what is left, after one event was taken from it.
use Rattle.std.proofs.Common.{◌≡◌, ℕ, Bool, true, false, List, [], ◌∷◌, ◌++◌, refl, sym, ap}
use Rattle.std.specs.Prelude.{bit_xor}
use Rattle.pmb_bus.specs.Pec.{pec}
use Rattle.pmb_bus.specs.declared.event.Event.{Event}
use Rattle.pmb_bus.specs.declared.event.Event.TheVariants.{Start, Stop}
use Rattle.pmb_writer.specs.machine.Legs.{code_on, with_code, LegData, answered_by, code_before, leg_events}
use Rattle.pmb_writer.specs.machine.Legs.{legs_events}

pub code_on-next : (crc b next : ℕ) (bytes : List ℕ) → next ≡ pec (bit_xor crc b ∷ [])
    → code_on crc (b ∷ bytes) ≡ code_on next bytes
unfolding code_on
code_on-next crc b next bytes is = ap (λ c. code_on c bytes) (sym is)

-- one byte, and what is left after it
pub with_code-next : (with_pec : Bool) (crc b next : ℕ) (bytes : List ℕ) → next ≡ pec (bit_xor crc b ∷ [])
    → with_code with_pec crc (b ∷ bytes) ≡ b ∷ with_code with_pec next bytes
with_code-next false crc b next bytes is = refl
with_code-next true crc b next bytes is = ap (λ c. b ∷ bytes ++ c ∷ []) (code_on-next crc b next bytes is)

-- the packet error code itself
pub with_code-end : (with_pec : Bool) (crc : ℕ) (bytes left : List ℕ) → with_pec ≡ true → bytes ≡ [] → left ≡ []
    → with_code with_pec crc bytes ≡ crc ∷ left
unfolding code_on
with_code-end with_pec crc bytes left is none nothing = rw (is, none, nothing) refl

-- no byte is left, nor a packet error code
pub ended : (with_pec : Bool) (crc : ℕ) (bytes : List ℕ) → with_code with_pec crc bytes ≡ [] → bytes ≡ []
ended false crc bytes none = none
ended true crc [] none = refl
ended true crc (b ∷ bytes) none = cc none

pub code_on-none : (crc : ℕ) (bytes : List ℕ) → bytes ≡ [] → code_on crc bytes ≡ crc
unfolding code_on
code_on-none crc bytes none = rw none refl

-- after a leg the next one begins
pub begin_leg : (stop : Bool) (crc : ℕ) (l : LegData) (legs : List LegData)
    → legs_events stop crc (l ∷ legs) ≡ Start
    ∷ (leg_events (code_before l.goes_on crc) l
    ++ legs_events stop (code_on (code_before l.goes_on crc) l.bytes) legs)
unfolding legs_events
begin_leg true crc l legs = refl
begin_leg false crc l legs = refl

pub next_leg : (stop : Bool) (last : Event) (left : List ℕ) (code crc : ℕ) (l : LegData) (legs others : List LegData)
    → left ≡ [] → code ≡ crc → legs ≡ l ∷ others
    → answered_by last left ++ legs_events stop code legs ≡ Start
    ∷ (leg_events (code_before l.goes_on crc) l
    ++ legs_events stop (code_on (code_before l.goes_on crc) l.bytes) others)
next_leg stop last left code crc l legs others none same is = rw (none, same, is) (begin_leg stop crc l others)

-- after the last leg comes STOP, and then nothing
pub at_stop : (stop : Bool) (last : Event) (left : List ℕ) (code : ℕ) (legs : List LegData) → left ≡ [] → legs ≡ []
    → stop ≡ true
    → answered_by last left ++ legs_events stop code legs ≡ Stop ∷ []
unfolding legs_events
at_stop stop last left code legs none end is = rw (none, end, is) refl

pub at_end : (stop : Bool) (last : Event) (left : List ℕ) (code : ℕ) (legs : List LegData) → left ≡ [] → legs ≡ []
    → stop ≡ false
    → answered_by last left ++ legs_events stop code legs ≡ []
unfolding legs_events
at_end stop last left code legs none end is = rw (none, end, is) refl
