-- The legs of events, from START to START or STOP, each as its bytes and whether the last one was
-- taken; and how they are read back from the events. For the law `one_transaction`, by Telling and
-- OneTransaction. Reading back goes from the last event to the first: START begins a leg, a byte
-- goes to its front, NACK marks it as refused.
use Rattle.std.proofs.Common.{◌≡◌, ℕ, Bool, true, false, List, [], ◌∷◌, ◌++◌, refl, sym, ap, ◌∙◌}
use Rattle.pmb_bus.specs.declared.event.Event.{Event}
use Rattle.pmb_bus.specs.declared.event.Event.TheVariants.{Start, Byte, Ack, Nack, Stop}
use Rattle.pmb_transaction.specs.Packet.{acked, nacked}

-- the bytes of a leg, and whether the last of them was taken as those before it were
pub record Leg : Type 0 where
  pub bytes : List ℕ
  pub taken : Bool

-- the events of a leg after its START
abbrev pub behind_start : Bool → List ℕ → List Event
behind_start true bytes = acked bytes
behind_start false [] = Nack ∷ []
behind_start false (b ∷ bytes) = nacked (b ∷ bytes)

-- legs, and then some events
abbrev pub legs_then : List Leg → List Event → List Event
legs_then [] rest = rest
legs_then (leg ∷ legs) rest = Start ∷ behind_start leg.taken leg.bytes ++ legs_then legs rest

-- the events of legs up to STOP
abbrev pub events_of_legs : List Leg → List Event
events_of_legs legs = legs_then legs (Stop ∷ [])

pub legs_then-append : (legs more : List Leg) (rest : List Event)
    → legs_then (legs ++ more) rest ≡ legs_then legs (legs_then more rest)
legs_then-append [] more rest = refl
legs_then-append (leg ∷ legs) more rest =
    ap (λ (events : List Event). Start ∷ behind_start leg.taken leg.bytes ++ events) (legs_then-append legs more rest)

-- ---- reading back

-- the leg of no bytes
abbrev empty_leg : Leg
empty_leg = record { bytes = []; taken = true }

-- a byte before those of the first leg
abbrev onto_leg : ℕ → List Leg → List Leg
onto_leg b [] = []
onto_leg b (leg ∷ legs) = record { bytes = b ∷ leg.bytes; taken = leg.taken } ∷ legs

-- the first leg as one whose last byte was refused
abbrev refused : List Leg → List Leg
refused [] = []
refused (leg ∷ legs) = record { bytes = leg.bytes; taken = false } ∷ legs

-- the legs of events that begin inside of a leg
abbrev legs_from : List Event → List Leg
legs_from [] = empty_leg ∷ []
legs_from (Start ∷ events) = empty_leg ∷ legs_from events
legs_from (Byte b ∷ events) = onto_leg b (legs_from events)
legs_from (Ack ∷ events) = legs_from events
legs_from (Nack ∷ events) = refused (legs_from events)
legs_from (Stop ∷ events) = empty_leg ∷ []

from_acked : (bytes : List ℕ) (rest : List Event) (legs : List Leg) → legs_from rest ≡ empty_leg ∷ legs
    → legs_from (acked bytes ++ rest) ≡ record { bytes = bytes; taken = true } ∷ legs
from_acked [] rest legs is = is
from_acked (b ∷ bytes) rest legs is = ap (onto_leg b) (from_acked bytes rest legs is)

from_nacked : (b : ℕ) (bytes : List ℕ) (rest : List Event) (legs : List Leg) → legs_from rest ≡ empty_leg ∷ legs
    → legs_from (nacked (b ∷ bytes) ++ rest) ≡ record { bytes = b ∷ bytes; taken = false } ∷ legs
from_nacked b [] rest legs is = ap (λ (all : List Leg). onto_leg b (refused all)) is
from_nacked b (c ∷ bytes) rest legs is = ap (onto_leg b) (from_nacked c bytes rest legs is)

from_leg : (taken : Bool) (bytes : List ℕ) (rest : List Event) (legs : List Leg) → legs_from rest ≡ empty_leg ∷ legs
    → legs_from (behind_start taken bytes ++ rest) ≡ record { bytes = bytes; taken = taken } ∷ legs
from_leg true bytes rest legs is = from_acked bytes rest legs is
from_leg false [] rest legs is = ap refused is
from_leg false (b ∷ bytes) rest legs is = from_nacked b bytes rest legs is

from_legs : (legs : List Leg) → legs_from (events_of_legs legs) ≡ empty_leg ∷ legs
from_legs [] = refl
from_legs (leg ∷ legs) =
    ap (λ (all : List Leg). empty_leg ∷ all) (from_leg leg.taken leg.bytes (events_of_legs legs) legs (from_legs legs))

-- events are those of one list of legs
pub one_row_of_legs : (a b : List Leg) → events_of_legs a ≡ events_of_legs b → a ≡ b
one_row_of_legs a b same =
    let rows : empty_leg ∷ a ≡ empty_leg ∷ b = sym (from_legs a) ∙ ap legs_from same ∙ from_legs b in
    cc rows
