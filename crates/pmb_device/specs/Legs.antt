-- The signals of a packet under way, cut at each START.
--
-- A leg runs from one START to the next one or to STOP. The byte that comes first in it is an
-- address, and its bytes are all that follow, refused ones too (SMBus 3.0 section 6.5).
use Rattle.std.specs.Prelude.{ℕ, Bool, false, List, [], ◌∷◌, ◌++◌, nat_eq}
use Rattle.std.specs.List.{list_any}
use Rattle.pmb_leg.specs.declared.place.LegPlace.{LegPlace}
use Rattle.pmb_leg.specs.declared.place.LegPlace.TheVariants.{First, Later}
use Rattle.pmb_device.specs.declared.signal.HostSignal.{HostSignal}
use Rattle.pmb_device.specs.declared.signal.HostSignal.TheVariants.{Start, Byte, Ask, Ack, Nack, Stop}

-- the signals of a leg after its START
abbrev pub Leg : Type 0
Leg = List HostSignal

-- What came since the last STOP: no START yet, or the legs that ended and the one under way. What
-- comes outside of legs is not kept.
pub data Legs : Type 0 where
  Outside : Legs
  Inside : (earlier : List Leg) → (leg : Leg) → Legs

abbrev pub with_start : Legs → Legs
with_start Outside = Inside [] []
with_start (Inside earlier leg) = Inside (earlier ++ leg ∷ []) []

abbrev pub with_other : Legs → HostSignal → Legs
with_other Outside signal = Outside
with_other (Inside earlier leg) signal = Inside earlier (leg ++ signal ∷ [])

-- the legs after one signal more
abbrev pub with_signal : Legs → HostSignal → Legs
with_signal legs Start = with_start legs
with_signal legs (Byte b) = with_other legs (Byte b)
with_signal legs Ask = with_other legs Ask
with_signal legs Ack = with_other legs Ack
with_signal legs Nack = with_other legs Nack
with_signal legs Stop = Outside

-- ---- bytes of a leg

-- the bytes that the host sent in it: an address, and those after it
abbrev pub sent : Leg → List ℕ
sent [] = []
sent (Start ∷ leg) = sent leg
sent (Byte b ∷ leg) = b ∷ sent leg
sent (Ask ∷ leg) = sent leg
sent (Ack ∷ leg) = sent leg
sent (Nack ∷ leg) = sent leg
sent (Stop ∷ leg) = sent leg

abbrev pub is_first_byte : ℕ → List ℕ → Bool
is_first_byte byte [] = false
is_first_byte byte (first ∷ rest) = nat_eq first byte

-- a leg begins with this address byte
abbrev pub is_to : ℕ → Leg → Bool
is_to address leg = is_first_byte address (sent leg)

-- one of some legs does
abbrev pub some_is_to : ℕ → List Leg → Bool
some_is_to address legs = list_any (is_to address) legs

-- the signals after its address
abbrev pub behind_address : Leg → Leg
behind_address [] = []
behind_address (Start ∷ leg) = behind_address leg
behind_address (Byte b ∷ leg) = leg
behind_address (Ask ∷ leg) = behind_address leg
behind_address (Ack ∷ leg) = behind_address leg
behind_address (Nack ∷ leg) = behind_address leg
behind_address (Stop ∷ leg) = behind_address leg

-- which leg of its packet one is
abbrev pub leg_place : List Leg → LegPlace
leg_place [] = First
leg_place (leg ∷ legs) = Later
