-- The first characters of an event's text, by which it is told. For `front_event` of
-- `src/events.rt`. 83, 65, 78 and 80 are the letters `S`, `A`, `N` and `P`; a byte's text begins
-- with a digit, which is none of them.
use Rattle.std.proofs.Common.{◌≡◌, ◌≢◌, ℕ, ◌/◌, ◌<◌, ◌≤◌, List, [], ◌∷◌, ◌++◌, length, get_or, refl, sym, ap, arith}
use Rattle.hex.specs.Hex.{encode_with}
use Rattle.pmb_bus.specs.declared.event.Event.{Event}
use Rattle.pmb_bus.specs.declared.event.Event.TheVariants.{Start, Byte, Ack, Nack, Stop}
use Rattle.pmb_bus.specs.Event.{canonical_text, text_of}
use Rattle.pmb_canonical.specs.Front.{lower_digit}
use Rattle.pmb_canonical.specs.Inside.{IsInside}
use Rattle.pmb_canonical.proofs.Digits.{no_digit}

-- the first character
abbrev pub first : Event → ℕ
first Start = 83
first (Byte b) = lower_digit (b / 16)
first Ack = 65
first Nack = 78
first Stop = 80

pub first_is : (event : Event) (text rest : List ℕ) → text ≡ text_of event ++ rest → get_or text 0 0 ≡ first event
unfolding encode_with
first_is Start text rest same = ap (λ (l : List ℕ). get_or l 0 0) same
first_is (Byte b) text rest same = ap (λ (l : List ℕ). get_or l 0 0) same
first_is Ack text rest same = ap (λ (l : List ℕ). get_or l 0 0) same
first_is Nack text rest same = ap (λ (l : List ℕ). get_or l 0 0) same
first_is Stop text rest same = ap (λ (l : List ℕ). get_or l 0 0) same

-- there are two at least
pub two_there : (event : Event) (text rest : List ℕ) → text ≡ text_of event ++ rest → 2 ≤ length text
unfolding encode_with
two_there Start text rest same = let long = ap length same in omega (arith, long)
two_there (Byte b) text rest same = let long = ap length same in omega (arith, long)
two_there Ack text rest same = let long = ap length same in omega (arith, long)
two_there Nack text rest same = let long = ap length same in omega (arith, long)
two_there Stop text rest same = let long = ap length same in omega (arith, long)

-- and three of a byte
pub length-byte_text : (b : ℕ) → length (text_of (Byte b)) ≡ 3
unfolding encode_with
length-byte_text b = refl

-- a letter tells its event
pub is_start : (event : Event) → IsInside event → first event ≡ 83 → event ≡ Start
is_start Start inside is = refl
is_start (Byte b) inside is = absurd (no_digit (b / 16) 83 (omega (arith, inside)) refl is)
is_start Ack inside is = absurd (omega (arith, is))
is_start Nack inside is = absurd (omega (arith, is))
is_start Stop inside is = absurd inside

pub is_ack : (event : Event) → IsInside event → first event ≡ 65 → event ≡ Ack
is_ack Start inside is = absurd (omega (arith, is))
is_ack (Byte b) inside is = absurd (no_digit (b / 16) 65 (omega (arith, inside)) refl is)
is_ack Ack inside is = refl
is_ack Nack inside is = absurd (omega (arith, is))
is_ack Stop inside is = absurd inside

pub is_nack : (event : Event) → IsInside event → first event ≡ 78 → event ≡ Nack
is_nack Start inside is = absurd (omega (arith, is))
is_nack (Byte b) inside is = absurd (no_digit (b / 16) 78 (omega (arith, inside)) refl is)
is_nack Ack inside is = absurd (omega (arith, is))
is_nack Nack inside is = refl
is_nack Stop inside is = absurd inside

pub is_no_stop : (event : Event) → IsInside event → first event ≡ 80 → ⊥
is_no_stop Start inside is = omega (arith, is)
is_no_stop (Byte b) inside is = no_digit (b / 16) 80 (omega (arith, inside)) refl is
is_no_stop Ack inside is = omega (arith, is)
is_no_stop Nack inside is = omega (arith, is)
is_no_stop Stop inside is = inside

-- a byte, by its digits
pub record IsByteThere (event : Event) (text : List ℕ) : Type 0 where
  pub byte : ℕ
  -- the event, and its three characters at the front of the text
  pub is : event ≡ Byte byte
  pub small : byte < 256
  pub three : 3 ≤ length text
  pub word : canonical_text (Byte byte ∷ []) ≡ get_or text 0 0 ∷ get_or text 1 0 ∷ get_or text 2 0 ∷ []

pub is_byte : (event : Event) (text rest : List ℕ) → IsInside event → first event ≢ 83 → first event ≢ 65
    → first event ≢ 78 → text ≡ text_of event ++ rest
    → IsByteThere event text
unfolding encode_with
is_byte Start text rest inside start ack nack same = absurd (start refl)
is_byte (Byte b) text rest inside start ack nack same =
    let long = ap length same in
    record {
      byte = b;
      is = refl;
      small = inside;
      three = omega (arith, long);
      word =
          ap (λ (l : List ℕ). get_or l 0 0 ∷ get_or l 1 0 ∷ get_or l 2 0 ∷ []) (sym same);
    }
is_byte Ack text rest inside start ack nack same = absurd (ack refl)
is_byte Nack text rest inside start ack nack same = absurd (nack refl)
is_byte Stop text rest inside start ack nack same = absurd inside
