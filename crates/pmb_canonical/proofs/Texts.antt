-- The canonical text of bytes with their ACKs: end to end, how long, and where it ends. For
-- `front_legs`, `take_second` and `take_group`, and for most files here. After STOP, START or a
-- byte with NACK no byte with its ACK stands in front, so two lists of such bytes in one text are
-- one, or one begins the other.
use Rattle.std.proofs.Common.{◌≡◌, ◌<◌, ℕ, ◌*◌, ◌/◌, ◌%◌, List, [], ◌∷◌, ◌++◌, length, refl, sym, ap, ◌∙◌, arith}
use Rattle.std.proofs.lemmas.Grind.{flat_map-append}
use Rattle.hex.specs.Hex.{encode_with}
use Rattle.pmb_bus.specs.declared.event.Event.{Event}
use Rattle.pmb_bus.specs.declared.event.Event.TheVariants.{Start, Byte, Ack, Nack, Stop}
use Rattle.pmb_bus.specs.Event.{canonical_text, text_of}
use Rattle.pmb_command.specs.Wire.{AreByteValues}
use Rattle.pmb_transaction.specs.Packet.{acked}
use Rattle.pmb_canonical.specs.Front.{NoneAcked, acked_text, end_text, lower_digit}
use Rattle.pmb_canonical.proofs.Digits.{no_digit, same_byte}

-- ---- one after the other

pub text-append : (a b : List Event) → canonical_text (a ++ b) ≡ canonical_text a ++ canonical_text b
text-append a b = flat_map-append text_of a b

acked-append : (a b : List ℕ) → acked (a ++ b) ≡ acked a ++ acked b
acked-append [] b = refl
acked-append (x ∷ a) b = ap (λ events. Byte x ∷ Ack ∷ events) (acked-append a b)

pub acked_text-append : (a b : List ℕ) → acked_text (a ++ b) ≡ acked_text a ++ acked_text b
acked_text-append a b = ap canonical_text (acked-append a b) ∙ text-append (acked a) (acked b)

pub small-append : (a b : List ℕ) → AreByteValues a → AreByteValues b → AreByteValues (a ++ b)
small-append [] b first second = second
small-append (x ∷ a) b first second = (first.0, small-append a b first.1 second)

-- ---- how long it is

pub length-acked_text : (bytes : List ℕ) → length (acked_text bytes) ≡ 5 * length bytes
unfolding encode_with
length-acked_text [] = refl
length-acked_text (b ∷ bytes) = omega (arith, length-acked_text bytes)

pub length-end_text : (last : ℕ) → length (end_text last) ≡ 7
unfolding encode_with
length-end_text last = refl

-- ---- where it ends

-- after STOP, START, and a byte with NACK
pub none_at_stop : (rest : List ℕ) → NoneAcked (canonical_text (Stop ∷ []) ++ rest)
unfolding encode_with
none_at_stop rest byte more small same =
    let letter : 80 ≡ lower_digit (byte / 16) = cc same in
    no_digit (byte / 16) 80 (omega arith) refl (sym letter)

pub none_at_start : (rest : List ℕ) → NoneAcked (canonical_text (Start ∷ []) ++ rest)
unfolding encode_with
none_at_start rest byte more small same =
    let letter : 83 ≡ lower_digit (byte / 16) = cc same in
    no_digit (byte / 16) 83 (omega arith) refl (sym letter)

pub none_at_nack : (last : ℕ) (rest : List ℕ) → NoneAcked (end_text last ++ rest)
unfolding encode_with
none_at_nack last rest byte more small same =
    let letters : ◌≡◌ {A = ℕ} 78 65 = cc same in
    omega (arith, letters)

-- a byte with NACK is neither STOP nor START
pub nack_or_stop : (last : ℕ) (a b text : List ℕ) → last < 256 → text ≡ end_text last ++ a
    → text ≡ canonical_text (Stop ∷ []) ++ b → ⊥
unfolding encode_with
nack_or_stop last a b text small one other =
    let letter : 80 ≡ lower_digit (last / 16) = cc (one, other) in
    no_digit (last / 16) 80 (omega arith) refl (sym letter)

pub nack_or_start : (last : ℕ) (a b text : List ℕ) → last < 256 → text ≡ end_text last ++ a
    → text ≡ canonical_text (Start ∷ []) ++ b → ⊥
unfolding encode_with
nack_or_start last a b text small one other =
    let letter : 83 ≡ lower_digit (last / 16) = cc (one, other) in
    no_digit (last / 16) 83 (omega arith) refl (sym letter)

-- the byte in front of bytes of which the last has NACK
pub first_of_nacked : (front : List ℕ) (last byte : ℕ) (bytes rest : List ℕ) → byte ∷ bytes ≡ front ++ last ∷ []
    → (more : List ℕ) × (acked_text front ++ (end_text last ++ rest) ≡ canonical_text (Byte byte ∷ []) ++ more)
unfolding encode_with
first_of_nacked [] last byte bytes rest same =
    let is : last ≡ byte = cc same in
    (canonical_text (Nack ∷ Stop ∷ []) ++ rest, ap (λ (b : ℕ). end_text b ++ rest) is)
first_of_nacked (x ∷ front) last byte bytes rest same =
    let is : x ≡ byte = cc same in (
      canonical_text (Ack ∷ []) ++ (acked_text front ++ (end_text last ++ rest)),
      ap (λ (b : ℕ). acked_text (b ∷ front) ++ (end_text last ++ rest)) is,
    )

-- what one of two lists of acknowledged bytes goes on with, where the texts are the same
pub record GoesOn (taken : List ℕ) (all : List ℕ) (behind : List ℕ) (rest : List ℕ) : Type 0 where
  -- the bytes that one list has more, which follow in the text
  pub left : List ℕ
  pub whole : all ≡ taken ++ left
  pub text : behind ≡ acked_text left ++ rest
  pub small : AreByteValues left

one_more_taken : (x y : ℕ) (taken all behind rest : List ℕ) → x ≡ y → GoesOn taken all behind rest
    → GoesOn (x ∷ taken) (y ∷ all) behind rest
one_more_taken x y taken all behind rest same on =
    record { left = on.left; whole = cc (same, on.whole); text = on.text; small = on.small }

pub goes_on : (taken all behind rest : List ℕ) → AreByteValues taken → AreByteValues all → NoneAcked rest
    → acked_text taken ++ behind ≡ acked_text all ++ rest → GoesOn taken all behind rest
unfolding encode_with
goes_on [] all behind rest small others none same = record { left = all; whole = refl; text = same; small = others }
goes_on (x ∷ taken) [] behind rest small others none same =
    absurd (none x (acked_text taken ++ behind) small.0 (sym same))
goes_on (x ∷ taken) (y ∷ all) behind rest small others none same =
    let above : lower_digit (x / 16) ≡ lower_digit (y / 16) = cc same in
    let below : lower_digit (x % 16) ≡ lower_digit (y % 16) = cc same in
    let back : acked_text taken ++ behind ≡ acked_text all ++ rest = cc same in
    one_more_taken x y taken all behind rest (same_byte x y small.0 others.0 above below)
    (goes_on taken all behind rest small.1 others.1 none back)
