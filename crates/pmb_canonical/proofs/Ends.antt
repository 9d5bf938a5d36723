-- The last byte of a leg, which has NACK, and the text of one leg or of both. For `keep_nacked`,
-- `refused_byte` and `unread`, and for all files here that put a packet's text together. Each byte
-- with its ACK is five characters, so the length of a text is counted from its bytes.
use Rattle.std.proofs.Common.{◌≡◌, ◌≤◌, ℕ, ◌+◌, ◌*◌, List, [], ◌∷◌, ◌++◌, length, drop, refl, ap, ◌∙◌, arith}
use Rattle.std.proofs.Common.{append_assoc, length-append}
use Rattle.std.proofs.Math.Seq.{take-append_seam, drop-append_seam}
use Rattle.hex.specs.Hex.{encode_with}
use Rattle.pmb_bus.specs.declared.event.Event.{Event}
use Rattle.pmb_bus.specs.declared.event.Event.TheVariants.{Start, Byte, Ack, Nack, Stop}
use Rattle.pmb_bus.specs.Event.{canonical_text}
use Rattle.pmb_transaction.specs.Packet.{acked, nacked, leg}
use Rattle.pmb_canonical.specs.Canonical.{nacked_leg, read_events}
use Rattle.pmb_canonical.specs.Front.{acked_text, end_text}
use Rattle.pmb_canonical.proofs.Texts.{text-append, length-acked_text}

-- bytes, by their last one
-- (the bytes before the last, and the last)
pub record Ended (bytes : List ℕ) : Type 0 where
  pub front : List ℕ
  pub last : ℕ
  pub whole : bytes ≡ front ++ last ∷ []

one_in_front : (byte : ℕ) (bytes : List ℕ) → Ended bytes → Ended (byte ∷ bytes)
one_in_front byte bytes ended = record {
  front = byte ∷ ended.front;
  last = ended.last;
  whole =
      ap (λ (l : List ℕ). byte ∷ l) ended.whole;
}

pub ends : (byte : ℕ) (bytes : List ℕ) → Ended (byte ∷ bytes)
ends byte [] = record { front = []; last = byte; whole = refl }
ends byte (next ∷ bytes) = one_in_front byte (next ∷ bytes) (ends next bytes)

-- they have one last byte
pub same_ends : (a b : List ℕ) (x y : ℕ) → a ++ x ∷ [] ≡ b ++ y ∷ [] → (a ≡ b) × (x ≡ y)
same_ends [] [] x y same = (refl, cc same)
same_ends [] (second ∷ back) x y same = absurd (omega (arith, ap length same, length-append back (y ∷ [])))
same_ends (first ∷ front) [] x y same = absurd (omega (arith, ap length same, length-append front (x ∷ [])))
same_ends (first ∷ front) (second ∷ back) x y same =
    let is : first ≡ second = cc same in
    let more : front ++ x ∷ [] ≡ back ++ y ∷ [] = cc same in
    let ended = same_ends front back x y more in
    (cc (is, ended.0), ended.1)

-- the events of bytes of which the last has NACK
nacked-last : (front : List ℕ) (last : ℕ) → nacked (front ++ last ∷ []) ≡ acked front ++ Byte last ∷ Nack ∷ []
nacked-last [] last = refl
nacked-last (byte ∷ []) last = refl
nacked-last (byte ∷ next ∷ front) last = ap (λ (events : List Event). Byte byte ∷ Ack ∷ events)
    (nacked-last (next ∷ front) last)

read_end : (front : List ℕ) (last : ℕ) → canonical_text (nacked (front ++ last ∷ []) ++ Stop ∷ []) ≡ acked_text front
    ++ end_text last
read_end front last =
    ap (λ (events : List Event). canonical_text (events ++ Stop ∷ [])) (nacked-last front last)
    ∙ ap canonical_text (append_assoc (acked front) (Byte last ∷ Nack ∷ []) (Stop ∷ []))
    ∙ text-append (acked front) (Byte last ∷ Nack ∷ Stop ∷ [])

-- the events of both legs
abbrev pub both : List ℕ → List ℕ → List Event
both front second = leg front ++ nacked_leg second ++ Stop ∷ []

pub both_events : (front second : List ℕ) → read_events (length front) (front ++ second) ≡ both front second
both_events front second =
    ap (λ (l : List ℕ). leg l ++ nacked_leg (drop (length front) (front ++ second)) ++ Stop ∷ [])
    (take-append_seam front second)
    ∙ ap (λ (l : List ℕ). leg front ++ nacked_leg l ++ Stop ∷ []) (drop-append_seam front second)

-- a second leg in which bytes are read
pub second_leg : (to_read : ℕ) (reply : List ℕ) → 1 ≤ length reply → nacked_leg (to_read ∷ reply) ≡ leg (to_read ∷ [])
    ++ nacked reply
second_leg to_read [] some = absurd (omega (arith, some))
second_leg to_read (byte ∷ reply) some = refl

-- the text of both, that of the first taken apart
both_text : (front second : List ℕ) → canonical_text (both front second)
    ≡ canonical_text (Start ∷ []) ++ (acked_text front ++ canonical_text (nacked_leg second ++ Stop ∷ []))
both_text front second =
    ap (λ (events : List Event). canonical_text (Start ∷ events))
    (append_assoc (acked front) (nacked_leg second) (Stop ∷ []))
    ∙ ap (λ (text : List ℕ). canonical_text (Start ∷ []) ++ text)
    (text-append (acked front) (nacked_leg second ++ Stop ∷ []))

-- that of a leg whose last byte has NACK
pub nacked_text : (front : List ℕ) (last : ℕ)
    → canonical_text (nacked_leg (front ++ last ∷ []) ++ Stop ∷ []) ≡ canonical_text (Start ∷ [])
    ++ (acked_text front ++ end_text last)
nacked_text front last = ap (λ (text : List ℕ). canonical_text (Start ∷ []) ++ text) (read_end front last)

-- The text of both legs, by the bytes of the first, those of the second but for the last, and the
-- last.
pub read_text : (front back : List ℕ) (last : ℕ)
    → canonical_text (read_events (length front) (front ++ (back ++ last ∷ [])))
    ≡ canonical_text (Start ∷ []) ++ (acked_text front
    ++ (canonical_text (Start ∷ []) ++ (acked_text back ++ end_text last)))
read_text front back last =
    ap canonical_text (both_events front (back ++ last ∷ []))
    ∙ both_text front (back ++ last ∷ [])
    ∙ ap (λ (text : List ℕ). canonical_text (Start ∷ []) ++ (acked_text front ++ text)) (nacked_text back last)

-- and that of a written one
pub written_text : (bytes : List ℕ) → canonical_text (leg bytes ++ Stop ∷ []) ≡ canonical_text (Start ∷ [])
    ++ acked_text bytes ++ canonical_text (Stop ∷ [])
written_text bytes = ap (λ (text : List ℕ). canonical_text (Start ∷ []) ++ text) (text-append (acked bytes) (Stop ∷ []))

-- ---- how long they are

pub length-written_text : (bytes : List ℕ) → length (canonical_text (leg bytes ++ Stop ∷ [])) ≡ 4 + 5 * length bytes
length-written_text bytes =
    ap length (written_text bytes) ∙ omega (
      arith,
      length-append (acked_text bytes) (canonical_text (Stop ∷ [])),
      length-acked_text bytes,
    )

length-nacked_text : (bytes : List ℕ) → length (canonical_text (nacked bytes ++ Stop ∷ [])) ≡ 2 + 5 * length bytes
unfolding encode_with
length-nacked_text [] = refl
length-nacked_text (b ∷ []) = refl
length-nacked_text (b ∷ c ∷ bytes) = omega (arith, length-nacked_text (c ∷ bytes))

pub length-nacked_leg_text : (bytes : List ℕ) → length (canonical_text (nacked_leg bytes ++ Stop ∷ []))
    ≡ 4 + 5 * length bytes
length-nacked_leg_text bytes = omega (arith, length-nacked_text bytes)

pub length-both_text : (front second : List ℕ) → length (canonical_text (both front second))
    ≡ 6 + 5 * length front + 5 * length second
length-both_text front second = omega (
  arith,
  ap length (both_text front second),
  length-append (acked_text front) (canonical_text (nacked_leg second ++ Stop ∷ [])),
  length-acked_text front,
  length-nacked_leg_text second,
)
