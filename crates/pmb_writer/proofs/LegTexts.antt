-- The legs of a packet as canonical text, piece by piece: START, the address, the code, the count,
-- the data, the packet error code. For `Leg::append`, `append_leg`, `append_next`, `append_each`
-- and `append_some`. Text of events end to end is their texts end to end, and a code over bytes is
-- carried on from one to the next.
use Rattle.std.proofs.Common.{◌≡◌, ℕ, Bool, true, false, List, [], ◌∷◌, ◌++◌, refl, sym, ap, ◌∙◌, append_assoc}
use Rattle.std.proofs.Common.{append-nil}
use Rattle.std.specs.Prelude.{bit_xor}
use Rattle.std.proofs.lemmas.List.Concat.{flat_map-append}
use Rattle.pmb_bus.specs.Event.{canonical_text, text_of}
use Rattle.pmb_bus.specs.Pec.{pec}
use Rattle.pmb_bus.specs.declared.event.Event.{Event}
use Rattle.pmb_bus.specs.declared.event.Event.TheVariants.{Start, Byte, Ack}
use Rattle.pmb_writer.specs.machine.Legs.{LegData, answered_by, behind_acks, code_before, code_behind, code_on}
use Rattle.pmb_writer.specs.machine.Legs.{leg_events, legs_events, with_code}
use Rattle.pmb_writer.proofs.LegBytes.{begin_leg, code_on-next}

-- the text of events and of others after them
pub text-append : (a b : List Event) → canonical_text (a ++ b) ≡ canonical_text a ++ canonical_text b
text-append a b = flat_map-append text_of a b

pub acks-append : (a b : List ℕ) → behind_acks (a ++ b) ≡ behind_acks a ++ behind_acks b
acks-append a b = flat_map-append (λ byte. Ack ∷ Byte byte ∷ []) a b

-- the code of bytes and of others after them
pub code_on-append : (crc : ℕ) (a b : List ℕ) → code_on crc (a ++ b) ≡ code_on (code_on crc a) b
unfolding code_on
code_on-append crc [] b = refl
code_on-append crc (byte ∷ a) b = code_on-append (pec (bit_xor crc byte ∷ [])) a b

-- of no byte, and of one
pub code_of_none : (crc : ℕ) → code_on crc [] ≡ crc
unfolding code_on
code_of_none crc = refl

pub code_of_one : (crc byte next : ℕ) → next ≡ pec (bit_xor crc byte ∷ []) → next ≡ code_on crc (byte ∷ [])
unfolding code_on
code_of_one crc byte next is = is

-- a byte, those after it, and the last answer
pub answered_is : (last : Event) (byte : ℕ) (bytes : List ℕ) → Byte byte ∷ (behind_acks bytes ++ last ∷ [])
    ≡ answered_by last (byte ∷ bytes)
answered_is last byte [] = refl
answered_is last byte (next ∷ bytes) = ap (λ (e : List Event). Byte byte ∷ Ack ∷ e) (answered_is last next bytes)

-- bytes of a leg, and others after them
pub acks_behind : (front a b : List ℕ) → (front ++ canonical_text (behind_acks a)) ++ canonical_text (behind_acks b)
    ≡ front ++ canonical_text (behind_acks (a ++ b))
acks_behind front a b =
    append_assoc front (canonical_text (behind_acks a)) (canonical_text (behind_acks b))
    ∙ ap (λ (t : List ℕ). front ++ t) (sym (ap canonical_text (acks-append a b)
    ∙ text-append (behind_acks a) (behind_acks b)))

-- START, an address, the bytes after it and the last answer
pub leg_text : (old : List ℕ) (address : ℕ) (body : List ℕ) (last : Event)
    → (((old ++ text_of Start) ++ text_of (Byte address)) ++ canonical_text (behind_acks body)) ++ text_of last ≡ old
    ++ canonical_text (Start ∷ answered_by last (address ∷ body))
leg_text old address body last =
    let front : List Event = Start ∷ Byte address ∷ [] in
    let begins : (old ++ text_of Start) ++ text_of (Byte address) ≡ old ++ canonical_text front =
    append_assoc old (text_of Start) (text_of (Byte address)) ∙ ap (λ (t : List ℕ). old ++ (text_of Start ++ t))
    (sym (append-nil (text_of (Byte address)))) in
    let whole : canonical_text ((front ++ behind_acks body) ++ last ∷ [])
    ≡ (canonical_text front ++ canonical_text (behind_acks body)) ++ text_of last =
    text-append (front ++ behind_acks body) (last ∷ [])
    ∙ (ap (λ (t : List ℕ). t ++ canonical_text (last ∷ [])) (text-append front (behind_acks body))
    ∙ ap (λ (t : List ℕ). (canonical_text front ++ canonical_text (behind_acks body)) ++ t)
    (append-nil (text_of last))) in
    ap (λ (t : List ℕ). (t ++ canonical_text (behind_acks body)) ++ text_of last) begins
    ∙ (ap (λ (t : List ℕ). t ++ text_of last)
    (append_assoc old (canonical_text front) (canonical_text (behind_acks body)))
    ∙ (append_assoc old (canonical_text front ++ canonical_text (behind_acks body)) (text_of last)
    ∙ (ap (λ (t : List ℕ). old ++ t) (sym whole)
    ∙ ap (λ (events : List Event). old ++ canonical_text (Start ∷ events)) (answered_is last address body))))

-- a leg's text, piece by piece
pub leg_pieces : (old begun t0 t1 t2 t3 t4 new : List ℕ) (address : ℕ) (code count bytes check : List ℕ) (last : Event)
    → begun ≡ old ++ text_of Start → t0 ≡ begun ++ text_of (Byte address)
    → t1 ≡ t0 ++ canonical_text (behind_acks code) → t2 ≡ t1 ++ canonical_text (behind_acks count)
    → t3 ≡ t2 ++ canonical_text (behind_acks bytes) → t4 ≡ t3 ++ canonical_text (behind_acks check)
    → new ≡ t4 ++ text_of last
    → new ≡ old ++ canonical_text (Start ∷ answered_by last ((address ∷ (code ++ (count ++ bytes))) ++ check))
leg_pieces old begun t0 t1 t2 t3 t4 new address code count bytes check last begun_is is0 is1 is2 is3 is4 new_is =
    let with_count : t2 ≡ t0 ++ canonical_text (behind_acks (code ++ count)) =
    is2 ∙ (ap (λ (t : List ℕ). t ++ canonical_text (behind_acks count)) is1 ∙ acks_behind t0 code count) in
    let with_bytes : t3 ≡ t0 ++ canonical_text (behind_acks (code ++ (count ++ bytes))) =
    is3 ∙ (ap (λ (t : List ℕ). t ++ canonical_text (behind_acks bytes)) with_count
    ∙ (acks_behind t0 (code ++ count) bytes ∙ ap (λ (b : List ℕ). t0 ++ canonical_text (behind_acks b))
    (append_assoc code count bytes))) in
    let whole : t4 ≡ t0 ++ canonical_text (behind_acks ((code ++ (count ++ bytes)) ++ check)) =
    is4 ∙ (ap (λ (t : List ℕ). t ++ canonical_text (behind_acks check)) with_bytes
    ∙ acks_behind t0 (code ++ (count ++ bytes)) check) in
    let t0_is : t0 ≡ (old ++ text_of Start) ++ text_of (Byte address) = is0
    ∙ ap (λ (t : List ℕ). t ++ text_of (Byte address)) begun_is in
    new_is ∙ (ap (λ (t : List ℕ). t ++ text_of last)
    (whole ∙ ap (λ (t : List ℕ). t ++ canonical_text (behind_acks ((code ++ (count ++ bytes)) ++ check))) t0_is)
    ∙ leg_text old address ((code ++ (count ++ bytes)) ++ check) last)

-- and its code
pub leg_code : (begun address with_address with_code with_count whole : ℕ) (code count bytes : List ℕ)
    → with_address ≡ pec (bit_xor begun address ∷ [])
    → with_code ≡ code_on with_address code → with_count ≡ code_on with_code count → whole ≡ code_on with_count bytes
    → whole ≡ code_on begun (address ∷ (code ++ (count ++ bytes)))
leg_code begun address with_address with_code with_count whole code count bytes is0 is1 is2 is3 =
    is3 ∙ (ap (λ crc. code_on crc bytes) is2 ∙ (ap (λ crc. code_on (code_on crc count) bytes) is1
    ∙ (sym (code_on-append (code_on with_address code) count bytes)
    ∙ (sym (code_on-append with_address code (count ++ bytes))
    ∙ sym (code_on-next begun address with_address (code ++ (count ++ bytes)) is0)))))

-- the bytes of a leg, with the code where one follows
pub with_code_is : (follows : Bool) (crc : ℕ) (bytes : List ℕ) → with_code follows crc bytes ≡ bytes
    ++ code_behind follows (code_on crc bytes)
with_code_is false crc bytes = sym (append-nil bytes)
with_code_is true crc bytes = refl

-- a leg, and what is left after it
pub leg_behind : (crc : ℕ) (l : LegData) (legs : List LegData)
    → canonical_text (legs_events true crc (l ∷ legs))
    ≡ canonical_text (Start ∷ leg_events (code_before l.goes_on crc) l)
    ++ canonical_text (legs_events true (code_on (code_before l.goes_on crc) l.bytes) legs)
leg_behind crc l legs =
    ap canonical_text (begin_leg true crc l legs) ∙ text-append (Start ∷ leg_events (code_before l.goes_on crc) l)
    (legs_events true (code_on (code_before l.goes_on crc) l.bytes) legs)
