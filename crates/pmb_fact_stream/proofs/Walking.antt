-- The events inside a packet, taken one by one from its canonical text. For `take_group` and
-- `text_length` of `src/groups.rt`, since each part's object needs the place of its START. Before
-- STOP each event is inside the packet, its text is at the front of what is left, and the next
-- event's comes after it.
use Rattle.std.proofs.Common.{◌≡◌, ◌≢◌, ℕ, ◌+◌, Option, Some, None, List, [], ◌∷◌, ◌++◌, length, take, drop, append-nil}
use Rattle.std.proofs.Common.{append_assoc, length-append, refl, sym, ap, ◌∙◌, subst, arith}
use Rattle.std.proofs.Math.Seq.{take-append_seam, drop-append_seam}
use Rattle.std.proofs.lemmas.Grind.{flat_map-append}
use Rattle.hex.specs.Hex.{encode_with}
use Rattle.pmb_bus.specs.declared.event.Event.{Event}
use Rattle.pmb_bus.specs.declared.event.Event.TheVariants.{Start, Byte, Ack, Nack, Stop}
use Rattle.pmb_bus.specs.Event.{AreBytes, canonical_text, text_of}
use Rattle.pmb_bus.specs.Text.{Spells}
use Rattle.pmb_command.specs.Parts.{DeviceParts}
use Rattle.pmb_canonical.specs.Inside.{AreInside, IsInside}
use Rattle.pmb_reader.specs.Reader.{Standing, Open}
use Rattle.pmb_scan.specs.Reached.{Reached, behind_bytes, behind_event, behind_packet, behind_whole}
use Rattle.pmb_spans.specs.Spans.{Span, ReadSpan}
use Rattle.pmb_transaction.specs.Capture.{HasNoStop}
use Rattle.pmb_transaction.specs.Transaction.{TransactionData}
use Rattle.pmb_fact_stream.specs.machine.Inside.{behind_inside}

-- ---- the same in other words

same_reached : (P : Reached → Type 0) (profile : List DeviceParts) (spans : List Span) (t u : List ℕ)
    (es fs : List Event) (s r : Standing) → t ≡ u → es ≡ fs → s ≡ r
    → P (record { profile = profile; text = t; events = es; spans = spans; standing = s })
    → P (record { profile = profile; text = u; events = fs; spans = spans; standing = r })
same_reached P profile spans t u es fs s r text events standing holds =
    subst (λ (l : List ℕ). P (record { profile = profile; text = l; events = fs; spans = spans; standing = r })) text
    (subst (λ (l : List Event). P (record { profile = profile; text = t; events = l; spans = spans; standing = r }))
    events
    (subst (λ (x : Standing). P (record { profile = profile; text = t; events = es; spans = spans; standing = x }))
    standing holds))

-- between two packets no event is inside one
pub begins_inside : (P : Reached → Type 0) (reached : Reached) (n : ℕ) → reached.standing ≡ Open n [] → P reached
    → P (behind_inside reached n [])
begins_inside P reached n standing holds =
    same_reached P reached.profile reached.spans reached.text (reached.text ++ []) reached.events
    (reached.events ++ []) reached.standing (Open n [])
    (sym (append-nil reached.text)) (sym (append-nil reached.events)) standing holds

pub word_text : (front : List Event) (event : Event) → canonical_text (front ++ event ∷ []) ≡ canonical_text front
    ++ text_of event
word_text front event = flat_map-append text_of front (event ∷ []) ∙ ap (λ (l : List ℕ). canonical_text front ++ l)
    (append-nil (text_of event))

-- one more
pub goes_inside : (P : Reached → Type 0) (reached : Reached) (n : ℕ) (front : List Event) (event : Event)
    (word : List ℕ) → word ≡ text_of event
    → P (behind_event (behind_bytes (behind_inside reached n front) word) event)
    → P (behind_inside reached n (front ++ event ∷ []))
goes_inside P reached n front event word is holds =
    same_reached P reached.profile reached.spans ((reached.text ++ canonical_text front) ++ word)
    (reached.text ++ canonical_text (front ++ event ∷ []))
    ((reached.events ++ front) ++ event ∷ []) (reached.events ++ (front ++ event ∷ [])) (Open n (front ++ event ∷ []))
    (Open n (front ++ event ∷ []))
    (append_assoc reached.text (canonical_text front) word
    ∙ ap (λ (l : List ℕ). reached.text ++ (canonical_text front ++ l)) is
    ∙ ap (λ (l : List ℕ). reached.text ++ l) (sym (word_text front event)))
    (append_assoc reached.events front (event ∷ [])) refl holds

-- STOP ends the packet, which has come as a whole then
pub ends_whole : (P : Reached → Type 0) (reached : Reached) (n : ℕ) (front events : List Event) (bytes stop : List ℕ)
    (t : TransactionData) → events ≡ front ++ Stop ∷ []
    → bytes ≡ canonical_text events → stop ≡ canonical_text (Stop ∷ [])
    → P (behind_packet (behind_bytes (behind_inside reached n front) stop) n front Stop t)
    → P (behind_whole reached n bytes events t)
ends_whole P reached n front events bytes stop t split text is holds =
    let whole = front ++ Stop ∷ [] in
    let spans = reached.spans ++ ReadSpan n whole t ∷ [] in
    let count : n + length front + 1 ≡ n + length whole = omega (arith, length-append front (Stop ∷ [])) in
    let same_text : (reached.text ++ canonical_text front) ++ stop ≡ reached.text ++ canonical_text whole =
    append_assoc reached.text (canonical_text front) stop
    ∙ ap (λ (l : List ℕ). reached.text ++ (canonical_text front ++ l)) is
    ∙ ap (λ (l : List ℕ). reached.text ++ l) (sym (flat_map-append text_of front (Stop ∷ []))) in
    subst (λ (l : List ℕ). P (behind_whole reached n l events t)) (sym text)
    (subst (λ (es : List Event). P (behind_whole reached n (canonical_text es) es t)) (sym split)
    (same_reached P reached.profile spans ((reached.text ++ canonical_text front) ++ stop)
    (reached.text ++ canonical_text whole) ((reached.events ++ front) ++ Stop ∷ [])
    (reached.events ++ whole) (Open (n + length front + 1) []) (Open (n + length whole) []) same_text
    (append_assoc reached.events front (Stop ∷ []))
    (ap (λ (k : ℕ). Open k []) count) holds))

-- ---- events inside

-- those before STOP
pub are_inside : (front : List Event) → HasNoStop front → AreBytes (front ++ Stop ∷ []) → AreInside front
are_inside [] none small = tt
are_inside (Start ∷ front) none small = (
  tt,
  are_inside front (λ before after same. none (Start ∷ before) after (ap (λ (l : List Event). Start ∷ l) same)) small,
)
are_inside (Byte b ∷ front) none small = (
  small.0,
  are_inside front (λ before after same. none (Byte b ∷ before) after
      (ap (λ (l : List Event). Byte b ∷ l) same)) small.1,
)
are_inside (Ack ∷ front) none small = (
  tt,
  are_inside front (λ before after same. none (Ack ∷ before) after (ap (λ (l : List Event). Ack ∷ l) same)) small,
)
are_inside (Nack ∷ front) none small = (
  tt,
  are_inside front (λ before after same. none (Nack ∷ before) after (ap (λ (l : List Event). Nack ∷ l) same)) small,
)
are_inside (Stop ∷ front) none small = absurd (none [] front refl)

-- none of them is STOP
pub is_no_stop : (event : Event) → IsInside event → event ≢ Stop
is_no_stop Start inside = λ is. cc is
is_no_stop (Byte b) inside = λ is. cc is
is_no_stop Ack inside = λ is. cc is
is_no_stop Nack inside = λ is. cc is
is_no_stop Stop inside = absurd inside

-- their bytes are below 256
one_byte : (event : Event) → IsInside event → AreBytes (event ∷ [])
one_byte Start inside = tt
one_byte (Byte b) inside = (inside, tt)
one_byte Ack inside = tt
one_byte Nack inside = tt
one_byte Stop inside = absurd inside

more_bytes : (event : Event) (events : List Event) → IsInside event → AreBytes events → AreBytes (event ∷ events)
more_bytes Start events inside small = small
more_bytes (Byte b) events inside small = (inside, small)
more_bytes Ack events inside small = small
more_bytes Nack events inside small = small
more_bytes Stop events inside small = absurd inside

pub bytes_up_to : (front : List Event) (event : Event) (back : List Event) → AreInside (front ++ event ∷ back)
    → AreBytes (front ++ event ∷ [])
bytes_up_to [] event back inside = one_byte event inside.0
bytes_up_to (e ∷ front) event back inside = more_bytes e (front ++ event ∷ []) inside.0
    (bytes_up_to front event back inside.1)

-- the text with one more spells it too
pub spells_inside : (reached : Reached) (front : List Event) (event : Event) (word : List ℕ) → word ≡ text_of event
    → Spells (reached.text ++ canonical_text (front ++ event ∷ [])) (reached.events ++ (front ++ event ∷ []))
    → Spells ((reached.text ++ canonical_text front) ++ word) ((reached.events ++ front) ++ event ∷ [])
spells_inside reached front event word is spells =
    subst (λ (l : List ℕ). Spells l ((reached.events ++ front) ++ event ∷ []))
    (ap (λ (l : List ℕ). reached.text ++ l) (word_text front event)
    ∙ sym (append_assoc reached.text (canonical_text front) (text_of event))
    ∙ ap (λ (l : List ℕ). (reached.text ++ canonical_text front) ++ l) (sym is))
    (subst (λ (es : List Event). Spells (reached.text ++ canonical_text (front ++ event ∷ [])) es)
    (sym (append_assoc reached.events front (event ∷ []))) spells)

-- ---- the event in front

-- What `front_event` says of one inside, and of STOP.
abbrev pub FindsEvent : List ℕ → Option Event → Type 0
FindsEvent text result = (event : Event) (rest : List ℕ) → IsInside event → text ≡ text_of event ++ rest
    → result ≡ Some event

abbrev pub FindsStop : List ℕ → Option Event → Type 0
FindsStop text result = (rest : List ℕ) → text ≡ text_of Stop ++ rest → result ≡ None

-- one that is found is the next
pub record IsNext (event : Event) (back : List Event) (text : List ℕ) : Type 0 where
  -- the events after it
  pub more : List Event
  pub split : back ≡ event ∷ more
  pub is_text : text ≡ text_of event ++ canonical_text (more ++ Stop ∷ [])
  pub is_inside : AreInside more
  pub event_inside : IsInside event

pub next_event : (back : List Event) (text : List ℕ) (result : Option Event) (event : Event) → FindsEvent text result
    → FindsStop text result → result ≡ Some event
    → AreInside back → text ≡ canonical_text (back ++ Stop ∷ []) → IsNext event back text
next_event [] text result event finds stops is inside same =
    let none = stops [] same in
    absurd (cc (sym none ∙ is))
next_event (e ∷ back) text result event finds stops is inside same =
    let found = finds e (canonical_text (back ++ Stop ∷ [])) inside.0 same in
    let one : e ≡ event = cc (sym found ∙ is) in
    record {
      more = back;
      split = ap (λ (x : Event). x ∷ back) one;
      is_text = same ∙ ap (λ (x : Event). text_of x ++ canonical_text (back ++ Stop ∷ [])) one;
      is_inside = inside.1;
      event_inside = subst IsInside one inside.0;
    }

-- where none is found STOP stands
pub stop_next : (back : List Event) (text : List ℕ) (result : Option Event) → FindsEvent text result
    → ((event : Event) → result ≡ Some event → ⊥) → AreInside back
    → text ≡ canonical_text (back ++ Stop ∷ []) → back ≡ []
stop_next [] text result finds none inside same = refl
stop_next (e ∷ back) text result finds none inside same =
    absurd (none e (finds e (canonical_text (back ++ Stop ∷ [])) inside.0 same))

-- its word, and what stands after it
pub front_word : (text word rest : List ℕ) (n : ℕ) → text ≡ word ++ rest → n ≡ length word → take n text ≡ word
front_word text word rest n same long = ap (take n) same ∙ ap (λ (k : ℕ). take k (word ++ rest)) long
    ∙ take-append_seam word rest

pub behind_word : (text word rest : List ℕ) (n : ℕ) → text ≡ word ++ rest → n ≡ length word → drop n text ≡ rest
behind_word text word rest n same long = ap (drop n) same ∙ ap (λ (k : ℕ). drop k (word ++ rest)) long
    ∙ drop-append_seam word rest

-- how long a byte's is
pub length-byte_text : (b : ℕ) → length (text_of (Byte b)) ≡ 3
unfolding encode_with
length-byte_text b = refl
