-- What texts spell that begin with the canonical text of events, or with a comment: for the law
-- `runs_are_captures`. Events at the beginning come before what the rest spells; a comment from its
-- `#` (byte 35) to its LF (10) spells nothing.
use Rattle.std.proofs.Common.{◌≡◌, ℕ, ◌+◌, ◌*◌, ◌/◌, ◌%◌, ◌<◌, Bool, true, false, not, ◌==◌, Option, Some, slice_index}
use Rattle.std.proofs.Common.{List, [], ◌∷◌, ◌++◌, map, refl, sym, ap, subst, ◌∙◌, append_assoc, arith}
use Rattle.std.specs.List.{filter, onto_first}
use Rattle.std.proofs.lemmas.Bool.{and_parts, both_ways, eq-eqb, not-true}
use Rattle.hex.specs.Hex.{encode_with, hex_digit_value, lower_digits}
use Rattle.hex.proofs.HexLemmas.{IsDigits-lower_digits}
use Rattle.pmb_bus.specs.Event.{AreBytes, canonical_text, event_of, text_of}
use Rattle.pmb_bus.specs.Text.{Spells, in_comment, is_word}
use Rattle.pmb_bus.specs.declared.event.Event.{Event}
use Rattle.pmb_bus.specs.declared.event.Event.TheVariants.{Start, Byte, Ack, Nack, Stop}
use Rattle.pmb_bus.proofs.Tokens.{digit_goes_on}
use Rattle.pmb_bus.proofs.Words.{comment_cuts, in_comment_from_in, runs_from, runs_from-cut, runs_from-kept, word_byte}
use Rattle.pmb_note.proofs.OneLine.{no_lf}

-- ---- after events

-- two digits and a space at the front of a text
digits_first : (a b high low : ℕ) (rest : List ℕ) (others : List Event) → hex_digit_value a ≡ Some high
    → hex_digit_value b ≡ Some low → Spells rest others
    → Spells (a ∷ b ∷ 32 ∷ rest) (Byte (high * 16 + low) ∷ others)
digits_first a b high low rest others first second spells =
    let one = word_byte a (digit_goes_on a high first) in
    let two = word_byte b (digit_goes_on b low second) in
    let cut : runs_from false (a ∷ b ∷ 32 ∷ rest) ≡ (a ∷ b ∷ []) ∷ runs_from false rest =
    runs_from-kept false a (b ∷ 32 ∷ rest) one.0 one.1
    ∙ ap (onto_first a) (runs_from-kept false b (32 ∷ rest) two.0 two.1) in
    let token : event_of (a ∷ b ∷ []) ≡ Some (Byte (high * 16 + low)) = cc (first, second) in
    ap (λ (all : List (List ℕ)). map event_of (filter is_word all)) cut
    ∙ ap (λ (event : Option Event). event ∷ map event_of (filter is_word (runs_from false rest))) token
    ∙ ap (λ (events : List (Option Event)). Some (Byte (high * 16 + low)) ∷ events) spells

byte_first : (b : ℕ) (rest : List ℕ) (others : List Event) → b < 256 → Spells rest others
    → Spells (text_of (Byte b) ++ rest) (Byte b ∷ others)
unfolding encode_with
byte_first b rest others small spells =
    let high : b / 16 < 16 = omega arith in
    let low : b % 16 < 16 = omega arith in
    let whole : b / 16 * 16 + b % 16 ≡ b = omega arith in
    subst (λ (value : ℕ). Spells (text_of (Byte b) ++ rest) (Byte value ∷ others)) whole
    (digits_first (slice_index lower_digits (b / 16)) (slice_index lower_digits (b % 16)) (b / 16) (b % 16) rest others
    (IsDigits-lower_digits (b / 16) high)
    (IsDigits-lower_digits (b % 16) low) spells)

-- the text of an event at the front of a text
event_first : (event : Event) (rest : List ℕ) (others : List Event) → AreBytes (event ∷ []) → Spells rest others
    → Spells (text_of event ++ rest) (event ∷ others)
event_first (Byte b) rest others small spells = byte_first b rest others small.0 spells
event_first Start rest others small spells = ap (λ (events : List (Option Event)). Some Start ∷ events) spells
event_first Ack rest others small spells = ap (λ (events : List (Option Event)). Some Ack ∷ events) spells
event_first Nack rest others small spells = ap (λ (events : List (Option Event)). Some Nack ∷ events) spells
event_first Stop rest others small spells = ap (λ (events : List (Option Event)). Some Stop ∷ events) spells

-- bytes of an event, and of those after it
first_and_rest : (event : Event) (events : List Event) → AreBytes (event ∷ events)
    → AreBytes (event ∷ []) × AreBytes events
first_and_rest (Byte b) events small = ((small.0, tt), small.1)
first_and_rest Start events small = (tt, small)
first_and_rest Ack events small = (tt, small)
first_and_rest Nack events small = (tt, small)
first_and_rest Stop events small = (tt, small)

-- The canonical text of events at the front of a text spells them and what the text spells.
pub events_first : (events : List Event) (rest : List ℕ) (others : List Event) → AreBytes events → Spells rest others
    → Spells (canonical_text events ++ rest) (events ++ others)
events_first [] rest others small spells = spells
events_first (event ∷ events) rest others small spells =
    let parts = first_and_rest event events small in
    subst (λ (text : List ℕ). Spells text (event ∷ events ++ others))
    (sym (append_assoc (text_of event) (canonical_text events) rest))
    (event_first event (canonical_text events ++ rest) (events ++ others) parts.0
    (events_first events rest others parts.1 spells))

-- ---- after a comment

-- in a comment no words stand, up to its LF
no_words : (comment rest : List ℕ) → no_lf comment ≡ true → filter is_word (runs_from true (comment ++ 10 ∷ rest))
    ≡ filter is_word (runs_from false rest)
no_words [] rest one = refl
no_words (b ∷ comment) rest one =
    let here = and_parts (not (b == 10)) (no_lf comment) one in
    let inside : in_comment true b ≡ true = (in_comment_from_in b).1
    (λ same. both_ways (b == 10) (not-true (b == 10) here.0) (eq-eqb b 10 same)) in
    ap (filter is_word) (runs_from-cut true b (comment ++ 10 ∷ rest) (comment_cuts true b inside))
    ∙ ap (λ (before : Bool). filter is_word (runs_from before (comment ++ 10 ∷ rest))) inside
    ∙ no_words comment rest here.1

-- A comment and its LF at the front of a text spell nothing more.
pub comment_first : (comment rest : List ℕ) (events : List Event) → no_lf comment ≡ true → Spells rest events
    → Spells (35 ∷ comment ++ 10 ∷ rest) events
comment_first comment rest events one spells = ap (map event_of) (no_words comment rest one) ∙ spells
