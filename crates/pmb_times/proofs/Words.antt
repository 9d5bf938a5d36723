-- Words at once: a short one and its space, and those of canonical text. For `Times::take` and
-- `take_line`. Each word but the first has no time, since no line ends before it in the same text.
use Rattle.std.proofs.Common.{◌≡◌, ℕ, ◌<◌, ◌/◌, ◌%◌, true, List, [], ◌∷◌, ◌++◌}
use Rattle.std.proofs.Common.{length, refl, slice_index, subst, sym, ap, ◌∙◌, arith}
use Rattle.std.proofs.lemmas.Bool.{false≢true, ltb-true, ne_eqb}
use Rattle.std.proofs.lemmas.List.{append_assoc}
use Rattle.hex.specs.Hex.{encode_with, lower_digits}
use Rattle.hex.proofs.HexLemmas.{IsDigits-lower_digits}
use Rattle.pmb_bus.specs.declared.event.Event.{Event}
use Rattle.pmb_bus.specs.declared.event.Event.TheVariants.{Start, Byte, Ack, Nack, Stop}
use Rattle.pmb_bus.specs.Event.{AreBytes, canonical_text, text_of}
use Rattle.pmb_bus.specs.Text.{EndsBetween, is_word}
use Rattle.pmb_bus.proofs.Tokens.{digit_goes_on}
use Rattle.pmb_bus.proofs.Words.{in_comment_from_out, word_byte}
use Rattle.pmb_places.specs.declared.short_word.ShortWord.TheVariants.{One, Two}
use Rattle.pmb_places.specs.ShortWord.{IsShortWord, is_plain}
use Rattle.pmb_times.specs.declared.times.LineState.{LineState}
use Rattle.pmb_times.specs.declared.times.LineState.TheVariants.{Empty, Kept, Between, Word, Comment}
use Rattle.pmb_times.specs.machine.Standing.{FieldsStandAt, is_between}
use Rattle.pmb_times.proofs.Bytes.{InWord, stands_first, stands_longer, stands_next}
use Rattle.pmb_times.proofs.States.{stands_other}

-- ---- a word and a separator

begins : (state : LineState) (line gap word text : List ℕ) (a : ℕ) → is_between state ≡ true
    → FieldsStandAt state line gap word text → InWord a
    → FieldsStandAt Word line [] gap (text ++ a ∷ [])
begins Empty line gap word text a here stands byte = stands_first line line gap word text a stands byte
begins Kept line gap word text a here stands byte = absurd (false≢true here)
begins Between line gap word text a here stands byte = stands_next line line gap word text a stands byte
begins Word line gap word text a here stands byte = absurd (false≢true here)
begins Comment line gap word text a here stands byte = absurd (false≢true here)

module _ (state : LineState) (line gap word text : List ℕ) (here : is_between state ≡ true)
    (stands : FieldsStandAt state line gap word text) where
  first_byte : (a : ℕ) → InWord a → FieldsStandAt Word line [] gap (text ++ a ∷ [])
  first_byte a byte = begins state line gap word text a here stands byte

  -- 32 is a space, 10 a LF
  one_byte : (a : ℕ) → InWord a → FieldsStandAt Between line [] gap (text ++ a ∷ 32 ∷ [])
  one_byte a byte =
      subst (FieldsStandAt Between line [] gap) (append_assoc text (a ∷ []) (32 ∷ []))
      (stands_other Word Between line line [] [] gap gap (text ++ a ∷ []) 32 refl refl refl refl (λ is. cc)
      (first_byte a byte))

  two_bytes : (a b : ℕ) → InWord a → InWord b → FieldsStandAt Between line [] gap (text ++ a ∷ b ∷ 32 ∷ [])
  two_bytes a b first second =
      subst (FieldsStandAt Between line [] gap)
      (append_assoc (text ++ a ∷ []) (b ∷ []) (32 ∷ []) ∙ append_assoc text (a ∷ []) (b ∷ 32 ∷ []))
      (stands_other Word Between line line [] [] gap gap ((text ++ a ∷ []) ++ b ∷ []) 32 refl refl refl refl (λ is. cc)
      (stands_longer line line [] gap (text ++ a ∷ []) b (first_byte a first) second))

  line_end : (a : ℕ) → InWord a → FieldsStandAt Empty line [] gap (text ++ a ∷ 10 ∷ [])
  line_end a byte =
      subst (FieldsStandAt Empty line [] gap) (append_assoc text (a ∷ []) (10 ∷ []))
      (stands_other Word Empty line line [] [] gap gap (text ++ a ∷ []) 10 refl refl refl refl (λ is. cc)
      (first_byte a byte))

-- a byte whose number is above that of `#`, 35
plain_byte : (b : ℕ) → is_plain b ≡ true → InWord b
plain_byte b plain =
    let over = ltb-true 35 b plain in record {
      outside = (in_comment_from_out b).1 (λ is. omega (arith, is));
      keeps = rw (
        ne_eqb b 32 (λ is. omega (arith, is)),
        ne_eqb b 9 (λ is. omega (arith, is)),
        ne_eqb b 10 (λ is. omega (arith, is)),
        ne_eqb b 13 (λ is. omega (arith, is)),
      ) refl;
    }

-- ---- the text of an event

digit_byte : (n : ℕ) → n < 16 → InWord (slice_index lower_digits n)
digit_byte n small =
    let byte = slice_index lower_digits n in
    let goes_on = word_byte byte (digit_goes_on byte n (IsDigits-lower_digits n small)) in
    record { outside = goes_on.0; keeps = goes_on.1 }

-- after an event's text, by the gap before it
record EventStands (line gap text : List ℕ) : Type 0 where
  pub state : LineState
  pub here : is_between state ≡ true
  pub stands : FieldsStandAt state line [] gap text

abbrev IsByteIn : Event → Type 0
IsByteIn event = AreBytes (event ∷ [])

event_stands : (event : Event) (state : LineState) (line gap word text : List ℕ) → IsByteIn event
    → is_between state ≡ true → FieldsStandAt state line gap word text
    → EventStands line gap (text ++ text_of event)
unfolding encode_with
event_stands Start state line gap word text small here stands = record {
  state = Between;
  here = refl;
  stands = one_byte state line gap word text here stands 83 (record { outside = refl; keeps = refl });
}
event_stands (Byte b) state line gap word text small here stands = record {
  state = Between;
  here = refl;
  stands = two_bytes state line gap word text here stands (slice_index lower_digits (b / 16))
      (slice_index lower_digits (b % 16)) (digit_byte (b / 16) (omega (arith, small.0)))
      (digit_byte (b % 16) (omega arith));
}
event_stands Ack state line gap word text small here stands = record {
  state = Between;
  here = refl;
  stands = one_byte state line gap word text here stands 65 (record { outside = refl; keeps = refl });
}
event_stands Nack state line gap word text small here stands = record {
  state = Between;
  here = refl;
  stands = one_byte state line gap word text here stands 78 (record { outside = refl; keeps = refl });
}
event_stands Stop state line gap word text small here stands = record {
  state = Empty;
  here = refl;
  stands = line_end state line gap word text here stands 80 (record { outside = refl; keeps = refl });
}

first_small : (event : Event) (events : List Event) → AreBytes (event ∷ events) → IsByteIn event
first_small Start events small = tt
first_small (Byte b) events small = (small.0, tt)
first_small Ack events small = tt
first_small Nack events small = tt
first_small Stop events small = tt

rest_small : (event : Event) (events : List Event) → AreBytes (event ∷ events) → AreBytes events
rest_small Start events small = small
rest_small (Byte b) events small = small.1
rest_small Ack events small = small
rest_small Nack events small = small
rest_small Stop events small = small

-- ---- a line of canonical text

-- what is kept of the last word: STOP has the time of the gap before it
abbrev stop_time : List Event → List ℕ → List ℕ
stop_time [] gap = gap
stop_time (event ∷ events) gap = []

none_before_stop : (events : List Event) → stop_time events [] ≡ []
none_before_stop [] = refl
none_before_stop (event ∷ events) = refl

behind_line : (events : List Event) (state : LineState) (line gap word text : List ℕ) → AreBytes events
    → is_between state ≡ true → FieldsStandAt state line gap word text
    → FieldsStandAt Empty line [] (stop_time events gap) (text ++ canonical_text (events ++ Stop ∷ []))
behind_line [] state line gap word text small here stands =
    line_end state line gap word text here stands 80 (record { outside = refl; keeps = refl })
behind_line (event ∷ events) state line gap word text small here stands =
    let first = event_stands event state line gap word text (first_small event events small) here stands in
    let rest = behind_line events first.state line [] gap (text ++ text_of event) (rest_small event events small)
    first.here first.stands in
    subst (FieldsStandAt Empty line [] []) (append_assoc text (text_of event) (canonical_text (events ++ Stop ∷ [])))
    (subst (λ (kept : List ℕ). FieldsStandAt Empty line [] kept
    ((text ++ text_of event) ++ canonical_text (events ++ Stop ∷ []))) (none_before_stop events) rest)

some_before_stop : (events : List Event) (gap : List ℕ) → 0 < length events → stop_time events gap ≡ []
some_before_stop [] gap some = absurd (omega arith)
some_before_stop (event ∷ events) gap some = refl

-- a text that ends between words leaves no other state
stands_between : (state : LineState) (line gap word text : List ℕ) → EndsBetween text
    → FieldsStandAt state line gap word text
    → is_between state ≡ true
stands_between Empty line gap word text between stands = refl
stands_between Kept line gap word text between stands = absurd (false≢true (sym between.1 ∙ stands.line_is.1))
stands_between Between line gap word text between stands = refl
stands_between Word line gap word text between stands =
    absurd (false≢true (sym (ap is_word between.0) ∙ stands.line_is.1.0))
stands_between Comment line gap word text between stands = absurd (false≢true (sym between.1 ∙ stands.line_is.1))

pub stands_behind_line : (events : List Event) (state : LineState) (line gap word text : List ℕ)
    → FieldsStandAt state line gap word text → EndsBetween text → AreBytes events → 0 < length events
    → FieldsStandAt Empty line [] [] (text ++ canonical_text (events ++ Stop ∷ []))
stands_behind_line events state line gap word text stands between small some =
    subst (λ (kept : List ℕ). FieldsStandAt Empty line [] kept (text ++ canonical_text (events ++ Stop ∷ [])))
    (some_before_stop events gap some)
    (behind_line events state line gap word text small (stands_between state line gap word text between stands) stands)

-- ---- a short word and a space

pub stands_one : (state : LineState) (line gap word text bytes : List ℕ) → is_between state ≡ true
    → FieldsStandAt state line gap word text → IsShortWord One bytes
    → FieldsStandAt Between line [] gap (text ++ bytes)
stands_one state line gap word text bytes here stands (a, plain, is) =
    subst (λ (given : List ℕ). FieldsStandAt Between line [] gap (text ++ given)) (sym is)
    (one_byte state line gap word text here stands a (plain_byte a plain))

pub stands_two : (state : LineState) (line gap word text bytes : List ℕ) → is_between state ≡ true
    → FieldsStandAt state line gap word text → IsShortWord Two bytes
    → FieldsStandAt Between line [] gap (text ++ bytes)
stands_two state line gap word text bytes here stands (a, b, first, second, is) =
    subst (λ (given : List ℕ). FieldsStandAt Between line [] gap (text ++ given)) (sym is)
    (two_bytes state line gap word text here stands a b (plain_byte a first) (plain_byte b second))

-- with other bytes kept of the line, which count for nothing there
pub any_line : (line line' gap word text : List ℕ) → FieldsStandAt Between line gap word text
    → FieldsStandAt Between line' gap word text
any_line line line' gap word text stands = record {
  line_is = stands.line_is;
  gap_is = stands.gap_is;
  word_is = stands.word_is;
}
