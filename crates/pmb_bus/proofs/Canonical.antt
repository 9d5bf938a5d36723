-- The canonical text of events spells them: the law `canonical_text_spells`. The text of an event
-- is one token and its end, a letter or two digits, and such texts one after the other are a text
-- of the events.
use Rattle.std.proofs.Common.{◌≡◌, ℕ, ◌+◌, ◌*◌, ◌/◌, ◌%◌, ◌<◌, Bool, false, Option, Some, slice_index, List, [], ◌∷◌}
use Rattle.std.proofs.Common.{◌++◌, map, refl, sym, ap, subst, ◌∙◌, arith}
use Rattle.std.specs.List.{filter, onto_first}
use Rattle.hex.specs.Hex.{hex_digit_value, lower_digits, encode_with}
use Rattle.hex.proofs.HexLemmas.{IsDigits-lower_digits}
use Rattle.pmb_bus.specs.declared.event.Event.{Event}
use Rattle.pmb_bus.specs.declared.event.Event.TheVariants.{Start, Byte, Ack, Nack, Stop}
use Rattle.pmb_bus.specs.Event.{event_of, text_of, canonical_text, AreBytes}
use Rattle.pmb_bus.specs.Text.{in_comment, is_word, last_run, ends_in_comment, words, runs, open_word, AreTokens}
use Rattle.pmb_bus.specs.Text.{Spells}
use Rattle.pmb_bus.proofs.Words.{runs_from-kept, word_byte}
use Rattle.pmb_bus.proofs.Tokens.{AreTokens-append, digit_goes_on}
use Rattle.pmb_bus.proofs.Fronts.{words_between}

-- a text that is one token and its end
record IsOne (text : List ℕ) (event : Event) : Type 0 where
  -- the text's words are this one token,
  token : AreTokens (words text) (event ∷ [])
  -- its end is in the text,
  opened : open_word text ≡ []
  -- and it opens no comment
  outside : ends_in_comment text ≡ false

-- a token at the front of a text that spells events
one_more : (text rest : List ℕ) (event : Event) (events : List Event) → IsOne text event → Spells rest events
    → Spells (text ++ rest) (event ∷ events)
one_more text rest event events one spells =
    subst (λ (ws : List (List ℕ)). AreTokens ws (event ∷ events)) (sym (words_between text rest one.opened one.outside))
    (AreTokens-append (words text) (words rest) (event ∷ []) events one.token spells)

-- the text of two digits
two_digits : (a b high low : ℕ) → hex_digit_value a ≡ Some high → hex_digit_value b ≡ Some low
    -- 32 is a space
    → IsOne (a ∷ b ∷ 32 ∷ []) (Byte (high * 16 + low))
two_digits a b high low first second =
    let one = word_byte a (digit_goes_on a high first) in
    let two = word_byte b (digit_goes_on b low second) in
    let cut : runs (a ∷ b ∷ 32 ∷ []) ≡ (a ∷ b ∷ []) ∷ [] ∷ [] =
    runs_from-kept false a (b ∷ 32 ∷ []) one.0 one.1
    ∙ ap (onto_first a) (runs_from-kept false b (32 ∷ []) two.0 two.1) in
    let both : event_of (a ∷ b ∷ []) ≡ Some (Byte (high * 16 + low)) = cc (first, second) in
    record {
      token = ap (λ (all : List (List ℕ)). map event_of (filter is_word all)) cut
          ∙ ap (λ (o : Option Event). o ∷ []) both;
      opened = ap last_run cut;
      outside = ap (λ (v : Bool). in_comment (in_comment v b) 32) one.0 ∙ ap (λ (v : Bool). in_comment v 32) two.0;
    }

-- the text of a byte
byte_is_one : (b : ℕ) → b < 256 → IsOne (text_of (Byte b)) (Byte b)
unfolding encode_with
byte_is_one b small =
    let high : b / 16 < 16 = omega arith in
    let low : b % 16 < 16 = omega arith in
    let whole : b / 16 * 16 + b % 16 ≡ b = omega arith in
    subst (λ (v : ℕ). IsOne (text_of (Byte b)) (Byte v)) whole
    (
    two_digits (slice_index lower_digits (b / 16)) (slice_index lower_digits (b % 16)) (b / 16) (b % 16)
    (IsDigits-lower_digits (b / 16) high) (IsDigits-lower_digits (b % 16) low)
    )

-- the text of a letter and its end
letter_is_one : (text : List ℕ) (event : Event) → AreTokens (words text) (event ∷ []) → open_word text ≡ []
    → ends_in_comment text ≡ false
    → IsOne text event
letter_is_one text event token opened outside = record { token = token; opened = opened; outside = outside }

-- The canonical text of events spells them.
pub canonical_spells : (events : List Event) → AreBytes events → Spells (canonical_text events) events
canonical_spells [] small = refl
canonical_spells (Byte b ∷ events) small =
    one_more (text_of (Byte b)) (canonical_text events) (Byte b) events (byte_is_one b small.0)
    (canonical_spells events small.1)
canonical_spells (Start ∷ events) small =
    one_more (text_of Start) (canonical_text events) Start events (letter_is_one (text_of Start) Start refl refl refl)
    (canonical_spells events small)
canonical_spells (Ack ∷ events) small =
    one_more (text_of Ack) (canonical_text events) Ack events (letter_is_one (text_of Ack) Ack refl refl refl)
    (canonical_spells events small)
canonical_spells (Nack ∷ events) small =
    one_more (text_of Nack) (canonical_text events) Nack events (letter_is_one (text_of Nack) Nack refl refl refl)
    (canonical_spells events small)
canonical_spells (Stop ∷ events) small =
    one_more (text_of Stop) (canonical_text events) Stop events (letter_is_one (text_of Stop) Stop refl refl refl)
    (canonical_spells events small)
