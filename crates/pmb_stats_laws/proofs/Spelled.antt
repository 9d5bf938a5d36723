-- The bytes of events that a text spells, and the packets and events of spans: for the laws
-- `facts_are_addressed` and `counts_are_those_of_json`.
use Rattle.std.proofs.Common.{◌≡◌, ℕ, ◌+◌, ◌*◌, ◌<◌, Option, Some, None, List, [], ◌∷◌, ◌++◌, length}
use Rattle.std.proofs.Common.{arith, refl, subst, sym}
use Rattle.std.proofs.lemmas.Option.{same_Some}
use Rattle.std.specs.List.{AllByRecursion}
use Rattle.hex.specs.Hex.{hex_digit_value}
use Rattle.pmb_bus.specs.declared.event.Event.{Event}
use Rattle.pmb_bus.specs.declared.event.Event.TheVariants.{Start, Byte, Ack, Nack, Stop}
use Rattle.pmb_bus.specs.Event.{AreBytes, byte_event, event_of, letter_event}
use Rattle.pmb_bus.specs.Text.{AreTokens, Spells, words}
use Rattle.pmb_command.specs.Parts.{DeviceParts}
use Rattle.pmb_fact_stream.specs.Before.{Before}
use Rattle.pmb_fact_stream.specs.Others.{is_told, span_events}
use Rattle.pmb_facts.specs.Fact.{FactData}
use Rattle.pmb_json.proofs.EachOf.{each_filtered}
use Rattle.pmb_json_objects.specs.Counts.{CountsData}
use Rattle.pmb_spans.specs.Spans.{Span, ReadSpan, RefusedSpan, TruncatedSpan, SpansFrom}
use Rattle.pmb_telling.specs.Text.{BadLine, IsBadLine, ReadsToEnd}
use Rattle.pmb_transaction.specs.Packet.{Packet}
use Rattle.pmb_transaction.specs.Reading.{PassedOver, to_first_stop, to_the_end}

-- ---- tokens

abbrev IsByteEvent : Event → Type 0
IsByteEvent event = AreBytes (event ∷ [])

digit_is_small : (c value : ℕ) → hex_digit_value c ≡ Some value → value < 16
digit_is_small c value is = grind (arith)

letter_is_byte : (c : ℕ) (event : Event) → letter_event c ≡ Some event → IsByteEvent event
letter_is_byte c Start is = tt
letter_is_byte c (Byte b) is = grind (arith)
letter_is_byte c Ack is = tt
letter_is_byte c Nack is = tt
letter_is_byte c Stop is = tt

digits_are_byte : (high low : Option ℕ) (event : Event) → ((value : ℕ) → high ≡ Some value → value < 16)
    → ((value : ℕ) → low ≡ Some value → value < 16) → byte_event high low ≡ Some event → IsByteEvent event
digits_are_byte None low event first second is = cc
digits_are_byte (Some high) None event first second is = cc
digits_are_byte (Some high) (Some low) event first second is =
    subst IsByteEvent (same_Some (Byte (high * 16 + low)) event is)
    (omega (arith, first high refl, second low refl), tt)

token_is_byte : (word : List ℕ) (event : Event) → event_of word ≡ Some event → IsByteEvent event
token_is_byte [] event is = cc
token_is_byte (c ∷ []) event is = letter_is_byte c event is
token_is_byte (a ∷ b ∷ []) event is =
    digits_are_byte (hex_digit_value a) (hex_digit_value b) event (digit_is_small a) (digit_is_small b) is
token_is_byte (a ∷ b ∷ c ∷ more) event is = cc

-- ---- lists of events

pub bytes_of_both : (a b : List Event) → AreBytes a → AreBytes b → AreBytes (a ++ b)
bytes_of_both [] b first second = second
bytes_of_both (Byte x ∷ a) b first second = (first.0, bytes_of_both a b first.1 second)
bytes_of_both (Start ∷ a) b first second = bytes_of_both a b first second
bytes_of_both (Ack ∷ a) b first second = bytes_of_both a b first second
bytes_of_both (Nack ∷ a) b first second = bytes_of_both a b first second
bytes_of_both (Stop ∷ a) b first second = bytes_of_both a b first second

pub bytes_of_first : (a b : List Event) → AreBytes (a ++ b) → AreBytes a
bytes_of_first [] b all = tt
bytes_of_first (Byte x ∷ a) b all = (all.0, bytes_of_first a b all.1)
bytes_of_first (Start ∷ a) b all = bytes_of_first a b all
bytes_of_first (Ack ∷ a) b all = bytes_of_first a b all
bytes_of_first (Nack ∷ a) b all = bytes_of_first a b all
bytes_of_first (Stop ∷ a) b all = bytes_of_first a b all

pub bytes_of_second : (a b : List Event) → AreBytes (a ++ b) → AreBytes b
bytes_of_second [] b all = all
bytes_of_second (Byte x ∷ a) b all = bytes_of_second a b all.1
bytes_of_second (Start ∷ a) b all = bytes_of_second a b all
bytes_of_second (Ack ∷ a) b all = bytes_of_second a b all
bytes_of_second (Nack ∷ a) b all = bytes_of_second a b all
bytes_of_second (Stop ∷ a) b all = bytes_of_second a b all

tokens_are_bytes : (all : List (List ℕ)) (events : List Event) → AreTokens all events → AreBytes events
tokens_are_bytes [] [] are = tt
tokens_are_bytes [] (event ∷ events) are = cc
tokens_are_bytes (word ∷ all) [] are = cc
tokens_are_bytes (word ∷ all) (event ∷ events) are =
    bytes_of_both (event ∷ []) events (token_is_byte word event (cc are)) (tokens_are_bytes all events (cc are))

pub spelled_are_bytes : (text : List ℕ) (events : List Event) → Spells text events → AreBytes events
spelled_are_bytes text events spells = tokens_are_bytes (words text) events spells

bytes_of_left : (events passed left : List Event) → AreBytes events → PassedOver events passed left → AreBytes left
bytes_of_left events passed left bytes (to_first_stop split stop) =
    bytes_of_second passed left (subst AreBytes split bytes)
bytes_of_left events passed left bytes (to_the_end all none nothing) = subst AreBytes (sym nothing) tt

-- ---- spans

module _ (profile : List DeviceParts) where
  abbrev pub IsOfPacket : Span → Type 0
  IsOfPacket (ReadSpan n events t) = Packet profile t events
  IsOfPacket (RefusedSpan n front event refusal) = Unit {0}
  IsOfPacket (TruncatedSpan n front refusal) = Unit {0}

  -- what was read is a packet, and all events have bytes
  abbrev pub IsSpelled : Span → Type 0
  IsSpelled span = IsOfPacket span × AreBytes (span_events span)

  abbrev pub AreSpelled : List Span → Type 0
  AreSpelled spans = AllByRecursion IsSpelled spans

  pub spans_are_spelled : (n : ℕ) (events : List Event) (spans : List Span) → AreBytes events
      → SpansFrom profile n events spans → AreSpelled spans
  spans_are_spelled n events [] bytes reads = tt
  spans_are_spelled n events (ReadSpan m front t ∷ more) bytes reads =
      let all : AreBytes (front ++ reads.1) = subst AreBytes reads.2 bytes in (
        (reads.3, bytes_of_first front reads.1 all),
        spans_are_spelled (n + length front) reads.1 more (bytes_of_second front reads.1 all) reads.4,
      )
  spans_are_spelled n events (RefusedSpan m front event refusal ∷ more) bytes reads =
      let all : AreBytes (front ++ event ∷ reads.1) = subst AreBytes reads.2 bytes in
      let last : AreBytes (event ∷ reads.1) = bytes_of_second front (event ∷ reads.1) all in (
        (
          tt,
          bytes_of_both front (event ∷ []) (bytes_of_first front (event ∷ reads.1) all)
              (bytes_of_first (event ∷ []) reads.1 last),
        ),
        spans_are_spelled (n + length front + length reads.4) reads.5 more
            (bytes_of_left (event ∷ reads.1) reads.4 reads.5 last reads.6) reads.7,
      )
  spans_are_spelled n events (TruncatedSpan m front refusal ∷ more) bytes reads =
      ((tt, subst AreBytes reads.1 bytes), subst AreSpelled (sym reads.3) tt)

-- ---- texts

module _ (ignored : Option (List ℕ)) (profile : List DeviceParts) (b : Before) where
  pub line_is_spelled : (bad : BadLine) → IsBadLine ignored profile b bad → AreSpelled profile bad.spans
  line_is_spelled bad is =
      subst (AreSpelled profile) (sym is.reported)
      (each_filtered (IsSpelled profile) (is_told ignored) is.all
      (spans_are_spelled profile b.n bad.events is.all (spelled_are_bytes is.word.front bad.events is.word.spells)
      is.reads))

  pub end_is_spelled : (bytes : List ℕ) (facts : List FactData) (counts : CountsData)
      → (end : ReadsToEnd ignored profile b bytes facts counts) → AreSpelled profile end.spans
  end_is_spelled bytes facts counts end =
      spans_are_spelled profile b.n end.events end.spans (spelled_are_bytes bytes end.events end.spells) end.reads
