-- The facts of what a capture reads as, and what was counted after it.
use Rattle.std.specs.Prelude.{◌≡◌, ℕ, ◌+◌, ◌-◌, Option, Some, None, List, [], ◌∷◌, ◌++◌, fold}
use Rattle.std.specs.Prelude.{length, slice_index_or, take}
use Rattle.pmb_bus.specs.declared.event.Event.{Event}
use Rattle.pmb_bus.specs.declared.kinds.Kinds.{Kinds}
use Rattle.pmb_facts.specs.Fact.{FactData, Other, Refusal, BadToken}
use Rattle.pmb_facts.specs.Packets.{packet_facts}
use Rattle.pmb_io.specs.Tally.{IsTallyOf}
use Rattle.pmb_io.specs.declared.tally.Tally.{Tally}
use Rattle.pmb_json_objects.specs.Counts.{CountsData, after_other, after_packet, after_refusal}
use Rattle.pmb_json_objects.specs.Head.{Head, head_at}
use Rattle.pmb_places.specs.declared.places.Place.{Place}
use Rattle.pmb_places.specs.Text.{end_of_last_word, places_from}
use Rattle.pmb_times.specs.Text.{time_at}
use Rattle.pmb_partial_packet.specs.PartialPacket.{said_device}
use Rattle.pmb_reader.specs.declared.refusal.Refusal.{Refusal as RefusalValue}
use Rattle.pmb_reader.specs.Standing.{Standing, Open, Held, Passing}
use Rattle.pmb_scan.specs.Reached.{Reached}
use Rattle.pmb_spans.specs.Spans.{Span, ReadSpan, RefusedSpan, TruncatedSpan}
use Rattle.pmb_transaction.specs.declared.reason.Reason.{Reason}
use Rattle.pmb_transaction.specs.Reading.{RefusalData}
use Rattle.pmb_unknown_start.specs.Past.{PastData, Said}
use Rattle.pmb_fact_stream.specs.Others.{other_address, span_events}

-- ---- places

-- Of events that a text spells, which stands after the bytes `read` and before which n events came,
-- the place of the one with a number: that of its word; and of the end the place after the last
-- word.
abbrev pub event_place : List ℕ → ℕ → List ℕ → ℕ → Place
event_place read n text at = slice_index_or (places_from read text) (at - n) (end_of_last_word (read ++ text))

-- ---- times

-- Of a text before which n events came, the time that was told for the packet that begins with the
-- event with a number.
abbrev pub event_time : ℕ → List ℕ → ℕ → Option (List ℕ)
event_time n text at = time_at text (at - n)

-- ---- what was read and counted

-- What went before, of spans: their transactions, each of which was said, and what was lost where an event was
-- refused, by the number of the packet's first event and the events before the refused one. After an end inside a
-- packet nothing comes.
abbrev pub past_in : (lost : ℕ → List Event → List PastData) → List Span → List PastData
past_in lost [] = []
past_in lost (ReadSpan n events t ∷ spans) = Said t ∷ past_in lost spans
past_in lost (RefusedSpan n front event refusal ∷ spans) = lost n front ++ past_in lost spans
past_in lost (TruncatedSpan n front refusal ∷ spans) = past_in lost spans

-- as a packet or a refusal
abbrev pub after_reported : CountsData → Span → CountsData
after_reported c (ReadSpan n events t) = after_packet c t
after_reported c (RefusedSpan n front event refusal) = after_refusal c (said_device front)
after_reported c (TruncatedSpan n front refusal) = after_refusal c (said_device front)

abbrev pub after_either : CountsData → Option ℕ → Span → CountsData
after_either c None span = after_reported c span
after_either c (Some addr) span = after_other c addr

-- an other counts as one, and as nothing else
abbrev pub after_span : Option (List ℕ) → CountsData → Span → CountsData
after_span ignored c span = after_either c (other_address ignored (span_events span)) span

abbrev pub after_spans : Option (List ℕ) → CountsData → List Span → CountsData
after_spans ignored c spans = fold (after_span ignored) c spans

abbrev pub after_some : CountsData → Option ℕ → CountsData
after_some c None = c
after_some c (Some addr) = after_other c addr

-- where an other is under way, it is counted
abbrev pub after_open : Option (List ℕ) → CountsData → Standing → CountsData
after_open ignored c (Open n events) = after_some c (other_address ignored events)
after_open ignored c (Held n refusal) = c
after_open ignored c (Passing n) = c

-- a tally has these counts: a bad token is a refusal there, and others are nothing
abbrev pub CountsTally : CountsData → Tally → Type 0
CountsTally c tally = IsTallyOf c.packets (c.refusals + c.bad_tokens) tally

-- Events end inside no packet only where none is under way.
abbrev pub IsNoneOutside : Reached → Option RefusalValue → Type 0
IsNoneOutside reached end = (n : ℕ) (front : List Event) → reached.standing ≡ Open n front → end ≡ None → front ≡ []

-- ---- facts

-- a refused event, or the end, after what went before: what the packet said before it, why, and what can come
abbrev pub refusal_fact : List PastData → Head → List Event → Option Event → Reason → Kinds → FactData
refusal_fact before head front event reason expected =
    record { before = before; head = head; what = Refusal front event reason expected }

-- An other, and a word that is no token, of which at most 32 bytes are told: what came before is nothing to them.
abbrev pub other_fact : Head → ℕ → FactData
other_fact head addr = record { before = []; head = head; what = Other addr }

abbrev pub bad_token_fact : Head → List ℕ → FactData
bad_token_fact head word = record { before = []; head = head; what = BadToken (take 32 word) }

module _ (place : ℕ → Place) (times : ℕ → Option (List ℕ)) where
  -- After what went before that of an event that was refused, or of the end, in a packet before which n
  -- events came.
  abbrev pub refused_span : List PastData → ℕ → List Event → Option Event → RefusalData → FactData
  refused_span before n front event refusal =
      let at = n + length front in
      refusal_fact before (head_at place (times n) at) front event refusal.reason refusal.expected

  -- An other has one fact, at its address byte, in place of all others.
  abbrev pub other_or : ℕ → Option ℕ → List FactData → List FactData
  other_or n None facts = facts
  other_or n (Some addr) facts = other_fact (head_at place (times n) (n + 1)) addr ∷ []

module _ (ignored : Option (List ℕ)) (place : ℕ → Place) (times : ℕ → Option (List ℕ)) where
  -- Those of spans, after what went before. All facts of a span have the time of its first event. What is
  -- lost at a refusal was still known to the fact of that refusal.
  abbrev pub span_facts : (lost : ℕ → List Event → List PastData) → List PastData → List Span → List FactData
  span_facts lost before [] = []
  span_facts lost before (ReadSpan n events t ∷ spans) =
      other_or place times n (other_address ignored events) (packet_facts before place (times n) n events t)
      ++ span_facts lost (before ++ Said t ∷ []) spans
  span_facts lost before (RefusedSpan n front event refusal ∷ spans) =
      other_or place times n (other_address ignored (front ++ event ∷ []))
      (refused_span place times before n front (Some event) refusal ∷ [])
      ++ span_facts lost (before ++ lost n front) spans
  span_facts lost before (TruncatedSpan n front refusal ∷ spans) =
      other_or place times n (other_address ignored front) (refused_span place times before n front None refusal ∷ [])
      ++ span_facts lost before spans

  -- that of an other that is under way, where m events came before what was scanned
  abbrev pub open_facts : ℕ → Standing → List FactData
  open_facts m (Open n events) = other_or place times (m + n) (other_address ignored events) []
  open_facts m (Held n refusal) = []
  open_facts m (Passing n) = []
