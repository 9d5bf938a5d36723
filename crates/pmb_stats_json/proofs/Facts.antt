-- The time and the data of each fact of a capture are bytes, whatever bytes are read: for the law
-- `sums_are_lines`. A packet has bytes by its form, and a time by its own; of a bad token nothing is asked.
use Rattle.std.proofs.Common.{◌≡◌, ℕ, ◌+◌, ◌-◌, Option, Some, None, List, [], ◌∷◌, ◌++◌, drop, length}
use Rattle.std.proofs.Common.{map, subst, sym, take}
use Rattle.std.specs.Prelude.{IfSome}
use Rattle.std.specs.List.{AllByRecursion}
use Rattle.pmb_bus.specs.declared.event.Event.{Event}
use Rattle.pmb_command.specs.Parts.{DeviceParts}
use Rattle.pmb_facts.specs.Fact.{FactData}
use Rattle.pmb_facts.specs.Packets.{packet_facts, refused_fact, write_facts}
use Rattle.pmb_fact_stream.specs.Before.{Before}
use Rattle.pmb_fact_stream.specs.Others.{is_told, other_address}
use Rattle.pmb_fact_stream.specs.Lost.{lost_in}
use Rattle.pmb_fact_stream.specs.Spans.{event_place, event_time, other_or, refused_span, span_facts}
use Rattle.pmb_fact_stream.specs.UnderWay.{open_time, time_of_some, under_way, up_to_stop}
use Rattle.pmb_json.proofs.EachOf.{each_filtered, each_of_both}
use Rattle.pmb_json.proofs.JsonSpans.{AllSayPackets, SaysPacket, spans_say_packets}
use Rattle.pmb_json.proofs.Telling.{HaveBytes, parts_have_bytes}
use Rattle.pmb_json.proofs.TimeBytes.{times_have_bytes}
use Rattle.pmb_json_objects.specs.Counts.{CountsData}
use Rattle.pmb_json_objects.specs.Laws.{IsTime}
use Rattle.pmb_json_objects.specs.Packets.{starts}
use Rattle.pmb_places.specs.declared.places.Place.{Place}
use Rattle.pmb_scan.specs.declared.after_bad_token.AfterBadToken.{AfterBadToken}
use Rattle.pmb_scan.specs.declared.after_bad_token.AfterBadToken.TheVariants.{End, Continue}
use Rattle.pmb_spans.specs.Spans.{Span, ReadSpan, RefusedSpan, TruncatedSpan}
use Rattle.pmb_stats_json.proofs.Observed.{IsOfBytes}
use Rattle.pmb_telling.specs.Text.{BadLine, FactsFrom, IsBadLine, bad_line_facts, behind_line, front_facts, word_fact}
use Rattle.pmb_times.specs.Line.{IsTime as IsPlainTime}
use Rattle.pmb_times.specs.Times.{time_at}
use Rattle.pmb_transaction.specs.Packet.{Packet}
use Rattle.pmb_transaction.specs.Reading.{RefusalData}
use Rattle.pmb_transaction.specs.Transaction.{PartData, RefusedData, TransactionData}
use Rattle.pmb_transaction.specs.Transaction.{Write, Read, Call, Refused, Alert, NoAlert}
use Rattle.pmb_unknown_start.specs.Past.{PastData, Said}

abbrev pub AreOfBytes : List FactData → Type 0
AreOfBytes facts = AllByRecursion IsOfBytes facts

-- ---- times

time_fits : (time : Option (List ℕ)) → IfSome time IsPlainTime → IsTime time
time_fits None is = tt
time_fits (Some time) is = times_have_bytes time is.plain

time_of_some_fits : (events : List Event) (time : Option (List ℕ)) → IsTime time → IsTime (time_of_some events time)
time_of_some_fits [] time is = tt
time_of_some_fits (event ∷ events) time is = is

-- what a law says of times
abbrev pub TimesAreShort : Type 0
TimesAreShort = (text : List ℕ) (k : ℕ) → IfSome (time_at text k) IsPlainTime

-- ---- packets

module _ (before : List PastData) (place : ℕ → Place) (time : Option (List ℕ)) (timed : IsTime time) where
  writes_of_bytes : (part parts : ℕ) (ats : List ℕ) (ps : List PartData) → HaveBytes ps
      → AreOfBytes (write_facts before place time part parts ats ps)
  writes_of_bytes part parts ats [] have = tt
  writes_of_bytes part parts [] (p ∷ ps) have = tt
  writes_of_bytes part parts (at ∷ ats) (p ∷ ps) have =
      (record { time = timed; data_bytes = have.0 }, writes_of_bytes (part + 1) parts ats ps have.1)

  legs_of_bytes : (t : RefusedData) (ats : List ℕ) → AreOfBytes (map (refused_fact before place time t) ats)
  legs_of_bytes t [] = tt
  legs_of_bytes t (at ∷ ats) = (record { time = timed; data_bytes = tt }, legs_of_bytes t ats)

  packet_of_bytes : (profile : List DeviceParts) (n : ℕ) (events : List Event) (t : TransactionData)
      → Packet profile t events → AreOfBytes (packet_facts before place time n events t)
  packet_of_bytes profile n events (Write parts) packet =
      writes_of_bytes 1 (length parts) (starts n events) parts
      (parts_have_bytes profile parts packet.legs packet.each)
  packet_of_bytes profile n events (Read t) packet = (record { time = timed; data_bytes = packet.fits.small }, tt)
  packet_of_bytes profile n events (Call t) packet = (record { time = timed; data_bytes = tt }, tt)
  packet_of_bytes profile n events (Refused t) packet =
      each_of_both IsOfBytes (write_facts before place time 1 (length t.parts + 1) (starts n events) t.parts)
      (map (refused_fact before place time t) (take 1 (drop (length t.parts) (starts n events))))
      (writes_of_bytes 1 (length t.parts + 1) (starts n events) t.parts
      (parts_have_bytes profile t.parts packet.legs packet.each))
      (legs_of_bytes t (take 1 (drop (length t.parts) (starts n events))))
  packet_of_bytes profile n events (Alert t) packet = (record { time = timed; data_bytes = tt }, tt)
  packet_of_bytes profile n events NoAlert packet = (record { time = timed; data_bytes = tt }, tt)

-- ---- spans

module _ (ignored : Option (List ℕ)) (profile : List DeviceParts) where
  module _ (place : ℕ → Place) (times : ℕ → Option (List ℕ)) (timed : (at : ℕ) → IsTime (times at))
      (lost : ℕ → List Event → List PastData) where
    -- an other, or these facts
    either_of_bytes : (n : ℕ) (addr : Option ℕ) (facts : List FactData) → AreOfBytes facts
        → AreOfBytes (other_or place times n addr facts)
    either_of_bytes n None facts are = are
    either_of_bytes n (Some addr) facts are = (record { time = timed n; data_bytes = tt }, tt)

    refusal_of_bytes : (before : List PastData) (n : ℕ) (front : List Event) (event : Option Event)
        (refusal : RefusalData) → AreOfBytes (refused_span place times before n front event refusal ∷ [])
    refusal_of_bytes before n front event refusal = (record { time = timed n; data_bytes = tt }, tt)

    spans_of_bytes : (before : List PastData) (spans : List Span) → AllSayPackets profile spans
        → AreOfBytes (span_facts ignored place times lost before spans)
    spans_of_bytes before [] say = tt
    spans_of_bytes before (ReadSpan n events t ∷ spans) say =
        let own = packet_facts before place (times n) n events t in
        let addr = other_address ignored events in
        each_of_both IsOfBytes (other_or place times n addr own)
        (span_facts ignored place times lost (before ++ Said t ∷ []) spans)
        (either_of_bytes n addr own (packet_of_bytes before place (times n) (timed n) profile n events t say.0))
        (spans_of_bytes (before ++ Said t ∷ []) spans say.1)
    spans_of_bytes before (RefusedSpan n front event refusal ∷ spans) say =
        let own = refused_span place times before n front (Some event) refusal ∷ [] in
        let addr = other_address ignored (front ++ event ∷ []) in
        each_of_both IsOfBytes (other_or place times n addr own)
        (span_facts ignored place times lost (before ++ lost n front) spans)
        (either_of_bytes n addr own (refusal_of_bytes before n front (Some event) refusal))
        (spans_of_bytes (before ++ lost n front) spans say.1)
    spans_of_bytes before (TruncatedSpan n front refusal ∷ spans) say =
        let own = refused_span place times before n front None refusal ∷ [] in
        let addr = other_address ignored front in
        each_of_both IsOfBytes (other_or place times n addr own) (span_facts ignored place times lost before spans)
        (either_of_bytes n addr own (refusal_of_bytes before n front None refusal))
        (spans_of_bytes before spans say.1)

  -- ---- texts

  module _ (short : TimesAreShort) where
    event_times : (n : ℕ) (text : List ℕ) (at : ℕ) → IsTime (event_time n text at)
    event_times n text at = time_fits (time_at text (at - n)) (short text (at - n))

    open_times : (text : List ℕ) (events : List Event) → IsTime (open_time text events)
    open_times text events =
        time_of_some_fits (under_way events) (time_at text (up_to_stop events))
        (time_fits (time_at text (up_to_stop events)) (short text (up_to_stop events)))

    line_of_bytes : (b : Before) (bad : BadLine) → IsBadLine ignored profile b bad
        → AreOfBytes (bad_line_facts ignored profile b bad)
    line_of_bytes b bad is =
        let text = bad.front ++ bad.line in
        let say : AllSayPackets profile bad.spans = subst (AllSayPackets profile) (sym is.reported)
        (each_filtered (SaysPacket profile) (is_told ignored) is.all
        (spans_say_packets profile b.n bad.events is.all is.reads)) in
        each_of_both IsOfBytes (front_facts ignored profile b bad) (word_fact b bad ∷ [])
        (spans_of_bytes (event_place b.read b.n text) (event_time b.n text) (event_times b.n text)
        (lost_in profile b.n bad.events) b.past bad.spans say)
        (record { time = open_times bad.front bad.events; data_bytes = tt }, tt)

    others_of_bytes : (b : Before) (bad : BadLine) (facts others : List FactData) → IsBadLine ignored profile b bad
        → facts ≡ bad_line_facts ignored profile b bad ++ others → AreOfBytes others → AreOfBytes facts
    others_of_bytes b bad facts others is all rest =
        subst AreOfBytes (sym all)
        (each_of_both IsOfBytes (bad_line_facts ignored profile b bad) others (line_of_bytes b bad is) rest)

    -- the facts of bytes from anywhere on
    pub facts_of_bytes : (after : AfterBadToken) (b : Before) (bytes : List ℕ) (bad : List BadLine)
        (facts : List FactData) (counts : CountsData) → FactsFrom ignored profile after b bytes bad facts counts
        → AreOfBytes facts
    facts_of_bytes after b bytes [] facts counts end =
        subst AreOfBytes (sym end.all)
        (spans_of_bytes (event_place b.read b.n bytes) (event_time b.n bytes) (event_times b.n bytes)
        (lost_in profile b.n end.events) b.past end.spans
        (spans_say_packets profile b.n end.events end.spans end.reads))
    facts_of_bytes End b bytes (bad ∷ more) facts counts (rest, others, split, behind, is, all, on) =
        others_of_bytes b bad facts others is all (subst AreOfBytes (sym on.1) tt)
    facts_of_bytes Continue b bytes (bad ∷ more) facts counts ([], others, split, behind, is, all, on) =
        others_of_bytes b bad facts others is all (subst AreOfBytes (sym on.1) tt)
    facts_of_bytes Continue b bytes (bad ∷ more) facts counts (lf ∷ rest, others, split, behind, is, all, on) =
        others_of_bytes b bad facts others is all
        (facts_of_bytes Continue (behind_line ignored profile b bad) rest more others counts on)
