-- The objects of facts of packets and refusals are JSON objects with distinct keys. For the law
-- `each_line_is_json`. Laws of lower crates say it of one object (`Below`); here it is shown that
-- what is counted, placed and said fits their premises.
use Rattle.std.proofs.Common.{ℕ, ◌+◌, ◌-◌, Bool, true, false, Option, Some, None, List, [], ◌∷◌, ◌++◌, length, sym}
use Rattle.std.proofs.Common.{subst, arith}
use Rattle.std.specs.Prelude.{IfSome}
use Rattle.std.specs.List.{AllByRecursion}
use Rattle.pmb_bus.specs.declared.event.Event.{Event}
use Rattle.pmb_bus.specs.declared.kinds.Kinds.{Kinds}
use Rattle.pmb_command.specs.Bus.{IsBus}
use Rattle.pmb_command.specs.Parts.{DeviceParts}
use Rattle.pmb_io.specs.Count.{capped}
use Rattle.pmb_json.specs.Lines.{AllMakeFormats}
use Rattle.pmb_json.specs.Objects.{objects_of}
use Rattle.pmb_telling.specs.Text.{text_facts}
use Rattle.pmb_facts.specs.Fact.{FactData}
use Rattle.pmb_facts.specs.Packets.{packet_facts}
use Rattle.pmb_json_text.specs.Spelling.{AreBytes}
use Rattle.pmb_json_objects.specs.BadToken.{bad_token_object}
use Rattle.pmb_json_objects.specs.Counts.{CountsData, end_objects}
use Rattle.pmb_json_objects.specs.Head.{Head, head_at}
use Rattle.pmb_json_objects.specs.Laws.{IsCount, IsHead, IsJsonObject, IsPlace, IsSeen, IsTime, IsTransaction}
use Rattle.pmb_json_objects.specs.Object.{Object}
use Rattle.pmb_json_objects.specs.Packets.{other_object, packet_objects}
use Rattle.pmb_json_objects.specs.Refusals.{refusal_object}
use Rattle.pmb_json_objects.specs.Seen.{SeenData}
use Rattle.pmb_places.specs.Bounds.{IsInRange}
use Rattle.pmb_places.specs.declared.places.Place.{Place}
use Rattle.pmb_places.specs.Text.{end_of_last_word, place_behind, places_from}
use Rattle.pmb_partial_packet.specs.PartialPacket.{written_to}
use Rattle.pmb_spans.specs.Spans.{Span, ReadSpan, RefusedSpan, TruncatedSpan, SpansFrom}
use Rattle.pmb_fact_stream.specs.Before.{Before}
use Rattle.pmb_fact_stream.specs.Choice.{ChoiceData}
use Rattle.pmb_fact_stream.specs.Others.{other_address}
use Rattle.pmb_fact_stream.specs.Lines.{seen_behind}
use Rattle.pmb_fact_stream.specs.Lost.{dropped_if}
use Rattle.pmb_fact_stream.specs.Spans.{event_place, event_time, other_or, past_in}
use Rattle.pmb_fact_stream.specs.Spans.{refused_span, span_facts}
use Rattle.pmb_fact_stream.specs.UnderWay.{open_time, time_of_some, under_way, up_to_stop}
use Rattle.pmb_times.specs.Line.{IsTime as IsPlainTime}
use Rattle.pmb_times.specs.Times.{time_at}
use Rattle.pmb_transaction.specs.declared.reason.Reason.{Reason}
use Rattle.pmb_transaction.specs.Packet.{Packet}
use Rattle.pmb_transaction.specs.Reading.{RefusalData}
use Rattle.pmb_transaction.specs.Transaction.{TransactionData}
use Rattle.pmb_unknown_start.specs.Past.{PastData, Said}
use Rattle.pmb_json.proofs.Losses.{LosesOne}
use Rattle.pmb_json.proofs.EachOf.{each_of_both, of_any, the_one_at}
use Rattle.pmb_json.proofs.Fitting.{device_is_seen, packet_fits}
use Rattle.pmb_json.proofs.Objects.{PacketsHaveObjects, each_of_both_facts, packet_is}
use Rattle.pmb_json.proofs.Telling.{AllTellBytes, PastTellsBytes, packets_tell_bytes}
use Rattle.pmb_json.proofs.TimeBytes.{times_have_bytes}

abbrev pub IsJson : Object → Type 0
IsJson object = IsJsonObject object.members

abbrev pub AreJson : List Object → Type 0
AreJson objects = AllByRecursion IsJson objects

-- what laws of lower crates say
pub record Below : Type 0 where
  -- the objects of a packet are those of its facts
  pub packets : PacketsHaveObjects
  -- of the objects of a packet, a refusal, a bad word, and of the last ones
  pub packet : (seen : SeenData) (place : ℕ → Place) (time : Option (List ℕ)) (n : ℕ) (events : List Event)
      (t : TransactionData) → ((at : ℕ) → IsPlace (place at)) → IsTime time → IsTransaction seen t
      → AreJson (packet_objects seen place time n events t)
  pub refusal : (seen : SeenData) (head : Head) (front : List Event) (event : Option Event) (reason : Reason)
      (expected : Kinds) → IsHead head → IsBus seen.profile → IfSome (written_to front) (IsSeen seen)
      → IsJsonObject (refusal_object seen head front event reason expected).members
  pub bad_token : (head : Head) (word : List ℕ) → IsHead head → AreBytes word
      → IsJsonObject (bad_token_object head word).members
  pub other : (head : Head) (addr : ℕ) → IsHead head → IsJsonObject (other_object head addr).members
  pub last : (profile : List DeviceParts) (gives_others : Bool) (c : CountsData) → IsBus profile
      → AreJson (end_objects profile gives_others c)
  -- places are in range: after a text, of its words, at its last word's end
  pub behind : (text : List ℕ) → IsInRange (place_behind text)
  pub words : (front text : List ℕ) → AllByRecursion IsInRange (places_from front text)
  pub end : (text : List ℕ) → IsInRange (end_of_last_word text)
  -- so are the bytes of times
  pub times : (text : List ℕ) (k : ℕ) → IfSome (time_at text k) IsPlainTime

pub few : (n : ℕ) → IsCount (capped n)
few n = omega arith

-- ---- places

pub place_fits : (place : Place) → IsInRange place → IsPlace place
place_fits place is = record { line = is.line; column = is.column }

events_are_placed : Below → (read : List ℕ) (n : ℕ) (text : List ℕ) (at : ℕ) → IsPlace (event_place read n text at)
events_are_placed below read n text at =
    place_fits (event_place read n text at)
    (the_one_at IsInRange (places_from read text) (at - n) (end_of_last_word (read ++ text)) (below.words read text)
    (below.end (read ++ text)))

-- ---- times

time_fits : (time : Option (List ℕ)) → IfSome time IsPlainTime → IsTime time
time_fits None is = tt
time_fits (Some time) is = times_have_bytes time is.plain

pub times_fit : Below → (text : List ℕ) (k : ℕ) → IsTime (time_at text k)
times_fit below text k = time_fits (time_at text k) (below.times text k)

-- of what is under way, if anything is
time_fits_of_some : (events : List Event) (time : Option (List ℕ)) → IsTime time → IsTime (time_of_some events time)
time_fits_of_some [] time is = tt
time_fits_of_some (event ∷ events) time is = is

pub open_time_fits : Below → (text : List ℕ) (events : List Event) → IsTime (open_time text events)
open_time_fits below text events = time_fits_of_some (under_way events) (time_at text (up_to_stop events))
    (times_fit below text (up_to_stop events))

-- ---- spans of packets

module _ (profile : List DeviceParts) where
  -- what was read is a packet
  abbrev pub SaysPacket : Span → Type 0
  SaysPacket (ReadSpan n events t) = Packet profile t events
  SaysPacket (RefusedSpan n front event refusal) = Unit {0}
  SaysPacket (TruncatedSpan n front refusal) = Unit {0}

  abbrev pub AllSayPackets : List Span → Type 0
  AllSayPackets spans = AllByRecursion SaysPacket spans

  pub spans_say_packets : (n : ℕ) (events : List Event) (spans : List Span) → SpansFrom profile n events spans
      → AllSayPackets spans
  spans_say_packets n events [] reads = tt
  spans_say_packets n events (ReadSpan m front t ∷ more) reads =
      (reads.3, spans_say_packets (n + length front) reads.1 more reads.4)
  spans_say_packets n events (RefusedSpan m front event refusal ∷ more) reads =
      (tt, spans_say_packets (n + length front + length reads.4) reads.5 more reads.7)
  spans_say_packets n events (TruncatedSpan m front refusal ∷ more) reads = (tt, subst AllSayPackets (sym reads.3) tt)

  dropped_tells_bytes : (loses : Bool) → AllTellBytes (dropped_if loses)
  dropped_tells_bytes true = (tt, tt)
  dropped_tells_bytes false = tt

  -- what is lost at a refusal is no transaction
  pub lost_tells_bytes : (lost : ℕ → List Event → List PastData) → LosesOne lost → (at : ℕ) (front : List Event)
      → AllTellBytes (lost at front)
  lost_tells_bytes lost one at front = subst AllTellBytes (sym (one at front).1) (dropped_tells_bytes (one at front).0)

  pub spans_tell_bytes : (lost : ℕ → List Event → List PastData) → LosesOne lost → (spans : List Span)
      → AllSayPackets spans → AllTellBytes (past_in lost spans)
  spans_tell_bytes lost one [] say = tt
  spans_tell_bytes lost one (ReadSpan n events t ∷ spans) say =
      (packets_tell_bytes profile t events say.0, spans_tell_bytes lost one spans say.1)
  spans_tell_bytes lost one (RefusedSpan n front event refusal ∷ spans) say =
      each_of_both PastTellsBytes (lost n front) (past_in lost spans) (lost_tells_bytes lost one n front)
      (spans_tell_bytes lost one spans say.1)
  spans_tell_bytes lost one (TruncatedSpan n front refusal ∷ spans) say = spans_tell_bytes lost one spans say.1

-- ---- their objects

-- the objects of facts
abbrev pub TellJson : ChoiceData → List DeviceParts → List FactData → Type 0
TellJson choice profile facts = AreJson (objects_of choice profile facts)

module _ (below : Below) (choice : ChoiceData) (profile : List DeviceParts) (bus : IsBus profile)
    (formats : AllMakeFormats profile) where
  module _ (place : ℕ → Place) (placed : (at : ℕ) → IsPlace (place at)) (times : ℕ → Option (List ℕ))
      (timed : (at : ℕ) → IsTime (times at)) (lost : ℕ → List Event → List PastData) (one : LosesOne lost) where
    refusal_is_json : (before : List PastData) → AllTellBytes before
        → (n : ℕ) (front : List Event) (event : Option Event) (refusal : RefusalData)
        → TellJson choice profile (refused_span place times before n front event refusal ∷ [])
    refusal_is_json before tell n front event refusal =
        let at = n + length front in (
          below.refusal (seen_behind choice profile before) (head_at place (times n) at) front event refusal.reason
              refusal.expected (record { at = few at; place = placed at; time = timed n }) bus
              (of_any (IsSeen (seen_behind choice profile before)) (written_to front)
              (device_is_seen choice profile bus formats before tell)),
          tt,
        )

    -- an other, or these facts
    either_is_json : (n : ℕ) (addr : Option ℕ) (facts : List FactData) → TellJson choice profile facts
        → TellJson choice profile (other_or place times n addr facts)
    either_is_json n None facts are = are
    either_is_json n (Some addr) facts are = (
      below.other (head_at place (times n) (n + 1)) addr
          (record { at = few (n + 1); place = placed (n + 1); time = timed n }),
      tt,
    )

    packet_is_json : (before : List PastData) → AllTellBytes before → (n : ℕ) (events : List Event)
        (t : TransactionData) → Packet profile t events → TellJson choice profile
        (packet_facts before place (times n) n events t)
    packet_is_json before tell n events t packet =
        subst AreJson (sym (packet_is choice profile before place (times n) below.packets n events t))
        (below.packet (seen_behind choice profile before) place (times n) n events t placed (timed n)
        (packet_fits choice profile bus formats before tell t events packet))

    facts_are_json : (before : List PastData) → AllTellBytes before → (spans : List Span)
        → AllSayPackets profile spans → TellJson choice profile (span_facts choice.ignored place times lost before spans)
    facts_are_json before tell [] say = tt
    facts_are_json before tell (ReadSpan n events t ∷ spans) say =
        let own = packet_facts before place (times n) n events t in
        let addr = other_address choice.ignored events in
        each_of_both_facts choice profile IsJson (other_or place times n addr own)
        (span_facts choice.ignored place times lost (before ++ Said t ∷ []) spans)
        (either_is_json n addr own (packet_is_json before tell n events t say.0))
        (facts_are_json (before ++ Said t ∷ []) (each_of_both PastTellsBytes before (Said t ∷ []) tell
        (packets_tell_bytes profile t events say.0, tt)) spans say.1)
    facts_are_json before tell (RefusedSpan n front event refusal ∷ spans) say =
        let own = refused_span place times before n front (Some event) refusal ∷ [] in
        let addr = other_address choice.ignored (front ++ event ∷ []) in
        each_of_both_facts choice profile IsJson (other_or place times n addr own)
        (span_facts choice.ignored place times lost (before ++ lost n front) spans)
        (either_is_json n addr own (refusal_is_json before tell n front (Some event) refusal))
        (facts_are_json (before ++ lost n front)
        (each_of_both PastTellsBytes before (lost n front) tell
        (lost_tells_bytes profile lost one n front)) spans say.1)
    facts_are_json before tell (TruncatedSpan n front refusal ∷ spans) say =
        let own = refused_span place times before n front None refusal ∷ [] in
        let addr = other_address choice.ignored front in
        each_of_both_facts choice profile IsJson (other_or place times n addr own)
        (span_facts choice.ignored place times lost before spans)
        (either_is_json n addr own (refusal_is_json before tell n front None refusal))
        (facts_are_json before tell spans say.1)

  -- of a text that stands after what was read
  pub spans_are_json : (b : Before) (text : List ℕ) (lost : ℕ → List Event → List PastData) → LosesOne lost
      → (before : List PastData) → AllTellBytes before → (spans : List Span) → AllSayPackets profile spans
      → TellJson choice profile (text_facts choice.ignored b text lost before spans)
  spans_are_json b text lost one before tell spans say =
      facts_are_json (event_place b.read b.n text) (events_are_placed below b.read b.n text)
      (event_time b.n text) (λ at. times_fit below text (at - b.n)) lost one before tell spans say
