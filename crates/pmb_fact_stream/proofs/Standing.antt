-- What a stream keeps from event to event: what it was given so far, the legs and STARTs of the
-- packet under way, and how many events came. For `take_event`, `take_packet`, `take_word` and
-- `visit_event`. Between packets nothing is kept; while events are passed over, only that.
use Rattle.std.proofs.Common.{◌≡◌, ℕ, ◌+◌, false, List, [], ◌∷◌, ◌++◌, length, append-nil, append_assoc, length-append}
use Rattle.std.proofs.Common.{refl}
use Rattle.std.proofs.Common.{sym, ap}
use Rattle.std.proofs.Common.{◌∙◌, subst, arith}
use Rattle.std.proofs.lemmas.Bool.{false≢true}
use Rattle.pmb_bus.specs.declared.event.Event.{Event}
use Rattle.pmb_bus.specs.declared.event.Event.TheVariants.{Start, Byte, Ack, Nack, Stop}
use Rattle.pmb_bus.specs.Event.{canonical_text}
use Rattle.pmb_bus.specs.Text.{EndsBetween}
use Rattle.pmb_io.specs.Count.{capped}
use Rattle.pmb_io.specs.Tally.{IsTallyOf, with_packet}
use Rattle.pmb_io.specs.declared.tally.Tally.{Tally}
use Rattle.pmb_unknown_start.specs.Late.{HasSeen}
use Rattle.pmb_json_objects.specs.declared.counts.Counts.{Counts}
use Rattle.pmb_json_objects.specs.Counts.{CountsData, after_other}
use Rattle.pmb_json_objects.specs.machine.Counting.{CountsAre}
use Rattle.pmb_places.specs.Places.{PlacesStandAt}
use Rattle.pmb_places.specs.OpenWord.{OpenWordStandsAt}
use Rattle.pmb_places.specs.declared.places.Place.{Place}
use Rattle.pmb_reader.specs.Reader.{Standing, Open, Held, Passing, behind_passed}
use Rattle.pmb_partial_packet.specs.Standing.{SaidStandsAt}
use Rattle.pmb_scan.specs.Reached.{MayGoOn, Reached, behind_bytes, behind_event, behind_packet, behind_refusal}
use Rattle.pmb_scan.specs.Reached.{at_start, behind_whole, standing_after}
use Rattle.pmb_times.specs.Times.{TimesStandAt}
use Rattle.pmb_transaction.specs.Reading.{RefusalData}
use Rattle.pmb_transaction.specs.Transaction.{TransactionData}
use Rattle.pmb_unknown_start.specs.Past.{PastData}
use Rattle.pmb_fact_stream.specs.declared.open_time.OpenTime.{OpenTime}
use Rattle.pmb_fact_stream.specs.declared.stream.Begun.{Begun}
use Rattle.pmb_fact_stream.specs.declared.stream.Stream.{Stream}
use Rattle.pmb_fact_stream.specs.Before.{Before, with_reached}
use Rattle.pmb_fact_stream.specs.Spans.{event_place}
use Rattle.pmb_fact_stream.specs.UnderWay.{under_way}
use Rattle.pmb_fact_stream.specs.Stream.{IsSame, StreamBegins, StreamKnows, stream_choice, stream_profile}
use Rattle.pmb_fact_stream.specs.machine.Begun.{begun_behind, begun_legs}
use Rattle.pmb_fact_stream.specs.machine.Knowing.{IsCleared, IsCountOf, KeepsPacket, KeepsSame, KeepsUnderWay}
use Rattle.pmb_fact_stream.specs.machine.Knowing.{KeepsTimes, KnowsTimes}
use Rattle.pmb_fact_stream.specs.machine.Front.{front_of}
use Rattle.pmb_fact_stream.specs.machine.Losing.{IsFresh}
use Rattle.pmb_fact_stream.specs.machine.OpenTime.{KeepsTime}
use Rattle.pmb_fact_stream.proofs.Losing.{settled_first}
use Rattle.pmb_fact_stream.proofs.Starts.{one_more_kept}
use Rattle.pmb_fact_stream.proofs.UnderWay.{behind_stop, keeps_time_behind, under_event, under_passed}

-- ---- what it was given

-- the same, in other words
pub knows_as : (b d : Before) (stream : Stream) → b.read ≡ d.read → b.n ≡ d.n → b.past ≡ d.past → b.counts ≡ d.counts
    → StreamKnows b stream → StreamKnows d stream
knows_as b d stream read n past counts knows = record {
  places = subst (λ (l : List ℕ). PlacesStandAt stream.places l) read knows.places;
  word = subst (λ (l : List ℕ). OpenWordStandsAt stream.word l) read knows.word;
  count = knows.count ∙ ap capped n;
  late = subst (λ (l : List PastData). HasSeen stream.late (stream_profile stream) stream.choice.start l) past
      knows.late;
  counts = subst (λ (c : CountsData). CountsAre stream.counts c) counts knows.counts;
  tally = subst (λ (c : CountsData). IsTallyOf c.packets (c.refusals + c.bad_tokens) stream.tally) counts knows.tally;
}

-- it doesn't depend on what is kept of times
pub knows_at : (b : Before) (stream : Stream) (kept : OpenTime) → StreamKnows b stream
    → StreamKnows b (record stream { time = kept })
knows_at b stream kept knows = record {
  places = knows.places;
  word = knows.word;
  count = knows.count;
  late = knows.late;
  counts = knows.counts;
  tally = knows.tally;
}

-- an other is counted
pub counts_as : (b : Before) (stream : Stream) (counts : Counts) (addr : ℕ)
    → CountsAre counts (after_other b.counts addr) → StreamKnows b stream
    → StreamKnows (record b { counts = after_other b.counts addr }) (record stream { counts = counts })
counts_as b stream counts addr are knows = record {
  places = knows.places;
  word = knows.word;
  count = knows.count;
  late = knows.late;
  counts = are;
  tally = knows.tally;
}

-- one more of a count that stays at the greatest
counted_more : (n : ℕ) → capped (capped n + 1) ≡ capped (n + 1)
counted_more n = omega arith

pub packet_counted : (old new : Tally) (packets refusals : ℕ) → new ≡ with_packet old → IsTallyOf packets refusals old
    → IsTallyOf (packets + 1) refusals new
packet_counted old new packets refusals is counts = record {
  packets_counted = ap (λ (t : Tally). t.packets) is
      ∙ (ap (λ (n : ℕ). capped (n + 1)) counts.packets_counted ∙ counted_more packets);
  refusals_counted = ap (λ (t : Tally). t.refusals) is ∙ counts.refusals_counted;
}

-- ---- of a packet under way

-- a stream with the same of these fields keeps the same
pub keeps_as : (b : Before) (old new : Stream) (text : List ℕ) (standing : Standing) → IsSame old new → KeepsSame old
    new
    → KeepsUnderWay b old text standing → KeepsUnderWay b new text standing
keeps_as b old new text (Open n events) choice same keeps = record {
  reading = same.passing ∙ keeps.reading;
  said = subst (λ s. SaidStandsAt s events) (sym same.said) keeps.said;
  begun = λ more. ap (λ l. l.items) same.begun ∙ keeps.begun more;
  front = same.front ∙ keeps.front ∙ ap (λ c. front_of c.ignored events) (sym choice.choice);
}
keeps_as b old new text (Held n refusal) choice same keeps = tt
keeps_as b old new text (Passing n) choice same keeps = (
  same.passing ∙ keeps.0,
  record {
    said = subst (λ s. SaidStandsAt s []) (sym same.said) keeps.1.said;
    begun = ap (λ l. l.items) same.begun ∙ keeps.1.begun;
    front = same.front ∙ keeps.1.front;
  },
)

-- bytes more change nothing of it
pub keeps_behind : (b : Before) (stream : Stream) (text bytes : List ℕ) (standing : Standing)
    → KeepsUnderWay b stream text standing → KeepsUnderWay b stream (text ++ bytes) standing
keeps_behind b stream text bytes (Open n events) keeps = record {
  reading = keeps.reading;
  said = keeps.said;
  begun = λ more. keeps.begun (bytes ++ more)
      ∙ ap (λ (l : List ℕ). begun_legs (event_place b.read b.n l) (b.n + n) events)
      (sym (append_assoc text bytes more));
  front = keeps.front;
}
keeps_behind b stream text bytes (Held n refusal) keeps = tt
keeps_behind b stream text bytes (Passing n) keeps = keeps

-- nothing is kept between packets
pub keeps_none : (b : Before) (stream : Stream) (text : List ℕ) (n : ℕ) → stream.passing ≡ false → IsCleared stream
    → KeepsUnderWay b stream text (Open n [])
keeps_none b stream text n reading cleared =
    record { reading = reading; said = cleared.said; begun = λ more. cleared.begun; front = cleared.front }

-- an event of the packet
pub keeps_event : (b : Before) (old new : Stream) (text : List ℕ) (n count : ℕ) (place : Place) (events : List Event)
    (event : Event) → KeepsPacket b old text n events
    → new.passing ≡ old.passing → ((events : List Event) → SaidStandsAt old.said events
    → SaidStandsAt new.said (events ++ event ∷ []))
    → ((front : List Event) → old.front ≡ front_of (stream_choice old).ignored front
    → new.front ≡ front_of (stream_choice new).ignored (front ++ event ∷ []))
    → new.begun.items ≡ begun_behind old.begun.items count place event → count ≡ capped ((b.n + n) + length events)
    → ((more : List ℕ) → event_place b.read b.n (text ++ more) ((b.n + n) + length events) ≡ place)
    → KeepsPacket b new text n (events ++ event ∷ [])
keeps_event b old new text n count place events event keeps passing said front begun counted placed = record {
  reading = passing ∙ keeps.reading;
  said = said events keeps.said;
  begun = λ more.
      let at = event_place b.read b.n (text ++ more) in
      begun ∙ ap (λ (l : List Begun). begun_behind l count place event) (keeps.begun more)
      ∙ ap (λ (k : ℕ). begun_behind (begun_legs at (b.n + n) events) k place event) counted
      ∙ ap (λ (p : Place). begun_behind (begun_legs at (b.n + n) events) (capped ((b.n + n) + length events)) p event)
      (sym (placed more))
      ∙ sym (one_more_kept at (b.n + n) events event);
  front = front events keeps.front;
}

-- an event where none is passed over
pub read_event : (b : Before) (old new : Stream) (text : List ℕ) (standing : Standing) (all : ℕ) (place : Place)
    (event : Event) → old.passing ≡ false → KeepsUnderWay b old text standing
    → IsCountOf standing all → new.passing ≡ old.passing
    → ((events : List Event) → SaidStandsAt old.said events → SaidStandsAt new.said (events ++ event ∷ []))
    → ((front : List Event) → old.front ≡ front_of (stream_choice old).ignored front
    → new.front ≡ front_of (stream_choice new).ignored (front ++ event ∷ []))
    → new.begun.items ≡ begun_behind old.begun.items old.count place event → old.count ≡ capped (b.n + all)
    → ((more : List ℕ) → event_place b.read b.n (text ++ more) (b.n + all) ≡ place)
    → KeepsUnderWay b new text (standing_after standing event)
read_event b old new text (Open n events) all place event reading keeps counted passing said front begun count placed =
    let at : b.n + all ≡ (b.n + n) + length events = omega (arith, counted) in
    keeps_event b old new text n old.count place events event keeps passing said front begun (count ∙ ap capped at)
    (λ more. ap (event_place b.read b.n (text ++ more)) (sym at) ∙ placed more)
read_event b old new text (Held n refusal) all place event reading keeps counted passing said front begun count placed =
    tt
read_event b old new text (Passing n) all place event reading keeps counted passing said front begun count placed =
    absurd (false≢true (sym reading ∙ keeps.0))

-- ---- of times

pub times_as : (old new : Stream) (reached : Reached) → KeepsTimes old new → KnowsTimes old reached
    → KnowsTimes new reached
times_as old new reached same knows = record {
  times = subst (λ t. TimesStandAt t reached.text) (sym same.times) knows.times;
  time = subst (λ o. KeepsTime o reached.text reached.events) (sym same.time) knows.time;
  under_way = knows.under_way;
}

pub times_behind : (old new : Stream) (reached : Reached) (bytes : List ℕ) → new.time ≡ old.time
    → ((text : List ℕ) → TimesStandAt old.times text → TimesStandAt new.times (text ++ bytes)) → KnowsTimes old reached
    → KnowsTimes new (behind_bytes reached bytes)
times_behind old new reached bytes time times knows = record {
  times = times reached.text knows.times;
  time = subst (λ o. KeepsTime o (reached.text ++ bytes) reached.events) (sym time)
      (keeps_time_behind old.time reached.text bytes reached.events knows.time);
  under_way = knows.under_way;
}

-- an event that ends no packet and is not refused
pub times_event : (old new : Stream) (reached : Reached) (event : Event) → MayGoOn reached.standing event
    → new.times ≡ old.times → KeepsTime new.time reached.text (reached.events ++ event ∷ []) → KnowsTimes old reached
    → KnowsTimes new (behind_event reached event)
times_event old new reached event may times time knows = record {
  times = subst (λ t. TimesStandAt t reached.text) (sym times) knows.times;
  time = time;
  under_way = under_event reached.standing reached.events event knows.under_way may;
}

-- the events of a packet by those between its START and its STOP
abbrev pub whole_line : List Event → List Event
whole_line rest = Start ∷ (rest ++ Stop ∷ [])

-- STOP ends a packet
pub times_packet : (old new : Stream) (reached : Reached) (n : ℕ) (front : List Event) (event : Event)
    (t : TransactionData) → event ≡ Stop → new.times ≡ old.times
    → KeepsTime new.time reached.text (reached.events ++ Stop ∷ []) → KnowsTimes old reached
    → KnowsTimes new (behind_packet reached n front event t)
times_packet old new reached n front event t stop times time knows =
    subst (λ (e : Event). KnowsTimes new (behind_packet reached n front e t)) (sym stop) (record {
      times = subst (λ t. TimesStandAt t reached.text) (sym times) knows.times;
      time = time;
      under_way = behind_stop reached.events;
    })

-- a whole packet ends with STOP
pub times_whole : (mid new : Stream) (reached : Reached) (n : ℕ) (rest : List Event) (t : TransactionData)
    → TimesStandAt new.times (reached.text ++ canonical_text (whole_line rest))
    → ((text : List ℕ) (events : List Event) → KeepsTime new.time text (events ++ Stop ∷ []))
    → KnowsTimes new (behind_whole reached n (canonical_text (whole_line rest)) (whole_line rest) t)
times_whole mid new reached n rest t times time =
    let all : (reached.events ++ Start ∷ rest) ++ Stop ∷ [] ≡ reached.events ++ whole_line rest =
    append_assoc reached.events (Start ∷ rest) (Stop ∷ []) in record {
      times = times;
      time = subst (λ (l : List Event). KeepsTime new.time (reached.text ++ canonical_text (whole_line rest)) l) all
          (time (reached.text ++ canonical_text (whole_line rest)) (reached.events ++ Start ∷ rest));
      under_way = sym (ap under_way all) ∙ behind_stop (reached.events ++ Start ∷ rest);
    }

-- START is no STOP
pub goes_on_with_start : (standing : Standing) (n : ℕ) → standing ≡ Open n [] → MayGoOn standing Start
goes_on_with_start standing n is = subst (λ (s : Standing). MayGoOn s Start) (sym is) (λ same. cc same)

-- what is passed over begins with the refused event
pub times_refusal : (old new : Stream) (reached : Reached) (n : ℕ) (front : List Event) (event : Event)
    (refusal : RefusalData) → new.times ≡ old.times
    → KeepsTime new.time reached.text (reached.events ++ event ∷ []) → KnowsTimes old reached
    → KnowsTimes new (behind_refusal reached n front event refusal)
times_refusal old new reached n front event refusal times time knows = record {
  times = subst (λ t. TimesStandAt t reached.text) (sym times) knows.times;
  time = time;
  under_way = under_passed (n + length front) reached.events event;
}

-- ---- where reading begins

pub begins_so : (b : Before) (stream : Stream) → EndsBetween b.read → StreamKnows b stream → IsCleared stream
    → IsFresh stream.writes → stream.passing ≡ false → TimesStandAt stream.times []
    → ((text : List ℕ) → KeepsTime stream.time text []) → StreamBegins b stream
begins_so b stream between knows cleared fresh reading times time = record {
  between = between;
  profile = refl;
  knows = knows_as b (with_reached (stream_choice stream).ignored b (at_start (stream_profile stream))) stream
      (sym (append-nil b.read))
      (omega arith) (sym (append-nil b.past)) refl knows;
  packet = keeps_none b stream [] 0 reading cleared;
  counted = refl;
  times = record { times = times; time = time []; under_way = refl };
  loses = (fresh (stream_profile stream), settled_first (stream_profile stream));
}

-- ---- how many came

pub counts_passed : (n : ℕ) (events : List Event) (event : Event) → n ≡ length events
    → IsCountOf (behind_passed n event) (length (events ++ event ∷ []))
counts_passed n events Start counted = omega (arith, counted, length-append events (Start ∷ []))
counts_passed n events (Byte b) counted = omega (arith, counted, length-append events (Byte b ∷ []))
counts_passed n events Ack counted = omega (arith, counted, length-append events (Ack ∷ []))
counts_passed n events Nack counted = omega (arith, counted, length-append events (Nack ∷ []))
counts_passed n events Stop counted = omega (arith, counted, length-append events (Stop ∷ []))

pub counts_event : (standing : Standing) (events : List Event) (event : Event) → IsCountOf standing (length events)
    → IsCountOf (standing_after standing event) (length (events ++ event ∷ []))
counts_event (Open n own) events event counted =
    omega (arith, counted, length-append own (event ∷ []), length-append events (event ∷ []))
counts_event (Held n refusal) events event counted = tt
counts_event (Passing n) events event counted = counts_passed n events event counted
