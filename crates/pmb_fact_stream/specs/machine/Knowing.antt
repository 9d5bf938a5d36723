-- What a `Stream` keeps of what it was given.
use Rattle.std.specs.Prelude.{◌≡◌, ℕ, ◌+◌, ⊤, Bool, true, false, Option, List, [], ◌++◌, length}
use Rattle.pmb_bus.specs.declared.event.Event.{Event}
use Rattle.pmb_bus.specs.declared.event.Event.TheVariants.{Start, Byte, Ack, Nack, Stop}
use Rattle.pmb_bus.specs.Text.{EndsBetween}
use Rattle.pmb_command.specs.Parts.{DeviceParts}
use Rattle.pmb_io.specs.Count.{capped}
use Rattle.pmb_io.specs.Tally.{IsTallyOf}
use Rattle.pmb_io.specs.declared.tally.Tally.{Tally}
use Rattle.pmb_unknown_start.specs.Late.{HasSeen}
use Rattle.pmb_json_objects.specs.machine.Counting.{CountsAre}
use Rattle.pmb_json_objects.specs.Seen.{SeenData}
use Rattle.pmb_places.specs.Places.{PlacesStandAt}
use Rattle.pmb_places.specs.OpenWord.{OpenWordStandsAt}
use Rattle.pmb_reader.specs.Reader.{Standing, Open, Held, Passing}
use Rattle.pmb_partial_packet.specs.Standing.{SaidStandsAt}
use Rattle.pmb_scan.specs.Reached.{Reached, at_start}
use Rattle.pmb_times.specs.Times.{TimesStandAt}
use Rattle.pmb_fact_stream.specs.declared.stream.Stream.{Stream}
use Rattle.pmb_fact_stream.specs.Before.{Before, with_reached}
use Rattle.pmb_fact_stream.specs.Choice.{ChoiceData, choice_data}
use Rattle.pmb_fact_stream.specs.Lines.{seen_behind}
use Rattle.pmb_fact_stream.specs.Spans.{event_place}
use Rattle.pmb_fact_stream.specs.UnderWay.{under_way}
use Rattle.pmb_fact_stream.specs.machine.Begun.{begun_legs}
use Rattle.pmb_fact_stream.specs.declared.front.Front.TheVariants as fronts
use Rattle.pmb_fact_stream.specs.machine.Front.{front_of}
use Rattle.pmb_fact_stream.specs.machine.Losing.{KnowsLost}
use Rattle.pmb_fact_stream.specs.machine.OpenTime.{KeepsTime, kept_time}

abbrev pub stream_choice : Stream → ChoiceData
stream_choice stream = choice_data stream.choice

-- the profile under which it reads
abbrev pub stream_profile : Stream → List DeviceParts
stream_profile stream = stream.profile.now

abbrev pub stream_tally : Stream → Tally
stream_tally stream = stream.tally

-- what is known where a packet begins after what it was given
abbrev pub stream_seen : Stream → Before → SeenData
stream_seen stream b = seen_behind (stream_choice stream) (stream_profile stream) b.past

-- the time that it keeps of what is under way
abbrev pub stream_time : Stream → Option (List ℕ)
stream_time stream = kept_time stream.time

-- It was given these bytes, which hold so many events that were taken; of these the transactions came
-- that went before, with the lines that were dropped; and it counted so much.
pub record StreamKnows (b : Before) (stream : Stream) : Type 0 where
  pub places : PlacesStandAt stream.places b.read
  pub word : OpenWordStandsAt stream.word b.read
  pub count : stream.count ≡ capped b.n
  pub late : HasSeen stream.late (stream_profile stream) stream.choice.start b.past
  pub counts : CountsAre stream.counts b.counts
  pub tally : IsTallyOf b.counts.packets (b.counts.refusals + b.counts.bad_tokens) stream.tally

-- Nothing of a packet is kept.
pub record IsCleared (stream : Stream) : Type 0 where
  pub said : SaidStandsAt stream.said []
  pub begun : stream.begun.items ≡ []
  pub front : stream.front ≡ fronts.Nothing

-- What is kept of a packet under way, which began after b.n + n events: what it said, its STARTs,
-- whatever text follows, and how it begins. And whether events are passed over.
pub record KeepsPacket (b : Before) (stream : Stream) (text : List ℕ) (n : ℕ) (events : List Event) : Type 0 where
  pub reading : stream.passing ≡ false
  pub said : SaidStandsAt stream.said events
  pub begun : (more : List ℕ) → stream.begun.items ≡ begun_legs (event_place b.read b.n (text ++ more)) (b.n + n) events
  pub front : stream.front ≡ front_of (stream_choice stream).ignored events

-- whether events are passed over after one that is
abbrev pub passes_on : Event → Bool
passes_on Start = true
passes_on (Byte b) = true
passes_on Ack = true
passes_on Nack = true
passes_on Stop = false

abbrev pub KeepsUnderWay : Before → Stream → List ℕ → Standing → Type 0
KeepsUnderWay b stream text (Open n events) = KeepsPacket b stream text n events
KeepsUnderWay b stream text (Held n refusal) = ⊤
KeepsUnderWay b stream text (Passing n) = (stream.passing ≡ true) × IsCleared stream

-- how many events were given
abbrev pub IsCountOf : Standing → ℕ → Type 0
IsCountOf (Open n events) count = n + length events ≡ count
IsCountOf (Held n refusal) count = ⊤
IsCountOf (Passing n) count = n ≡ count

-- what of the events given is under way
abbrev pub IsUnderWay : Standing → List Event → Type 0
IsUnderWay (Open n own) events = under_way events ≡ own
IsUnderWay (Held n refusal) events = ⊤
IsUnderWay (Passing n) events = ⊤

-- What is kept of times, where a scan has reached so much since reading began.
pub record KnowsTimes (stream : Stream) (reached : Reached) : Type 0 where
  pub times : TimesStandAt stream.times reached.text
  pub time : KeepsTime stream.time reached.text reached.events
  pub under_way : IsUnderWay reached.standing reached.events

-- Of times the same is kept.
pub record KeepsTimes (old new : Stream) : Type 0 where
  pub times : new.times ≡ old.times
  pub time : new.time ≡ old.time

-- Of the packet under way the same is kept.
pub record KeepsSame (old new : Stream) : Type 0 where
  pub said : new.said ≡ old.said
  pub begun : new.begun ≡ old.begun
  pub passing : new.passing ≡ old.passing
  pub front : new.front ≡ old.front
  pub writes : new.writes ≡ old.writes

-- It began after `b`, between words, and a scan that began with it has reached so much since.
pub record StreamAt (b : Before) (stream : Stream) (reached : Reached) : Type 0 where
  pub between : EndsBetween b.read
  pub profile : reached.profile ≡ stream_profile stream
  pub knows : StreamKnows (with_reached (stream_choice stream).ignored b reached) stream
  pub packet : KeepsUnderWay b stream reached.text reached.standing
  pub counted : IsCountOf reached.standing (length reached.events)
  pub times : KnowsTimes stream reached
  pub loses : KnowsLost stream.writes reached reached.standing

-- Nothing was reached yet.
abbrev pub StreamBegins : Before → Stream → Type 0
StreamBegins b stream = StreamAt b stream (at_start (stream_profile stream))
