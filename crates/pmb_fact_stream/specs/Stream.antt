-- What a `Stream` stands at, and what it puts out.
--
-- `StreamKnows b stream` says that a stream was given what `b` says; `StreamBegins b stream` that
-- it stands between words, and no packet is under way; `StreamAt b stream reached` that it began
-- there, and a scan that began with it has reached so much since. What they say of a stream's own
-- fields is in `machine`, and nothing here needs it to be understood. `Keeps` is what the keeper
-- beside it says of the facts that it was given.
use Rattle.std.specs.Prelude.{◌≡◌, ℕ, List, ◌++◌}
use Rattle.pmb_bus.specs.declared.event.Event.{Event}
use Rattle.pmb_facts.specs.Fact.{FactData}
use Rattle.pmb_json_objects.specs.Counts.{CountsData}
use Rattle.pmb_keeper.specs.Setting.{Setting}
use Rattle.pmb_scan.specs.Reached.{Reached}
use Rattle.pmb_spans.specs.Spans.{moved_spans}
use Rattle.pmb_fact_stream.specs.declared.kept_stream.KeptStream.{KeptStream}
use Rattle.pmb_fact_stream.specs.declared.stream.Stream.{Stream}
use Rattle.pmb_fact_stream.specs.Before.{Before}
use Rattle.pmb_fact_stream.specs.UnderWay.{open_time}
use Rattle.pmb_fact_stream.specs.Choice.{ChoiceData}
use Rattle.pmb_fact_stream.specs.Keeping.{IsTold, KeepsOn, setting_under}
use Rattle.pmb_fact_stream.specs.Lines.{fact_lines, last_lines}
use Rattle.pmb_fact_stream.specs.Lost.{lost_in}
use Rattle.pmb_fact_stream.specs.Spans.{event_place, event_time, open_facts, span_facts}
pub use Rattle.pmb_fact_stream.specs.machine.Knowing.{
  StreamKnows,
  StreamBegins,
  StreamAt,
  stream_choice,
  stream_profile,
  stream_tally,
  stream_time,
}

-- the same choice, under the same profile
pub record IsSame (start now : Stream) : Type 0 where
  pub choice : stream_choice now ≡ stream_choice start
  pub profile : stream_profile now ≡ stream_profile start

-- Where a scan began after `b`, this holds of the facts of what it has reached, with that of an other
-- that is under way, whatever text and whatever events follow: each place and each time is known by then, and
-- what was lost before each fact.
abbrev pub HoldsOf : ChoiceData → Before → Reached → (List FactData → Type 0) → Type 0
HoldsOf choice b reached Holds =
    (more : List ℕ) (later : List Event) → Holds
    (span_facts choice.ignored (event_place b.read b.n (reached.text ++ more)) (event_time b.n (reached.text ++ more))
    (lost_in reached.profile b.n (reached.events ++ later)) b.past (moved_spans b.n reached.spans)
    ++ open_facts choice.ignored (event_place b.read b.n (reached.text ++ more))
    (event_time b.n (reached.text ++ more)) b.n reached.standing)

-- The time that the stream keeps is that of what is under way, whatever text follows.
abbrev pub KeepsOpenTime : Stream → Reached → Type 0
KeepsOpenTime stream reached = (more : List ℕ) → stream_time stream ≡ open_time (reached.text ++ more) reached.events

-- what a stream says of facts, and at the end of what was counted
abbrev pub stream_lines : Stream → List FactData → List ℕ
stream_lines stream facts = fact_lines (stream_choice stream) (stream_profile stream) facts

abbrev pub stream_last_lines : Stream → CountsData → List ℕ
stream_last_lines stream counts = last_lines (stream_choice stream) (stream_profile stream) counts

-- a stream with a keeper
abbrev pub kept_by : {K : Type 0} → Stream → K → KeptStream K
kept_by stream keeper = record { stream = stream; keeper = keeper }

-- where its facts are seen
abbrev pub stream_setting : Stream → Setting
stream_setting stream = setting_under (stream_choice stream) (stream_profile stream)

module _ {K : Type 0} (Keeps : K → Setting → List FactData → Type 0) where
  -- A keeper has become another, and keeps these facts too.
  abbrev pub KeepsFacts : Stream → K → K → List FactData → Type 0
  KeepsFacts stream old new = KeepsOn (Keeps old (stream_setting stream)) (Keeps new (stream_setting stream))

  -- .. and their lines are this text, as the stream tells them
  abbrev pub TellsFacts : Stream → K → K → List ℕ → List FactData → Type 0
  TellsFacts stream old new = IsTold (stream_choice stream) (stream_profile stream)
      (Keeps old (stream_setting stream)) (Keeps new (stream_setting stream))

  -- Where the stream began after `b`, it stands at what was reached, and has told the facts of that.
  pub record HasToldOf (b : Before) (start now : KeptStream K) (reached : Reached) (text : List ℕ) : Type 0 where
    pub same : IsSame start.stream now.stream
    pub at : StreamAt b now.stream reached
    pub time : KeepsOpenTime now.stream reached
    pub told : HoldsOf (stream_choice start.stream) b reached
        (TellsFacts start.stream start.keeper now.keeper text)

  -- As a visitor: it began somewhere, and this holds wherever it began.
  pub record StreamStands (start now : KeptStream K) (reached : Reached) (text : List ℕ) : Type 0 where
    pub begins : (b : Before) × StreamBegins b start.stream
    pub told : (b : Before) → StreamBegins b start.stream → HasToldOf b start now reached text
