-- What a stream stands at, visit by visit, where no span ends: bytes, events, and the address byte of an
-- other. For `take_next`, `take_other`, `put_end` and the visits.
use Rattle.std.proofs.Common.{◌≡◌, ◌≢◌, ℕ, ◌+◌, None, List, [], ◌∷◌, ◌++◌, length, append-nil}
use Rattle.std.proofs.Common.{append_assoc, length-append}
use Rattle.std.proofs.Common.{refl, sym, ap, ◌∙◌, subst, arith}
use Rattle.pmb_bus.specs.declared.event.Event.{Event}
use Rattle.pmb_bus.specs.Text.{Spells}
use Rattle.pmb_io.specs.Count.{capped}
use Rattle.pmb_json_objects.specs.Counts.{CountsData, after_other}
use Rattle.pmb_command.specs.Parts.{DeviceParts}
use Rattle.pmb_facts.specs.Fact.{FactData}
use Rattle.pmb_fact_stream.specs.Keeping.{KeepsOn}
use Rattle.pmb_fact_stream.specs.Lines.{last_lines}
use Rattle.pmb_fact_stream.specs.Spans.{other_fact}
use Rattle.pmb_keeper.specs.Setting.{Setting}
use Rattle.pmb_places.specs.declared.places.Place.{Place}
use Rattle.pmb_places.specs.Text.{place_of_last_word}
use Rattle.pmb_reader.specs.Reader.{Standing, Open, Held, Passing}
use Rattle.pmb_partial_packet.specs.Standing.{SaidStandsAt}
use Rattle.pmb_scan.specs.Reached.{MayGoOn, Reached, behind_bytes, behind_event}
use Rattle.pmb_scan.specs.Reached.{standing_after}
use Rattle.pmb_fact_stream.specs.declared.open_time.OpenTime.{OpenTime}
use Rattle.pmb_fact_stream.specs.declared.kept_stream.KeptStream.{KeptStream}
use Rattle.pmb_fact_stream.specs.declared.stream.Stream.{Stream}
use Rattle.pmb_fact_stream.specs.Before.{Before, past_of, with_reached}
use Rattle.pmb_fact_stream.specs.Choice.{ChoiceData}
use Rattle.pmb_fact_stream.specs.Spans.{after_open, after_some, after_spans, event_place, event_time}
use Rattle.pmb_fact_stream.specs.Stream.{kept_by}
use Rattle.pmb_fact_stream.specs.Stream.{HasToldOf, IsSame, StreamAt, StreamKnows, TellsFacts, stream_choice}
use Rattle.pmb_fact_stream.specs.Stream.{stream_last_lines, stream_profile, stream_time}
use Rattle.pmb_fact_stream.specs.UnderWay.{under_way}
use Rattle.pmb_fact_stream.specs.machine.Knowing.{IsCountOf, IsUnderWay, KeepsPacket, KeepsSame}
use Rattle.pmb_fact_stream.specs.machine.Knowing.{KeepsUnderWay, KnowsTimes}
use Rattle.pmb_fact_stream.specs.machine.Losing.{IsSettled, KnowsLost}
use Rattle.pmb_fact_stream.specs.declared.front.Front.{Front}
use Rattle.pmb_fact_stream.specs.machine.Front.{begins_behind, begins_other, front_of, other_begun_at}
use Rattle.pmb_fact_stream.specs.machine.OpenTime.{HasTime, kept_time}
use Rattle.pmb_fact_stream.proofs.Fronts.{BeginsOther, begins_so, count_stays}
use Rattle.pmb_fact_stream.proofs.Fronts.{open_none, open_other, open_stays}
use Rattle.pmb_fact_stream.proofs.Places.{LastWordStands}
use Rattle.pmb_fact_stream.proofs.UnderWay.{time_in_packet, time_of_packet}
use Rattle.pmb_fact_stream.proofs.Standing.{counts_event, keeps_as, keeps_behind, knows_as}
use Rattle.pmb_fact_stream.proofs.Adding.{FactsAre, begun_fact, facts_begin, facts_behind, facts_stay, facts_then}
use Rattle.pmb_fact_stream.proofs.Adding.{head_as, open_in}
use Rattle.pmb_fact_stream.proofs.Losing.{loses_bytes, settled_open}
use Rattle.pmb_fact_stream.proofs.Keeping.{same_told, tells_on}

-- the same choice twice
pub same_then : (a b c : Stream) → IsSame a b → IsSame b c → IsSame a c
same_then a b c first second = record {
  choice = second.choice ∙ first.choice;
  profile = second.profile
      ∙ first.profile;
}

-- what it says of counts is the same
pub same_last_lines : (start now : Stream) → IsSame start now → (counts : CountsData)
    → stream_last_lines now counts ≡ stream_last_lines start counts
same_last_lines start now same counts =
    ap (λ (c : ChoiceData). last_lines c (stream_profile now) counts) same.choice
    ∙ ap (λ (p : List DeviceParts). last_lines (stream_choice start) p counts) same.profile

-- ---- a packet under way

pub said_under_way : (b : Before) (stream : Stream) (reached : Reached) (n : ℕ) (front : List Event)
    → StreamAt b stream reached → reached.standing ≡ Open n front → SaidStandsAt stream.said front
said_under_way b stream reached n front stands standing =
    (subst (λ (s : Standing). KeepsUnderWay b stream reached.text s) standing stands.packet).said

pub count_under_way : (b : Before) (stream : Stream) (reached : Reached) (n : ℕ) (front : List Event)
    → StreamAt b stream reached → reached.standing ≡ Open n front → n + length front ≡ length reached.events
count_under_way b stream reached n front stands standing =
    subst (λ (s : Standing). IsCountOf s (length reached.events)) standing stands.counted

pub front_under_way : (b : Before) (stream : Stream) (reached : Reached) (n : ℕ) (front : List Event)
    → StreamAt b stream reached → reached.standing ≡ Open n front
    → stream.front ≡ front_of (stream_choice stream).ignored front
front_under_way b stream reached n front stands standing =
    (subst (λ (s : Standing). KeepsUnderWay b stream reached.text s) standing stands.packet).front

-- whether an other begins with the next event is kept
pub begins_in : (stream : Stream) (front : List Event) (event : Event)
    → stream.front ≡ front_of (stream_choice stream).ignored front
    → begins_other (stream_choice stream).ignored front event
    ≡ begins_behind (stream_choice stream).ignored stream.front event
begins_in stream front event kept =
    let ignored = (stream_choice stream).ignored in
    sym (begins_so ignored front event) ∙ ap (λ (f : Front). begins_behind ignored f event) (sym kept)

begins_by : (b : Before) (stream : Stream) (text : List ℕ) (standing : Standing) (event : Event)
    → KeepsUnderWay b stream text standing → MayGoOn standing event
    → other_begun_at (stream_choice stream).ignored standing event
    ≡ begins_behind (stream_choice stream).ignored stream.front event
begins_by b stream text (Open n front) event keeps may = begins_in stream front event keeps.front
begins_by b stream text (Held n refusal) event keeps may = absurd may
begins_by b stream text (Passing n) event keeps may =
    ap (λ (f : Front). begins_behind (stream_choice stream).ignored f event) (sym keeps.1.front)

pub begins_where : (b : Before) (stream : Stream) (reached : Reached) → StreamAt b stream reached → (event : Event)
    → MayGoOn reached.standing event
    → other_begun_at (stream_choice stream).ignored reached.standing event
    ≡ begins_behind (stream_choice stream).ignored stream.front event
begins_where b stream reached stands event may =
    begins_by b stream reached.text reached.standing event stands.packet may

-- .. and its time, where nothing follows
pub time_at_end : (b : Before) (stream : Stream) (reached : Reached) (n : ℕ) (front : List Event)
    → StreamAt b stream reached → reached.standing ≡ Open n front → front ≢ []
    → stream_time stream ≡ event_time b.n reached.text (b.n + n)
time_at_end b stream reached n front stands standing some =
    time_in_packet stream.time reached.text reached.events front b.n n
    (subst (λ (s : Standing). IsUnderWay s reached.events) standing stands.times.under_way)
    (count_under_way b stream reached n front stands standing) some stands.times.time []
    ∙ ap (λ (l : List ℕ). event_time b.n l (b.n + n)) (append-nil reached.text)

-- ---- visits

module _ {K : Type 0} (Keeps : K → Setting → List FactData → Type 0) (b : Before) (start old : KeptStream K)
    (new : Stream) (reached : Reached) (text : List ℕ) (told : HasToldOf Keeps b start old reached text) where
  -- what was ignored and the devices at the start
  pub same_choice : (P : ChoiceData → Type 0) → P (stream_choice old.stream) → P (stream_choice start.stream)
  same_choice P holds = subst P told.same.choice holds

  -- facts that it tells come after those so far
  pub tells_more : (keeper : K) (added : List ℕ) (facts : List FactData)
      → TellsFacts Keeps old.stream old.keeper keeper added facts
      → KeepsOn (TellsFacts Keeps start.stream start.keeper old.keeper text)
      (TellsFacts Keeps start.stream start.keeper keeper (text ++ added)) facts
  tells_more keeper added facts tells =
      tells_on (stream_choice start.stream) (stream_profile start.stream) _ _ _ text added facts
      (same_told Keeps start.stream old.stream told.same old.keeper keeper facts added tells)

  pub told_bytes : (bytes : List ℕ) → IsSame old.stream new → KeepsSame old.stream new
      → KnowsTimes new (behind_bytes reached bytes)
      → ((c : Before) → StreamKnows c old.stream → StreamKnows (record c { read = c.read ++ bytes }) new)
      → HasToldOf Keeps b start (kept_by new old.keeper) (behind_bytes reached bytes) text
  told_bytes bytes same packet times knows = record {
    same = same_then start.stream old.stream new told.same same;
    at = record {
      between = told.at.between;
      profile = told.at.profile ∙ sym same.profile;
      knows = subst (λ (c : ChoiceData). StreamKnows (with_reached c.ignored b (behind_bytes reached bytes)) new)
          (sym same.choice)
          (knows_as _ (with_reached (stream_choice old.stream).ignored b (behind_bytes reached bytes)) new
          (append_assoc b.read reached.text bytes) refl refl refl
          (knows (with_reached (stream_choice old.stream).ignored b reached) told.at.knows));
      packet = keeps_as b old.stream new (reached.text ++ bytes) reached.standing same packet
          (keeps_behind b old.stream reached.text bytes reached.standing told.at.packet);
      counted = told.at.counted;
      times = times;
      loses = loses_bytes old.stream.writes new.writes reached bytes packet.writes told.at.loses;
    };
    time = times.time.time;
    told = facts_behind (stream_choice start.stream) b reached.profile reached.text bytes reached.events reached.spans
        reached.standing (TellsFacts Keeps start.stream start.keeper old.keeper text) told.told;
  }

  pub one_more_event : (event : Event) → (b.n + length reached.events) + 1 ≡ b.n + length (reached.events ++ event ∷ [])
  one_more_event event = omega (arith, length-append reached.events (event ∷ []))

  -- an event that begins no other
  pub told_event : (event : Event) → IsSame old.stream new → KnowsTimes new (behind_event reached event)
      → other_begun_at (stream_choice old.stream).ignored reached.standing event ≡ None
      → StreamKnows (record (with_reached (stream_choice old.stream).ignored b reached)
      { n = (b.n + length reached.events) + 1; past = b.past ++ past_of (behind_event reached event) }) new
      → KeepsUnderWay b new reached.text (standing_after reached.standing event)
      → KnowsLost new.writes (behind_event reached event) (standing_after reached.standing event)
      → HasToldOf Keeps b start (kept_by new old.keeper) (behind_event reached event) text
  told_event event same times none knows packet loses =
      let ignored = (stream_choice old.stream).ignored in
      let counts = after_spans ignored b.counts reached.spans in
      let none_here = same_choice (λ c. other_begun_at c.ignored reached.standing event ≡ None) none in record {
        same = same_then start.stream old.stream new told.same same;
        at = record {
          between = told.at.between;
          profile = told.at.profile ∙ sym same.profile;
          knows = subst (λ (c : ChoiceData). StreamKnows (with_reached c.ignored b (behind_event reached event)) new)
              (sym same.choice)
              (knows_as _ (with_reached ignored b (behind_event reached event)) new refl (one_more_event event) refl
              (sym (count_stays ignored counts reached.standing event none)) knows);
          packet = packet;
          counted = counts_event reached.standing reached.events event told.at.counted;
          times = times;
          loses = loses;
        };
        time = times.time.time;
        told = facts_stay (stream_choice start.stream) b reached.profile reached.text (reached.events ++ event ∷ [])
            reached.spans reached.standing (standing_after reached.standing event)
            (TellsFacts Keeps start.stream start.keeper old.keeper text)
            (λ l. open_stays (stream_choice start.stream).ignored (event_place b.read b.n l) (event_time b.n l)
            b.n reached.standing event none_here)
            (facts_then (stream_choice start.stream) b reached.profile reached.text reached.events (event ∷ [])
            reached.spans reached.standing (TellsFacts Keeps start.stream start.keeper old.keeper text) told.told);
      }

  -- what is under way is the packet
  open_packet : (n : ℕ) (front : List Event) → reached.standing ≡ Open n front → under_way reached.events ≡ front
  open_packet n front standing = subst (λ (s : Standing). IsUnderWay s reached.events) standing
      told.at.times.under_way

  -- what was kept of the packet under way
  pub kept_packet : (n : ℕ) (front : List Event) → reached.standing ≡ Open n front
      → KeepsPacket b old.stream reached.text n front
  kept_packet n front standing = subst (λ (s : Standing). KeepsUnderWay b old.stream reached.text s) standing
      told.at.packet

  pub counted_packet : (n : ℕ) (front : List Event) → reached.standing ≡ Open n front
      → n + length front ≡ length reached.events
  counted_packet n front standing = subst (λ (s : Standing). IsCountOf s (length reached.events)) standing
      told.at.counted

  -- the time of a packet that has begun, or begins with the next event
  pub timed_packet : (kept : OpenTime) (n : ℕ) (front : List Event) → reached.standing ≡ Open n front
      → HasTime kept reached.text reached.events
      → (more : List ℕ) → kept_time kept ≡ event_time b.n (reached.text ++ more) (b.n + n)
  timed_packet kept n front standing has = time_of_packet kept reached.text reached.events front b.n n
      (open_packet n front standing) (counted_packet n front standing) has

  pub timed_inside : (n : ℕ) (front : List Event) → reached.standing ≡ Open n front → front ≢ []
      → (more : List ℕ) → stream_time old.stream ≡ event_time b.n (reached.text ++ more) (b.n + n)
  timed_inside n front standing some = time_in_packet old.stream.time reached.text reached.events front b.n n
      (open_packet n front standing) (counted_packet n front standing) some told.at.times.time

  -- the facts so far, with the packet under way
  pub facts_under_way : (n : ℕ) (front : List Event) → reached.standing ≡ Open n front
      → FactsAre (stream_choice start.stream) b reached.profile reached.text reached.events reached.spans (Open n front)
      (TellsFacts Keeps start.stream start.keeper old.keeper text)
  facts_under_way n front standing =
      subst (λ (s : Standing). FactsAre (stream_choice start.stream) b reached.profile reached.text reached.events
      reached.spans s (TellsFacts Keeps start.stream start.keeper old.keeper text)) standing told.told

  -- nothing more is lost with what was reached before that packet
  pub settled_under_way : (n : ℕ) (front : List Event) → reached.standing ≡ Open n front → IsSettled reached
  settled_under_way n front standing = settled_open old.stream.writes reached n front standing told.at.loses

  -- the address byte of an other
  pub told_other : LastWordStands → (n : ℕ) (front : List Event) (event : Event) (addr : ℕ)
      → reached.standing ≡ Open n front → Spells reached.text (reached.events ++ event ∷ [])
      → IsSame old.stream new → KnowsTimes new (behind_event reached event)
      → BeginsOther (stream_choice old.stream).ignored front event addr
      → StreamKnows (record {
        read = b.read ++ reached.text;
        n = (b.n + length reached.events) + 1;
        past = b.past ++ past_of (behind_event reached event);
        counts = after_other (after_open (stream_choice old.stream).ignored
            (after_spans (stream_choice old.stream).ignored b.counts reached.spans) reached.standing) addr;
      }) new
      → KeepsUnderWay b new reached.text (standing_after reached.standing event)
      → KnowsLost new.writes (behind_event reached event) (standing_after reached.standing event)
      → (keeper : K) (added : List ℕ) (place : Place) → place ≡ place_of_last_word (b.read ++ reached.text)
      → TellsFacts Keeps old.stream old.keeper keeper added
      (other_fact (head_as (capped (b.n + length reached.events)) place (stream_time old.stream)) addr ∷ [])
      → HasToldOf Keeps b start (kept_by new keeper) (behind_event reached event) (text ++ added)
  told_other law n front event addr standing spells same times other knows packet loses keeper added place placed
      tells =
      let ignored = (stream_choice old.stream).ignored in
      let counts = after_spans ignored b.counts reached.spans in
      let next = Open n (front ++ event ∷ []) in
      let here = same_choice (λ c. BeginsOther c.ignored front event addr) other in
      let counted = counted_packet n front standing in
      let alone : n + 1 ≡ length reached.events =
      omega (arith, counted, ap (λ (es : List Event). length es) other.alone) in
      let timed = timed_inside n front standing (λ none. cc (other.alone, none)) in
      let last = place_of_last_word (b.read ++ reached.text) in
      let facts = λ (p : Place). other_fact (head_as (capped (b.n + length reached.events)) p (stream_time
      old.stream)) addr
      ∷ [] in
      let adds : (more : List ℕ) → facts place ≡ open_in (stream_choice start.stream) b (reached.text ++ more) next =
      λ more. ap facts placed
      ∙ begun_fact (stream_choice start.stream) b law reached.text reached.events (stream_time old.stream) n
      addr event timed told.at.between spells alone more
      ∙ sym (open_other (stream_choice start.stream).ignored (event_place b.read b.n (reached.text ++ more))
      (event_time b.n (reached.text ++ more)) b.n n (front ++ event ∷ []) addr here.after) in
      let at_next : standing_after reached.standing event ≡ next =
      ap (λ (s : Standing). standing_after s event) standing in record {
        same = same_then start.stream old.stream new told.same same;
        at = record {
          between = told.at.between;
          profile = told.at.profile ∙ sym same.profile;
          knows = subst (λ (c : ChoiceData). StreamKnows (with_reached c.ignored b (behind_event reached event)) new)
              (sym same.choice)
              (knows_as _ (with_reached ignored b (behind_event reached event)) new refl (one_more_event event) refl
              (ap (λ (c : CountsData). after_other c addr)
              (ap (after_open ignored counts) standing ∙ ap (after_some counts) other.before)
              ∙ sym (ap (after_some counts) other.after) ∙ sym (ap (after_open ignored counts) at_next)) knows);
          packet = packet;
          counted = counts_event reached.standing reached.events event told.at.counted;
          times = times;
          loses = loses;
        };
        time = times.time.time;
        told = subst (λ (s : Standing). FactsAre (stream_choice start.stream) b reached.profile reached.text
            (reached.events ++ event ∷ []) reached.spans s
            (TellsFacts Keeps start.stream start.keeper keeper (text ++ added))) (sym at_next)
            (facts_begin (stream_choice start.stream) b reached.profile reached.text (reached.events ++ event ∷ [])
            reached.spans (Open n front) next
            (TellsFacts Keeps start.stream start.keeper old.keeper text)
            (TellsFacts Keeps start.stream start.keeper keeper (text ++ added)) (facts place)
            (λ l. open_none (stream_choice start.stream).ignored (event_place b.read b.n l) (event_time b.n l) b.n n
            front here.before) adds (tells_more keeper added (facts place) tells)
            (facts_then (stream_choice start.stream) b reached.profile reached.text reached.events (event ∷ [])
            reached.spans (Open n front) (TellsFacts Keeps start.stream start.keeper old.keeper text)
            (facts_under_way n front standing)));
      }
