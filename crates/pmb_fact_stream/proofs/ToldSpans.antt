-- What a stream stands at after a visit that ends a span: a packet, or a refusal; of a packet of its
-- own, in an other, and at an other's address byte. For `visit_packet` and `visit_refusal`. The visit
-- adds the facts of that span, and counts it, but for an other, which was told at its address byte.
use Rattle.std.proofs.Common.{◌≡◌, ℕ, ◌+◌, Option, None, Some, List, [], ◌∷◌, ◌++◌, length}
use Rattle.std.proofs.Common.{append_assoc, is_some, length-append}
use Rattle.std.proofs.Common.{refl, sym, ap, ◌∙◌, subst, arith}
use Rattle.pmb_bus.specs.declared.event.Event.{Event}
use Rattle.pmb_bus.specs.declared.event.Event.TheVariants.{Stop}
use Rattle.pmb_bus.specs.Text.{Spells}
use Rattle.pmb_io.specs.Count.{capped}
use Rattle.pmb_json_objects.specs.Counts.{CountsData, after_other, after_packet, after_refusal}
use Rattle.pmb_facts.specs.Fact.{FactData}
use Rattle.pmb_keeper.specs.Setting.{Setting}
use Rattle.pmb_fact_stream.specs.Spans.{other_fact}
use Rattle.pmb_fact_stream.specs.Spans.{refusal_fact}
use Rattle.pmb_places.specs.declared.places.Place.{Place}
use Rattle.pmb_places.specs.Text.{place_of_last_word}
use Rattle.pmb_reader.specs.Reader.{Open, behind_passed}
use Rattle.pmb_command.specs.Parts.{DeviceParts}
use Rattle.pmb_partial_packet.specs.PartialPacket.{reply, said_device}
use Rattle.pmb_scan.specs.Reached.{Reached, behind_packet, behind_refusal}
use Rattle.pmb_spans.specs.Spans.{Span, ReadSpan, RefusedSpan}
use Rattle.pmb_transaction.specs.Capture.{EndsAtFirstStop}
use Rattle.pmb_transaction.specs.Packet.{Packet}
use Rattle.pmb_transaction.specs.Reading.{RefusalData}
use Rattle.pmb_transaction.specs.Transaction.{TransactionData}
use Rattle.pmb_unknown_start.specs.Past.{PastData, Said}
use Rattle.pmb_fact_stream.specs.declared.kept_stream.KeptStream.{KeptStream}
use Rattle.pmb_fact_stream.specs.declared.stream.Stream.{Stream}
use Rattle.pmb_fact_stream.specs.Before.{Before, past_of, with_reached}
use Rattle.pmb_fact_stream.specs.Choice.{ChoiceData}
use Rattle.pmb_fact_stream.specs.Others.{other_address, span_events}
use Rattle.pmb_fact_stream.specs.Spans.{after_either, after_open, after_some, after_spans, event_place, event_time}
use Rattle.pmb_fact_stream.specs.Lost.{heard, lost_between}
use Rattle.pmb_fact_stream.specs.Stream.{kept_by}
use Rattle.pmb_fact_stream.specs.Stream.{HasToldOf, IsSame, StreamKnows, TellsFacts, stream_choice, stream_profile}
use Rattle.pmb_fact_stream.specs.Stream.{stream_time}
use Rattle.pmb_fact_stream.specs.machine.Begun.{kept_facts}
use Rattle.pmb_fact_stream.specs.machine.Knowing.{IsCleared, IsCountOf}
use Rattle.pmb_fact_stream.specs.machine.Knowing.{KeepsUnderWay, KnowsTimes}
use Rattle.pmb_fact_stream.specs.machine.Losing.{IsFresh, KnowsLost, WritesBehind}
use Rattle.pmb_fact_stream.proofs.Beginnings.{some_before_stop}
use Rattle.pmb_fact_stream.proofs.Fronts.{BeginsOther, address_at_stop, count_behind}
use Rattle.pmb_fact_stream.proofs.Fronts.{open_behind_passed}
use Rattle.pmb_fact_stream.proofs.Lists.{same_last}
use Rattle.pmb_fact_stream.proofs.Places.{LastWordStands}
use Rattle.pmb_fact_stream.proofs.Losing.{refused_knows, refused_now, said_now, settled_packet}
use Rattle.pmb_fact_stream.proofs.Spans.{counts_append}
use Rattle.pmb_fact_stream.proofs.Standing.{counts_passed, keeps_none, knows_as}
use Rattle.pmb_fact_stream.proofs.Adding.{AddsFacts, FactsAre, begun_refusal_adds, facts_more, head_as, open_in}
use Rattle.pmb_fact_stream.proofs.Adding.{other_packet_adds, other_refusal_adds, packet_adds, refusal_adds}
use Rattle.pmb_fact_stream.proofs.Keeping.{told_none}
use Rattle.pmb_fact_stream.proofs.Told.{counted_packet, facts_under_way, kept_packet, one_more_event, same_choice}
use Rattle.pmb_fact_stream.proofs.Told.{same_then, settled_under_way, tells_more, timed_inside}

module _ {K : Type 0} (Keeps : K → Setting → List FactData → Type 0) (b : Before) (start old : KeptStream K)
    (new : Stream) (reached : Reached) (text : List ℕ) (told : HasToldOf Keeps b start old reached text) where
  -- The span of a packet that was under way.
  pub told_span : (there : Reached) (n : ℕ) (front : List Event) (event : Event) (span : Span) (counts : CountsData)
      (keeper : K) (added : List ℕ) (facts : List FactData) → reached.standing ≡ Open n front → there.profile ≡
      reached.profile
      → there.text ≡ reached.text → there.events ≡ reached.events ++ event ∷ []
      → there.spans ≡ reached.spans ++ span ∷ []
      → ((c : CountsData) → after_open (stream_choice old.stream).ignored c there.standing ≡ c)
      → ((l : List ℕ) → open_in (stream_choice start.stream) b l there.standing ≡ [])
      → IsSame old.stream new → KnowsTimes new there → KeepsUnderWay b new there.text there.standing
      → KnowsLost new.writes there there.standing → IsCountOf there.standing (length there.events)
      → counts ≡ after_spans (stream_choice old.stream).ignored b.counts (reached.spans ++ span ∷ [])
      → StreamKnows (record {
        read = b.read ++ reached.text;
        n = (b.n + length reached.events) + 1;
        past = b.past ++ past_of there;
        counts = counts;
      }) new
      → AddsFacts (stream_choice start.stream) b reached.text (past_of reached) (Open n front) span facts
      → TellsFacts Keeps old.stream old.keeper keeper added facts
      → HasToldOf Keeps b start (kept_by new keeper) there (text ++ added)
  told_span there n front event span counts keeper added facts standing profile same_text events spans closed none
      same times keeps loses counted counpast_is knows adds tells =
      let ignored = (stream_choice old.stream).ignored in
      let choice = stream_choice start.stream in
      let Told = TellsFacts Keeps start.stream start.keeper keeper (text ++ added) in
      let all = after_spans ignored b.counts in record {
        same = same_then start.stream old.stream new told.same same;
        at = record {
          between = told.at.between;
          profile = profile ∙ (told.at.profile ∙ sym same.profile);
          knows = subst (λ (c : ChoiceData). StreamKnows (with_reached c.ignored b there) new) (sym same.choice)
              (knows_as _ (with_reached ignored b there) new (ap (λ (l : List ℕ). b.read ++ l) (sym same_text))
              (one_more_event Keeps b start old new reached text told event ∙ ap (λ (es : List Event). b.n + length es)
              (sym events))
              refl
              (counpast_is ∙ ap all (sym spans) ∙ sym (closed (all there.spans))) knows);
          packet = keeps;
          counted = counted;
          times = times;
          loses = loses;
        };
        time = times.time.time;
        told = subst (λ (p : List DeviceParts). FactsAre choice b p there.text there.events there.spans there.standing
            Told) (sym profile)
            (subst (λ (l : List ℕ). FactsAre choice b reached.profile l there.events there.spans there.standing Told)
            (sym same_text)
            (subst (λ (es : List Event). FactsAre choice b reached.profile reached.text es there.spans there.standing
            Told) (sym events)
            (subst (λ (l : List Span). FactsAre choice b reached.profile reached.text (reached.events ++ event ∷ []) l
            there.standing Told) (sym spans)
            (facts_more choice b reached.profile reached.text reached.events (event ∷ []) reached.spans
            (past_of reached) (Open n front) there.standing span
            (TellsFacts Keeps start.stream start.keeper old.keeper text) Told facts none
            (settled_under_way Keeps b start old new reached text told n front standing)
            (facts_under_way Keeps b start old new reached text told n front standing) adds
            (tells_more Keeps b start old new reached text told keeper added facts tells)))));
      }

  -- what an other's span counts was counted at its address byte
  counted_other : (n : ℕ) (front : List Event) (addr : ℕ) (span : Span) → reached.standing ≡ Open n front
      → other_address (stream_choice old.stream).ignored front ≡ Some addr
      → other_address (stream_choice old.stream).ignored (span_events span) ≡ Some addr
      → after_open (stream_choice old.stream).ignored
      (after_spans (stream_choice old.stream).ignored b.counts reached.spans)
      reached.standing
      ≡ after_spans (stream_choice old.stream).ignored b.counts (reached.spans ++ span ∷ [])
  counted_other n front addr span standing is still =
      let ignored = (stream_choice old.stream).ignored in
      let counts = after_spans ignored b.counts reached.spans in
      ap (after_open ignored counts) standing ∙ ap (after_some counts) is
      ∙ sym (ap (λ (o : Option ℕ). after_either counts o span) still)
      ∙ sym (counts_append ignored b.counts reached.spans (span ∷ []))

  -- .. and where none was counted so far
  counted_none : (n : ℕ) (front : List Event) → reached.standing ≡ Open n front
      → other_address (stream_choice old.stream).ignored front ≡ None
      → after_open (stream_choice old.stream).ignored
      (after_spans (stream_choice old.stream).ignored b.counts reached.spans)
      reached.standing ≡ after_spans (stream_choice old.stream).ignored b.counts reached.spans
  counted_none n front standing none =
      let ignored = (stream_choice old.stream).ignored in
      let counts = after_spans ignored b.counts reached.spans in
      ap (after_open ignored counts) standing ∙ ap (after_some counts) none

  counted_span : (counts : CountsData) (address : Option ℕ) (span : Span)
      → other_address (stream_choice old.stream).ignored (span_events span) ≡ address
      → counts ≡ after_either (after_spans (stream_choice old.stream).ignored b.counts reached.spans) address span
      → counts ≡ after_spans (stream_choice old.stream).ignored b.counts (reached.spans ++ span ∷ [])
  counted_span counts address span is are =
      let ignored = (stream_choice old.stream).ignored in
      are ∙ sym (ap (λ (o : Option ℕ). after_either (after_spans ignored b.counts reached.spans) o span) is)
      ∙ sym (counts_append ignored b.counts reached.spans (span ∷ []))

  pub told_packet : (n : ℕ) (front : List Event) (event : Event) (t : TransactionData) → reached.standing ≡ Open n front
      → KnowsTimes new (behind_packet reached n front event t)
      → EndsAtFirstStop (front ++ event ∷ []) → Packet reached.profile t (front ++ event ∷ [])
      → other_address (stream_choice old.stream).ignored front ≡ None
      → IsSame old.stream new → new.passing ≡ old.stream.passing → IsCleared new → IsFresh new.writes
      → StreamKnows (record {
        read = b.read ++ reached.text;
        n = (b.n + length reached.events) + 1;
        past = (b.past ++ past_of reached) ++ Said t ∷ [];
        counts = after_packet (after_open (stream_choice old.stream).ignored
            (after_spans (stream_choice old.stream).ignored b.counts reached.spans) reached.standing) t;
      }) new
      → (keeper : K) (added : List ℕ) → TellsFacts Keeps old.stream old.keeper keeper added
      (kept_facts (b.past ++ past_of reached) (stream_time old.stream) old.stream.begun.items t)
      → HasToldOf Keeps b start (kept_by new keeper) (behind_packet reached n front event t) (text ++ added)
  told_packet n front event t standing times ends packet none same passing cleared fresh knows keeper added tells =
      let ignored = (stream_choice old.stream).ignored in
      let kept = kept_packet Keeps b start old new reached text told n front standing in
      let counted = counted_packet Keeps b start old new reached text told n front standing in
      let span = ReadSpan n (front ++ event ∷ []) t in
      let still = address_at_stop ignored front event (same_last front ends.front event Stop ends.split) ∙ none in
      let timed = timed_inside Keeps b start old new reached text told n front standing
      (some_before_stop reached.profile t front event packet) in
      let adds = packet_adds (stream_choice start.stream) b reached.profile reached.text (past_of reached)
      (stream_time old.stream) old.stream.begun.items n front event t timed kept.begun
      (same_choice Keeps b start old new reached text told (λ c. other_address c.ignored front ≡ None) none)
      (same_choice Keeps b start old new reached text told (λ c. other_address c.ignored (front ++ event ∷ []) ≡ None)
      still) ends packet in
      let settled = settled_under_way Keeps b start old new reached text told n front standing in
      let there = behind_packet reached n front event t in
      let past_is : (b.past ++ past_of reached) ++ Said t ∷ [] ≡ b.past ++ past_of there =
      append_assoc b.past (past_of reached) (Said t ∷ [])
      ∙ ap (λ (past : List PastData). b.past ++ past)
      (said_now reached n (front ++ event ∷ []) (event ∷ []) t settled) in
      told_span there n front event span _ keeper added _ standing refl refl refl refl
      (λ c. refl) (λ l. refl) same times
      (keeps_none b new reached.text (n + length front + 1) (passing ∙ kept.reading) cleared)
      (fresh reached.profile, settled_packet reached n front event t settled)
      (omega (arith, counted, length-append reached.events (event ∷ [])))
      (counted_span _ None span still (ap (λ (c : CountsData). after_packet c t) (counted_none n front standing none)))
      (knows_as _ _ new refl refl past_is refl knows)
      adds tells

  -- a packet that is an other: nothing is added
  pub told_other_packet : (n : ℕ) (front : List Event) (event : Event) (t : TransactionData) (addr : ℕ)
      → reached.standing ≡ Open n front → KnowsTimes new (behind_packet reached n front event t) → event ≡ Stop
      → other_address (stream_choice old.stream).ignored front ≡ Some addr
      → IsSame old.stream new → new.passing ≡ old.stream.passing → IsCleared new → IsFresh new.writes
      → StreamKnows (record {
        read = b.read ++ reached.text;
        n = (b.n + length reached.events) + 1;
        past = (b.past ++ past_of reached) ++ Said t ∷ [];
        counts = after_open (stream_choice old.stream).ignored
            (after_spans (stream_choice old.stream).ignored b.counts reached.spans) reached.standing;
      }) new
      → HasToldOf Keeps b start (kept_by new old.keeper) (behind_packet reached n front event t) (text ++ [])
  told_other_packet n front event t addr standing times stop is same passing cleared fresh knows =
      let ignored = (stream_choice old.stream).ignored in
      let kept = kept_packet Keeps b start old new reached text told n front standing in
      let counted = counted_packet Keeps b start old new reached text told n front standing in
      let span = ReadSpan n (front ++ event ∷ []) t in
      let still = address_at_stop ignored front event stop ∙ is in
      let settled = settled_under_way Keeps b start old new reached text told n front standing in
      told_span (behind_packet reached n front event t) n front event span _ old.keeper [] [] standing refl refl refl
      refl
      (λ c. refl) (λ l. refl) same times
      (keeps_none b new reached.text (n + length front + 1) (passing ∙ kept.reading) cleared)
      (fresh reached.profile, settled_packet reached n front event t settled)
      (omega (arith, counted, length-append reached.events (event ∷ [])))
      (counted_other n front addr span standing is still)
      (knows_as _ _ new refl refl (append_assoc b.past (past_of reached) (Said t ∷ [])
      ∙ ap (λ (past : List PastData). b.past ++ past)
      (said_now reached n (front ++ event ∷ []) (event ∷ []) t settled)) refl
      knows)
      (other_packet_adds (stream_choice start.stream) b reached.text (past_of reached) n front event t addr
      (same_choice Keeps b start old new reached text told (λ c. other_address c.ignored front ≡ Some addr) is)
      (same_choice Keeps b start old new reached text told
      (λ c. other_address c.ignored (front ++ event ∷ []) ≡ Some addr)
      still)) (told_none (stream_choice old.stream) (stream_profile old.stream) _)

  -- a refusal, by what it adds and what is counted then
  told_refused : (n : ℕ) (front : List Event) (event : Event) (refusal : RefusalData) (counts : CountsData)
      (keeper : K) (added : List ℕ) (facts : List FactData) → reached.standing ≡ Open n front
      → IsSame old.stream new → KnowsTimes new (behind_refusal reached n front event refusal)
      → KeepsUnderWay b new reached.text (behind_passed (n + length front) event)
      → WritesBehind reached.profile new.writes (heard (is_some (reply front)) front (event ∷ [])) event
      → counts ≡ after_spans (stream_choice old.stream).ignored b.counts
      (reached.spans ++ RefusedSpan n front event refusal ∷ [])
      → StreamKnows (record {
        read = b.read ++ reached.text;
        n = (b.n + length reached.events) + 1;
        past = (b.past ++ past_of reached) ++ lost_between reached.profile front (event ∷ []);
        counts = counts;
      }) new
      → AddsFacts (stream_choice start.stream) b reached.text (past_of reached) (Open n front)
      (RefusedSpan n front event refusal) facts
      → TellsFacts Keeps old.stream old.keeper keeper added facts
      → HasToldOf Keeps b start (kept_by new keeper) (behind_refusal reached n front event refusal) (text ++ added)
  told_refused n front event refusal counts keeper added facts standing same times keeps writes counpast_is knows adds
      tells =
      let span = RefusedSpan n front event refusal in
      let counted = counted_packet Keeps b start old new reached text told n front standing in
      let settled = settled_under_way Keeps b start old new reached text told n front standing in
      let there = behind_refusal reached n front event refusal in
      let lost = lost_between reached.profile front (event ∷ []) in
      let past_is : (b.past ++ past_of reached) ++ lost ≡ b.past ++ past_of there =
      append_assoc b.past (past_of reached) lost
      ∙ ap (λ (l : List PastData). b.past ++ l) (sym (refused_now reached n front event refusal settled counted)) in
      told_span there n front event span counts keeper added facts standing
      refl refl refl refl (λ c. count_behind (stream_choice old.stream).ignored c (n + length front) event)
      (λ l. open_behind_passed (stream_choice start.stream).ignored (event_place b.read b.n l)
      (event_time b.n l)
      b.n (n + length front) event) same times keeps
      (refused_knows reached n front event refusal old.stream.writes new.writes standing counted told.at.loses writes)
      (counts_passed (n + length front) reached.events event counted) counpast_is
      (knows_as _ _ new refl refl past_is refl knows)
      adds tells

  pub told_refusal : LastWordStands → (n : ℕ) (front : List Event) (event : Event) (refusal : RefusalData)
      → reached.standing ≡ Open n front → Spells reached.text (reached.events ++ event ∷ [])
      → other_address (stream_choice old.stream).ignored front ≡ None
      → other_address (stream_choice old.stream).ignored (front ++ event ∷ []) ≡ None
      → IsSame old.stream new → KnowsTimes new (behind_refusal reached n front event refusal)
      → KeepsUnderWay b new reached.text (behind_passed (n + length front) event)
      → WritesBehind reached.profile new.writes (heard (is_some (reply front)) front (event ∷ [])) event
      → StreamKnows (record {
        read = b.read ++ reached.text;
        n = (b.n + length reached.events) + 1;
        past = (b.past ++ past_of reached) ++ lost_between reached.profile front (event ∷ []);
        counts = after_refusal (after_open (stream_choice old.stream).ignored
            (after_spans (stream_choice old.stream).ignored b.counts reached.spans) reached.standing)
            (said_device front);
      }) new
      → (time : Option (List ℕ)) → ((more : List ℕ) → time ≡ event_time b.n (reached.text ++ more) (b.n + n))
      → (keeper : K) (added : List ℕ) (place : Place) → place ≡ place_of_last_word (b.read ++ reached.text)
      → TellsFacts Keeps old.stream old.keeper keeper added
      (refusal_fact (b.past ++ past_of reached)
      (head_as (capped (b.n + length reached.events)) place time) front (Some event) refusal.reason refusal.expected
      ∷ [])
      → HasToldOf Keeps b start (kept_by new keeper) (behind_refusal reached n front event refusal) (text ++ added)
  told_refusal law n front event refusal standing spells none still same times keeps writes knows time timed keeper
      added place placed tells =
      let span = RefusedSpan n front event refusal in
      let counted = counted_packet Keeps b start old new reached text told n front standing in
      let facts = λ (q : Place). refusal_fact (b.past ++ past_of reached)
      (head_as (capped (b.n + length reached.events)) q time) front (Some event) refusal.reason refusal.expected ∷ []
      in
      told_refused n front event refusal _ keeper added (facts place) standing same times keeps writes
      (counted_span _ None span still
      (ap (λ (c : CountsData). after_refusal c (said_device front)) (counted_none n front standing none))) knows
      (subst (λ (l : List FactData). AddsFacts (stream_choice start.stream) b reached.text (past_of reached)
      (Open n front) span l) (sym (ap facts placed))
      (refusal_adds (stream_choice start.stream) b law reached.text reached.events (past_of reached) time n
      front event refusal timed (same_choice Keeps b start old new reached text told
      (λ c. other_address c.ignored front ≡ None) none)
      (same_choice Keeps b start old new reached text told (λ c. other_address c.ignored (front ++ event ∷ []) ≡ None)
      still) told.at.between spells counted)) tells

  -- in an other: nothing is added
  pub told_other_refusal : (n : ℕ) (front : List Event) (event : Event) (refusal : RefusalData) (addr : ℕ)
      → reached.standing ≡ Open n front
      → other_address (stream_choice old.stream).ignored front ≡ Some addr
      → other_address (stream_choice old.stream).ignored (front ++ event ∷ []) ≡ Some addr
      → IsSame old.stream new → KnowsTimes new (behind_refusal reached n front event refusal)
      → KeepsUnderWay b new reached.text (behind_passed (n + length front) event)
      → WritesBehind reached.profile new.writes (heard (is_some (reply front)) front (event ∷ [])) event
      → StreamKnows (record {
        read = b.read ++ reached.text;
        n = (b.n + length reached.events) + 1;
        past = (b.past ++ past_of reached) ++ lost_between reached.profile front (event ∷ []);
        counts = after_open (stream_choice old.stream).ignored
            (after_spans (stream_choice old.stream).ignored b.counts reached.spans) reached.standing;
      }) new
      → HasToldOf Keeps b start (kept_by new old.keeper) (behind_refusal reached n front event refusal) (text ++ [])
  told_other_refusal n front event refusal addr standing is still same times keeps writes knows =
      told_refused n front event refusal _ old.keeper [] [] standing same times keeps writes
      (counted_other n front addr (RefusedSpan n front event refusal) standing is still) knows
      (other_refusal_adds (stream_choice start.stream) b reached.text (past_of reached) n front event
      refusal
      addr (same_choice Keeps b start old new reached text told (λ c. other_address c.ignored front ≡ Some addr) is)
      (same_choice Keeps b start old new reached text told
      (λ c. other_address c.ignored (front ++ event ∷ []) ≡ Some addr)
      still)) (told_none (stream_choice old.stream) (stream_profile old.stream) _)

  -- the address byte of an other, refused itself
  pub told_begun_refusal : LastWordStands → (n : ℕ) (front : List Event) (event : Event) (refusal : RefusalData)
      (addr : ℕ) → reached.standing ≡ Open n front → Spells reached.text (reached.events ++ event ∷ [])
      → BeginsOther (stream_choice old.stream).ignored front event addr
      → IsSame old.stream new → KnowsTimes new (behind_refusal reached n front event refusal)
      → KeepsUnderWay b new reached.text (behind_passed (n + length front) event)
      → WritesBehind reached.profile new.writes (heard (is_some (reply front)) front (event ∷ [])) event
      → StreamKnows (record {
        read = b.read ++ reached.text;
        n = (b.n + length reached.events) + 1;
        past = (b.past ++ past_of reached) ++ lost_between reached.profile front (event ∷ []);
        counts = after_other (after_open (stream_choice old.stream).ignored
            (after_spans (stream_choice old.stream).ignored b.counts reached.spans) reached.standing) addr;
      }) new
      → (time : Option (List ℕ)) → ((more : List ℕ) → time ≡ event_time b.n (reached.text ++ more) (b.n + n))
      → (keeper : K) (added : List ℕ) (place : Place) → place ≡ place_of_last_word (b.read ++ reached.text)
      → TellsFacts Keeps old.stream old.keeper keeper added
      (other_fact (head_as (capped (b.n + length reached.events)) place time) addr ∷ [])
      → HasToldOf Keeps b start (kept_by new keeper) (behind_refusal reached n front event refusal) (text ++ added)
  told_begun_refusal law n front event refusal addr standing spells other same times keeps writes knows time timed
      keeper added place placed tells =
      let span = RefusedSpan n front event refusal in
      let counted = counted_packet Keeps b start old new reached text told n front standing in
      let facts = λ (q : Place). other_fact (head_as (capped (b.n + length reached.events)) q time) addr ∷ [] in
      told_refused n front event refusal _ keeper added (facts place) standing same times keeps writes
      (counted_span _ (Some addr) span other.after
      (ap (λ (c : CountsData). after_other c addr) (counted_none n front standing other.before))) knows
      (subst (λ (l : List FactData). AddsFacts (stream_choice start.stream) b reached.text (past_of reached)
      (Open n front) span l) (sym (ap facts placed))
      (begun_refusal_adds (stream_choice start.stream) b law reached.text reached.events (past_of reached)
      time n front event refusal addr timed
      (same_choice Keeps b start old new reached text told (λ c. BeginsOther c.ignored front event addr) other)
      told.at.between spells counted)) tells
