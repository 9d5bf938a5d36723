-- The facts of spans, and of an other that is under way, and what a visit adds to them: the facts of
-- one span, or that of an address byte. For `Told` and `Wholes`. They stay the same whatever text
-- follows.
use Rattle.std.proofs.Common.{◌≡◌, ℕ, ◌+◌, Option, None, Some, List, [], ◌∷◌, ◌++◌, length, append-nil}
use Rattle.std.proofs.Common.{append_assoc}
use Rattle.std.proofs.Common.{sym, ap, ◌∙◌, subst, arith}
use Rattle.pmb_bus.specs.declared.event.Event.{Event}
use Rattle.pmb_bus.specs.Text.{EndsBetween, Spells}
use Rattle.pmb_command.specs.Parts.{DeviceParts}
use Rattle.pmb_io.specs.Count.{capped}
use Rattle.pmb_json_objects.specs.Head.{Head}
use Rattle.pmb_facts.specs.Fact.{FactData}
use Rattle.pmb_fact_stream.specs.Keeping.{KeepsOn}
use Rattle.pmb_facts.specs.Packets.{packet_facts}
use Rattle.pmb_fact_stream.specs.Spans.{other_fact}
use Rattle.pmb_fact_stream.specs.Spans.{refusal_fact}
use Rattle.pmb_places.specs.declared.places.Place.{Place}
use Rattle.pmb_places.specs.Text.{place_of_last_word}
use Rattle.pmb_reader.specs.Reader.{Standing, Open}
use Rattle.pmb_spans.specs.Spans.{Span, ReadSpan, RefusedSpan, moved_span, moved_spans}
use Rattle.pmb_transaction.specs.Capture.{EndsAtFirstStop}
use Rattle.pmb_transaction.specs.Packet.{Packet}
use Rattle.pmb_transaction.specs.Reading.{RefusalData}
use Rattle.pmb_transaction.specs.Transaction.{TransactionData}
use Rattle.pmb_unknown_start.specs.Past.{PastData}
use Rattle.pmb_fact_stream.specs.declared.stream.Begun.{Begun}
use Rattle.pmb_fact_stream.specs.Before.{Before}
use Rattle.pmb_fact_stream.specs.Choice.{ChoiceData}
use Rattle.pmb_fact_stream.specs.Others.{other_address}
use Rattle.pmb_fact_stream.specs.Spans.{event_place, event_time}
use Rattle.pmb_fact_stream.specs.Spans.{open_facts, other_or, refused_span, span_facts}
use Rattle.pmb_fact_stream.specs.Spans.{past_in}
use Rattle.pmb_fact_stream.specs.machine.Begun.{begun_legs, kept_facts}
use Rattle.pmb_fact_stream.proofs.Fronts.{BeginsOther}
use Rattle.pmb_fact_stream.proofs.Fronts.{open_none, open_other}
use Rattle.pmb_fact_stream.proofs.Starts.{packet_by_kept}
use Rattle.pmb_fact_stream.proofs.Places.{LastWordStands, stands_last}
use Rattle.pmb_fact_stream.specs.Lost.{lost_in}
use Rattle.pmb_fact_stream.proofs.Losing.{past_moved}
use Rattle.pmb_fact_stream.proofs.Spans.{facts_moved}

-- where a fact begins, by its parts
abbrev pub head_as : ℕ → Place → Option (List ℕ) → Head
head_as at place time = record { at = at; place = place; time = time }

-- ---- facts

module _ (choice : ChoiceData) (b : Before) where
  -- of a text the facts of spans, and of what is under way, where so much is lost at refusals
  abbrev pub spans_in : List ℕ → (ℕ → List Event → List PastData) → List PastData → List Span → List FactData
  spans_in bytes lost before spans =
      span_facts choice.ignored (event_place b.read b.n bytes) (event_time b.n bytes) lost before spans

  abbrev pub open_in : List ℕ → Standing → List FactData
  open_in bytes standing = open_facts choice.ignored (event_place b.read b.n bytes) (event_time b.n bytes) b.n
      standing

  -- this holds of them, whatever follows the bytes and the events
  abbrev pub FactsAre : List DeviceParts → List ℕ → List Event → List Span → Standing → (List FactData → Type 0)
      → Type 0
  FactsAre profile bytes events spans standing Holds =
      (more : List ℕ) (later : List Event)
      → Holds (spans_in (bytes ++ more) (lost_in profile b.n (events ++ later)) b.past (moved_spans b.n spans)
      ++ open_in (bytes ++ more) standing)

  pub facts_behind : (profile : List DeviceParts) (bytes others : List ℕ) (events : List Event) (spans : List Span)
      (standing : Standing) (Holds : List FactData → Type 0) → FactsAre profile bytes events spans standing Holds
      → FactsAre profile (bytes ++ others) events spans standing Holds
  facts_behind profile bytes others events spans standing Holds are more later =
      subst (λ (l : List ℕ). Holds (spans_in l (lost_in profile b.n (events ++ later)) b.past (moved_spans b.n spans)
      ++ open_in l standing))
      (sym (append_assoc bytes others more)) (are (others ++ more) later)

  -- events more, none of which ends a packet or is refused
  pub facts_then : (profile : List DeviceParts) (bytes : List ℕ) (events own : List Event) (spans : List Span)
      (standing : Standing) (Holds : List FactData → Type 0) → FactsAre profile bytes events spans standing Holds
      → FactsAre profile bytes (events ++ own) spans standing Holds
  facts_then profile bytes events own spans standing Holds are more later =
      subst (λ (l : List Event). Holds (spans_in (bytes ++ more) (lost_in profile b.n l) b.past (moved_spans b.n spans)
      ++ open_in (bytes ++ more) standing))
      (sym (append_assoc events own later)) (are more (own ++ later))

  -- where no other begins they stay
  pub facts_stay : (profile : List DeviceParts) (bytes : List ℕ) (events : List Event) (spans : List Span)
      (standing next : Standing) (Holds : List FactData → Type 0)
      → ((l : List ℕ) → open_in l next ≡ open_in l standing) → FactsAre profile bytes events spans standing Holds
      → FactsAre profile bytes events spans next Holds
  facts_stay profile bytes events spans standing next Holds same are more later =
      subst (λ (os : List FactData). Holds (spans_in (bytes ++ more) (lost_in profile b.n (events ++ later)) b.past
      (moved_spans b.n spans) ++ os))
      (sym (same (bytes ++ more))) (are more later)

  -- one begins, and its fact is added
  pub facts_begin : (profile : List DeviceParts) (bytes : List ℕ) (events : List Event) (spans : List Span)
      (standing next : Standing) (Holds Then : List FactData → Type 0)
      (added : List FactData) → ((l : List ℕ) → open_in l standing ≡ [])
      → ((more : List ℕ) → added ≡ open_in (bytes ++ more) next) → KeepsOn Holds Then added
      → FactsAre profile bytes events spans standing Holds → FactsAre profile bytes events spans next Then
  facts_begin profile bytes events spans standing next Holds Then added none adds on are more later =
      let first = spans_in (bytes ++ more) (lost_in profile b.n (events ++ later)) b.past (moved_spans b.n spans) in
      subst Then (ap (λ (os : List FactData). first ++ os) (adds more))
      (on first (subst Holds (ap (λ (os : List FactData). first ++ os) (none (bytes ++ more)) ∙ append-nil first)
      (are more later)))

  -- With what was under way these are the facts of a span, after what went before it. What is lost at refusals is
  -- nothing to them.
  abbrev pub AddsFacts : List ℕ → List PastData → Standing → Span → List FactData → Type 0
  AddsFacts bytes past standing span added =
      (more : List ℕ) (lost : ℕ → List Event → List PastData) → open_in (bytes ++ more) standing ++ added
      ≡ spans_in (bytes ++ more) lost (b.past ++ past) (moved_span b.n span ∷ [])

  -- a span more, of events that end with these
  pub facts_more : (profile : List DeviceParts) (bytes : List ℕ) (events own : List Event) (spans : List Span)
      (past : List PastData) (standing next : Standing) (span : Span)
      (Holds Then : List FactData → Type 0) (added : List FactData) → ((l : List ℕ) → open_in l next ≡ [])
      → ((later : List Event) → past_in (lost_in profile 0 (events ++ later)) spans ≡ past)
      → FactsAre profile bytes events spans standing Holds → AddsFacts bytes past standing span added
      → KeepsOn Holds Then added → FactsAre profile bytes (events ++ own) (spans ++ span ∷ []) next Then
  facts_more profile bytes events own spans past standing next span Holds Then added none settled are adds on more
      later =
      let l = bytes ++ more in
      let place = event_place b.read b.n l in
      let times = event_time b.n l in
      let lost = lost_in profile b.n ((events ++ own) ++ later) in
      let first = spans_in l lost b.past (moved_spans b.n spans) in
      let all = spans_in l lost b.past (moved_spans b.n (spans ++ span ∷ [])) in
      let same : (events ++ own) ++ later ≡ events ++ (own ++ later) = append_assoc events own later in
      let is : past_in lost (moved_spans b.n spans) ≡ past =
      past_moved profile b.n ((events ++ own) ++ later) spans
      ∙ ap (λ (es : List Event). past_in (lost_in profile 0 es) spans) same ∙ settled (own ++ later) in
      let so_far : Holds (first ++ open_in l standing) =
      subst (λ (es : List Event). Holds (spans_in l (lost_in profile b.n es) b.past (moved_spans b.n spans)
      ++ open_in l standing)) (sym same) (are more (own ++ later)) in
      subst Then (append_assoc first (open_in l standing) added
      ∙ ap (λ (os : List FactData). first ++ os) (adds more lost)
      ∙ sym (ap (λ (os : List FactData). all ++ os) (none l) ∙ append-nil all
      ∙ facts_moved choice.ignored place times lost b.past past b.n spans (span ∷ []) is))
      (on (first ++ open_in l standing) so_far)

  -- ---- what a visit adds

  -- a span's own facts, where it is no other
  pub own_facts : (place : ℕ → Place) (times : ℕ → Option (List ℕ)) (n : ℕ) (facts : List FactData)
      (address : Option ℕ) → address ≡ None
      → other_or place times n address facts ++ [] ≡ facts
  own_facts place times n facts address none =
      ap (λ (o : Option ℕ). other_or place times n o facts ++ []) none ∙ append-nil facts

  -- a packet's facts, by its time and what was kept of its STARTs
  pub packet_adds : (accepted : List DeviceParts) (bytes : List ℕ) (past : List PastData) (time : Option (List ℕ))
      (begun : List Begun) (n : ℕ) (front : List Event) (event : Event) (t : TransactionData)
      → ((more : List ℕ) → time ≡ event_time b.n (bytes ++ more) (b.n + n))
      → ((more : List ℕ) → begun ≡ begun_legs (event_place b.read b.n (bytes ++ more)) (b.n + n) front)
      → other_address choice.ignored front ≡ None → other_address choice.ignored (front ++ event ∷ []) ≡ None
      → EndsAtFirstStop (front ++ event ∷ []) → Packet accepted t (front ++ event ∷ [])
      → AddsFacts bytes past (Open n front) (ReadSpan n (front ++ event ∷ []) t)
      (kept_facts (b.past ++ past) time begun t)
  packet_adds accepted bytes past time begun n front event t timed kept none still ends packet more lost =
      let l = bytes ++ more in
      let place = event_place b.read b.n l in
      let times = event_time b.n l in
      let own = times (b.n + n) in
      let before = b.past ++ past in
      let events = front ++ event ∷ [] in
      ap (λ (os : List FactData). os ++ kept_facts before time begun t)
      (open_none choice.ignored place times b.n n front none)
      ∙ (ap (λ (k : List Begun). kept_facts before time k t) (kept more)
      ∙ ap (λ (o : Option (List ℕ)). kept_facts before o (begun_legs place (b.n + n) front) t) (timed more)
      ∙ packet_by_kept before place own accepted (b.n + n) front event t ends packet
      ∙ sym (own_facts place times (b.n + n) (packet_facts before place own (b.n + n) events t)
      (other_address choice.ignored events) still))

  -- a refusal's fact
  pub refusal_adds : LastWordStands → (bytes : List ℕ) (events : List Event) (past : List PastData)
      (time : Option (List ℕ)) (n : ℕ) (front : List Event) (event : Event) (refusal : RefusalData)
      → ((more : List ℕ) → time ≡ event_time b.n (bytes ++ more) (b.n + n))
      → other_address choice.ignored front ≡ None → other_address choice.ignored (front ++ event ∷ []) ≡ None
      → EndsBetween b.read → Spells bytes (events ++ event ∷ []) → n + length front ≡ length events
      → AddsFacts bytes past (Open n front) (RefusedSpan n front event refusal)
      (refusal_fact (b.past ++ past)
      (head_as (capped (b.n + length events)) (place_of_last_word (b.read ++ bytes)) time) front (Some event)
      refusal.reason refusal.expected ∷ [])
  refusal_adds law bytes events past time n front event refusal timed none still between spells counted more lost =
      let l = bytes ++ more in
      let place = event_place b.read b.n l in
      let times = event_time b.n l in
      let before = b.past ++ past in
      let at : b.n + length events ≡ (b.n + n) + length front = omega (arith, counted) in
      let one = λ (k : ℕ) (p : Place) (o : Option (List ℕ)).
      refusal_fact before (head_as (capped k) p o) front (Some event) refusal.reason refusal.expected ∷ [] in
      let last = place_of_last_word (b.read ++ bytes) in
      ap (λ (os : List FactData). os ++ one (b.n + length events) last time)
      (open_none choice.ignored place times b.n n front none)
      ∙ (ap (λ (p : Place). one (b.n + length events) p time)
      (sym (stands_last law b.read bytes more b.n events event between spells))
      ∙ ap (λ (k : ℕ). one k (place k) time) at
      ∙ ap (one ((b.n + n) + length front) (place ((b.n + n) + length front))) (timed more)
      ∙ sym (own_facts place times (b.n + n) (one ((b.n + n) + length front) (place ((b.n + n) + length front))
      (times (b.n + n))) (other_address choice.ignored (front ++ event ∷ [])) still))

  -- an other's, of which the fact is out: none
  pub other_packet_adds : (bytes : List ℕ) (past : List PastData) (n : ℕ) (front : List Event) (event : Event)
      (t : TransactionData) (addr : ℕ) → other_address choice.ignored front ≡ Some addr
      → other_address choice.ignored (front ++ event ∷ []) ≡ Some addr
      → AddsFacts bytes past (Open n front) (ReadSpan n (front ++ event ∷ []) t) []
  other_packet_adds bytes past n front event t addr is still more lost =
      let l = bytes ++ more in
      let place = event_place b.read b.n l in
      let times = event_time b.n l in
      let events = front ++ event ∷ [] in
      let facts = packet_facts (b.past ++ past) place
      (times (b.n + n)) (b.n + n) events t in
      append-nil (open_in l (Open n front))
      ∙ (open_other choice.ignored place times b.n n front addr is
      ∙ sym (ap (λ (o : Option ℕ). other_or place times (b.n + n) o facts ++ []) still))

  pub other_refusal_adds : (bytes : List ℕ) (past : List PastData) (n : ℕ) (front : List Event) (event : Event)
      (refusal : RefusalData) (addr : ℕ) → other_address choice.ignored front ≡ Some addr
      → other_address choice.ignored (front ++ event ∷ []) ≡ Some addr
      → AddsFacts bytes past (Open n front) (RefusedSpan n front event refusal) []
  other_refusal_adds bytes past n front event refusal addr is still more lost =
      let l = bytes ++ more in
      let place = event_place b.read b.n l in
      let times = event_time b.n l in
      let fact = refused_span place times (b.past ++ past) (b.n + n) front (Some event)
      refusal in
      append-nil (open_in l (Open n front))
      ∙ (open_other choice.ignored place times b.n n front addr is
      ∙ sym (ap (λ (o : Option ℕ). other_or place times (b.n + n) o (fact ∷ []) ++ []) still))

  -- the fact of an address byte, which comes after START
  pub begun_fact : LastWordStands → (bytes : List ℕ) (events : List Event) (time : Option (List ℕ)) (n addr : ℕ)
      (event : Event) → ((more : List ℕ) → time ≡ event_time b.n (bytes ++ more) (b.n + n))
      → EndsBetween b.read → Spells bytes (events ++ event ∷ []) → n + 1 ≡ length events → (more : List ℕ)
      → other_fact (head_as (capped (b.n + length events)) (place_of_last_word (b.read ++ bytes)) time) addr ∷ []
      ≡ other_or (event_place b.read b.n (bytes ++ more)) (event_time b.n (bytes ++ more)) (b.n + n)
      (Some addr) []
  begun_fact law bytes events time n addr event timed between spells counted more =
      let place = event_place b.read b.n (bytes ++ more) in
      let at : b.n + length events ≡ (b.n + n) + 1 = omega (arith, counted) in
      let one = λ (k : ℕ) (p : Place) (o : Option (List ℕ)). other_fact (head_as (capped k) p o) addr ∷ [] in
      ap (λ (p : Place). one (b.n + length events) p time)
      (sym (stands_last law b.read bytes more b.n events event between spells))
      ∙ ap (λ (k : ℕ). one k (place k) time) at
      ∙ ap (one ((b.n + n) + 1) (place ((b.n + n) + 1))) (timed more)

  -- an address byte that is refused itself
  pub begun_refusal_adds : LastWordStands → (bytes : List ℕ) (events : List Event) (past : List PastData)
      (time : Option (List ℕ)) (n : ℕ) (front : List Event) (event : Event) (refusal : RefusalData) (addr : ℕ)
      → ((more : List ℕ) → time ≡ event_time b.n (bytes ++ more) (b.n + n))
      → BeginsOther choice.ignored front event addr
      → EndsBetween b.read → Spells bytes (events ++ event ∷ []) → n + length front ≡ length events
      → AddsFacts bytes past (Open n front) (RefusedSpan n front event refusal)
      (other_fact (head_as (capped (b.n + length events)) (place_of_last_word (b.read ++ bytes)) time) addr ∷ [])
  begun_refusal_adds law bytes events past time n front event refusal addr timed other between spells counted more
      lost =
      let l = bytes ++ more in
      let place = event_place b.read b.n l in
      let times = event_time b.n l in
      let one = other_fact (head_as (capped (b.n + length events)) (place_of_last_word (b.read ++ bytes)) time) addr
      in
      let fact = refused_span place times (b.past ++ past) (b.n + n) front (Some event)
      refusal in
      let alone : n + 1 ≡ length events = omega (arith, counted, ap (λ (es : List Event). length es) other.alone) in
      ap (λ (os : List FactData). os ++ one ∷ [])
      (open_none choice.ignored place times b.n n front other.before)
      ∙ (begun_fact law bytes events time n addr event timed between spells alone more
      ∙ sym (ap (λ (o : Option ℕ). other_or place times (b.n + n) o (fact ∷ []) ++ []) other.after))
