-- An other that is under way where bytes end. Its fact is out once its address byte came, and it
-- is counted. For `take_words`, `end_words` and the law `fronts_are_written` of `src/engine.rt`,
-- where a packet under way is met: by a bad word, by the end, or by bytes that may go on. What is
-- out of the spans of an end is what `open_facts` says (`TellsOpen`), and whatever events follow,
-- their first fact is the one that is out (`LeadsToMore`).
use Rattle.std.proofs.Common.{◌≡◌, ◌⊎◌, ℕ, ◌+◌, Option, Some, None, inl, inr, List, [], ◌∷◌, ◌++◌, filter}
use Rattle.std.proofs.Common.{refl, sym, ap, subst, ◌∙◌, append_assoc, append-nil}
use Rattle.std.proofs.lemmas.List.{append_cancel_left}
use Rattle.pmb_bus.specs.declared.event.Event.{Event}
use Rattle.pmb_bus.specs.declared.event.Event.TheVariants.{Start, Byte, Ack, Nack, Stop}
use Rattle.pmb_command.specs.Parts.{DeviceParts}
use Rattle.pmb_places.specs.declared.places.Place.{Place}
use Rattle.pmb_reader.specs.declared.refusal.Refusal.{Refusal}
use Rattle.pmb_reader.specs.Reader.{Standing, Open, Held, Passing}
use Rattle.pmb_scan.specs.Reached.{EndsWith, IsReading, LeadsOn, Reached, SpansBehind}
use Rattle.pmb_scan.specs.Scan.{end_spans}
use Rattle.pmb_spans.specs.Spans.{Span, ReadSpan, RefusedSpan, TruncatedSpan, Spans, SpansFrom, is_whole}
use Rattle.pmb_spans.specs.Spans.{moved_spans}
use Rattle.pmb_transaction.proofs.Fronts.{Beyond, Within, cut, no_end, no_front}
use Rattle.pmb_transaction.specs.Capture.{IsPacket, MayFollow, Viable}
use Rattle.pmb_transaction.specs.Packet.{Packet}
use Rattle.pmb_transaction.specs.Reading.{IsUnderWay, to_the_end}
use Rattle.pmb_transaction.specs.Transaction.{TransactionData}
use Rattle.pmb_unknown_start.specs.Past.{PastData, Said}
use Rattle.pmb_json_objects.specs.Counts.{CountsData}
use Rattle.pmb_facts.specs.Fact.{FactData}
use Rattle.pmb_facts.specs.Packets.{packet_facts}
use Rattle.pmb_fact_stream.specs.Others.{is_told, is_untold, other_address, span_events}
use Rattle.pmb_fact_stream.specs.Spans.{IsNoneOutside, after_open, after_spans, open_facts, other_or, refused_span}
use Rattle.pmb_fact_stream.specs.Spans.{event_place, event_time, past_in, span_facts}
use Rattle.pmb_fact_stream.specs.Before.{Before}
use Rattle.pmb_telling.specs.Text.{text_facts}
use Rattle.pmb_fact_stream.proofs.Spans.{facts_moved}

-- ---- what is out where bytes end

-- what the law `others_are_told` says
pub record OthersAreTold : Type 0 where
  pub facts : (ignored : Option (List ℕ)) (place : ℕ → Place) (times : ℕ → Option (List ℕ))
      (lost : ℕ → List Event → List PastData) (before : List PastData) (m : ℕ) (reached : Reached) (end : Option Refusal) → IsNoneOutside reached end
      → span_facts ignored place times lost before
      (moved_spans m (filter (is_told ignored) (end_spans reached.standing end)))
      ≡ open_facts ignored place times m reached.standing
  pub rest : (ignored : Option (List ℕ)) (place : ℕ → Place) (times : ℕ → Option (List ℕ))
      (lost : ℕ → List Event → List PastData) (before : List PastData) (m : ℕ) (reached : Reached) (end : Option Refusal) → IsNoneOutside reached end
      → open_facts ignored place times m reached.standing
      ++ span_facts ignored place times lost before
      (moved_spans m (filter (is_untold ignored) (end_spans reached.standing end)))
      ≡ span_facts ignored place times lost before (moved_spans m (end_spans reached.standing end))
  pub counts : (ignored : Option (List ℕ)) (c : CountsData) (reached : Reached) (end : Option Refusal)
      → IsNoneOutside reached end → after_spans ignored c (filter (is_told ignored) (end_spans reached.standing end))
      ≡ after_open ignored c reached.standing
  pub whole : (ignored : Option (List ℕ)) (spans : List Span) → filter is_whole spans ≡ spans
      → filter (is_told ignored) spans ≡ spans

-- Of the spans of an end: those that are told give the fact that is out, and count as it does; those
-- reached are all told.
pub record TellsOpen (ignored : Option (List ℕ)) (reached : Reached)
    (last : List Span) : Type 0 where
  pub facts : (place : ℕ → Place) (times : ℕ → Option (List ℕ)) (lost : ℕ → List Event → List PastData)
      (before : List PastData) (m : ℕ)
      → span_facts ignored place times lost before (moved_spans m (filter (is_told ignored) last))
      ≡ open_facts ignored place times m reached.standing
  pub rest : (place : ℕ → Place) (times : ℕ → Option (List ℕ)) (lost : ℕ → List Event → List PastData)
      (before : List PastData) (m : ℕ)
      → open_facts ignored place times m reached.standing
      ++ span_facts ignored place times lost before (moved_spans m (filter (is_untold ignored) last))
      ≡ span_facts ignored place times lost before (moved_spans m last)
  pub counts : (c : CountsData) → after_spans ignored c (filter (is_told ignored) last)
      ≡ after_open ignored c reached.standing
  pub whole : filter (is_told ignored) reached.spans ≡ reached.spans

pub tells_open : OthersAreTold → (ignored : Option (List ℕ)) (reached : Reached)
    (end : Option Refusal) → IsNoneOutside reached end → EndsWith reached (end_spans reached.standing end)
    → TellsOpen ignored reached (end_spans reached.standing end)
tells_open told ignored reached end none ends = record {
  facts = λ place times lost before m. told.facts ignored place times lost before m reached end none;
  rest = λ place times lost before m. told.rest ignored place times lost before m reached end none;
  counts = λ c. told.counts ignored c reached end none;
  whole = told.whole ignored reached.spans ends.whole;
}

-- ---- the facts of what was reached

module _ (ignored : Option (List ℕ)) (b : Before) (reached : Reached) (text : List ℕ) where
  -- of an other that is under way
  abbrev pub facts_out : List FactData
  facts_out = open_facts ignored (event_place b.read b.n text) (event_time b.n text) b.n reached.standing

  module _ (lost : ℕ → List Event → List PastData) where
    -- those of the spans reached, and of the others
    pub facts_behind : (others : List Span)
        → text_facts ignored b text lost b.past (moved_spans b.n (reached.spans ++ others))
        ≡ text_facts ignored b text lost b.past (moved_spans b.n reached.spans)
        ++ text_facts ignored b text lost (b.past ++ past_in lost (moved_spans b.n reached.spans))
        (moved_spans b.n others)
    facts_behind others =
        facts_moved ignored (event_place b.read b.n text) (event_time b.n text) lost b.past
        (past_in lost (moved_spans b.n reached.spans)) b.n reached.spans others refl

    -- those that are out are those that are told
    pub facts_told : (last : List Span) → TellsOpen ignored reached last
        → text_facts ignored b text lost b.past (moved_spans b.n reached.spans) ++ facts_out
        ≡ text_facts ignored b text lost b.past
        (moved_spans b.n (reached.spans ++ filter (is_told ignored) last))
    facts_told last tells =
        sym (facts_behind (filter (is_told ignored) last)
        ∙ ap (λ (os : List FactData). text_facts ignored b text lost b.past (moved_spans b.n reached.spans) ++ os)
        (tells.facts (event_place b.read b.n text) (event_time b.n text) lost
        (b.past ++ past_in lost (moved_spans b.n reached.spans)) b.n))

-- ---- those of any end

abbrev pub HaveSpans : List DeviceParts → Type 0
HaveSpans profile = (n : ℕ) (events : List Event) → (spans : List Span) × SpansFrom profile n events spans

abbrev pub OneList : List DeviceParts → Type 0
OneList profile = (n : ℕ) (events : List Event) (a b : List Span) → SpansFrom profile n events a
    → SpansFrom profile n events b → a ≡ b

-- spans of an end that comes where reading stands
record IsEnd (standing : Standing) (last : List Span) : Type 0 where
  end : Option Refusal
  is : last ≡ end_spans standing end
  none : (n : ℕ) (front : List Event) → standing ≡ Open n front → end ≡ None → front ≡ []

module _ (profile : List DeviceParts) where
  -- the spans of a packet under way
  end_of_packet : (n : ℕ) (events : List Event) (last : List Span) → SpansFrom profile n (events ++ []) last
      → filter is_whole last ≡ [] → IsEnd (Open n events) last
  end_of_packet n events [] reads inside = record {
    end = None;
    is = refl;
    none = λ m front same none.
        let fronts : events ≡ front = cc same in sym fronts ∙ (sym (append-nil events) ∙ reads);
  }
  end_of_packet n events (ReadSpan m front t ∷ more) reads inside = absurd (cc inside)
  end_of_packet n events (RefusedSpan m front event refusal ∷ more) reads inside = absurd (cc inside)
  end_of_packet n events (TruncatedSpan m front refusal ∷ more) reads inside =
      let fronts : front ≡ events = sym reads.1 ∙ append-nil events in record {
        end = Some (record { at = refusal.at; reason = refusal.reason; expected = refusal.expected });
        is = ap (λ (k : ℕ). TruncatedSpan k front refusal ∷ more) reads.0
            ∙ (ap (λ (es : List Event). TruncatedSpan n es refusal ∷ more) fronts
            ∙ ap (λ (spans : List Span). TruncatedSpan n events refusal ∷ spans) reads.3);
        none = λ k es same none. absurd (cc none);
      }

  -- what reading comes to where it stands, if nothing follows
  record ReadsBehind (standing : Standing) : Type 0 where
    spans : List Span
    reads : SpansBehind profile standing [] spans
    ends : filter is_whole spans ≡ [] → IsEnd standing spans

  reads_behind : (standing : Standing) → IsReading standing → HaveSpans profile → ReadsBehind standing
  reads_behind (Open n events) reading some =
      let found = some n (events ++ []) in record {
        spans = found.0;
        reads = found.1;
        ends = end_of_packet n events found.0 found.1;
      }
  reads_behind (Held n refusal) reading some = absurd reading
  reads_behind (Passing n) reading some = record {
    spans = [];
    reads = ([], [], to_the_end refl (λ before after same. no_end before Stop after (sym same)) refl, refl);
    ends = λ inside. record { end = None; is = refl; none = λ m front same none. absurd (cc same) };
  }

-- The spans of an end are those of some end that comes there.
is_end : (reached : Reached) (last : List Span) → EndsWith reached last → LeadsOn reached → HaveSpans reached.profile
    → OneList reached.profile → IsEnd reached.standing last
is_end reached last ends leads some one =
    let found = reads_behind reached.profile reached.standing leads.reading some in
    let there = subst (λ (events : List Event). Spans reached.profile events (reached.spans ++ found.spans))
    (append-nil reached.events) (leads.leads [] found.spans found.reads) in
    let same : found.spans ≡ last =
    append_cancel_left reached.spans found.spans last
    (one 0 reached.events (reached.spans ++ found.spans) (reached.spans ++ last) there ends.spans) in
    subst (λ (spans : List Span). IsEnd reached.standing spans) same
    (found.ends (ap (filter is_whole) same ∙ ends.inside))

-- the spans of an end, and what is told of it
pub record HasEnds (ignored : Option (List ℕ)) (reached : Reached) : Type 0 where
  pub last : List Span
  pub ends : EndsWith reached last
  pub tells : TellsOpen ignored reached last

pub ends_open : OthersAreTold → (ignored : Option (List ℕ)) (reached : Reached)
    → LeadsOn reached → HaveSpans reached.profile → OneList reached.profile
    → (last : List Span) × EndsWith reached last → HasEnds ignored reached
ends_open told ignored reached leads some one found =
    let at = is_end reached found.0 found.1 leads some one in record {
      last = found.0;
      ends = found.1;
      tells = subst (TellsOpen ignored reached) (sym at.is)
          (tells_open told ignored reached at.end at.none (subst (EndsWith reached) at.is found.1));
    }

-- ---- events that follow

-- an address is that of each packet that goes on so
address_stays : (ignored : Option (List ℕ)) (front more : List Event) (addr : ℕ)
    → other_address ignored front ≡ Some addr → other_address ignored (front ++ more) ≡ Some addr
address_stays ignored [] more addr is = absurd (cc is)
address_stays ignored (Start ∷ []) more addr is = absurd (cc is)
address_stays ignored (Start ∷ Start ∷ front) more addr is = absurd (cc is)
address_stays ignored (Start ∷ Byte b ∷ front) more addr is = is
address_stays ignored (Start ∷ Ack ∷ front) more addr is = absurd (cc is)
address_stays ignored (Start ∷ Nack ∷ front) more addr is = absurd (cc is)
address_stays ignored (Start ∷ Stop ∷ front) more addr is = absurd (cc is)
address_stays ignored (Byte b ∷ front) more addr is = absurd (cc is)
address_stays ignored (Ack ∷ front) more addr is = absurd (cc is)
address_stays ignored (Nack ∷ front) more addr is = absurd (cc is)
address_stays ignored (Stop ∷ front) more addr is = absurd (cc is)

-- some packet begins with a front of what some packet begins with
front_viable : (profile : List DeviceParts) (events front rest : List Event) (event : Event) → Viable profile events
    → events ≡ front ++ event ∷ rest → Viable profile (front ++ event ∷ [])
front_viable profile events front rest event (inl none) split = absurd (no_events front (sym split ∙ none))
  where
    no_events : (front : List Event) → front ++ event ∷ rest ≡ [] → ⊥
    no_events [] same = cc same
    no_events (first ∷ front) same = cc same
front_viable profile events front rest event (inr begun) split =
    inr (
      rest ++ begun.0,
      subst (λ (es : List Event). IsPacket profile es) (ap (λ (es : List Event). es ++ begun.0) split
          ∙ append_assoc front (event ∷ rest) begun.0 ∙ sym (append_assoc front (event ∷ []) (rest ++ begun.0)))
          begun.1,
    )

module _ (profile : List DeviceParts) (front : List Event) (under_way : IsUnderWay profile front) where
  -- A span of events that begin with a packet under way holds all of that: no packet ends within it,
  -- and none of its events is refused.
  read_goes_on : (more rest left : List Event) (t : TransactionData) (all : List Event) → Packet profile t all
      → Within front more all left ⊎ Beyond front more all left → (x : List Event) × (all ≡ front ++ x)
  read_goes_on more rest left t all packet (inl within) = (within.rest, within.first)
  read_goes_on more rest left t all packet (inr beyond) =
      absurd (under_way.no_packet all (beyond.event ∷ beyond.rest) beyond.first (t, packet))

  refused_goes_on : (more left before : List Event) (event : Event) → ¬ (MayFollow profile before event)
      → Within front more (before ++ event ∷ []) left ⊎ Beyond front more (before ++ event ∷ []) left
      → (x : List Event) × (before ++ event ∷ [] ≡ front ++ x)
  refused_goes_on more left before event refused (inl within) = (within.rest, within.first)
  refused_goes_on more left before event refused (inr beyond) =
      absurd (refused (front_viable profile front before (beyond.event ∷ beyond.rest) event under_way.viable
      (beyond.first ∙ append_assoc before (event ∷ []) (beyond.event ∷ beyond.rest))))

  goes_on : (n : ℕ) (more : List Event) (span : Span) (others : List Span)
      → SpansFrom profile n (front ++ more) (span ∷ others) → (x : List Event) × (span_events span ≡ front ++ x)
  goes_on n more (ReadSpan m events t) others reads =
      read_goes_on more [] reads.1 t events reads.3 (cut front more events reads.1 reads.2)
  goes_on n more (RefusedSpan m before event refusal) others reads =
      refused_goes_on more reads.1 before event reads.3.refused
      (cut front more (before ++ event ∷ []) reads.1
      (reads.2 ∙ sym (append_assoc before (event ∷ []) reads.1)))
  goes_on n more (TruncatedSpan m events refusal) others reads = (more, sym reads.1)

-- The first fact of the spans of such events is the one that is out.
module _ (ignored : Option (List ℕ)) (under : List DeviceParts) (place : ℕ → Place) (times : ℕ → Option (List ℕ))
    (lost : ℕ → List Event → List PastData) (before : List PastData) (m n : ℕ) (front : List Event) (under_way : IsUnderWay under front) where
  -- the facts of an other with this address, in place of some
  abbrev other_in : ℕ → Option ℕ → List FactData → List FactData
  other_in k addr facts = other_or place times (m + k) addr facts

  abbrev HasLeft : List Span → Option ℕ → Type 0
  HasLeft others addr = (left : List FactData)
      × (span_facts ignored place times lost before (moved_spans m others) ≡ other_in n addr [] ++ left)

  is_first : (k addr : ℕ) (found : Option ℕ) (facts rest : List FactData) → k ≡ n → found ≡ Some addr
      → other_in k found facts ++ rest ≡ other_in n (Some addr) [] ++ rest
  is_first k addr found facts rest same is =
      ap (λ (o : Option ℕ). other_in k o facts ++ rest) is
      ∙ ap (λ (j : ℕ). other_in j (Some addr) [] ++ rest) same

  address_of : (addr : ℕ) (events : List Event) → other_address ignored front ≡ Some addr
      → (x : List Event) × (events ≡ front ++ x) → other_address ignored events ≡ Some addr
  address_of addr events is goes = ap (other_address ignored) goes.1
      ∙ address_stays ignored front goes.0 addr is

  left_of : (more : List Event) (others : List Span) (addr : Option ℕ) → SpansFrom under n (front ++ more) others
      → other_address ignored front ≡ addr → HasLeft others addr
  left_of more others None reads is = (span_facts ignored place times lost before (moved_spans m others), refl)
  left_of more [] (Some addr) reads is =
      let none : None ≡ Some addr = sym (ap (other_address ignored) (no_front front more reads)) ∙ is in
      absurd (cc none)
  left_of more (ReadSpan k events t ∷ others) (Some addr) reads is =
      let rest = span_facts ignored place times lost (before ++ Said t ∷ []) (moved_spans m others) in (
        rest,
        is_first k addr (other_address ignored events)
            (packet_facts before place (times (m + k)) (m + k) events t) rest reads.0
            (address_of addr events is (goes_on under front under_way n more (ReadSpan k events t) others reads)),
      )
  left_of more (RefusedSpan k events event refusal ∷ others) (Some addr) reads is =
      let rest = span_facts ignored place times lost (before ++ lost (m + k) events) (moved_spans m others) in (
        rest,
        is_first k addr (other_address ignored (events ++ event ∷ []))
            (refused_span place times before (m + k) events (Some event) refusal ∷ []) rest reads.0
            (address_of addr (events ++ event ∷ []) is
            (goes_on under front under_way n more (RefusedSpan k events event refusal) others reads)),
      )
  left_of more (TruncatedSpan k events refusal ∷ others) (Some addr) reads is =
      let rest = span_facts ignored place times lost before (moved_spans m others) in (
        rest,
        is_first k addr (other_address ignored events)
            (refused_span place times before (m + k) events None refusal ∷ []) rest reads.0
            (address_of addr events is
            (goes_on under front under_way n more (TruncatedSpan k events refusal) others reads)),
      )

-- Some spans follow what was reached, where these events follow; their facts are the one that is out,
-- and what is left.
pub record LeadsToMore (ignored : Option (List ℕ)) (reached : Reached)
    (rest : List Event) : Type 0 where
  pub others : List Span
  pub spans : Spans reached.profile (reached.events ++ rest) (reached.spans ++ others)
  pub left : (place : ℕ → Place) (times : ℕ → Option (List ℕ)) (lost : ℕ → List Event → List PastData)
      (before : List PastData) (m : ℕ)
      → (left : List FactData) × (span_facts ignored place times lost before (moved_spans m others)
      ≡ open_facts ignored place times m reached.standing ++ left)

module _ (ignored : Option (List ℕ)) (reached : Reached) (rest : List Event)
    (leads : LeadsOn reached) (some : HaveSpans reached.profile)
    (under_way : (n : ℕ) (events : List Event) → reached.standing ≡ Open n events
    → IsUnderWay reached.profile events) where
  abbrev HasLeftAt : Standing → List Span → (ℕ → Place) → (ℕ → Option (List ℕ)) → (ℕ → List Event → List PastData)
      → List PastData → ℕ → Type 0
  HasLeftAt standing others place times lost before m = (left : List FactData)
      × (span_facts ignored place times lost before (moved_spans m others)
      ≡ open_facts ignored place times m standing ++ left)

  -- nothing is out
  none_out : (standing : Standing) → reached.standing ≡ standing
      → ((place : ℕ → Place) (times : ℕ → Option (List ℕ)) (m : ℕ)
      → open_facts ignored place times m standing ≡ [])
      → (others : List Span) × Spans reached.profile (reached.events ++ rest) (reached.spans ++ others)
      → LeadsToMore ignored reached rest
  none_out standing same none follows = record {
    others = follows.0;
    spans = follows.1;
    left = λ place times lost before m.
        let facts = span_facts ignored place times lost before (moved_spans m follows.0) in (
          facts,
          ap (λ (os : List FactData). os ++ facts) (sym (ap (open_facts ignored place times m) same
              ∙ none place times m)),
        );
  }

  leads_on : (standing : Standing) → reached.standing ≡ standing
      → (others : List Span) × Spans reached.profile (reached.events ++ rest) (reached.spans ++ others)
      → LeadsToMore ignored reached rest
  leads_on (Open n events) same follows =
      let found = some n (events ++ rest) in record {
        others = found.0;
        spans = leads.leads rest found.0
            (subst (λ (s : Standing). SpansBehind reached.profile s rest found.0) (sym same) found.1);
        left = λ place times lost before m.
            subst (λ (s : Standing). HasLeftAt s found.0 place times lost before m) (sym same)
            (left_of ignored reached.profile place times lost before m n events (under_way n events same) rest found.0
            (other_address ignored events) found.1 refl);
      }
  leads_on (Held n refusal) same follows = none_out (Held n refusal) same (λ place times m. refl) follows
  leads_on (Passing n) same follows = none_out (Passing n) same (λ place times m. refl) follows

  pub leads_to_more : (others : List Span)
      × Spans reached.profile (reached.events ++ rest) (reached.spans ++ others)
      → LeadsToMore ignored reached rest
  leads_to_more follows = leads_on reached.standing refl follows
