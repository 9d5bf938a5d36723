-- A whole canonical packet with one START, told at once. For `take_line` and `visit_whole`. Its
-- text is `S `, the rest, and `P` with LF: so its START stands where the text begins, and the
-- stream stands after it as if its events had come one by one.
use Rattle.std.proofs.Common.{◌≡◌, ℕ, Bool, false, zero, suc, ◌+◌, ◌/◌, ◌<◌, ◌≤◌, Option, None, List, [], ◌∷◌, ◌++◌}
use Rattle.std.proofs.Common.{codes, length}
use Rattle.std.proofs.Common.{slice_index_or, append_assoc, length-append, refl, sym, ap, ◌∙◌, subst, arith}
use Rattle.std.specs.List.{Contains}
use Rattle.std.proofs.lemmas.Grind.{flat_map-append}
use Rattle.pmb_bus.specs.declared.event.Event.{Event}
use Rattle.pmb_bus.specs.declared.event.Event.TheVariants.{Start, Byte, Ack, Nack, Stop}
use Rattle.pmb_bus.specs.Event.{AreBytes, canonical_text, character, text_of}
use Rattle.pmb_bus.specs.Text.{EndsBetween}
use Rattle.pmb_command.specs.Parts.{DeviceParts}
use Rattle.pmb_json_objects.specs.Counts.{after_packet}
use Rattle.pmb_facts.specs.Fact.{FactData}
use Rattle.pmb_facts.specs.Packets.{packet_facts}
use Rattle.pmb_keeper.specs.Setting.{Setting}
use Rattle.pmb_places.specs.declared.places.Place.{Place}
use Rattle.pmb_reader.specs.Reader.{Standing, Open}
use Rattle.pmb_scan.specs.Reached.{Reached, behind_bytes, behind_event, behind_whole, standing_after}
use Rattle.pmb_spans.specs.Spans.{ReadSpan}
use Rattle.pmb_transaction.specs.Capture.{EndsAtFirstStop, HasNoStop}
use Rattle.pmb_transaction.specs.Packet.{Packet}
use Rattle.pmb_transaction.specs.Transaction.{PartData, TransactionData, Alert, Call, NoAlert, Read}
use Rattle.pmb_transaction.specs.Transaction.{Refused, Write}
use Rattle.pmb_unknown_start.specs.Past.{PastData, Said}
use Rattle.pmb_fact_stream.specs.declared.stream.Begun.{Begun}
use Rattle.pmb_fact_stream.specs.declared.kept_stream.KeptStream.{KeptStream}
use Rattle.pmb_fact_stream.specs.declared.stream.Stream.{Stream}
use Rattle.pmb_fact_stream.specs.Before.{Before, past_of, with_reached}
use Rattle.pmb_fact_stream.specs.Choice.{ChoiceData}
use Rattle.pmb_fact_stream.specs.Others.{address_if, is_ignored, other_address}
use Rattle.pmb_fact_stream.specs.Spans.{after_either, after_open, after_spans, event_place, event_time}
use Rattle.pmb_fact_stream.specs.Lost.{lost_in}
use Rattle.pmb_fact_stream.specs.Spans.{past_in}
use Rattle.pmb_fact_stream.specs.Stream.{HasToldOf, IsSame, StreamKnows, TellsFacts, stream_choice, stream_time}
use Rattle.pmb_fact_stream.specs.machine.Begun.{begun_legs, kept_facts}
use Rattle.pmb_fact_stream.specs.machine.Inside.{HasOneStart}
use Rattle.pmb_fact_stream.specs.machine.Knowing.{IsCleared, IsCountOf, IsUnderWay, KeepsPacket, KeepsUnderWay}
use Rattle.pmb_fact_stream.specs.machine.Knowing.{KnowsTimes}
use Rattle.pmb_fact_stream.specs.machine.Losing.{IsFresh, IsSettled}
use Rattle.pmb_fact_stream.proofs.Beginnings.{begins}
use Rattle.pmb_fact_stream.proofs.Losing.{said_more, said_now, settled_open}
use Rattle.pmb_fact_stream.proofs.Spans.{counts_append}
use Rattle.pmb_fact_stream.proofs.Standing.{keeps_none, knows_as, whole_line}
use Rattle.pmb_fact_stream.proofs.Adding.{AddsFacts, FactsAre, facts_behind, facts_more, own_facts}
use Rattle.pmb_fact_stream.specs.Stream.{kept_by}
use Rattle.pmb_fact_stream.proofs.Told.{same_then, tells_more}
use Rattle.pmb_fact_stream.proofs.UnderWay.{time_in_packet}

-- ---- its events: START, others, and STOP

pub record IsLine (events : List Event) : Type 0 where
  -- the events between START and STOP
  pub rest : List Event
  pub split : events ≡ Start ∷ (rest ++ Stop ∷ [])
  pub no_stop : Contains rest Stop → ⊥
  pub small : AreBytes rest
  pub address : ℕ
  pub others : List Event
  pub begins : rest ≡ Byte address ∷ others

-- a STOP among events has some before it and some after it
parted : (events : List Event) (k : ℕ) → k < length events → slice_index_or events k Stop ≡ Stop
    → (before : List Event) × (after : List Event) × (events ≡ before ++ Stop ∷ after)
parted [] k within is = absurd (omega (arith, within))
parted (e ∷ events) zero within is = ([], events, ap (λ (first : Event). first ∷ events) is)
parted (e ∷ events) (suc k) within is =
    let found = parted events k (omega (arith, within)) is in
    (e ∷ found.0, found.1, ap (λ (more : List Event). e ∷ more) found.2)

no_stop_behind : (e : Event) (rest : List Event) → HasNoStop (e ∷ rest) → Contains rest Stop → ⊥
no_stop_behind e rest none (k, within, is) =
    let found = parted rest k within is in
    none (e ∷ found.0) found.1 (ap (λ (more : List Event). e ∷ more) found.2)

bytes_before : (front more : List Event) → AreBytes (front ++ more) → AreBytes front
bytes_before [] more small = tt
bytes_before (Start ∷ front) more small = bytes_before front more small
bytes_before (Byte b ∷ front) more small = (small.0, bytes_before front more small.1)
bytes_before (Ack ∷ front) more small = bytes_before front more small
bytes_before (Nack ∷ front) more small = bytes_before front more small
bytes_before (Stop ∷ front) more small = bytes_before front more small

byte_first : (rest more : List Event) (b : ℕ) → rest ++ Stop ∷ [] ≡ Byte b ∷ more
    → (others : List Event) × (rest ≡ Byte b ∷ others)
byte_first [] more b same = absurd (cc same)
byte_first (e ∷ rest) more b same = (rest, ap (λ (first : Event). first ∷ rest) (cc same))

line_by : (front more : List Event) (b : ℕ) → HasNoStop front → AreBytes (front ++ Stop ∷ [])
    → front ++ Stop ∷ [] ≡ Start ∷ Byte b ∷ more → IsLine (front ++ Stop ∷ [])
line_by [] more b none small same = absurd (cc same)
line_by (e ∷ rest) more b none small same =
    let first : e ≡ Start = cc same in
    let address = byte_first rest more b (cc same) in record {
      rest = rest;
      split = ap (λ (event : Event). event ∷ (rest ++ Stop ∷ [])) first;
      no_stop = no_stop_behind e rest none;
      small = bytes_before rest (Stop ∷ []) (subst (λ (event : Event). AreBytes (event ∷ (rest ++ Stop ∷ []))) first
          small);
      address = b;
      others = address.0;
      begins = address.1;
    }

pub is_line : (profile : List DeviceParts) (t : TransactionData) (events : List Event) → Packet profile t events
    → EndsAtFirstStop events → AreBytes events → IsLine events
is_line profile t events packet ends small =
    let begun = begins profile t events packet in
    subst IsLine (sym ends.split) (line_by ends.front begun.1 begun.0 ends.no_stop (subst AreBytes ends.split small)
    (sym ends.split ∙ begun.2))

-- it is no other where its address is not ignored
pub no_other_line : (ignored : Option (List ℕ)) (events : List Event) → (is : IsLine events)
    → is_ignored ignored (is.address / 2) ≡ false → other_address ignored (whole_line is.rest) ≡ None
no_other_line ignored events is not =
    ap (λ (l : List Event). other_address ignored (Start ∷ (l ++ Stop ∷ []))) is.begins
    ∙ ap (λ (own : Bool). address_if own (is.address / 2)) not

-- ---- its facts, by what was kept of its START

write_facts_whole : (before : List PastData) (place : ℕ → Place) (time : Option (List ℕ)) (n : ℕ)
    (rest : List Event)
    (parts : List PartData)
    → length parts ≤ 1
    → kept_facts before time (begun_legs place n (Start ∷ [])) (Write parts) ≡ packet_facts before place time n
    (Start ∷ rest)
    (Write parts)
write_facts_whole before place time n rest [] one = refl
write_facts_whole before place time n rest (part ∷ []) one = refl
write_facts_whole before place time n rest (part ∷ next ∷ parts) one = absurd (omega (arith, one))

refused_facts_whole : (before : List PastData) (place : ℕ → Place) (time : Option (List ℕ)) (n : ℕ)
    (rest : List Event)
    (parts : List PartData)
    (addr : ℕ) (sent : List ℕ) (at_read : Bool) → length parts ≡ 0
    → kept_facts before time (begun_legs place n (Start ∷ []))
    (Refused (record { parts = parts; addr = addr; sent = sent; at_read = at_read }))
    ≡ packet_facts before place time n (Start ∷ rest)
    (Refused (record { parts = parts; addr = addr; sent = sent; at_read = at_read }))
refused_facts_whole before place time n rest [] addr sent at_read none = refl
refused_facts_whole before place time n rest (part ∷ parts) addr sent at_read none = absurd (omega (arith, none))

facts_whole : (before : List PastData) (place : ℕ → Place) (time : Option (List ℕ)) (n : ℕ) (rest : List Event)
    (t : TransactionData) → HasOneStart t
    → kept_facts before time (begun_legs place n (Start ∷ [])) t ≡ packet_facts before place time n (Start ∷ rest) t
facts_whole before place time n rest (Write parts) one = write_facts_whole before place time n rest parts one
facts_whole before place time n rest (Read read) one = refl
facts_whole before place time n rest (Call call) one = refl
facts_whole before place time n rest (Refused t) one =
    refused_facts_whole before place time n rest t.parts t.addr t.sent t.at_read one
facts_whole before place time n rest (Alert alert) one = refl
facts_whole before place time n rest NoAlert one = refl

-- ---- its text

-- the text of such events after START's
abbrev pub rest_text : List Event → List ℕ
rest_text rest = canonical_text (rest ++ Stop ∷ [])

-- it ends with LF, and so between words
pub ends_line : ((text : List ℕ) → EndsBetween (text ++ character "\n" ∷ [])) → (read : List ℕ) (rest : List Event)
    → EndsBetween (read ++ rest_text rest)
ends_line lines read rest =
    let stop = character "P" ∷ [] in
    let feed = character "\n" ∷ [] in
    subst EndsBetween
    (append_assoc read (canonical_text rest ++ stop) feed
    ∙ ap (λ (text : List ℕ). read ++ text) (append_assoc (canonical_text rest) stop feed
    ∙ sym (flat_map-append text_of rest (Stop ∷ []))))
    (lines (read ++ (canonical_text rest ++ stop)))

-- ---- how much it is

two_more : (rest : List Event) → length (whole_line rest) ≡ length rest + 2
two_more rest = omega (arith, length-append rest (Stop ∷ []))

pub events_in_line : (events : List Event) → (is : IsLine events) → length events ≡ length is.rest + 2
events_in_line events is = ap (λ (es : List Event). length es) is.split ∙ two_more is.rest

two_bytes_more : (rest : List Event) → length (canonical_text (whole_line rest)) ≡ length (rest_text rest) + 2
two_bytes_more rest = omega arith

pub bytes_in_line : (events : List Event) (bytes : List ℕ) → (is : IsLine events) → bytes ≡ canonical_text events
    → length bytes ≡ length (rest_text is.rest) + 2
bytes_in_line events bytes is text =
    ap (λ (l : List ℕ). length l) text ∙ ap (λ (es : List Event). length (canonical_text es)) is.split
    ∙ two_bytes_more is.rest

-- ---- what it adds

-- its facts, by what was kept of its START
whole_adds : (choice : ChoiceData) (b : Before) (reached : Reached) (past : List PastData)
    (time : Option (List ℕ)) (begun : List Begun) (n : ℕ) (rest : List Event) (t : TransactionData) → HasOneStart t
    → ((more : List ℕ) → begun ≡ begun_legs (event_place b.read b.n ((reached.text ++ codes "S ") ++ more)) (b.n + n)
    (Start ∷ []))
    → ((more : List ℕ) → time ≡ event_time b.n ((reached.text ++ codes "S ") ++ more) (b.n + n))
    → other_address choice.ignored (whole_line rest) ≡ None
    → AddsFacts choice b (reached.text ++ canonical_text (whole_line rest)) past
    (Open n (Start ∷ [])) (ReadSpan n (whole_line rest) t)
    (kept_facts (b.past ++ past) time begun t)
whole_adds choice b reached past time begun n rest t one kept timed none more lost =
    let before = b.past ++ past in
    let place = event_place b.read b.n ((reached.text ++ canonical_text (whole_line rest)) ++ more) in
    let times = event_time b.n ((reached.text ++ canonical_text (whole_line rest)) ++ more) in
    let all : (reached.text ++ codes "S ") ++ (rest_text rest ++ more) ≡
    (reached.text ++ canonical_text (whole_line rest))
    ++ more =
    sym (append_assoc (reached.text ++ codes "S ") (rest_text rest) more)
    ∙ ap (λ (text : List ℕ). text ++ more) (append_assoc reached.text (codes "S ") (rest_text rest)) in
    ap (λ (l : List Begun). kept_facts before time l t)
    (kept (rest_text rest ++ more) ∙ ap (λ (text : List ℕ). begun_legs (event_place b.read b.n text) (b.n + n)
    (Start ∷ [])) all)
    ∙ ap (λ (o : Option (List ℕ)). kept_facts before o (begun_legs place (b.n + n) (Start ∷ [])) t)
    (timed (rest_text rest ++ more) ∙ ap (λ (text : List ℕ). event_time b.n text (b.n + n)) all)
    ∙ facts_whole before place (times (b.n + n)) (b.n + n) (rest ++ Stop ∷ []) t one
    ∙ sym (own_facts choice b place times (b.n + n)
    (packet_facts before place (times (b.n + n)) (b.n + n) (whole_line rest) t)
    (other_address choice.ignored (whole_line rest)) none)

-- ---- the visit

-- after the START of it
abbrev pub begun_whole : Reached → Reached
begun_whole reached = behind_event (behind_bytes reached (codes "S ")) Start

module _ {K : Type 0} (Keeps : K → Setting → List FactData → Type 0) (b : Before) (start mid : KeptStream K)
    (new : Stream) (reached : Reached) (text : List ℕ) (n : ℕ) (rest : List Event) (t : TransactionData) where
  pub told_whole : HasToldOf Keeps b start mid (begun_whole reached) text → reached.standing ≡ Open n []
      → KnowsTimes new (behind_whole reached n (canonical_text (whole_line rest)) (whole_line rest) t)
      → HasOneStart t → other_address (stream_choice mid.stream).ignored (whole_line rest) ≡ None → IsSame mid.stream
      new →
      new.passing ≡ mid.stream.passing → IsCleared new → IsFresh new.writes
      → StreamKnows (record {
        read = (b.read ++ (reached.text ++ codes "S ")) ++ rest_text rest;
        n = ((b.n + length (reached.events ++ Start ∷ [])) + length rest) + 1;
        past = (b.past ++ past_of (begun_whole reached)) ++ Said t ∷ [];
        counts = after_packet (after_open (stream_choice mid.stream).ignored
            (after_spans (stream_choice mid.stream).ignored b.counts reached.spans)
            (standing_after reached.standing Start)) t;
      }) new
      → (keeper : K) (added : List ℕ) → TellsFacts Keeps mid.stream mid.keeper keeper added
      (kept_facts (b.past ++ past_of (begun_whole reached)) (stream_time mid.stream) mid.stream.begun.items t)
      → HasToldOf Keeps b start (kept_by new keeper)
      (behind_whole reached n (canonical_text (whole_line rest)) (whole_line rest) t) (text ++ added)
  told_whole told standing times one none same passing cleared fresh knows keeper added tells =
      let there = behind_whole reached n (canonical_text (whole_line rest)) (whole_line rest) t in
      let bytes = reached.text ++ canonical_text (whole_line rest) in
      let span = ReadSpan n (whole_line rest) t in
      -- what is kept after its START, by what was told so far
      let kept : KeepsPacket b mid.stream (reached.text ++ codes "S ") n (Start ∷ []) =
      subst (λ (s : Standing). KeepsUnderWay b mid.stream (reached.text ++ codes "S ") (standing_after s Start))
      standing
      told.at.packet in
      let counted : n + 1 ≡ length (reached.events ++ Start ∷ []) =
      subst (λ (s : Standing). IsCountOf (standing_after s Start) (length (reached.events ++ Start ∷ []))) standing
      told.at.counted in
      -- .. and its time
      let timed : (more : List ℕ) → stream_time mid.stream ≡ event_time b.n ((reached.text ++ codes "S ") ++ more)
      (b.n + n) =
      time_in_packet mid.stream.time (reached.text ++ codes "S ") (reached.events ++ Start ∷ []) (Start ∷ []) b.n n
      (subst (λ (s : Standing). IsUnderWay (standing_after s Start) (reached.events ++ Start ∷ [])) standing
      told.at.times.under_way) counted (λ none. cc none) told.at.times.time in
      -- how many events came, with those of the packet
      let so_far : length (reached.events ++ Start ∷ []) ≡ length reached.events + 1 =
      length-append reached.events (Start ∷ []) in
      let own = two_more rest in
      let all = length-append reached.events (whole_line rest) in
      -- the facts so far stay, whatever bytes follow
      let so_told = TellsFacts Keeps start.stream start.keeper mid.keeper text in
      let begun : standing_after reached.standing Start ≡ Open n (Start ∷ []) =
      ap (λ (s : Standing). standing_after s Start) standing in
      let first = reached.events ++ Start ∷ [] in
      let before : FactsAre (stream_choice start.stream) b reached.profile bytes first reached.spans
      (Open n (Start ∷ [])) so_told =
      subst (λ (l : List ℕ). FactsAre (stream_choice start.stream) b reached.profile l first reached.spans
      (Open n (Start ∷ [])) so_told)
      (append_assoc reached.text (codes "S ") (rest_text rest))
      (facts_behind (stream_choice start.stream) b reached.profile (reached.text ++ codes "S ") (rest_text rest) first
      reached.spans (Open n (Start ∷ [])) so_told
      (subst (λ (s : Standing). FactsAre (stream_choice start.stream) b reached.profile (reached.text ++ codes "S ")
      first reached.spans s so_told) begun told.told)) in
      -- nothing more is lost with what came before its START, and nothing with it
      let settled : IsSettled (begun_whole reached) =
      settled_open mid.stream.writes (begun_whole reached) n (Start ∷ []) begun told.at.loses in
      let tail = rest ++ Stop ∷ [] in
      let together : first ++ tail ≡ reached.events ++ whole_line rest =
      append_assoc reached.events (Start ∷ []) tail in
      let lost = λ (es : List Event). past_in (lost_in reached.profile 0 es) (reached.spans ++ span ∷ []) in
      let said : past_of (begun_whole reached) ++ Said t ∷ [] ≡ past_of there =
      said_now (begun_whole reached) n (whole_line rest) tail t settled ∙ ap lost together in
      let stays : IsSettled there =
      λ later. ap (λ (es : List Event). lost (es ++ later)) (sym together)
      ∙ said_more (begun_whole reached) n (whole_line rest) tail later t settled ∙ said in
      -- what was counted
      let ignored = (stream_choice mid.stream).ignored in
      let counts = after_spans ignored b.counts reached.spans in
      let counts_are : after_packet (after_open ignored counts (standing_after reached.standing Start)) t
      ≡ after_spans ignored b.counts (reached.spans ++ span ∷ []) =
      ap (λ (s : Standing). after_packet (after_open ignored counts s) t) begun
      ∙ sym (ap (λ (o : Option ℕ). after_either counts o span) none)
      ∙ sym (counts_append ignored b.counts reached.spans (span ∷ [])) in
      record {
        same = same_then start.stream mid.stream new told.same same;
        at = record {
          between = told.at.between;
          profile = told.at.profile ∙ sym same.profile;
          -- the stream knows all its bytes and events, and its transaction
          knows = subst (λ (c : ChoiceData). StreamKnows (with_reached c.ignored b there) new) (sym same.choice)
              (knows_as _ (with_reached ignored b there) new
              (append_assoc b.read (reached.text ++ codes "S ") (rest_text rest)
              ∙ ap (λ (l : List ℕ). b.read ++ l) (append_assoc reached.text (codes "S ") (rest_text rest)))
              (omega (arith, so_far, all, own))
              (append_assoc b.past (past_of (begun_whole reached)) (Said t ∷ [])
              ∙ ap (λ (past : List PastData). b.past ++ past) said)
              counts_are knows);
          packet = keeps_none b new bytes (n + length (whole_line rest)) (passing ∙ kept.reading) cleared;
          counted = omega (arith, counted, so_far, all, own);
          times = times;
          loses = (fresh reached.profile, stays);
        };
        time = times.time.time;
        told = subst (λ (es : List Event). FactsAre (stream_choice start.stream) b reached.profile bytes es there.spans
            there.standing (TellsFacts Keeps start.stream start.keeper keeper (text ++ added))) together
            (facts_more (stream_choice start.stream) b reached.profile bytes first tail reached.spans
            (past_of (begun_whole reached)) (Open n (Start ∷ [])) there.standing span
            so_told (TellsFacts Keeps start.stream start.keeper keeper (text ++ added))
            (kept_facts (b.past ++ past_of (begun_whole reached)) (stream_time mid.stream)
            mid.stream.begun.items t) (λ l. refl) settled before
            (whole_adds (stream_choice start.stream) b reached (past_of (begun_whole reached)) (stream_time mid.stream)
            mid.stream.begun.items n rest t one kept.begun timed
            (subst (λ (c : ChoiceData). other_address c.ignored (whole_line rest) ≡ None) told.same.choice none))
            (tells_more Keeps b start mid new (begun_whole reached) text told keeper added _ tells));
      }
