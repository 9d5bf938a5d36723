-- What the facts of a capture weigh is what is counted of it, where that is so of each packet, each refusal, each
-- other and each bad token: for the law `counts_are_those_of_json`.
use Rattle.std.proofs.Common.{◌≡◌, ℕ, zero, suc, ◌+◌, ◌<◌, ◌≤◌, Bool, true, false, Option, Some, None, List, [], ◌∷◌}
use Rattle.std.proofs.Common.{◌++◌, ap, arith, drop, length, map, refl, sym, take, ◌∙◌}
use Rattle.pmb_bus.specs.declared.event.Event.{Event}
use Rattle.pmb_bus.specs.declared.event.Event.TheVariants.{Start, Byte, Ack, Nack, Stop}
use Rattle.pmb_bus.specs.Text.{front_word}
use Rattle.pmb_bus.specs.declared.kinds.Kinds.{Kinds}
use Rattle.pmb_command.specs.Parts.{DeviceParts}
use Rattle.pmb_facts.specs.Fact.{FactData, WhatData}
use Rattle.pmb_facts.specs.Fact as fact
use Rattle.pmb_facts.specs.Packets.{fact_at, packet_facts, refused_fact, write_facts}
use Rattle.pmb_fact_stream.specs.Before.{Before}
use Rattle.pmb_fact_stream.specs.Others.{other_address}
use Rattle.pmb_fact_stream.specs.Lost.{lost_in}
use Rattle.pmb_fact_stream.specs.Spans.{after_either, after_reported, after_span, after_spans, event_place, event_time}
use Rattle.pmb_fact_stream.specs.Spans.{other_fact, other_or, refused_span, span_facts}
use Rattle.pmb_json_objects.specs.Counts.{CountsData, after_bad_token, after_other, after_packet, after_refusal}
use Rattle.pmb_json_objects.specs.Head.{head_at}
use Rattle.pmb_json_objects.specs.Packets.{starts}
use Rattle.pmb_partial_packet.specs.PartialPacket.{said_device}
use Rattle.pmb_places.specs.declared.places.Place.{Place}
use Rattle.pmb_scan.specs.declared.after_bad_token.AfterBadToken.{AfterBadToken}
use Rattle.pmb_scan.specs.declared.after_bad_token.AfterBadToken.TheVariants.{End, Continue}
use Rattle.pmb_spans.specs.Spans.{Span, ReadSpan, RefusedSpan, TruncatedSpan}
use Rattle.pmb_stats_laws.proofs.Spelled.{AreSpelled, end_is_spelled, line_is_spelled}
use Rattle.pmb_stats_laws.proofs.Sums.{weigh, weigh_both, weigh_more, weigh_one}
use Rattle.pmb_telling.specs.Text.{BadLine, FactsFrom, IsBadLine, bad_line_facts, behind_line, front_facts, word_fact}
use Rattle.pmb_transaction.specs.Packet.{Packet, PartsEvents, RefusedLeg}
use Rattle.pmb_transaction.specs.Transaction.{PartData, RefusedData, TransactionData}
use Rattle.pmb_transaction.specs.Transaction.{Write, Read, Call, Refused, Alert, NoAlert}
use Rattle.pmb_transaction.specs.declared.reason.Reason.{Reason}
use Rattle.pmb_unknown_start.specs.Past.{PastData, Said}

-- ---- STARTs of packets

abbrev start_count : List Event → ℕ
start_count [] = 0
start_count (Start ∷ events) = start_count events + 1
start_count (Byte b ∷ events) = start_count events
start_count (Ack ∷ events) = start_count events
start_count (Nack ∷ events) = start_count events
start_count (Stop ∷ events) = start_count events

as_many_starts : (n : ℕ) (events : List Event) → length (starts n events) ≡ start_count events
as_many_starts n [] = refl
as_many_starts n (Start ∷ events) = omega (arith, as_many_starts (n + 1) events)
as_many_starts n (Byte b ∷ events) = as_many_starts (n + 1) events
as_many_starts n (Ack ∷ events) = as_many_starts (n + 1) events
as_many_starts n (Nack ∷ events) = as_many_starts (n + 1) events
as_many_starts n (Stop ∷ events) = as_many_starts (n + 1) events

starts_of_both : (a b : List Event) → start_count (a ++ b) ≡ start_count a + start_count b
starts_of_both [] b = omega arith
starts_of_both (Start ∷ a) b = omega (arith, starts_of_both a b)
starts_of_both (Byte x ∷ a) b = starts_of_both a b
starts_of_both (Ack ∷ a) b = starts_of_both a b
starts_of_both (Nack ∷ a) b = starts_of_both a b
starts_of_both (Stop ∷ a) b = starts_of_both a b

begins : (events rest : List Event) → events ≡ Start ∷ rest → 1 ≤ start_count events
begins events rest is =
    let all : start_count events ≡ start_count rest + 1 = ap start_count is in
    omega (arith, all)

module _ (profile : List DeviceParts) where
  each_part_starts : (parts : List PartData) (events : List Event) → PartsEvents profile parts events
      → length parts ≤ start_count events
  each_part_starts [] events each = omega arith
  each_part_starts (part ∷ parts) events each =
      let all : start_count events ≡ start_count (each.0 ++ each.1) = ap start_count each.2 in
      omega (
        arith,
        all,
        starts_of_both each.0 each.1,
        begins each.0 _ each.3.spelled,
        each_part_starts parts each.1 each.4,
      )

  refused_starts : (parts : List PartData) (addr : ℕ) (sent : List ℕ) (at_read : Bool) (events : List Event)
      → RefusedLeg profile parts addr sent at_read events → 1 ≤ start_count events
  refused_starts parts addr [] false events leg = begins events _ leg.spelled
  refused_starts parts addr (b ∷ bytes) false events leg = begins events _ leg.spelled
  refused_starts parts addr [] true events leg = begins events _ leg.spelled
  refused_starts parts addr (b ∷ bytes) true events leg = begins events _ leg.spelled

-- ---- what a packet weighs

module _ (weight : WhatData → ℕ) where
  -- parts, from the one with this number on
  abbrev pub parts_weight : ℕ → ℕ → List PartData → ℕ
  parts_weight part parts [] = 0
  parts_weight part parts (p ∷ more) = weight (fact.Write part parts p) + parts_weight (part + 1) parts more

  abbrev pub packet_weight : TransactionData → ℕ
  packet_weight (Write parts) = parts_weight 1 (length parts) parts
  packet_weight (Read t) = weight (fact.Read t)
  packet_weight (Call t) = weight (fact.Call t)
  packet_weight (Refused t) = parts_weight 1 (length t.parts + 1) t.parts
      + weight (fact.Refused (length t.parts + 1) t.addr t.sent t.at_read)
  packet_weight (Alert t) = weight (fact.Alert t)
  packet_weight NoAlert = weight fact.NoAlert

  module _ (before : List PastData) (place : ℕ → Place) (time : Option (List ℕ)) where
    writes_weigh : (part parts : ℕ) (ats : List ℕ) (ps : List PartData) → length ps ≤ length ats
        → weigh weight (write_facts before place time part parts ats ps) ≡ parts_weight part parts ps
    writes_weigh part parts ats [] few = refl
    writes_weigh part parts [] (p ∷ ps) few = absurd (omega (arith, few))
    writes_weigh part parts (at ∷ ats) (p ∷ ps) few =
        omega (
          arith,
          weigh_more weight (fact_at before place time at (fact.Write part parts p))
              (write_facts before place time (part + 1) parts ats ps),
          writes_weigh (part + 1) parts ats ps (omega (arith, few)),
        )

    leg_weighs : (t : RefusedData) (n : ℕ) (ats : List ℕ) → n < length ats
        → weigh weight (map (refused_fact before place time t) (take 1 (drop n ats)))
        ≡ weight (fact.Refused (length t.parts + 1) t.addr t.sent t.at_read)
    leg_weighs t n [] less = absurd (omega (arith, less))
    leg_weighs t zero (at ∷ ats) less = weigh_one weight (refused_fact before place time t at)
    leg_weighs t (suc n) (at ∷ ats) less = leg_weighs t n ats (omega (arith, less))

    pub packet_weighs : (profile : List DeviceParts) (n : ℕ) (events : List Event) (t : TransactionData)
        → Packet profile t events
        → weigh weight (packet_facts before place time n events t) ≡ packet_weight t
    packet_weighs profile n events (Write parts) packet =
        let all : start_count events ≡ start_count (packet.legs ++ Stop ∷ []) = ap start_count packet.spelled in
        writes_weigh 1 (length parts) (starts n events) parts (omega (
          arith,
          as_many_starts n events,
          all,
          starts_of_both packet.legs (Stop ∷ []),
          each_part_starts profile parts packet.legs packet.each,
        ))
    packet_weighs profile n events (Read t) packet = weigh_one weight (fact_at before place time n (fact.Read t))
    packet_weighs profile n events (Call t) packet = weigh_one weight (fact_at before place time n (fact.Call t))
    packet_weighs profile n events (Refused t) packet =
        let ats = starts n events in
        let all : start_count events ≡ start_count (packet.legs ++ packet.last ++ Stop ∷ [])
        = ap start_count packet.spelled in
        let enough : length t.parts < length ats = omega (
          arith,
          as_many_starts n events,
          all,
          starts_of_both (packet.legs ++ packet.last) (Stop ∷ []),
          starts_of_both packet.legs packet.last,
          each_part_starts profile t.parts packet.legs packet.each,
          refused_starts profile t.parts t.addr t.sent t.at_read packet.last packet.refused,
        ) in
        omega (
          arith,
          weigh_both weight (write_facts before place time 1 (length t.parts + 1) ats t.parts)
              (map (refused_fact before place time t) (take 1 (drop (length t.parts) ats))),
          writes_weigh 1 (length t.parts + 1) ats t.parts (omega (arith, enough)),
          leg_weighs t (length t.parts) ats enough,
        )
    packet_weighs profile n events (Alert t) packet = weigh_one weight (fact_at before place time n (fact.Alert t))
    packet_weighs profile n events NoAlert packet = weigh_one weight (fact_at before place time n fact.NoAlert)

-- ---- what is counted weighs as much

-- a write has parts
abbrev pub HasParts : TransactionData → Type 0
HasParts (Write parts) = 1 ≤ length parts
HasParts (Read t) = Unit {0}
HasParts (Call t) = Unit {0}
HasParts (Refused t) = Unit {0}
HasParts (Alert t) = Unit {0}
HasParts NoAlert = Unit {0}

packets_have_parts : (profile : List DeviceParts) (t : TransactionData) (events : List Event) → Packet profile t events
    → HasParts t
packets_have_parts profile (Write parts) events packet = packet.some
packets_have_parts profile (Read t) events packet = tt
packets_have_parts profile (Call t) events packet = tt
packets_have_parts profile (Refused t) events packet = tt
packets_have_parts profile (Alert t) events packet = tt
packets_have_parts profile NoAlert events packet = tt

-- what one more of each adds to a count is its weight
pub record Agrees (count : CountsData → ℕ) (weight : WhatData → ℕ) : Type 0 where
  pub packet : (c : CountsData) (t : TransactionData) → HasParts t
      → count (after_packet c t) ≡ count c + packet_weight weight t
  pub refusal : (c : CountsData) (front : List Event) (event : Option Event) (reason : Reason) (expected : Kinds)
      → count (after_refusal c (said_device front)) ≡ count c + weight (fact.Refusal front event reason expected)
  pub other : (c : CountsData) (addr : ℕ) → count (after_other c addr) ≡ count c + weight (fact.Other addr)
  pub bad_token : (c : CountsData) (word : List ℕ)
      → count (after_bad_token c) ≡ count c + weight (fact.BadToken word)

module _ (count : CountsData → ℕ) (weight : WhatData → ℕ) (agrees : Agrees count weight) (ignored : Option (List ℕ))
    (profile : List DeviceParts) where
  module _ (place : ℕ → Place) (times : ℕ → Option (List ℕ)) (lost : ℕ → List Event → List PastData) where
    either_agrees : (c : CountsData) (n : ℕ) (other : Option ℕ) (span : Span) (own : List FactData)
        → count (after_reported c span) ≡ count c + weigh weight own
        → count (after_either c other span) ≡ count c + weigh weight (other_or place times n other own)
    either_agrees c n None span own same = same
    either_agrees c n (Some addr) span own same = omega (
      arith,
      agrees.other c addr,
      weigh_one weight (other_fact (head_at place (times n) (n + 1)) addr),
    )

    -- a span, and those that come after it
    span_more : (c d e : ℕ) (own more : List FactData) → d ≡ c + weigh weight own → e ≡ d + weigh weight more
        → e ≡ c + weigh weight (own ++ more)
    span_more c d e own more first rest = omega (arith, first, rest, weigh_both weight own more)

    pub spans_agree : (c : CountsData) (before : List PastData) (spans : List Span) → AreSpelled profile spans
        → count (after_spans ignored c spans) ≡ count c + weigh weight (span_facts ignored place times lost before spans)
    spans_agree c before [] spelled = omega arith
    spans_agree c before (ReadSpan n events t ∷ spans) spelled =
        let span = ReadSpan n events t in
        let other = other_address ignored events in
        let own = packet_facts before place (times n) n events t in
        span_more (count c) (count (after_span ignored c span)) (count (after_spans ignored c (span ∷ spans)))
        (other_or place times n other own) (span_facts ignored place times lost (before ++ Said t ∷ []) spans)
        (either_agrees c n other span own (omega (
          arith,
          agrees.packet c t (packets_have_parts profile t events spelled.0.0),
          packet_weighs weight before place (times n) profile n events t spelled.0.0,
        )))
        (spans_agree (after_span ignored c span) (before ++ Said t ∷ []) spans spelled.1)
    spans_agree c before (RefusedSpan n front event refusal ∷ spans) spelled =
        let span = RefusedSpan n front event refusal in
        let other = other_address ignored (front ++ event ∷ []) in
        let own = refused_span place times before n front (Some event) refusal in
        span_more (count c) (count (after_span ignored c span)) (count (after_spans ignored c (span ∷ spans)))
        (other_or place times n other (own ∷ [])) (span_facts ignored place times lost (before ++ lost n front) spans)
        (either_agrees c n other span (own ∷ []) (omega (
          arith,
          agrees.refusal c front (Some event) refusal.reason refusal.expected,
          weigh_one weight own,
        )))
        (spans_agree (after_span ignored c span) (before ++ lost n front) spans spelled.1)
    spans_agree c before (TruncatedSpan n front refusal ∷ spans) spelled =
        let span = TruncatedSpan n front refusal in
        let other = other_address ignored front in
        let own = refused_span place times before n front None refusal in
        span_more (count c) (count (after_span ignored c span)) (count (after_spans ignored c (span ∷ spans)))
        (other_or place times n other (own ∷ [])) (span_facts ignored place times lost before spans)
        (either_agrees c n other span (own ∷ []) (omega (
          arith,
          agrees.refusal c front None refusal.reason refusal.expected,
          weigh_one weight own,
        )))
        (spans_agree (after_span ignored c span) before spans spelled.1)

  -- ---- texts

  line_agrees : (b : Before) (bad : BadLine) (facts others : List FactData) (end : ℕ) → IsBadLine ignored profile b bad
      → facts ≡ bad_line_facts ignored profile b bad ++ others
      → end ≡ count (behind_line ignored profile b bad).counts + weigh weight others
      → end ≡ count b.counts + weigh weight facts
  line_agrees b bad facts others end is all rest =
      let place = event_place b.read b.n (bad.front ++ bad.line) in
      let times = event_time b.n (bad.front ++ bad.line) in
      let word = word_fact b bad in
      omega (
        arith,
        rest,
        ap (weigh weight) all,
        weigh_both weight (bad_line_facts ignored profile b bad) others,
        weigh_both weight (front_facts ignored profile b bad) (word ∷ []),
        weigh_one weight word,
        spans_agree place times (lost_in profile b.n bad.events) b.counts b.past bad.spans (line_is_spelled ignored profile b bad is),
        agrees.bad_token (after_spans ignored b.counts bad.spans) (take 32 (front_word bad.line)),
      )

  none_behind : (end c : ℕ) (others : List FactData) → others ≡ [] → end ≡ c → end ≡ c + weigh weight others
  none_behind end c others none same =
      let nothing : weigh weight others ≡ 0 = ap (weigh weight) none in
      omega (arith, nothing, same)

  -- of bytes from anywhere on
  pub text_agrees : (after : AfterBadToken) (b : Before) (bytes : List ℕ) (bad : List BadLine) (facts : List FactData)
      (counts : CountsData) → FactsFrom ignored profile after b bytes bad facts counts
      → count counts ≡ count b.counts + weigh weight facts
  text_agrees after b bytes [] facts counts end =
      ap count end.behind
      ∙ (spans_agree (event_place b.read b.n bytes) (event_time b.n bytes) (lost_in profile b.n end.events) b.counts
      b.past end.spans
      (end_is_spelled ignored profile b bytes facts counts end)
      ∙ sym (ap (λ fs. count b.counts + weigh weight fs) end.all))
  text_agrees End b bytes (bad ∷ more) facts counts (rest, others, split, behind, is, all, on) =
      line_agrees b bad facts others (count counts) is all
      (none_behind (count counts) (count (behind_line ignored profile b bad).counts) others on.1 (ap count on.2))
  text_agrees Continue b bytes (bad ∷ more) facts counts ([], others, split, behind, is, all, on) =
      line_agrees b bad facts others (count counts) is all
      (none_behind (count counts) (count (behind_line ignored profile b bad).counts) others on.1 (ap count on.2))
  text_agrees Continue b bytes (bad ∷ more) facts counts (lf ∷ rest, others, split, behind, is, all, on) =
      line_agrees b bad facts others (count counts) is all
      (text_agrees Continue (behind_line ignored profile b bad) rest more others counts on)
