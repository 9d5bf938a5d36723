-- What holds of the facts of each packet, and of each refusal, other and bad token, holds of all facts of a
-- capture: for the laws `facts_are_addressed` and `faults_are_told`.
use Rattle.std.proofs.Common.{◌≡◌, ℕ, ◌+◌, Option, Some, None, List, [], ◌∷◌, ◌++◌, length, refl, subst, sym}
use Rattle.std.specs.List.{AllByRecursion}
use Rattle.pmb_bus.specs.declared.event.Event.{Event}
use Rattle.pmb_bus.specs.declared.kinds.Kinds.{Kinds}
use Rattle.pmb_bus.specs.Event.{AreBytes}
use Rattle.pmb_bus.specs.Text.{front_word}
use Rattle.pmb_command.specs.Parts.{DeviceParts}
use Rattle.pmb_facts.specs.Fact.{FactData}
use Rattle.pmb_facts.specs.Packets.{packet_facts}
use Rattle.pmb_fact_stream.specs.Before.{Before}
use Rattle.pmb_fact_stream.specs.Others.{other_address}
use Rattle.pmb_fact_stream.specs.Lost.{lost_in}
use Rattle.pmb_fact_stream.specs.Spans.{bad_token_fact, event_place, event_time, other_fact, other_or, refusal_fact}
use Rattle.pmb_fact_stream.specs.Spans.{refused_span, span_facts}
use Rattle.pmb_json.proofs.EachOf.{each_of_both}
use Rattle.pmb_json_objects.specs.Counts.{CountsData}
use Rattle.pmb_json_objects.specs.Head.{Head, head_at}
use Rattle.pmb_places.specs.declared.places.Place.{Place}
use Rattle.pmb_scan.specs.declared.after_bad_token.AfterBadToken.{AfterBadToken}
use Rattle.pmb_scan.specs.declared.after_bad_token.AfterBadToken.TheVariants.{End, Continue}
use Rattle.pmb_spans.specs.Spans.{Span, ReadSpan, RefusedSpan, TruncatedSpan}
use Rattle.pmb_stats_laws.proofs.Spelled.{AreSpelled, bytes_of_first, end_is_spelled, line_is_spelled}
use Rattle.pmb_telling.specs.Text.{BadLine, FactsFrom, IsBadLine, bad_line_facts, behind_line, front_facts, word_fact}
use Rattle.pmb_telling.specs.Text.{word_head}
use Rattle.pmb_transaction.specs.declared.reason.Reason.{Reason}
use Rattle.pmb_transaction.specs.Packet.{Packet}
use Rattle.pmb_transaction.specs.Reading.{RefusalData}
use Rattle.pmb_transaction.specs.Transaction.{TransactionData}
use Rattle.pmb_unknown_start.specs.Past.{PastData, Said}

-- it holds of each of these, where the events of a text have bytes
pub record HoldsOfEach (P : FactData → Type 0) (ignored : Option (List ℕ)) (profile : List DeviceParts) : Type 0 where
  pub packet : (before : List PastData) (place : ℕ → Place) (time : Option (List ℕ)) (n : ℕ)
      (events : List Event) (t : TransactionData) → Packet profile t events
      → AllByRecursion P (packet_facts before place time n events t)
  pub refusal : (before : List PastData) (head : Head) (front : List Event) (event : Option Event)
      (reason : Reason) (expected : Kinds) → AreBytes front → P (refusal_fact before head front event reason expected)
  pub other : (head : Head) (addr : ℕ) (events : List Event) → AreBytes events
      → other_address ignored events ≡ Some addr → P (other_fact head addr)
  pub bad_token : (head : Head) (word : List ℕ) → P (bad_token_fact head word)

module _ (P : FactData → Type 0) (ignored : Option (List ℕ)) (profile : List DeviceParts)
    (holds : HoldsOfEach P ignored profile) where
  -- ---- spans

  module _ (place : ℕ → Place) (times : ℕ → Option (List ℕ)) (lost : ℕ → List Event → List PastData) where
    -- an other, or these facts
    either_holds : (n : ℕ) (other : Option ℕ) (own : List FactData)
        → ((addr : ℕ) → other ≡ Some addr → P (other_fact (head_at place (times n) (n + 1)) addr))
        → AllByRecursion P own → AllByRecursion P (other_or place times n other own)
    either_holds n None own one are = are
    either_holds n (Some addr) own one are = (one addr refl, tt)

    span_holds : (n : ℕ) (events : List Event) (own : List FactData) → AreBytes events → AllByRecursion P own
        → AllByRecursion P (other_or place times n (other_address ignored events) own)
    span_holds n events own bytes are =
        either_holds n (other_address ignored events) own
        (λ addr is. holds.other (head_at place (times n) (n + 1)) addr events bytes is) are

    refused_holds : (before : List PastData) (n : ℕ) (front : List Event) (event : Option Event)
        (refusal : RefusalData) → AreBytes front
        → AllByRecursion P (refused_span place times before n front event refusal ∷ [])
    refused_holds before n front event refusal bytes = (
      holds.refusal before (head_at place (times n) (n + length front)) front event refusal.reason refusal.expected
          bytes,
      tt,
    )

    pub spans_hold : (before : List PastData) (spans : List Span) → AreSpelled profile spans
        → AllByRecursion P (span_facts ignored place times lost before spans)
    spans_hold before [] spelled = tt
    spans_hold before (ReadSpan n events t ∷ spans) spelled =
        let own = packet_facts before place (times n) n events t in
        each_of_both P (other_or place times n (other_address ignored events) own)
        (span_facts ignored place times lost (before ++ Said t ∷ []) spans)
        (span_holds n events own spelled.0.1 (holds.packet before place (times n) n events t spelled.0.0))
        (spans_hold (before ++ Said t ∷ []) spans spelled.1)
    spans_hold before (RefusedSpan n front event refusal ∷ spans) spelled =
        let all = front ++ event ∷ [] in
        let own = refused_span place times before n front (Some event) refusal ∷ [] in
        each_of_both P (other_or place times n (other_address ignored all) own)
        (span_facts ignored place times lost (before ++ lost n front) spans)
        (span_holds n all own spelled.0.1
        (refused_holds before n front (Some event) refusal (bytes_of_first front (event ∷ []) spelled.0.1)))
        (spans_hold (before ++ lost n front) spans spelled.1)
    spans_hold before (TruncatedSpan n front refusal ∷ spans) spelled =
        let own = refused_span place times before n front None refusal ∷ [] in
        each_of_both P (other_or place times n (other_address ignored front) own)
        (span_facts ignored place times lost before spans)
        (span_holds n front own spelled.0.1 (refused_holds before n front None refusal spelled.0.1))
        (spans_hold before spans spelled.1)

  -- ---- texts

  line_holds : (b : Before) (bad : BadLine) (facts others : List FactData) → IsBadLine ignored profile b bad
      → facts ≡ bad_line_facts ignored profile b bad ++ others → AllByRecursion P others → AllByRecursion P facts
  line_holds b bad facts others is all rest =
      let place = event_place b.read b.n (bad.front ++ bad.line) in
      let times = event_time b.n (bad.front ++ bad.line) in
      subst (AllByRecursion P) (sym all) (each_of_both P (bad_line_facts ignored profile b bad) others
      (each_of_both P (front_facts ignored profile b bad) (word_fact b bad ∷ [])
      (spans_hold place times (lost_in profile b.n bad.events) b.past bad.spans (line_is_spelled ignored profile b bad is))
      (holds.bad_token (word_head b bad) (front_word bad.line), tt)) rest)

  -- the facts of bytes from anywhere on
  pub text_holds : (after : AfterBadToken) (b : Before) (bytes : List ℕ) (bad : List BadLine)
      (facts : List FactData) (counts : CountsData) → FactsFrom ignored profile after b bytes bad facts counts
      → AllByRecursion P facts
  text_holds after b bytes [] facts counts end =
      subst (AllByRecursion P) (sym end.all)
      (spans_hold (event_place b.read b.n bytes) (event_time b.n bytes) (lost_in profile b.n end.events) b.past end.spans
      (end_is_spelled ignored profile b bytes facts counts end))
  text_holds End b bytes (bad ∷ more) facts counts (rest, others, split, behind, is, all, on) =
      line_holds b bad facts others is all (subst (AllByRecursion P) (sym on.1) tt)
  text_holds Continue b bytes (bad ∷ more) facts counts ([], others, split, behind, is, all, on) =
      line_holds b bad facts others is all (subst (AllByRecursion P) (sym on.1) tt)
  text_holds Continue b bytes (bad ∷ more) facts counts (lf ∷ rest, others, split, behind, is, all, on) =
      line_holds b bad facts others is all (text_holds Continue (behind_line ignored profile b bad) rest more others counts on)
