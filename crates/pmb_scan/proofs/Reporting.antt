-- What one event more comes to, from what the reader returns for it where it stands: it goes on, it
-- ends a packet, or it is refused and then passed over. For `report`, `pass_over`, `pass_blank` and
-- `truncation`. The spans so far are followed by one more, and whatever follows reads on from
-- there.
use Rattle.std.proofs.Common.{◌≡◌, ◌↔◌, ℕ, ◌+◌, Result, Ok, Err, None, List, [], ◌∷◌, ◌++◌, filter, length, refl, sym}
use Rattle.std.proofs.Common.{ap, ◌∙◌}
use Rattle.std.proofs.Common.{subst, arith, append_assoc, append-nil}
use Rattle.std.specs.Result.{result_err}
use Rattle.std.proofs.lemmas.List.{length_push}
use Rattle.std.proofs.lemmas.List.Elements.{filter-append}
use Rattle.pmb_bus.specs.declared.event.Event.{Event}
use Rattle.pmb_bus.specs.declared.event.Event.TheVariants.{Start, Byte, Ack, Nack, Stop}
use Rattle.pmb_command.specs.Parts.{DeviceParts}
use Rattle.pmb_reader.specs.declared.reader.Reader.{Reader}
use Rattle.pmb_reader.specs.declared.reader.Took.{Took}
use Rattle.pmb_reader.specs.declared.reader.Took.TheVariants as answers
use Rattle.pmb_reader.specs.declared.refusal.Refusal.{Refusal}
use Rattle.pmb_reader.specs.Reader.{Standing, Open, Held, Passing, ReaderStandsAt, ReaderTakes, ReaderFinishes}
use Rattle.pmb_reader.specs.Reader.{behind_passed, last_read}
use Rattle.pmb_reader.specs.Refusal.{refusal_data}
use Rattle.pmb_transaction.specs.Capture.{HasNoStop, Viable}
use Rattle.pmb_transaction.specs.Packet.{Packet}
use Rattle.pmb_transaction.specs.Reading.{IsUnderWay, RefusalData}
use Rattle.pmb_transaction.specs.Transaction.{TransactionData}
use Rattle.pmb_spans.specs.Spans.{Span, ReadSpan, RefusedSpan, TruncatedSpan, Spans, SpansFrom, is_whole}
use Rattle.pmb_scan.specs.Reached.{Reached, IsReading, LeadsOn, EndsWith, SpansBehind, behind_bytes}
use Rattle.pmb_scan.specs.Reached.{MayGoOn, behind_whole, standing_after}
use Rattle.pmb_scan.specs.Scan.{end_spans}
use Rattle.pmb_scan.specs.machine.Standing.{ReaderReached}
use Rattle.pmb_scan.specs.machine.Reported.{ReportsAs, EndsPacket, GoesOn, IsRefused}
use Rattle.pmb_scan.proofs.Passing.{OthersPass, after_none, after_one, after_stop}

-- A law of `pmb_transaction`: a packet under way holds no STOP.
abbrev pub HoldNoStop : Type 0
HoldNoStop = (profile : List DeviceParts) (events : List Event) → Viable profile events
    → (IsUnderWay profile events ↔ HasNoStop events)

-- ---- events that are passed over

passed_leads : OthersPass → (profile : List DeviceParts) (n : ℕ) (event : Event) (rest : List Event)
    (others : List Span) → SpansBehind profile (behind_passed n event) rest others
    → SpansBehind profile (Passing n) (event ∷ rest) others
passed_leads others_pass profile n Start rest others reads = after_one profile others_pass n Start rest others
    (λ is. cc) reads
passed_leads others_pass profile n (Byte b) rest others reads = after_one profile others_pass n (Byte b) rest others
    (λ is. cc) reads
passed_leads others_pass profile n Ack rest others reads = after_one profile others_pass n Ack rest others
    (λ is. cc) reads
passed_leads others_pass profile n Nack rest others reads = after_one profile others_pass n Nack rest others
    (λ is. cc) reads
passed_leads others_pass profile n Stop rest others reads = after_stop profile n rest others reads

passed_reading : (n : ℕ) (event : Event) → IsReading (behind_passed n event)
passed_reading n Start = tt
passed_reading n (Byte b) = tt
passed_reading n Ack = tt
passed_reading n Nack = tt
passed_reading n Stop = tt

-- A reader that passes over stands after the event.
pub passed : (profile : List DeviceParts) (n : ℕ) (event : Event) (took : Took) (after : Reader)
    → ReaderTakes profile (Passing n) event took after → ReaderStandsAt profile after (behind_passed n event)
passed profile n event answers.Continues after takes = takes
passed profile n event answers.Packet after takes = absurd takes
passed profile n event (answers.Refused refusal) after takes = absurd takes

-- ---- spans so far, and more

-- a span more that is no end inside a packet
whole_more : (spans : List Span) (span : Span) → filter is_whole spans ≡ spans → filter is_whole (span ∷ []) ≡ span ∷ []
    → filter is_whole (spans ++ span ∷ []) ≡ spans ++ span ∷ []
whole_more spans span whole one = filter-append is_whole spans (span ∷ [])
    ∙ (ap (λ l. l ++ filter is_whole (span ∷ [])) whole ∙ ap (λ l. spans ++ l) one)

-- an event before what follows, and a span before those of what follows it
spans_then : (profile : List DeviceParts) (events rest : List Event) (event : Event) (spans others : List Span)
    (span : Span)
    → Spans profile (events ++ event ∷ rest) (spans ++ span ∷ others)
    → Spans profile ((events ++ event ∷ []) ++ rest) ((spans ++ span ∷ []) ++ others)
spans_then profile events rest event spans others span reads =
    subst (λ (es : List Event). Spans profile es ((spans ++ span ∷ []) ++ others))
    (sym (append_assoc events (event ∷ []) rest))
    (subst (λ (l : List Span). Spans profile (events ++ event ∷ rest) l) (sym (append_assoc spans (span ∷ []) others))
    reads)

-- ---- an event more

-- it goes on
-- where a packet is read it is no STOP
goes_on : HoldNoStop → (profile : List DeviceParts) (standing : Standing) (event : Event) (after : Reader)
    → ReaderTakes profile standing event answers.Continues after → MayGoOn standing event
goes_on hold profile (Open n events) event after takes =
    λ is. (hold profile (events ++ event ∷ []) takes.0.viable).0 takes.0 events []
    (ap (λ (e : Event). events ++ e ∷ []) is)
goes_on hold profile (Held n refusal) event after takes = absurd takes
goes_on hold profile (Passing n) event after takes = tt

reads_more : OthersPass → (reached : Reached) (standing : Standing) (event : Event) (after : Reader)
    → reached.standing ≡ standing → LeadsOn reached
    → ReaderTakes reached.profile standing event answers.Continues after
    → ReaderStandsAt reached.profile after (standing_after standing event) × IsReading (standing_after standing event)
    × ((rest : List Event) (others : List Span)
    → SpansBehind reached.profile (standing_after standing event) rest others
    → SpansBehind reached.profile standing (event ∷ rest) others)
reads_more others_pass reached (Open n events) event after same on takes = (
  takes.1,
  tt,
  λ rest others reads. subst (λ (es : List Event). SpansFrom reached.profile n es others)
      (append_assoc events (event ∷ []) rest) reads,
)
reads_more others_pass reached (Held n refusal) event after same on takes = absurd takes
reads_more others_pass reached (Passing n) event after same on takes =
    (takes, passed_reading n event, passed_leads others_pass reached.profile n event)

reports_more : HoldNoStop → OthersPass → (reached : Reached) (event : Event) (after : Reader) → LeadsOn reached
    → ReaderTakes reached.profile reached.standing event answers.Continues after
    → GoesOn reached event after
reports_more hold others_pass reached event after on takes =
    let step = reads_more others_pass reached reached.standing event after refl on takes in record {
      may = goes_on hold reached.profile reached.standing event after takes;
      reads = record {
        stands = step.0;
        reads = record {
          reading = step.1;
          leads = λ rest others reads. subst (λ (es : List Event). Spans reached.profile es (reached.spans ++ others))
              (sym (append_assoc reached.events (event ∷ []) rest))
              (on.leads (event ∷ rest) others (step.2 rest others reads));
          whole = on.whole;
        };
      };
    }

-- it ends a packet
reports_packet : (reached : Reached) (standing : Standing) (event : Event) (after : Reader)
    → reached.standing ≡ standing → LeadsOn reached
    → ReaderTakes reached.profile standing event answers.Packet after → EndsPacket reached event (last_read after) after
-- in a packet: the event ends it, and its span is one more
reports_packet reached (Open n events) event after same on takes =
    let packet = events ++ event ∷ [] in record {
      n = n;
      front = events;
      standing = same;
      packet = takes.0;
      reads = record {
        stands = takes.1;
        reads = record {
          reading = tt;
          -- what follows reads on after it
          leads = λ rest others reads. spans_then reached.profile reached.events rest event reached.spans others
              (ReadSpan n packet (last_read after))
              (on.leads (event ∷ rest) (ReadSpan n packet (last_read after) ∷ others)
              (subst (λ (s : Standing). SpansBehind reached.profile s (event ∷ rest)
              (ReadSpan n packet (last_read after) ∷ others)) (sym same) (
                refl,
                rest,
                sym (append_assoc events (event ∷ []) rest),
                takes.0,
                subst (λ k. SpansFrom reached.profile k rest others) (omega (arith, length_push events event)) reads,
              )));
          whole = whole_more reached.spans (ReadSpan n packet (last_read after)) on.whole refl;
        };
      };
    }
-- elsewhere no event ends a packet
reports_packet reached (Held n refusal) event after same on takes = absurd takes
reports_packet reached (Passing n) event after same on takes = absurd takes

-- It is refused, and then passed over.
pub reports_refusal : OthersPass → (reached : Reached) (standing : Standing) (event : Event) (refusal : Refusal)
    (held after : Reader) → reached.standing ≡ standing → LeadsOn reached
    → ReaderTakes reached.profile standing event (answers.Refused refusal) held
    → ((n : ℕ) (kept : RefusalData) → ReaderStandsAt reached.profile held (Held n kept)
    → ReaderStandsAt reached.profile after (behind_passed n event))
    → IsRefused reached event (refusal_data refusal) after
-- in a packet: its span is one more, and the reader passes over the event
reports_refusal others_pass reached (Open n events) event refusal held after same on takes passes =
    let m = n + length events in
    let span = RefusedSpan n events event (refusal_data refusal) in record {
      n = n;
      front = events;
      standing = same;
      refused = takes.0;
      reads = record {
        stands = passes m (refusal_data refusal) takes.1;
        reads = record {
          reading = passed_reading m event;
          -- what is passed over begins with this event, then what follows reads on
          leads = λ rest others reads.
              let over = passed_leads others_pass reached.profile m event rest others reads in
              spans_then reached.profile reached.events rest event reached.spans others span
              (on.leads (event ∷ rest) (span ∷ others)
              (subst (λ (s : Standing). SpansBehind reached.profile s (event ∷ rest) (span ∷ others)) (sym same)
              (refl, rest, refl, takes.0, over.0, over.1, over.2, over.3)));
          whole = whole_more reached.spans span on.whole refl;
        };
      };
    }
-- no refusal is held, and none comes while events are passed over
reports_refusal others_pass reached (Held n kept) event refusal held after same on takes passes =
    absurd (subst IsReading same on.reading)
reports_refusal others_pass reached (Passing n) event refusal held after same on takes passes = absurd takes

-- It is used, whichever it does.
pub reports_used : HoldNoStop → OthersPass → (reached : Reached) (event : Event) (took : Took) (after : Reader) →
    LeadsOn reached
    → ((refusal : Refusal) → took ≡ answers.Refused refusal → ⊥)
    → ReaderTakes reached.profile reached.standing event took after → ReportsAs reached event took after
reports_used hold others_pass reached event answers.Continues after on used takes =
    reports_more hold others_pass reached event after on takes
reports_used hold others_pass reached event answers.Packet after on used takes =
    reports_packet reached reached.standing event after refl on takes
reports_used hold others_pass reached event (answers.Refused refusal) after on used takes = absurd (used refusal refl)

-- ---- a whole packet at once

-- it is read from where it began, with what follows
pub reads_whole : (reached : Reached) (n : ℕ) (bytes : List ℕ) (events : List Event) (t : TransactionData)
    (after : Reader) → reached.standing ≡ Open n [] → LeadsOn reached
    → Packet reached.profile t events → ReaderStandsAt reached.profile after (Open (n + length events) [])
    → ReaderReached after (behind_whole reached n bytes events t)
reads_whole reached n bytes events t after same on packet stands =
    let span = ReadSpan n events t in record {
      stands = stands;
      reads = record {
        reading = tt;
        leads = λ rest others reads.
            subst (λ (es : List Event). Spans reached.profile es ((reached.spans ++ span ∷ []) ++ others))
            (sym (append_assoc reached.events events rest))
            (subst (λ (l : List Span). Spans reached.profile (reached.events ++ (events ++ rest)) l)
            (sym (append_assoc reached.spans (span ∷ []) others))
            (on.leads (events ++ rest) (span ∷ others)
            (subst (λ (s : Standing). SpansBehind reached.profile s (events ++ rest) (span ∷ others)) (sym same)
            (refl, rest, refl, packet, reads))));
        whole = whole_more reached.spans span on.whole refl;
      };
    }

-- ---- the end

-- nothing follows
pub ends_so : (reached : Reached) (last : List Span) → LeadsOn reached
    → SpansBehind reached.profile reached.standing [] last → filter is_whole last ≡ [] → EndsWith reached last
ends_so reached last on reads inside = record {
  spans = subst (λ (es : List Event). Spans reached.profile es (reached.spans ++ last)) (append-nil reached.events)
      (on.leads [] last reads);
  whole = on.whole;
  inside = inside;
}

pub ends : (reached : Reached) (standing : Standing) (result : Result Unit Refusal) → reached.standing ≡ standing
    → LeadsOn reached
    → ReaderFinishes reached.profile standing result → EndsWith reached (end_spans standing (result_err result))
ends reached (Open n events) (Ok done) same on finishes =
    ends_so reached [] on (subst (λ (s : Standing). SpansBehind reached.profile s [] []) (sym same)
    (append-nil events ∙ finishes)) refl
ends reached (Open n events) (Err refusal) same on finishes =
    let span = TruncatedSpan n events (refusal_data refusal) in
    ends_so reached (span ∷ []) on (subst (λ (s : Standing). SpansBehind reached.profile s [] (span ∷ [])) (sym same)
    (refl, append-nil events, finishes, refl)) refl
ends reached (Held n kept) result same on finishes = absurd (subst IsReading same on.reading)
ends reached (Passing n) (Ok done) same on finishes =
    ends_so reached [] on (subst (λ (s : Standing). SpansBehind reached.profile s [] []) (sym same)
    (after_none reached.profile n)) refl
ends reached (Passing n) (Err refusal) same on finishes = absurd finishes

-- none is refused only between packets, and while events are passed over
pub none_inside : (standing : Standing) (profile : List DeviceParts) (result : Result Unit Refusal) (n : ℕ)
    (front : List Event) → standing ≡ Open n front → result_err result ≡ None
    → ReaderFinishes profile standing result → front ≡ []
none_inside (Open m events) profile (Ok done) n front same none finishes = cc (same, finishes)
none_inside (Open m events) profile (Err refusal) n front same none finishes = absurd (cc none)
none_inside (Held m kept) profile result n front same none finishes = absurd (cc same)
none_inside (Passing m) profile result n front same none finishes = absurd (cc same)

-- ---- bytes more

-- they are no matter of the reader's
pub reads_on : (reader : Reader) (reached : Reached) (bytes : List ℕ) → ReaderReached reader reached
    → ReaderReached reader (behind_bytes reached bytes)
reads_on reader reached bytes read = record {
  stands = read.stands;
  reads = record { reading = read.reads.reading; leads = read.reads.leads; whole = read.reads.whole };
}
