-- What spans read as, and which of them are ends inside a packet. For Endings, and so for
-- `Capture::end_events` and `fronts_are_written`. An event's reason is never that of an end, so
-- exactly the spans that are not whole are left out of what is written before the end.
use Rattle.std.proofs.Common.{◌≡◌, ℕ, ◌+◌, Some, None, false, List, [], ◌∷◌, ◌++◌, filter, length, map, append-nil, inl}
use Rattle.std.proofs.Common.{inr, refl, sym, ◌∙◌, ap, subst}
use Rattle.std.proofs.lemmas.List.Elements.{filter-append}
use Rattle.pmb_bus.specs.declared.event.Event.{Event}
use Rattle.pmb_bus.specs.declared.event.Event.TheVariants.{Start, Byte, Ack, Nack, Stop}
use Rattle.pmb_command.specs.Parts.{DeviceParts}
use Rattle.pmb_reader.specs.declared.refusal.Refusal.{Refusal as HeldRefusal}
use Rattle.pmb_reader.specs.Reader.{Standing, Open, Held, Passing}
use Rattle.pmb_reader.specs.Refusal.{refusal_data}
use Rattle.pmb_scan.specs.Reached.{Reached, EndsWith}
use Rattle.pmb_scan.specs.Scan.{end_spans}
use Rattle.pmb_spans.specs.Spans.{Span, ReadSpan, RefusedSpan, TruncatedSpan, SpansFrom, is_whole, outcome}
use Rattle.pmb_spans.proofs.Outcomes.{spans_read}
use Rattle.pmb_transaction.specs.declared.reason.Reason.{Reason}
use Rattle.pmb_transaction.specs.Reason.{read_first, bad_restart, bad_pec_sent, unknown_device, unknown_command}
use Rattle.pmb_transaction.specs.Reason.{bad_pec_taken, too_long, too_short, IsReason}
use Rattle.pmb_transaction.specs.Reading.{Outcome, Accepted, Refusal, Reading}
use Rattle.pmb_capture.specs.Output.{but_truncation, is_end_inside}

-- ---- no event's reason is an end inside a packet

module _ (profile : List DeviceParts) where
  reason_no_end : (events : List Event) (event : Event) (reason : Reason) → IsReason profile events event reason
      → is_end_inside reason ≡ false
  reason_no_end events Start reason is = ap is_end_inside is
  reason_no_end events (Byte b) reason (inl (some, read_first at)) = refl
  reason_no_end events (Byte b) reason (inl (some, bad_restart front others at)) = refl
  reason_no_end events (Byte b) reason (inl (some, bad_pec_sent front at)) = refl
  reason_no_end events (Byte b) reason (inr other) = ap is_end_inside other.1
  reason_no_end events Ack reason (inl (alone, unknown_device front addr at)) = refl
  reason_no_end events Ack reason (inl (alone, unknown_command front addr code at)) = refl
  reason_no_end events Ack reason (inl (alone, bad_pec_taken front addr code bytes byte at)) = refl
  reason_no_end events Ack reason (inl (alone, too_long front addr bytes byte at)) = refl
  reason_no_end events Ack reason (inr other) = ap is_end_inside other.1
  reason_no_end events Nack reason (inl (alone, too_short front addr bytes byte at)) = refl
  reason_no_end events Nack reason (inr other) = ap is_end_inside other.1
  reason_no_end events Stop reason is = ap is_end_inside is

  -- ---- ends inside a packet are the spans that are not whole

  -- the outcomes without them are those of the spans without them
  abbrev LeavesOut : List Span → Type 0
  LeavesOut spans = but_truncation (map outcome spans) ≡ map outcome (filter is_whole spans)

  left_out : (spans : List Span) (n : ℕ) (events : List Event) → SpansFrom profile n events spans → LeavesOut spans
  left_out [] n events none = refl
  left_out (ReadSpan m front t ∷ more) n events w = ap (λ (os : List Outcome). Accepted t ∷ os)
      (left_out more (n + length front) w.1 w.4)
  left_out (RefusedSpan m front event refusal ∷ more) n events w =
      rw (reason_no_end front event refusal.reason w.3.reason)
      (ap (λ (os : List Outcome). Refusal refusal ∷ os) (left_out more (n + length front + length w.4) w.5 w.7))
  left_out (TruncatedSpan m front refusal ∷ more) n events w =
      subst (λ (l : List Span). LeavesOut (TruncatedSpan m front refusal ∷ l)) (sym w.3) (rw w.2.reason refl)

-- ---- where events end

-- what they read as
pub reads_as : (reached : Reached) (last : List Span) → EndsWith reached last
    → Reading reached.profile reached.events (map outcome (reached.spans ++ last))
reads_as reached last end = spans_read reached.profile (reached.spans ++ last) 0 reached.events end.spans

-- and what of that comes before the end
pub all_but_the_end : (reached : Reached) (last : List Span) → EndsWith reached last
    → but_truncation (map outcome (reached.spans ++ last)) ≡ map outcome reached.spans
all_but_the_end reached last end =
    left_out reached.profile (reached.spans ++ last) 0 reached.events end.spans
    ∙ ap (map outcome) (filter-append is_whole reached.spans last
    ∙ (ap (λ l. l ++ filter is_whole last) end.whole
    ∙ (ap (λ l. reached.spans ++ l) end.inside ∙ append-nil reached.spans)))

-- no refusal is no outcome
pub no_end : (standing : Standing) → end_spans standing None ≡ []
no_end (Open n events) = refl
no_end (Held n refusal) = refl
no_end (Passing n) = refl

-- and a refusal is one
pub one_end : (standing : Standing) (refusal : HeldRefusal) → map outcome (end_spans standing (Some refusal))
    ≡ Refusal (refusal_data refusal) ∷ []
one_end (Open n events) refusal = refl
one_end (Held n held) refusal = refl
one_end (Passing n) refusal = refl
