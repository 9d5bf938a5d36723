-- What is lost at refusals, in a piece of a capture and in the whole: as much in both, and none of it is a transaction.
-- For the laws on pieces and on JSON, which go over spans without a look at what is lost.
use Rattle.std.proofs.Common.{◌≡◌, ℕ, suc, zero, ◌+◌, ◌-◌, ◌<◌, Bool, List, [], ◌∷◌, ◌++◌, drop, length}
use Rattle.std.proofs.Common.{refl, ap, ◌∙◌, arith, sym, subst, length-append}
use Rattle.pmb_bus.specs.declared.event.Event.{Event}
use Rattle.pmb_bus.specs.declared.event.Event.TheVariants.{Start, Byte, Ack, Nack, Stop}
use Rattle.pmb_command.specs.Parts.{DeviceParts}
use Rattle.pmb_spans.specs.Spans.{Span, ReadSpan, RefusedSpan, TruncatedSpan, SpansFrom, moved_spans}
use Rattle.pmb_transaction.specs.Cut.{EndsWithStop}
use Rattle.pmb_transaction.specs.Reading.{PassedOver, to_first_stop, to_the_end}
use Rattle.pmb_unknown_start.specs.Past.{PastData, Said}
use Rattle.pmb_fact_stream.specs.Lost.{dropped_if, lost_between, lost_in, to_stop}
use Rattle.pmb_fact_stream.specs.Spans.{past_in}

-- what is lost at a refusal is one line that was dropped, or nothing
abbrev pub LosesOne : (ℕ → List Event → List PastData) → Type 0
LosesOne lost = (at : ℕ) (front : List Event) → (loses : Bool) × (lost at front ≡ dropped_if loses)

pub loses_one : (profile : List DeviceParts) (n : ℕ) (events : List Event) → LosesOne (lost_in profile n events)
loses_one profile n events at front = (_, refl)

-- where n more events came before, as much is lost
abbrev pub LoseTheSame : ℕ → (ℕ → List Event → List PastData) → (ℕ → List Event → List PastData) → Type 0
LoseTheSame n lost theirs = (at : ℕ) (front : List Event) → theirs (n + at) front ≡ lost at front

pub same_lost : (profile : List DeviceParts) (n m k : ℕ) (events : List Event) → k ≡ n + m
    → LoseTheSame n (lost_in profile m events) (lost_in profile k events)
same_lost profile n m k events is at front =
    let same : ((n + at) - k) + length front ≡ (at - m) + length front = omega (arith, is) in
    ap (λ (i : ℕ). lost_between profile front (to_stop (drop i events))) same

-- .. and where these n events came before
pub lost_behind : (profile : List DeviceParts) (own events : List Event)
    → LoseTheSame (length own) (lost_in profile 0 events) (lost_in profile 0 (own ++ events))
lost_behind profile own events at front =
    let same : ((length own + at) - 0) + length front ≡ length own + ((at - 0) + length front) = omega arith in
    ap (λ (i : ℕ). lost_between profile front (to_stop (drop i (own ++ events)))) same
    ∙ ap (λ (l : List Event). lost_between profile front (to_stop l)) (drop_behind own ((at - 0) + length front))
  where
    drop_behind : (own : List Event) (i : ℕ) → drop (length own + i) (own ++ events) ≡ drop i events
    drop_behind [] i =
        let none : length {A = Event} [] + i ≡ i = omega arith in
        ap (λ (j : ℕ). drop j events) none
    drop_behind (event ∷ own) i =
        let one : length (event ∷ own) + i ≡ suc (length own + i) = omega arith in
        ap (λ (j : ℕ). drop j (event ∷ (own ++ events))) one ∙ drop_behind own i

pub past_beside : (n : ℕ) (lost gone : ℕ → List Event → List PastData) → LoseTheSame n lost gone → (spans : List Span)
    → past_in gone (moved_spans n spans) ≡ past_in lost spans
past_beside n lost gone same [] = refl
past_beside n lost gone same (ReadSpan m events t ∷ spans) =
    ap (λ (past : List PastData). Said t ∷ past) (past_beside n lost gone same spans)
past_beside n lost gone same (RefusedSpan m front event refusal ∷ spans) =
    ap (λ (past : List PastData). past ++ past_in gone (moved_spans n spans)) (same m front)
    ∙ ap (λ (past : List PastData). lost m front ++ past) (past_beside n lost gone same spans)
past_beside n lost gone same (TruncatedSpan m front refusal ∷ spans) = past_beside n lost gone same spans

-- ---- a first piece, which ends with STOP

-- what is passed over in it ends in it
stop_within : (xs rest more : List Event) → to_stop ((xs ++ Stop ∷ rest) ++ more) ≡ to_stop (xs ++ Stop ∷ rest)
stop_within [] rest more = refl
stop_within (Start ∷ xs) rest more = ap (λ (l : List Event). Start ∷ l) (stop_within xs rest more)
stop_within (Byte b ∷ xs) rest more = ap (λ (l : List Event). Byte b ∷ l) (stop_within xs rest more)
stop_within (Ack ∷ xs) rest more = ap (λ (l : List Event). Ack ∷ l) (stop_within xs rest more)
stop_within (Nack ∷ xs) rest more = ap (λ (l : List Event). Nack ∷ l) (stop_within xs rest more)
stop_within (Stop ∷ xs) rest more = refl

from_within : (xs more : List Event) (i : ℕ) → i < length (xs ++ Stop ∷ [])
    → to_stop (drop i ((xs ++ Stop ∷ []) ++ more)) ≡ to_stop (drop i (xs ++ Stop ∷ []))
from_within xs more zero within = stop_within xs [] more
from_within [] more (suc i) within = absurd (omega (arith, within))
from_within (x ∷ xs) more (suc i) within = from_within xs more i (omega (arith, within))

-- what is passed over, and what is left
passed_over : (events passed left : List Event) → PassedOver events passed left
    → length events ≡ length passed + length left
passed_over events passed left (to_first_stop is ends) =
    ap (λ (l : List Event). length l) is ∙ length-append passed left
passed_over events passed left (to_the_end is none none_left) =
    omega (arith, ap (λ (l : List Event). length l) is, ap (λ (l : List Event). length l) none_left)

module _ (profile : List DeviceParts) where
  -- spans of events from a place in a first piece: what is lost with them is so whatever follows
  past_from : (xs more : List Event) (n : ℕ) (events : List Event) (spans : List Span)
      → n + length events ≡ length (xs ++ Stop ∷ []) → SpansFrom profile n events spans
      → past_in (lost_in profile 0 ((xs ++ Stop ∷ []) ++ more)) spans
      ≡ past_in (lost_in profile 0 (xs ++ Stop ∷ [])) spans
  past_from xs more n events [] long reads = refl
  past_from xs more n events (ReadSpan m front t ∷ spans) long reads =
      let all : length events ≡ length front + length reads.1 =
      ap (λ (l : List Event). length l) reads.2 ∙ length-append front reads.1 in
      ap (λ (past : List PastData). Said t ∷ past)
      (past_from xs more (n + length front) reads.1 spans (omega (arith, long, all)) reads.4)
  past_from xs more n events (RefusedSpan m front event refusal ∷ spans) long reads =
      let all : length events ≡ length front + suc (length reads.1) =
      ap (λ (l : List Event). length l) reads.2 ∙ length-append front (event ∷ reads.1) in
      let passed = passed_over (event ∷ reads.1) reads.4 reads.5 reads.6 in
      let at : m ≡ n = reads.0 in
      ap (λ (l : List Event). lost_between profile front l
      ++ past_in (lost_in profile 0 ((xs ++ Stop ∷ []) ++ more)) spans)
      (from_within xs more ((m - 0) + length front) (omega (arith, long, all, at)))
      ∙ ap (λ (past : List PastData). lost_in profile 0 (xs ++ Stop ∷ []) m front ++ past)
      (past_from xs more (n + length front + length reads.4) reads.5 spans (omega (arith, long, all, passed))
      reads.7)
  past_from xs more n events (TruncatedSpan m front refusal ∷ spans) long reads =
      subst (λ (l : List Span). past_in (lost_in profile 0 ((xs ++ Stop ∷ []) ++ more)) l
      ≡ past_in (lost_in profile 0 (xs ++ Stop ∷ [])) l) (sym reads.3) refl

  -- those of a whole first piece
  pub past_stays : (own more : List Event) (spans : List Span) → EndsWithStop own → SpansFrom profile 0 own spans
      → past_in (lost_in profile 0 (own ++ more)) spans ≡ past_in (lost_in profile 0 own) spans
  past_stays own more spans stop reads =
      let long : 0 + length own ≡ length (stop.front ++ Stop ∷ []) =
      omega (arith, ap (λ (l : List Event). length l) stop.split) in
      ap (λ (l : List Event). past_in (lost_in profile 0 (l ++ more)) spans) stop.split
      ∙ past_from stop.front more 0 own spans long reads
      ∙ sym (ap (λ (l : List Event). past_in (lost_in profile 0 l) spans) stop.split)
