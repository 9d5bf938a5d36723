-- The spans of a capture that is cut after a STOP are those of its pieces, the second's moved. For
-- the laws `spans_move` and `spans_may_be_cut`. Events that end with STOP leave no packet under
-- way, so none of their spans is an end inside a packet; the spans are joined one by one, and
-- events have one list of spans (OneSplit).
use Rattle.std.proofs.Common.{◌≡◌, ℕ, ◌+◌, ◌⊎◌, ◌↔◌, inl, inr, true, List, [], ◌∷◌, ◌++◌, length, refl, sym, ap, ◌∙◌}
use Rattle.std.proofs.Common.{subst, append_assoc, arith}
use Rattle.std.specs.List.{All}
use Rattle.std.proofs.lemmas.List.{length-append}
use Rattle.std.proofs.lemmas.List.Elements.{All-cons, All-nil}
use Rattle.pmb_bus.specs.declared.event.Event.{Event}
use Rattle.pmb_bus.specs.declared.event.Event.TheVariants.{Stop}
use Rattle.pmb_command.specs.Parts.{DeviceParts}
use Rattle.pmb_transaction.specs.Capture.{HasNoStop, Viable}
use Rattle.pmb_transaction.specs.Cut.{EndsWithStop}
use Rattle.pmb_transaction.specs.Reading.{IsUnderWay, PassedOver, RefusalData, RefusedAt, TruncatedAt}
use Rattle.pmb_transaction.proofs.Fronts.{Beyond, Within, cut}
use Rattle.pmb_spans.specs.Spans.{ReadSpan, RefusedSpan, Span, SpansFrom, TruncatedSpan, is_whole, moved_refusal}
use Rattle.pmb_spans.specs.Spans.{moved_spans}

-- a span that is whole
abbrev IsWhole : Span → Type 0
IsWhole span = is_whole span ≡ true

-- ---- ends

none_behind : (front rest : List Event) → front ++ rest ≡ [] → rest ≡ []
none_behind [] rest none = none
none_behind (event ∷ front) rest none = absurd (cc none)

-- What is left of the events, wherever they are cut, has a STOP or is nothing.
abbrev EndsOn : List Event → Type 0
EndsOn events = (front rest : List Event) → events ≡ front ++ rest → HasNoStop rest → rest ≡ []

stop_within : (between rest : List Event) → HasNoStop rest → Stop ∷ [] ≡ between ++ rest → rest ≡ []
stop_within [] rest none same = absurd (none [] [] (sym same))
stop_within (event ∷ between) rest none same = none_behind between rest (sym (cc same))

stop_behind : (before front rest : List Event) → HasNoStop rest
    → Within before (Stop ∷ []) front rest ⊎ Beyond before (Stop ∷ []) front rest → rest ≡ []
stop_behind before front rest none (inl w) = stop_within w.rest rest none w.second
stop_behind before front rest none (inr w) = absurd (none (w.event ∷ w.rest) [] w.second)

-- so it is of what ends with STOP
ends_on : (events : List Event) → EndsWithStop events → EndsOn events
ends_on events ends front rest split none =
    stop_behind ends.front front rest none (cut ends.front (Stop ∷ []) front rest (sym ends.split ∙ split))

-- and of what is left of it
rest_ends_on : (front rest events : List Event) → EndsOn events → events ≡ front ++ rest → EndsOn rest
rest_ends_on front rest events ends split before last other none =
    ends (front ++ before) last (split ∙ ap (λ (es : List Event). front ++ es) other
    ∙ sym (append_assoc front before last)) none

-- ---- further on

module _ (profile : List DeviceParts) where
  module _ (refused_moves : (n m : ℕ) (front : List Event) (event : Event) (refusal : RefusalData)
      → RefusedAt profile m front event refusal → RefusedAt profile (n + m) front event (moved_refusal n refusal))
      (truncated_moves : (n m : ℕ) (events : List Event) (refusal : RefusalData) → TruncatedAt profile m events refusal
      → TruncatedAt profile (n + m) events (moved_refusal n refusal)) where
    -- after n more events the spans are the same, moved
    pub spans_move : (n : ℕ) (spans : List Span) (m : ℕ) (events : List Event) → SpansFrom profile m events spans
        → SpansFrom profile (n + m) events (moved_spans n spans)
    spans_move n [] m events w = w
    -- a packet: its events are the same, further on
    spans_move n (ReadSpan i front t ∷ more) m events w =
        let counted : n + (m + length front) ≡ (n + m) + length front = omega arith in
        let later = spans_move n more (m + length front) w.1 w.4 in (
          ap (λ (k : ℕ). n + k) w.0,
          w.1,
          w.2,
          w.3,
          subst (λ (k : ℕ). SpansFrom profile k w.1 (moved_spans n more)) counted later,
        )
    -- a refusal: likewise, with what is passed over
    spans_move n (RefusedSpan i front event refusal ∷ more) m events w =
        let counted : n + (m + length front + length w.4) ≡ (n + m) + length front + length w.4 = omega arith in
        let later = spans_move n more (m + length front + length w.4) w.5 w.7 in (
          ap (λ (k : ℕ). n + k) w.0,
          w.1,
          w.2,
          refused_moves n m front event refusal w.3,
          w.4,
          w.5,
          w.6,
          subst (λ (k : ℕ). SpansFrom profile k w.5 (moved_spans n more)) counted later,
        )
    -- an end inside a packet
    spans_move n (TruncatedSpan i front refusal ∷ more) m events w =
        (ap (λ (k : ℕ). n + k) w.0, w.1, truncated_moves n m front refusal w.2, ap (moved_spans n) w.3)

  -- ---- no truncation

  -- a packet under way has no STOP, and events are what is passed over and what is left
  module _ (under_way : (events : List Event) → Viable profile events → IsUnderWay profile events ↔ HasNoStop events)
      (parts : (events passed left : List Event) → PassedOver events passed left → events ≡ passed ++ left) where
    not_truncated : (n : ℕ) (events front : List Event) (refusal : RefusalData) → EndsOn events → events ≡ front
        → TruncatedAt profile n front refusal → ⊥
    not_truncated n events front refusal ends same truncated =
        let going = truncated.under_way in
        truncated.some (ends [] front same ((under_way front going.viable).0 going))

    whole_from : (spans : List Span) (n : ℕ) (events : List Event) → EndsOn events → SpansFrom profile n events spans
        → All IsWhole spans
    whole_from [] n events ends w = All-nil IsWhole
    whole_from (ReadSpan m front t ∷ more) n events ends w =
        All-cons IsWhole (ReadSpan m front t) more refl
        (whole_from more (n + length front) w.1 (rest_ends_on front w.1 events ends w.2) w.4)
    whole_from (RefusedSpan m front event refusal ∷ more) n events ends w =
        All-cons IsWhole (RefusedSpan m front event refusal) more refl
        (
        whole_from more (n + length front + length w.4) w.5
        (rest_ends_on w.4 w.5 (event ∷ w.1) (rest_ends_on front (event ∷ w.1) events ends w.2)
        (parts (event ∷ w.1) w.4 w.5 w.6)) w.7
        )
    whole_from (TruncatedSpan m front refusal ∷ more) n events ends w =
        absurd (not_truncated n events front refusal ends w.1 w.2)

    pub whole : (first : List Event) (spans : List Span) → EndsWithStop first → SpansFrom profile 0 first spans
        → All IsWhole spans
    whole first spans ends w = whole_from spans 0 first (ends_on first ends) w

    -- ---- both

    -- where some STOP is among events, more of them are left where more follow
    module _ (more_left : (events more passed left : List Event) → (HasNoStop events → ⊥)
        → PassedOver events passed left → PassedOver (events ++ more) passed (left ++ more)) where
      -- In w are the parts of SpansFrom in order: the place, what is left, the split, the packet or
      -- the refusal, then for a refusal what is passed over and left
      joined_from : (spans others : List Span) (n : ℕ) (first second : List Event) → EndsOn first
          → SpansFrom profile n first spans
          → SpansFrom profile (n + length first) second others → SpansFrom profile n (first ++ second) (spans ++ others)
      -- no span: the first piece is empty
      joined_from [] others n first second ends none behind =
          let nothing : n + length {A = Event} [] ≡ n = omega arith in
          let counted : n + length first ≡ n = ap (λ (es : List Event). n + length es) none ∙ nothing in
          subst (λ (es : List Event). SpansFrom profile n (es ++ second) others) (sym none)
          (subst (λ (k : ℕ). SpansFrom profile k second others) counted behind)
      -- a packet: the rest of the first piece is joined
      joined_from (ReadSpan m front t ∷ more) others n first second ends w behind =
          let split : first ≡ front ++ w.1 = w.2 in
          let lengths : length first ≡ length front + length w.1 = ap length split ∙ length-append front w.1 in
          let counted : n + length first ≡ (n + length front) + length w.1 = omega (arith, lengths) in (
            w.0,
            w.1 ++ second,
            ap (λ (es : List Event). es ++ second) split ∙ append_assoc front w.1 second,
            w.3,
            joined_from more others (n + length front) w.1 second (rest_ends_on front w.1 first ends split) w.4
                (subst (λ (k : ℕ). SpansFrom profile k second others) counted behind),
          )
      -- a refusal: what is passed over ends with a STOP of the first piece, so the second follows
      -- what is left
      joined_from (RefusedSpan m front event refusal ∷ more) others n first second ends w behind =
          let onwards = event ∷ w.1 in
          let split : first ≡ front ++ onwards = w.2 in
          let lengths : length first ≡ length front + length onwards = ap length split ∙ length-append front onwards in
          let onwards_end : EndsOn onwards = rest_ends_on front onwards first ends split in
          let over : onwards ≡ w.4 ++ w.5 = parts onwards w.4 w.5 w.6 in
          let over_lengths : length onwards ≡ length w.4 + length w.5 = ap length over ∙ length-append w.4 w.5 in
          let counted : n + length first ≡ (n + length front + length w.4) + length w.5 =
          omega (arith, lengths, over_lengths) in (
            w.0,
            w.1 ++ second,
            ap (λ (es : List Event). es ++ second) split ∙ append_assoc front onwards second,
            w.3,
            w.4,
            w.5 ++ second,
            more_left onwards second w.4 w.5 (λ none. cc (onwards_end [] onwards refl none)) w.6,
            joined_from more others (n + length front + length w.4) w.5 second
                (rest_ends_on w.4 w.5 onwards onwards_end over) w.7
                (subst (λ (k : ℕ). SpansFrom profile k second others) counted behind),
          )
      -- no packet is under way at the end of the first piece
      joined_from (TruncatedSpan m front refusal ∷ more) others n first second ends w behind =
          absurd (not_truncated n first front refusal ends w.1 w.2)

      -- the law `spans_move`
      module _ (moves : (n m : ℕ) (events : List Event) (spans : List Span) → SpansFrom profile m events spans
          → SpansFrom profile (n + m) events (moved_spans n spans)) where
        pub joined : (first second : List Event) (spans others : List Span) → EndsWithStop first
            → SpansFrom profile 0 first spans
            → SpansFrom profile 0 second others → SpansFrom profile 0 (first ++ second)
            (spans ++ moved_spans (length first) others)
        joined first second spans others ends w behind =
            let n = length first in
            let counted : n + 0 ≡ 0 + n = omega arith in
            joined_from spans (moved_spans n others) 0 first second (ends_on first ends) w
            (subst (λ (k : ℕ). SpansFrom profile k second (moved_spans n others)) counted
            (moves n 0 second others behind))

        -- ---- in pieces

        module _ (some_spans : (n : ℕ) (events : List Event) → (spans : List Span) × SpansFrom profile n events spans)
            (one_list : (n : ℕ) (events : List Event) (a b : List Span) → SpansFrom profile n events a
            → SpansFrom profile n events b → a ≡ b) where
          pub in_pieces : (first second : List Event) (both : List Span) → EndsWithStop first
              → SpansFrom profile 0 (first ++ second) both
              → (spans : List Span) × (others : List Span) × SpansFrom profile 0 first spans
              × SpansFrom profile 0 second others
              × (both ≡ spans ++ moved_spans (length first) others)
          in_pieces first second both ends w =
              let a = some_spans 0 first in
              let b = some_spans 0 second in
              let all = a.0 ++ moved_spans (length first) b.0 in
              (a.0, b.0, a.1, b.1, one_list 0 (first ++ second) both all w (joined first second a.0 b.0 ends a.1 b.1))
