-- What is written for bytes is one text and one tally, and a capture without refusals is written as
-- its packets with their notes. For the laws `one_showing`, `one_check` and `captures_are_shown`.
-- Bytes spell one list of events or have one first bad word, and events have one reading.
use Rattle.std.proofs.Common.{◌≡◌, ℕ, ◌+◌, List, [], ◌∷◌, ◌++◌, length, map, append-nil, inl, inr, refl, sym, ◌∙◌, ap}
use Rattle.std.proofs.Common.{subst, arith}
use Rattle.pmb_bus.specs.declared.event.Event.{Event}
use Rattle.pmb_bus.specs.Text.{Spells, FirstBadWord}
use Rattle.pmb_command.specs.Parts.{DeviceParts}
use Rattle.pmb_io.specs.declared.tally.Tally.{Tally}
use Rattle.pmb_io.specs.Count.{capped}
use Rattle.pmb_io.specs.Tally.{IsTallyOf}
use Rattle.pmb_transaction.specs.Reading.{Outcome, Accepted, Reading}
use Rattle.pmb_transaction.specs.Transaction.{TransactionData}
use Rattle.pmb_capture.specs.Lines.{bad_token_line}
use Rattle.pmb_capture.specs.Output.{OutputText, but_truncation, packets_in, refusals_in, text_behind, outcomes_text}
use Rattle.pmb_capture.specs.Show.{Shows, noted_behind, noted_line, noted_lines, shown_output}
use Rattle.pmb_capture.specs.Written.{Writes}
use Rattle.pmb_capture.proofs.Texts.{packets_append, refusals_append}

-- tallies of the same counts are one
tally_same : (s t : Tally) (packets refusals : ℕ) → IsTallyOf packets refusals s → IsTallyOf packets refusals t → s ≡ t
tally_same s t packets refusals first second =
    ap (λ (n : ℕ). record s { packets = n }) (first.packets_counted ∙ sym second.packets_counted)
    ∙ ap (λ (n : ℕ). record t { refusals = n }) (first.refusals_counted ∙ sym second.refusals_counted)

-- the same after texts that are one
same_text : (output : OutputText) (a b text other : List ℕ) (s t : Tally) → a ≡ text ++ output.at_end s
    → b ≡ other ++ output.at_end t → text ≡ other → s ≡ t → a ≡ b
same_text output a b text other s t first second same tally =
    first ∙ (ap (λ l. l ++ output.at_end s) same ∙ (ap (λ (u : Tally). other ++ output.at_end u) tally ∙ sym second))

-- a bad word's line before the end's
same_behind : (output : OutputText) (a b text other line line_b : List ℕ) (s t : Tally)
    → a ≡ text ++ (line ++ output.at_end s) → b ≡ other ++ (line_b ++ output.at_end t)
    → text ≡ other → line ≡ line_b → s ≡ t → a ≡ b
same_behind output a b text other line line_b s t first second same lines tally =
    first ∙ (ap (λ l. l ++ (line ++ output.at_end s)) same
    ∙ (ap (λ l. other ++ (l ++ output.at_end s)) lines
    ∙ (ap (λ (u : Tally). other ++ (line_b ++ output.at_end u)) tally ∙ sym second)))

module _ (output : OutputText) (profile : List DeviceParts) where
  pub one_text : ((events : List Event) (m n : List Outcome) → Reading profile events m → Reading profile events n
      → m ≡ n)
      → ((text : List ℕ) (a b : List Event) → Spells text a → Spells text b → a ≡ b)
      → ((text : List ℕ) (a b : List Event) (i j : ℕ) → FirstBadWord text a i → FirstBadWord text b j
      → (a ≡ b) × (i ≡ j))
      → ((text : List ℕ) (a b : List Event) (i : ℕ) → Spells text a → FirstBadWord text b i → ⊥)
      → (bytes a b : List ℕ) (s t : Tally) → Writes output profile bytes a s → Writes output profile bytes b t
      → (a ≡ b) × (s ≡ t)
  -- both spell events: the same ones, with the same outcomes
  one_text reading spelling bad_word no_bad bytes a b s t (inl x) (inl y) =
      let events = spelling bytes x.events y.events x.spells y.spells in
      let same = reading y.events x.outcomes y.outcomes
      (subst (λ (es : List Event). Reading profile es x.outcomes) events x.reads) y.reads in
      let tally = tally_same s t (packets_in x.outcomes) (refusals_in x.outcomes) x.counts
      (subst (λ l. IsTallyOf (packets_in l) (refusals_in l) t) (sym same) y.counts) in
      (same_text output a b _ _ s t x.lines y.lines (ap (outcomes_text output) same) tally, tally)
  -- a text that spells events has no bad word
  one_text reading spelling bad_word no_bad bytes a b s t (inl x) (inr y) =
      absurd (no_bad bytes x.events y.events y.place x.spells y.bad)
  one_text reading spelling bad_word no_bad bytes a b s t (inr x) (inl y) =
      absurd (no_bad bytes y.events x.events x.place y.spells x.bad)
  -- both have a bad word: the same one, after the same events
  one_text reading spelling bad_word no_bad bytes a b s t (inr x) (inr y) =
      let bad = bad_word bytes x.events y.events x.place y.place x.bad y.bad in
      let same = reading y.events x.outcomes y.outcomes
      (subst (λ (es : List Event). Reading profile es x.outcomes) bad.0 x.reads) y.reads in
      let tally = tally_same s t (packets_in (but_truncation x.outcomes)) (refusals_in (but_truncation x.outcomes) + 1)
      x.counts
      (subst (λ l. IsTallyOf (packets_in (but_truncation l)) (refusals_in (but_truncation l) + 1) t)
      (sym same) y.counts) in (
        same_behind output a b _ _ _ _ s t x.lines y.lines (ap (λ l. outcomes_text output (but_truncation l)) same)
            (ap (λ i. bad_token_line (capped i)) bad.1) tally,
        tally,
      )

-- ---- captures without refusals

lines_of_packets : (profile : List DeviceParts) (before ts : List TransactionData)
    → text_behind (shown_output profile) before (map Accepted ts) ≡ noted_behind profile before ts
lines_of_packets profile before [] = refl
lines_of_packets profile before (t ∷ ts) = ap (λ text. noted_line profile before t ++ text)
    (lines_of_packets profile (before ++ t ∷ []) ts)

packets_are_all : (ts : List TransactionData) → packets_in (map Accepted ts) ≡ length ts
packets_are_all [] = refl
packets_are_all (t ∷ ts) =
    let one : packets_in (map Accepted (t ∷ ts)) ≡ 1 + packets_in (map Accepted ts) =
    packets_append (Accepted t ∷ []) (map Accepted ts) in
    omega (arith, one, packets_are_all ts)

refusals_are_none : (ts : List TransactionData) → refusals_in (map Accepted ts) ≡ 0
refusals_are_none [] = refl
refusals_are_none (t ∷ ts) =
    let none : refusals_in (map Accepted (t ∷ ts)) ≡ 0 + refusals_in (map Accepted ts) =
    refusals_append (Accepted t ∷ []) (map Accepted ts) in
    omega (arith, none, refusals_are_none ts)

pub shown_as_written : (profile : List DeviceParts) (ts : List TransactionData) (events : List Event) (bytes : List ℕ)
    → Spells bytes events → Reading profile events (map Accepted ts)
    → Shows profile bytes (noted_lines profile ts) (record { packets = capped (length ts); refusals = 0 })
shown_as_written profile ts events bytes spells reads = inl (record {
  events = events;
  outcomes = map Accepted ts;
  spells = spells;
  reads = reads;
  lines = sym (append-nil (outcomes_text (shown_output profile) (map Accepted ts)) ∙ lines_of_packets profile [] ts);
  counts = record {
    packets_counted = ap capped (sym (packets_are_all ts));
    refusals_counted =
        ap capped (sym (refusals_are_none ts));
  };
})
