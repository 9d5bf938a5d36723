-- The counts of a capture that is cut after a STOP add up to those of the whole. For the law
-- `counts_add_up`. The readings of both pieces make that of the whole (a law of `pmb_transaction`);
-- moving an outcome keeps its kind, and no outcome of the first piece is an end inside a packet.
use Rattle.std.proofs.Common.{◌≡◌, ℕ, ◌+◌, List, [], ◌∷◌, ◌++◌, length, Bool, true, false, not, inl, inr, refl, sym}
use Rattle.std.proofs.Common.{◌∙◌, ap, subst, arith}
use Rattle.std.specs.List.{All}
use Rattle.std.proofs.lemmas.List.Elements.{All-head, All-tail, filter-append}
use Rattle.std.proofs.lemmas.List.{map-append}
use Rattle.pmb_bus.specs.declared.event.Event.{Event}
use Rattle.pmb_bus.specs.Text.{EndsBetween, FirstBadWord, Spells}
use Rattle.pmb_command.specs.Parts.{DeviceParts}
use Rattle.pmb_io.specs.Count.{capped}
use Rattle.pmb_io.specs.Tally.{IsTallyOf}
use Rattle.pmb_io.specs.declared.tally.Tally.{Tally}
use Rattle.pmb_transaction.specs.declared.reason.Reason.{Reason}
use Rattle.pmb_transaction.specs.declared.reason.Reason.TheVariants.{ReadFirst, BadRestart, BadPec, UnknownDevice}
use Rattle.pmb_transaction.specs.declared.reason.Reason.TheVariants.{UnknownCommand, TooLong, TooShort, WrongEvent}
use Rattle.pmb_transaction.specs.declared.reason.Reason.TheVariants.{Truncated}
use Rattle.pmb_transaction.specs.Cut.{EndsWithStop, IsNotTruncated, moved, moved_outcome}
use Rattle.pmb_transaction.specs.Reading.{Accepted, Outcome, Reading, Refusal, RefusalData}
use Rattle.pmb_capture.specs.Cut.{EndsAtCut, sum_of}
use Rattle.pmb_capture.specs.Output.{OutputText, but_truncation, is_end_inside, is_truncation, outcomes_text}
use Rattle.pmb_capture.specs.Output.{packets_in, refusals_in}
use Rattle.pmb_capture.specs.Lines.{bad_token_line}
use Rattle.pmb_capture.specs.Written.{Writes, WritesAll, WritesUpToBadWord}
use Rattle.pmb_capture.proofs.Shown.{one_text}
use Rattle.pmb_capture.proofs.Texts.{packets_append, refusals_append}

-- ---- what moves keeps its kind

-- so a count does that adds up and is kept by one
counted_moved : (count : List Outcome → ℕ) → ((a b : List Outcome) → count (a ++ b) ≡ count a + count b)
    → ((n : ℕ) (one : Outcome) → count (moved n (one ∷ [])) ≡ count (one ∷ [])) → (n : ℕ) (outcomes : List Outcome)
    → count (moved n outcomes) ≡ count outcomes
counted_moved count append alike n [] = refl
counted_moved count append alike n (one ∷ more) =
    append (moved n (one ∷ [])) (moved n more)
    ∙ ap (λ (k : ℕ). k + count (moved n more)) (alike n one)
    ∙ ap (λ (k : ℕ). count (one ∷ []) + k) (counted_moved count append alike n more)
    ∙ sym (append (one ∷ []) more)

packet_moved : (n : ℕ) (one : Outcome) → packets_in (moved n (one ∷ [])) ≡ packets_in (one ∷ [])
packet_moved n (Accepted t) = refl
packet_moved n (Refusal refusal) = refl

refusal_moved : (n : ℕ) (one : Outcome) → refusals_in (moved n (one ∷ [])) ≡ refusals_in (one ∷ [])
refusal_moved n (Accepted t) = refl
refusal_moved n (Refusal refusal) = refl

packets_moved : (n : ℕ) (outcomes : List Outcome) → packets_in (moved n outcomes) ≡ packets_in outcomes
packets_moved n outcomes = counted_moved packets_in packets_append packet_moved n outcomes

refusals_moved : (n : ℕ) (outcomes : List Outcome) → refusals_in (moved n outcomes) ≡ refusals_in outcomes
refusals_moved n outcomes = counted_moved refusals_in refusals_append refusal_moved n outcomes

but-append : (a b : List Outcome) → but_truncation (a ++ b) ≡ but_truncation a ++ but_truncation b
but-append a b = filter-append (λ o. not (is_truncation o)) a b

-- one refusal, which is left out or not
one_left : (n : ℕ) (refusal : RefusalData) (inside : Bool) → is_end_inside refusal.reason ≡ inside
    → but_truncation (moved n (Refusal refusal ∷ [])) ≡ moved n (but_truncation (Refusal refusal ∷ []))
one_left n refusal true is = rw is refl
one_left n refusal false is = rw is refl

map_moved : (n : ℕ) (a b : List Outcome) → moved n (a ++ b) ≡ moved n a ++ moved n b
map_moved n a b = map-append (moved_outcome n) a b

but_moved : (n : ℕ) (outcomes : List Outcome) → but_truncation (moved n outcomes) ≡ moved n (but_truncation outcomes)
but_moved n [] = refl
but_moved n (Accepted t ∷ more) = ap (λ (os : List Outcome). Accepted t ∷ os) (but_moved n more)
but_moved n (Refusal refusal ∷ more) =
    but-append (moved n (Refusal refusal ∷ [])) (moved n more)
    ∙ ap (λ (os : List Outcome). os ++ but_truncation (moved n more))
    (one_left n refusal (is_end_inside refusal.reason) refl)
    ∙ ap (λ (os : List Outcome). moved n (but_truncation (Refusal refusal ∷ [])) ++ os) (but_moved n more)
    ∙ sym (map_moved n (but_truncation (Refusal refusal ∷ [])) (but_truncation more))
    ∙ ap (moved n) (sym (but-append (Refusal refusal ∷ []) more))

-- ---- nothing is left out of what is whole

another_reason : (reason : Reason) → (reason ≡ Truncated → ⊥) → is_end_inside reason ≡ false
another_reason ReadFirst other = refl
another_reason BadRestart other = refl
another_reason BadPec other = refl
another_reason UnknownDevice other = refl
another_reason UnknownCommand other = refl
another_reason TooLong other = refl
another_reason TooShort other = refl
another_reason WrongEvent other = refl
another_reason Truncated other = absurd (other refl)

one_kept : (refusal : RefusalData) → is_end_inside refusal.reason ≡ false → but_truncation (Refusal refusal ∷ [])
    ≡ Refusal refusal ∷ []
one_kept refusal is = rw is refl

all_kept : (outcomes : List Outcome) → All IsNotTruncated outcomes → but_truncation outcomes ≡ outcomes
all_kept [] whole = refl
all_kept (Accepted t ∷ more) whole = ap (λ (os : List Outcome). Accepted t ∷ os)
    (all_kept more (All-tail IsNotTruncated (Accepted t) more whole))
all_kept (Refusal refusal ∷ more) whole =
    let first = All-head IsNotTruncated (Refusal refusal) more whole in
    let other = another_reason refusal.reason (λ truncated. first refusal refl truncated) in
    but-append (Refusal refusal ∷ []) more
    ∙ ap (λ (os : List Outcome). os ++ but_truncation more) (one_kept refusal other)
    ∙ ap (λ (os : List Outcome). Refusal refusal ∷ os)
    (all_kept more (All-tail IsNotTruncated (Refusal refusal) more whole))

-- ---- tallies

capped_sum : (m n : ℕ) → capped (capped m + capped n) ≡ capped (m + n)
capped_sum m n = omega arith

summed : (s t : Tally) (m n k l : ℕ) → IsTallyOf m n s → IsTallyOf k l t → IsTallyOf (m + k) (n + l) (sum_of s t)
summed s t m n k l first second = record {
  packets_counted =
      ap (λ (x : ℕ). capped (x + t.packets)) first.packets_counted
      ∙ ap (λ (x : ℕ). capped (capped m + x)) second.packets_counted
      ∙ capped_sum m k;
  refusals_counted =
      ap (λ (x : ℕ). capped (x + t.refusals)) first.refusals_counted
      ∙ ap (λ (x : ℕ). capped (capped n + x)) second.refusals_counted
      ∙ capped_sum n l;
}

counted_as : (m n k l : ℕ) (tally : Tally) → m ≡ k → n ≡ l → IsTallyOf k l tally → IsTallyOf m n tally
counted_as m n k l tally packets refusals counts = record {
  packets_counted = counts.packets_counted ∙ ap capped (sym packets);
  refusals_counted = counts.refusals_counted ∙ ap capped (sym refusals);
}

packets_of_both : (n : ℕ) (a b : List Outcome) → packets_in (a ++ moved n b) ≡ packets_in a + packets_in b
packets_of_both n a b = packets_append a (moved n b) ∙ ap (λ (k : ℕ). packets_in a + k) (packets_moved n b)

refusals_of_both : (n : ℕ) (a b : List Outcome) → refusals_in (a ++ moved n b) ≡ refusals_in a + refusals_in b
refusals_of_both n a b = refusals_append a (moved n b) ∙ ap (λ (k : ℕ). refusals_in a + k) (refusals_moved n b)

but_of_both : (n : ℕ) (a b : List Outcome) → All IsNotTruncated a → but_truncation (a ++ moved n b) ≡ a
    ++ moved n (but_truncation b)
but_of_both n a b whole =
    but-append a (moved n b)
    ∙ ap (λ (os : List Outcome). os ++ but_truncation (moved n b)) (all_kept a whole)
    ∙ ap (λ (os : List Outcome). a ++ os) (but_moved n b)

-- ---- both

module _ (output : OutputText) (profile : List DeviceParts)
    (one_reading : (events : List Event) (m n : List Outcome) → Reading profile events m → Reading profile events n
    → m ≡ n)
    (one_spelling : (text : List ℕ) (a b : List Event) → Spells text a → Spells text b → a ≡ b)
    (one_bad_word : (text : List ℕ) (a b : List Event) (i j : ℕ) → FirstBadWord text a i → FirstBadWord text b j
    → (a ≡ b) × (i ≡ j))
    (no_bad : (text : List ℕ) (a b : List Event) (i : ℕ) → Spells text a → FirstBadWord text b i → ⊥)
    (spelled : (front back : List ℕ) (events more : List Event) → EndsBetween front → Spells front events
    → Spells back more
    → Spells (front ++ back) (events ++ more))
    (bad : (front back : List ℕ) (events more : List Event) (place : ℕ) → EndsBetween front → Spells front events
    → FirstBadWord back more place → FirstBadWord (front ++ back) (events ++ more) (length front + place))
    (joined : (first second : List Event) (outcomes others : List Outcome) → EndsWithStop first
    → Reading profile first outcomes
    → Reading profile second others → Reading profile (first ++ second) (outcomes ++ moved (length first) others))
    (whole : (first : List Event) (outcomes : List Outcome) → EndsWithStop first → Reading profile first outcomes
    → All IsNotTruncated outcomes) where
  -- something is written of both, with these counts
  abbrev WritesSum : List ℕ → Tally → Tally → Type 0
  WritesSum bytes s t = (text : List ℕ) × Writes output profile bytes text (sum_of s t)

  both_spelled : (front back : List ℕ) (a b : List ℕ) (s t : Tally) → EndsAtCut front
      → WritesAll output profile front a s
      → WritesAll output profile back b t → WritesSum (front ++ back) s t
  both_spelled front back a b s t cut x y =
      let n = length cut.events in
      let same = one_spelling front x.events cut.events x.spells cut.spells in
      let reads = subst (λ (es : List Event). Reading profile es x.outcomes) same x.reads in
      let outcomes = x.outcomes ++ moved n y.outcomes in (
        outcomes_text output outcomes ++ output.at_end (sum_of s t),
        inl
            (record {
              events = cut.events ++ y.events;
              outcomes = outcomes;
              spells = spelled front back cut.events y.events cut.between cut.spells y.spells;
              reads = joined cut.events y.events x.outcomes y.outcomes cut.stop reads y.reads;
              lines = refl;
              counts = counted_as _ _ _ _ (sum_of s t) (packets_of_both n x.outcomes y.outcomes)
                  (refusals_of_both n x.outcomes y.outcomes)
                  (summed s t _ _ _ _ x.counts y.counts);
            }),
      )

  both_to_bad_word : (front back : List ℕ) (a b : List ℕ) (s t : Tally) → EndsAtCut front
      → WritesAll output profile front a s
      → WritesUpToBadWord output profile back b t → WritesSum (front ++ back) s t
  both_to_bad_word front back a b s t cut x y =
      let n = length cut.events in
      -- the first piece spells the events of the cut, so these are read
      let same = one_spelling front x.events cut.events x.spells cut.spells in
      let reads = subst (λ (es : List Event). Reading profile es x.outcomes) same x.reads in
      let outcomes = x.outcomes ++ moved n y.outcomes in
      -- nothing of the first piece is left out, and what is counted of both adds up
      let left = but_of_both n x.outcomes y.outcomes (whole cut.events x.outcomes cut.stop reads) in
      let packets = ap packets_in left ∙ packets_of_both n x.outcomes (but_truncation y.outcomes) in
      let refusals : refusals_in (but_truncation outcomes) + 1
      ≡ refusals_in x.outcomes + (refusals_in (but_truncation y.outcomes) + 1) =
      omega (arith, ap refusals_in left ∙ refusals_of_both n x.outcomes (but_truncation y.outcomes)) in
      -- the bad word stands in the second piece, further on by the first
      let place = length front + y.place in (
        outcomes_text output (but_truncation outcomes) ++ (bad_token_line (capped place) ++ output.at_end (sum_of s t)),
        inr
            (record {
              events = cut.events ++ y.events;
              outcomes = outcomes;
              place = place;
              bad = bad front back cut.events y.events y.place cut.between cut.spells y.bad;
              reads = joined cut.events y.events x.outcomes y.outcomes cut.stop reads y.reads;
              lines = refl;
              counts = counted_as _ _ _ _ (sum_of s t) packets refusals (summed s t _ _ _ _ x.counts y.counts);
            }),
      )

  both_written : (front back : List ℕ) (a b : List ℕ) (s t : Tally) → EndsAtCut front → Writes output profile front a s
      → Writes output profile back b t → WritesSum (front ++ back) s t
  both_written front back a b s t cut (inl x) (inl y) = both_spelled front back a b s t cut x y
  both_written front back a b s t cut (inl x) (inr y) = both_to_bad_word front back a b s t cut x y
  both_written front back a b s t cut (inr x) second =
      absurd (no_bad front cut.events x.events x.place cut.spells x.bad)

  pub counts_add_up : (front back : List ℕ) (a b all : List ℕ) (s t tally : Tally) → EndsAtCut front
      → Writes output profile front a s
      → Writes output profile back b t → Writes output profile (front ++ back) all tally → tally ≡ sum_of s t
  counts_add_up front back a b all s t tally cut first second writes =
      let both = both_written front back a b s t cut first second in
      (one_text output profile one_reading one_spelling one_bad_word no_bad (front ++ back) all both.0 tally
      (sum_of s t) writes both.1).1
