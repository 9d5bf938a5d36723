-- What is built of the lines that are shown is the capture: the laws `shown_is_built_again` and
-- `runs_are_captures`. Where nothing was refused, the outcomes are transactions; each is shown as
-- a line with its note as a comment, which spells the transaction again, so that its packet is
-- built.
use Rattle.std.proofs.Common.{◌≡◌, ◌≢◌, ℕ, ◌+◌, ◌≤◌, cond, List, [], ◌∷◌, ◌++◌, length, append-nil, inl, inr, refl, sym}
use Rattle.std.proofs.Common.{◌∙◌, ap, subst, arith}
use Rattle.std.specs.Prelude.{codes, count_by, map, not}
use Rattle.std.specs.List.{All}
use Rattle.std.proofs.lemmas.Grind.{flat_map-append}
use Rattle.std.proofs.lemmas.List.Sums.{sum_by-cons}
use Rattle.pmb_bus.specs.Event.{canonical_text, text_of}
use Rattle.pmb_bus.specs.Text as texts
use Rattle.pmb_bus.specs.declared.event.Event.{Event}
use Rattle.pmb_command.specs.Parts.{DeviceParts}
use Rattle.pmb_io.specs.Count.{capped}
use Rattle.pmb_io.specs.Lines.{Ended, TextLine, lines_of}
use Rattle.pmb_io.specs.declared.tally.Tally.{Tally}
use Rattle.pmb_line.specs.Spelling.{SpellsTransaction, line}
use Rattle.pmb_line.specs.Words.{texts as texts_of, line_words}
use Rattle.pmb_note.specs.Note.{note}
use Rattle.pmb_transaction.specs.Capture.{Capture}
use Rattle.pmb_transaction.specs.Packet.{Packet}
use Rattle.pmb_transaction.specs.Reading.{Accepted, Outcome, Reading, ReadsFrom, Refusal}
use Rattle.pmb_transaction.specs.Transaction.{TransactionData}
use Rattle.pmb_capture.specs.Output.{accepted_in, is_packet, packets_in, refusals_in, text_behind}
use Rattle.pmb_capture.specs.Show.{Shows, noted_behind, noted_lines, shown_output}
use Rattle.pmb_build.specs.Answer.{BuildAnswer, Built, is_built, is_refused, most_build_line}
use Rattle.pmb_build.specs.Lines.{BuildsEach, BuildsInput, answers_behind}
use Rattle.pmb_laws.proofs.ShownLines.{first_line, no_lines, said, said_has_no_lf, said_is_short, shown_first}

-- ---- outcomes without a refusal

all_accepted : (outcomes : List Outcome) → refusals_in outcomes ≡ 0 → outcomes ≡ map Accepted (accepted_in outcomes)
all_accepted [] none = refl
all_accepted (Accepted t ∷ outcomes) none =
    let behind : refusals_in (Accepted t ∷ outcomes) ≡ 0 + refusals_in outcomes =
    sum_by-cons (λ (o : Outcome). cond (not (is_packet o)) 1 0) (Accepted t) outcomes in
    ap (λ (os : List Outcome). Accepted t ∷ os) (all_accepted outcomes (omega (arith, none, behind)))
all_accepted (Refusal refusal ∷ outcomes) none =
    let one : refusals_in (Refusal refusal ∷ outcomes) ≡ 1 + refusals_in outcomes =
    sum_by-cons (λ (o : Outcome). cond (not (is_packet o)) 1 0) (Refusal refusal) outcomes in
    absurd (omega (arith, none, one))

pub packets_are_all : (ts : List TransactionData) → packets_in (map Accepted ts) ≡ length ts
packets_are_all [] = refl
packets_are_all (t ∷ ts) =
    let one : packets_in (map Accepted (t ∷ ts)) ≡ 1 + packets_in (map Accepted ts) =
    sum_by-cons (λ (o : Outcome). cond (is_packet o) 1 0) (Accepted t) (map Accepted ts) in
    omega (arith, one, packets_are_all ts)

module _ (profile : List DeviceParts) where
  -- events that read as transactions alone are their capture
  capture_of : (n : ℕ) (ts : List TransactionData) (events : List Event) → ReadsFrom profile n events (map Accepted ts)
      → Capture profile ts events
  capture_of n [] events none = none
  capture_of n (t ∷ ts) events reads = (
    reads.0,
    reads.1,
    reads.2,
    reads.3,
    capture_of (n + length reads.0) ts reads.1 reads.4,
  )

  shown_of : (before ts : List TransactionData) → text_behind (shown_output profile) before (map Accepted ts)
      ≡ noted_behind profile before ts
  shown_of before [] = refl
  shown_of before (t ∷ ts) = ap (λ text. (shown_output profile).of_packet before t ++ text)
      (shown_of (before ++ t ∷ []) ts)

  -- ---- lines that are built

  -- 12,544 bytes are the most that a transaction's line has, 8,192 those of a note
  module _ (comment_spells : (t : TransactionData) (events : List Event) (comment : List ℕ) → Packet profile t events
      → SpellsTransaction (texts_of (line_words (line t ++ (codes " # " ++ comment)))) t)
      (line_one : (t : TransactionData) → All (λ b. b ≢ 10) (line t))
      (line_short : (t : TransactionData) (events : List Event) → Packet profile t events → length (line t) ≤ 12544)
      (note_one : (before : List TransactionData) (t : TransactionData) (events : List Event) → Packet profile t events
      → All (λ b. b ≢ 10) (note profile before t))
      (note_short : (before : List TransactionData) (t : TransactionData) (events : List Event)
      → Packet profile t events → length (note profile before t) ≤ 8192) where
    -- What is answered to the lines of transactions after others.
    record Answered (lines : List TextLine) (ts : List TransactionData) (events : List Event) : Type 0 where
      -- the answers, one to each line,
      answers : List BuildAnswer
      each : BuildsEach profile lines answers
      -- whose text is that of the events,
      text : (n : ℕ) → canonical_text events ≡ answers_behind n answers
      -- all of them built
      built : count_by is_built answers ≡ length ts
      refused : count_by is_refused answers ≡ 0

    answered : (before ts : List TransactionData) (events : List Event) → Capture profile ts events
        → Answered (lines_of most_build_line (noted_behind profile before ts)) ts events
    answered before [] events none = record {
      answers = [];
      each = subst (λ (ls : List TextLine). BuildsEach profile ls []) (sym (no_lines most_build_line)) tt;
      text = λ n. ap canonical_text none;
      built = refl;
      refused = refl;
    }
    -- the first transaction's line, with its note, and the lines of the others
    answered before (t ∷ ts) events capture =
        let first = capture.0 in
        let packet = capture.3 in
        let others = answered (before ++ t ∷ []) ts capture.1 capture.4 in
        let rest = noted_behind profile (before ++ t ∷ []) ts in
        -- cut at its LF, it is the first line, and short enough
        let lines : lines_of most_build_line (noted_behind profile before (t ∷ ts)) ≡ Ended (said profile before t)
        ∷ lines_of most_build_line rest =
        ap (lines_of most_build_line) (shown_first profile before ts t)
        ∙ first_line most_build_line (said profile before t) rest
        (said_has_no_lf profile before t (line_one t) (note_one before t first packet))
        (said_is_short profile before t (line_short t first packet) (note_short before t first packet)) in
        -- it is one that is built
        let one : count_by is_built (Built first ∷ others.answers) ≡ 1 + count_by is_built others.answers =
        sum_by-cons (λ (a : BuildAnswer). cond (is_built a) 1 0) (Built first) others.answers in
        let no_more : count_by is_refused (Built first ∷ others.answers) ≡ 0 + count_by is_refused others.answers =
        sum_by-cons (λ (a : BuildAnswer). cond (is_refused a) 1 0) (Built first) others.answers in
        record {
          answers = Built first ∷ others.answers;
          each = subst (λ (ls : List TextLine). BuildsEach profile ls (Built first ∷ others.answers)) (sym lines) (
            record { t = t; spells = comment_spells t first (note profile before t) packet; packet = packet },
            others.each,
          );
          text = λ n. ap canonical_text capture.2 ∙ flat_map-append text_of first capture.1
              ∙ ap (λ (text : List ℕ). canonical_text first ++ text) (others.text (n + 1));
          built = omega (arith, one, others.built);
          refused = omega (arith, no_more, others.refused);
        }

    pub built_again : ((text : List ℕ) (a b : List Event) → texts.Spells text a → texts.Spells text b → a ≡ b)
        → (bytes text : List ℕ) (events : List Event) (tally : Tally) → texts.Spells bytes events
        → Shows profile bytes text tally → tally.refusals ≡ 0
        → BuildsInput profile tally text (canonical_text events)
    built_again one_spelling bytes text events tally spells (inl all) none =
        -- the transactions that were shown,
        let ts = accepted_in all.outcomes in
        let outcomes_are = all_accepted all.outcomes (omega (arith, none, all.counts.refusals_counted)) in
        let same = one_spelling bytes all.events events all.spells spells in
        let reads = subst (λ (os : List Outcome). Reading profile all.events os) outcomes_are all.reads in
        -- whose lines are the text
        let lines : text ≡ noted_lines profile ts = all.lines
        ∙ append-nil (text_behind (shown_output profile) [] all.outcomes)
        ∙ ap (text_behind (shown_output profile) []) outcomes_are ∙ shown_of [] ts in
        -- so each of them is built
        let is = answered [] ts all.events (capture_of 0 ts all.events reads) in
        let packets : packets_in all.outcomes ≡ length ts = ap packets_in outcomes_are ∙ packets_are_all ts in
        record {
          given = record {
            answers = is.answers;
            each = subst (λ (l : List ℕ). BuildsEach profile (lines_of most_build_line l) is.answers)
                (sym lines) is.each;
            whole = ap canonical_text (sym same) ∙ is.text 0;
          };
          counts = record {
            packets_counted = all.counts.packets_counted ∙ ap capped (packets ∙ sym is.built);
            refusals_counted = omega (arith, none, is.refused);
          };
        }
    built_again one_spelling bytes text events tally spells (inr bad) none =
        absurd (omega (arith, none, bad.counts.refusals_counted))
