-- What `run` writes is the capture of what it recorded: the law `runs_are_captures`. Each answer's
-- text is the canonical text of a packet and then comments, or comments alone, so that the whole
-- spells the packets one after the other, and `check` counts them.
use Rattle.std.proofs.Common.{◌≡◌, ℕ, ◌+◌, cond, true, inl, inr, List, [], ◌∷◌, ◌++◌, length, map, refl, sym, ap, subst}
use Rattle.std.proofs.Common.{◌∙◌, append_assoc, arith}
use Rattle.std.specs.Prelude.{codes, decimal, not}
use Rattle.std.proofs.lemmas.List.Sums.{sum_by-cons}
use Rattle.pmb_bus.specs.Event.{AreBytes, canonical_text}
use Rattle.pmb_bus.specs.Text.{FirstBadWord, Spells}
use Rattle.pmb_bus.specs.declared.event.Event.{Event}
use Rattle.pmb_command.specs.Parts.{DeviceParts}
use Rattle.pmb_io.specs.Count.{capped}
use Rattle.pmb_io.specs.Lines.{Ended, Last, TextLine, TooLong, lines_of}
use Rattle.pmb_io.specs.Tally.{IsTallyOf}
use Rattle.pmb_io.specs.declared.tally.Tally.{Tally}
use Rattle.pmb_line.specs.declared.line_fault.LineFault.TheVariants as line_fault
use Rattle.pmb_transaction.specs.Capture.{Capture}
use Rattle.pmb_transaction.specs.Packet.{Packet}
use Rattle.pmb_transaction.specs.Reading.{Accepted, Outcome, Reading}
use Rattle.pmb_transaction.specs.Transaction.{TransactionData}
use Rattle.pmb_build.specs.Answer.{numbered_text}
use Rattle.pmb_capture.specs.Check.{Checks}
use Rattle.pmb_capture.specs.Output.{is_packet, packets_in, refusals_in}
use Rattle.pmb_note.proofs.OneLine.{no_lf, no_lf-append}
use Rattle.pmb_request.specs.declared.request_fault.RequestFault.TheVariants.{Line}
use Rattle.pmb_run.specs.Answer.{IsRefused, Nothing, Recorded, Refusal, RunAnswer, Runs, RunsLine, most_request_line}
use Rattle.pmb_run.specs.Answer.{no_host, no_request, result_line}
use Rattle.pmb_run.specs.Lines.{RunsEach, RunsInput, all_recorded, answers_behind}
use Rattle.pmb_laws.proofs.BuiltAgain.{packets_are_all}
use Rattle.pmb_laws.proofs.ResultText.{decimal_no_lf, end_no_lf, host_fault_no_lf, request_fault_no_lf}
use Rattle.pmb_laws.proofs.SpelledText.{comment_first, events_first}

-- ---- comments

-- a line that is a comment, at the front of a text
line_first : (comment rest : List ℕ) (events : List Event) → no_lf comment ≡ true → Spells rest events
    → Spells ((35 ∷ comment ++ 10 ∷ []) ++ rest) events
line_first comment rest events one spells =
    subst (λ (text : List ℕ). Spells text events)
    (sym (ap (λ (text : List ℕ). 35 ∷ text) (append_assoc comment (10 ∷ []) rest)))
    (comment_first comment rest events one spells)

-- the line of a result
result_first : (result rest : List ℕ) (events : List Event) → no_lf result ≡ true → Spells rest events
    → Spells (result_line result ++ rest) events
result_first result rest events one spells = line_first (32 ∷ result) rest events
    (no_lf-append (codes " ") result refl one) spells

-- the line of a fault
fault_first : (number : ℕ) (why rest : List ℕ) (events : List Event) → no_lf why ≡ true → Spells rest events
    → Spells (numbered_text number why ++ rest) events
fault_first number why rest events one spells =
    let said : List ℕ = decimal number ++ (codes ": " ++ why) in
    let one_line : no_lf (codes " line " ++ said) ≡ true =
    no_lf-append (codes " line ") said refl (no_lf-append (decimal number) (codes ": " ++ why) (decimal_no_lf number)
    (no_lf-append (codes ": ") why refl one)) in
    let same : (35 ∷ (codes " line " ++ said) ++ 10 ∷ []) ≡ numbered_text number why =
    ap (λ (text : List ℕ). codes "# line " ++ text) (append_assoc (decimal number) (codes ": " ++ why) (10 ∷ [])) in
    subst (λ (text : List ℕ). Spells (text ++ rest) events) same
    (line_first (codes " line " ++ said) rest events one_line spells)

-- ---- outcomes

no_refusals : (ts : List TransactionData) → refusals_in (map Accepted ts) ≡ 0
no_refusals [] = refl
no_refusals (t ∷ ts) =
    let one : refusals_in (map Accepted (t ∷ ts)) ≡ 0 + refusals_in (map Accepted ts) =
    sum_by-cons (λ (o : Outcome). cond (not (is_packet o)) 1 0) (Accepted t) (map Accepted ts) in
    omega (arith, one, no_refusals ts)

-- what is told of a line that was refused
abbrev why_of : RunAnswer → List ℕ
why_of (Recorded t events result) = []
why_of (Refusal why) = why
why_of Nothing = []

module _ (profile : List DeviceParts) where
  -- ---- one answer

  -- what is recorded is a packet, and its result is written without a LF
  record IsRecorded (t : TransactionData) (events : List Event) (result : List ℕ) : Type 0 where
    -- the events are the transaction's packet,
    packet : Packet profile t events
    -- and its result has no LF
    one : no_lf result ≡ true

  recorded_text : (before : List TransactionData) (line : List ℕ) (t : TransactionData) (events : List Event)
      (result : List ℕ)
      → Runs profile before line t events result → IsRecorded t events result
  recorded_text before line t events result runs =
      record { packet = runs.packet; one = ap no_lf runs.told ∙ end_no_lf runs.end }

  recorded : (before : List TransactionData) (line : TextLine) (t : TransactionData) (events : List Event)
      (result : List ℕ)
      → RunsLine profile before line (Recorded t events result) → IsRecorded t events result
  recorded before (Ended line) t events result runs = recorded_text before line t events result runs
  recorded before (Last line) t events result runs = recorded_text before line t events result runs
  recorded before TooLong t events result runs = absurd (cc runs)

  refused_text : (before : List TransactionData) (line why : List ℕ) → IsRefused profile before line why
      → no_lf why ≡ true
  refused_text before line why (no_request because is some same) = ap no_lf same ∙ request_fault_no_lf because
  refused_text before line why (no_host request because spells is same) = ap no_lf same ∙ host_fault_no_lf because

  refused : (before : List TransactionData) (line : TextLine) (why : List ℕ)
      → RunsLine profile before line (Refusal why) → no_lf why ≡ true
  refused before (Ended line) why runs = refused_text before line why runs
  refused before (Last line) why runs = refused_text before line why runs
  refused before TooLong why runs = ap (λ (answer : RunAnswer). no_lf (why_of answer)) runs
      ∙ request_fault_no_lf (Line (line_fault.TooLong most_request_line))

  -- ---- all answers

  -- The texts of answers spell events, which are the capture of what was recorded.
  pub record IsCaptured (answers : List RunAnswer) : Type 0 where
    pub events : List Event
    pub capture : Capture profile (all_recorded answers) events
    pub spells : (n : ℕ) → Spells (answers_behind n answers) events

  module _ (packets_are_bytes : (t : TransactionData) (events : List Event) → Packet profile t events
      → AreBytes events) where
    pub captured : (before : List TransactionData) (lines : List TextLine) (answers : List RunAnswer)
        → RunsEach profile before lines answers → IsCaptured answers
    captured before [] [] each = record { events = []; capture = refl; spells = λ n. refl }
    captured before [] (answer ∷ answers) each = absurd each
    captured before (line ∷ lines) [] each = absurd each
    -- a transaction was recorded: its packet, and the comment with its result
    captured before (line ∷ lines) (Recorded t events result ∷ answers) each =
        let first = recorded before line t events result each.0 in
        let others = captured (before ++ t ∷ []) lines answers each.1 in
        record {
          events = events ++ others.events;
          capture = (events, others.events, refl, first.packet, others.capture);
          spells = λ n.
              let rest = answers_behind (n + 1) answers in
              subst (λ (text : List ℕ). Spells text (events ++ others.events))
              (sym (append_assoc (canonical_text events) (result_line result) rest))
              (events_first events (result_line result ++ rest) others.events (packets_are_bytes t events first.packet)
              (result_first result rest others.events first.one (others.spells (n + 1))));
        }
    -- a refused line: a comment
    captured before (line ∷ lines) (Refusal why ∷ answers) each =
        let others = captured (before ++ []) lines answers each.1 in
        record {
          events = others.events;
          capture = others.capture;
          spells = λ n. fault_first (capped (n + 1)) why (answers_behind (n + 1) answers) others.events
              (refused before line why each.0) (others.spells (n + 1));
        }
    -- a blank line: nothing
    captured before (line ∷ lines) (Nothing ∷ answers) each =
        let others = captured (before ++ []) lines answers each.1 in
        record { events = others.events; capture = others.capture; spells = λ n. others.spells (n + 1) }

    -- ---- a whole run

    -- what was written spells the capture of what was recorded
    pub run_spells : (bytes text : List ℕ) (tally : Tally) (run : RunsInput profile tally bytes text)
        → (events : List Event) × Spells text events × Capture profile (all_recorded run.given.answers) events
    run_spells bytes text tally run =
        let all = captured [] (lines_of most_request_line bytes) run.given.answers run.given.each in
        (all.events, subst (λ (t : List ℕ). Spells t all.events) (sym run.given.whole) (all.spells 0), all.capture)

    -- as many packets as transactions, and no refusal
    counted_as : (ts : List TransactionData) (outcomes : List Outcome) (counted : Tally) → outcomes ≡ map Accepted ts
        → IsTallyOf (packets_in outcomes) (refusals_in outcomes) counted
        → (counted.refusals ≡ 0) × (counted.packets ≡ capped (length ts))
    counted_as ts outcomes counted are counts = (
      counts.refusals_counted ∙ ap capped (ap refusals_in are ∙ no_refusals ts),
      counts.packets_counted ∙ ap capped (ap packets_in are ∙ packets_are_all ts),
    )

    -- and `check` counts these packets, and nothing else
    pub run_checked : ((text : List ℕ) (a b : List Event) → Spells text a → Spells text b → a ≡ b)
        → ((text : List ℕ) (a b : List Event) (place : ℕ) → Spells text a → FirstBadWord text b place → ⊥)
        → ((ts : List TransactionData) (events : List Event) (outcomes : List Outcome) → Capture profile ts events
        → Reading profile events outcomes → outcomes ≡ map Accepted ts)
        → (bytes text checked : List ℕ) (tally counted : Tally) (run : RunsInput profile tally bytes text)
        → Checks profile text checked counted
        → (counted.refusals ≡ 0) × (counted.packets ≡ capped (length (all_recorded run.given.answers)))
    run_checked one_spelling no_bad_word reads_as bytes text checked tally counted run (inl all) =
        let spelled = run_spells bytes text tally run in
        let same = one_spelling text all.events spelled.0 all.spells spelled.1 in
        let reads = subst (λ (events : List Event). Reading profile events all.outcomes) same all.reads in
        let ts = all_recorded run.given.answers in
        counted_as ts all.outcomes counted (reads_as ts spelled.0 all.outcomes spelled.2 reads) all.counts
    run_checked one_spelling no_bad_word reads_as bytes text checked tally counted run (inr bad) =
        let spelled = run_spells bytes text tally run in
        absurd (no_bad_word text spelled.0 bad.events bad.place spelled.1 bad.bad)
