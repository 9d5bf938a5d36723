-- Request lines that are answered one after the other: for `RunnerLineTask::take_line`. The
-- answers so far are those of the lines so far, each on the devices as the transactions before
-- left them; one line more adds its answer, its text under its number, and one to the tally.
use Rattle.std.proofs.Common.{◌≡◌, ℕ, ◌+◌, Bool, true, false, cond, List, [], ◌∷◌, ◌++◌, length, refl, sym, ◌∙◌, ap}
use Rattle.std.proofs.Common.{subst, append-nil, append_assoc, arith, count_by, length-append}
use Rattle.std.proofs.lemmas.List.Sums.{fold-append}
use Rattle.std.specs.Borrow.{Bor}
use Rattle.std.specs.Prelude.{Option}
use Rattle.pmb_io.specs.Answers.{answers_after-push}
use Rattle.pmb_io.specs.Count.{capped}
use Rattle.pmb_io.specs.Engines.{PutsOut}
use Rattle.pmb_io.specs.Lines.{TextLine}
use Rattle.pmb_io.specs.Outgoing.{PutsText}
use Rattle.pmb_io.specs.Tally.{IsTallyOf, with_packet, with_refusal}
use Rattle.pmb_io.specs.declared.tally.Tally.{Tally}
use Rattle.pmb_command.specs.Parts.{DeviceParts}
use Rattle.pmb_transaction.specs.Transaction.{TransactionData, Write, Read, Call, Refused, Alert, NoAlert}
use Rattle.pmb_registers.specs.State.{InState}
use Rattle.pmb_devices.specs.Runs.{all_after, first_members}
use Rattle.pmb_build.specs.Answer.{numbered_text}
use Rattle.pmb_run.specs.Answer.{RunAnswer, RunsLine, RunsText, RunsTextWith, Recorded, Refusal, Nothing, answer_text, is_done}
use Rattle.pmb_run.specs.Answer.{is_failed}
use Rattle.pmb_run.specs.Lines.{RunsEach, all_recorded, recorded_by}
use Rattle.pmb_run.specs.declared.bench.Bench.{Bench}
use Rattle.pmb_run.specs.declared.runner.Runner.{Runner}
use Rattle.pmb_run.specs.machine.Bench.{BenchStands, HasRun, bench_profile}
use Rattle.pmb_run.specs.machine.Running.{RunnerStands, RunnerTakes, counted_in}
use Rattle.pmb_run.proofs.Hosts.{after_both}

-- what was recorded for answers and then for others
recorded-append : (answers more : List RunAnswer) → all_recorded (answers ++ more) ≡ all_recorded answers
    ++ all_recorded more
recorded-append [] more = refl
recorded-append (answer ∷ answers) more =
    ap (λ (ts : List TransactionData). recorded_by answer ++ ts) (recorded-append answers more)
    ∙ sym (append_assoc (recorded_by answer) (all_recorded answers) (all_recorded more))

-- and for one more
recorded_more : (answers : List RunAnswer) (answer : RunAnswer) → all_recorded (answers ++ answer ∷ [])
    ≡ all_recorded answers ++ recorded_by answer
recorded_more answers answer =
    recorded-append answers (answer ∷ []) ∙ ap (λ (ts : List TransactionData). all_recorded answers ++ ts)
    (append-nil (recorded_by answer))

-- the answers to lines and then to others
answers-append : (profile : List DeviceParts) (before : List TransactionData) (given others : List TextLine)
    (answers more : List RunAnswer)
    → RunsEach profile before given answers → RunsEach profile (before ++ all_recorded answers) others more
    → RunsEach profile before (given ++ others) (answers ++ more)
answers-append profile before [] others [] more each next =
    subst (λ (ts : List TransactionData). RunsEach profile ts others more) (append-nil before) next
answers-append profile before [] others (answer ∷ answers) more each next = absurd each
answers-append profile before (line ∷ given) others [] more each next = absurd each
answers-append profile before (line ∷ given) others (answer ∷ answers) more each next = (
  each.0,
  answers-append profile (before ++ recorded_by answer) given others answers more each.1
      (subst (λ (ts : List TransactionData). RunsEach profile ts others more)
      (sym (append_assoc before (recorded_by answer) (all_recorded answers))) next),
)

-- ---- the tally

-- 1 for one that is counted
abbrev one_if : Bool → ℕ
one_if counted = cond counted 1 0

-- one answer more is counted
one_more : (p : RunAnswer → Bool) (answers : List RunAnswer) (answer : RunAnswer) (n : ℕ) → one_if (p answer) ≡ n
    → count_by p (answers ++ answer ∷ []) ≡ count_by p answers + n
one_more p answers answer n is =
    fold-append (λ (n : ℕ) (a : RunAnswer). n + cond (p a) 1 0) 0 answers (answer ∷ [])
    ∙ ap (λ (m : ℕ). count_by p answers + m) is

-- the requests that were done, and those that were not
abbrev Counted : List RunAnswer → Tally → Type 0
Counted answers tally = IsTallyOf (count_by is_done answers) (count_by is_failed answers) tally

done_more : (tally : Tally) (answers : List RunAnswer) (answer : RunAnswer) → is_done answer ≡ true
    → is_failed answer ≡ false
    → Counted answers tally → Counted (answers ++ answer ∷ []) (with_packet tally)
done_more tally answers answer done failed counts =
    let packets = one_more is_done answers answer 1 (ap one_if done) in
    let refusals = one_more is_failed answers answer 0 (ap one_if failed) in record {
      packets_counted = omega (arith, packets, counts.packets_counted);
      refusals_counted = omega (arith, refusals, counts.refusals_counted);
    }

failed_more : (tally : Tally) (answers : List RunAnswer) (answer : RunAnswer) → is_done answer ≡ false
    → is_failed answer ≡ true
    → Counted answers tally → Counted (answers ++ answer ∷ []) (with_refusal tally)
failed_more tally answers answer done failed counts =
    let packets = one_more is_done answers answer 0 (ap one_if done) in
    let refusals = one_more is_failed answers answer 1 (ap one_if failed) in record {
      packets_counted = omega (arith, packets, counts.packets_counted);
      refusals_counted = omega (arith, refusals, counts.refusals_counted);
    }

counts_more : (tally : Tally) (answers : List RunAnswer) (answer : RunAnswer) → Counted answers tally
    → Counted (answers ++ answer ∷ []) (counted_in answer tally)
counts_more tally answers (Recorded (Write parts) events result) counts =
    done_more tally answers (Recorded (Write parts) events result) refl refl counts
counts_more tally answers (Recorded (Read t) events result) counts =
    done_more tally answers (Recorded (Read t) events result) refl refl counts
counts_more tally answers (Recorded (Call t) events result) counts =
    done_more tally answers (Recorded (Call t) events result) refl refl counts
counts_more tally answers (Recorded (Refused t) events result) counts =
    failed_more tally answers (Recorded (Refused t) events result) refl refl counts
counts_more tally answers (Recorded (Alert t) events result) counts =
    failed_more tally answers (Recorded (Alert t) events result) refl refl counts
counts_more tally answers (Recorded NoAlert events result) counts =
    failed_more tally answers (Recorded NoAlert events result) refl refl counts
counts_more tally answers (Refusal why) counts = failed_more tally answers (Refusal why) refl refl counts
counts_more tally answers Nothing counts =
    let packets = one_more is_done answers Nothing 0 refl in
    let refusals = one_more is_failed answers Nothing 0 refl in record {
      packets_counted = omega (arith, packets, counts.packets_counted);
      refusals_counted = omega (arith, refusals, counts.refusals_counted);
    }

-- ---- a line more

-- the transactions that were recorded so far
abbrev pub recorded_so_far : (start now : Runner) (given : List TextLine) (text : List ℕ)
    → RunnerStands start now given text → List TransactionData
recorded_so_far start now given text stands = all_recorded stands.answered.given.answers

-- a line more is answered
pub answers_more : (start before after : Runner) (given : List TextLine) (text : List ℕ) (line : TextLine)
    (answer : RunAnswer) (number : ℕ)
    → number ≡ capped (before.lines + 1) → after.bench.profile ≡ before.bench.profile → after.lines ≡ number
    → after.tally ≡ counted_in answer before.tally
    → (stands : RunnerStands start before given text)
    → RunsLine (bench_profile before.bench) (recorded_so_far start before given text stands) line answer
    → HasRun after.bench (recorded_so_far start before given text stands ++ recorded_by answer)
    → RunnerStands start after (given ++ line ∷ []) (text ++ answer_text number answer)
answers_more start before after given text line answer number number_is same lines_are tally_is stands answered bench =
    -- the answers so far
    let was = stands.answered.given in
    let numbered : number ≡ capped (length was.answers + 1) = omega (arith, number_is, stands.number) in
    -- the profile is that of the start
    let profile_is = ap (λ (p : Bor (List DeviceParts)). p.now) stands.same in
    let one = subst (λ (p : List DeviceParts). RunsLine p (all_recorded was.answers) line answer) profile_is answered in
    record {
      same = same ∙ stands.same;
      answered = record {
        -- one answer more, of one line more
        given = record {
          answers = was.answers ++ answer ∷ [];
          each = answers-append (bench_profile start.bench) [] given (line ∷ []) was.answers (answer ∷ []) was.each
              (one, tt);
          whole = (λ i. was.whole i ++ answer_text (numbered i) answer)
              ∙ sym (answers_after-push answer_text was.answers answer);
          -- and its text after the others
        };
        counts = subst (λ (t : Tally). Counted (was.answers ++ answer ∷ []) t) (sym tally_is)
            (counts_more before.tally was.answers answer stands.answered.counts);
      };
      number = lines_are ∙ (numbered ∙ ap (λ (n : ℕ). capped n) (sym (length-append was.answers (answer ∷ []))));
      stands = subst (λ (ts : List TransactionData). HasRun after.bench ts)
          (sym (recorded_more was.answers answer)) bench;
    }

-- what was put out for a line that was counted
pub puts_more : (start before counting after : Runner) (given : List TextLine) (text : List ℕ) (line : TextLine)
    (said : List ℕ) (held_old : Option (List ℕ)) (waiting_old : List ℕ) (held_new : Option (List ℕ))
    (waiting_new : List ℕ)
    → counting.bench ≡ before.bench → counting.lines ≡ capped (before.lines + 1) → counting.tally ≡ before.tally
    → (stands : RunnerStands start before given text)
    → ((answer : RunAnswer) → RunsText (bench_profile before.bench) (recorded_so_far start before given text stands)
    said answer
    → RunsLine (bench_profile before.bench) (recorded_so_far start before given text stands) line answer)
    → RunnerTakes (all_after (recorded_so_far start before given text stands) (first_members (bench_profile before.bench)))
    (recorded_so_far start before given text stands) counting after said held_old waiting_old held_new waiting_new
    → PutsOut (λ more. RunnerStands start after (given ++ line ∷ []) (text ++ more)) held_old waiting_old held_new
    waiting_new
puts_more start before counting after given text line said held_old waiting_old held_new waiting_new same lines_are
    tally_is stands says takes =
    let ts = recorded_so_far start before given text stands in
    let firsts = first_members (bench_profile before.bench) in
    let profile_is = takes.same ∙ ap (λ (b : Bench). b.profile) same in
    let us = ts ++ recorded_by takes.answer in
    let members = after_both ts (recorded_by takes.answer) firsts
    ∙ ap (λ (p : Bor (List DeviceParts)). all_after us (first_members p.now)) (sym profile_is) in record {
      text = answer_text counting.lines takes.answer;
      writes = takes.writes;
      holds = answers_more start before after given text line takes.answer counting.lines lines_are
          profile_is takes.lines
          (takes.tally ∙ ap (counted_in takes.answer) tally_is) stands
          (says takes.answer (subst (λ (b : Bench). RunsTextWith (bench_profile b) ts (all_after ts firsts) said takes.answer)
          same takes.answers))
          (subst (λ (ms : List InState). BenchStands after.bench ms us) members takes.stands);
    }

-- what was put out for a line with a fault
pub fault_more : (start before after : Runner) (given : List TextLine) (text : List ℕ) (line : TextLine) (why : List ℕ)
    (number : ℕ) (held_old : Option (List ℕ)) (waiting_old : List ℕ) (held_new : Option (List ℕ)) (waiting_new : List ℕ)
    → number ≡ capped (before.lines + 1) → after.bench ≡ before.bench → after.lines ≡ number
    → after.tally ≡ with_refusal before.tally
    → (stands : RunnerStands start before given text)
    → RunsLine (bench_profile before.bench) (recorded_so_far start before given text stands) line (Refusal why)
    → PutsText held_old waiting_old held_new waiting_new (numbered_text number why)
    → PutsOut (λ more. RunnerStands start after (given ++ line ∷ []) (text ++ more)) held_old waiting_old held_new
    waiting_new
fault_more start before after given text line why number held_old waiting_old held_new waiting_new number_is same
    lines_are tally_is stands refused puts =
    let ts = recorded_so_far start before given text stands in record {
      text = numbered_text number why;
      writes = puts;
      holds = answers_more start before after given text line (Refusal why) number number_is
          (ap (λ (b : Bench). b.profile) same) lines_are tally_is stands refused
          (subst (λ (b : Bench). HasRun b (ts ++ [])) (sym same)
          (subst (λ (us : List TransactionData). HasRun before.bench us) (sym (append-nil ts)) stands.stands));
    }
