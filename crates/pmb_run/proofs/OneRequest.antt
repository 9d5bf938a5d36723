-- What a runner does with one request line: nothing for a blank one, a fault, or the events and
-- the end of its host. For `take_text`, `take_request` and `take_host` of the runner. Each case
-- names the answer of the line, the text that was put out, and where runner and bench stand after
-- it.
use Rattle.std.proofs.Common.{◌≡◌, ◌≢◌, ◌+◌, ◌<◌, ◌≤◌, ℕ, Option, length, List, [], ◌∷◌, ◌++◌, refl, sym, ◌∙◌, ap, subst, append-nil}
use Rattle.std.proofs.Common.{arith}
use Rattle.std.proofs.lemmas.List.{map-id}
use Rattle.std.specs.Borrow.{Bor}
use Rattle.pmb_bus.specs.Event.{canonical_text}
use Rattle.pmb_build.specs.Answer.{numbered_text}
use Rattle.pmb_command.specs.Parts.{DeviceParts}
use Rattle.pmb_io.specs.Outgoing.{PutsText, TextsAddUp}
use Rattle.pmb_io.specs.Tally.{with_refusal}
use Rattle.pmb_line.specs.declared.line_fault.LineFault.TheVariants as line_fault
use Rattle.pmb_note.specs.Context.{mode}
use Rattle.pmb_transaction.specs.Transaction.{TransactionData}
use Rattle.pmb_registers.specs.State.{InState}
use Rattle.pmb_devices.specs.Runs.{all_after}
use Rattle.pmb_request.specs.Request.{RequestData}
use Rattle.pmb_request.specs.RequestFault.{IsRequestFault, SpellsRequest, fault_text}
use Rattle.pmb_request.specs.declared.request_fault.RequestFault.{RequestFault}
use Rattle.pmb_request.specs.declared.request_fault.RequestFault.TheVariants.{Line}
use Rattle.pmb_host.specs.Host.{IsNewHost}
use Rattle.pmb_host.specs.Rules.{IsFault}
use Rattle.pmb_host.specs.declared.step.HostFault.{HostFault}
use Rattle.pmb_host.specs.declared.host.Host.{Host}
use Rattle.pmb_host.specs.declared.step.HostStep.{HostStep}
use Rattle.pmb_exchange.specs.Steps.{ExchangeStanding}
use Rattle.pmb_exchange.specs.declared.exchange.Exchange.{Exchange}
use Rattle.pmb_line.specs.Words.{line_words}
use Rattle.pmb_run.specs.Answer.{IsRefused, Nothing, Recorded, Refusal, answer_text, end_text, host_fault_text, most_request_line}
use Rattle.pmb_run.specs.Answer.{result_line}
use Rattle.pmb_run.specs.declared.bench.Bench.{Bench}
use Rattle.pmb_run.specs.declared.runner.Runner.{Runner}
use Rattle.pmb_run.specs.machine.Bench.{BenchStands, HasEnded, bench_profile}
use Rattle.pmb_run.specs.machine.Running.{IsSaid, NextTaken, RunnerTakes, end_counted}
use Rattle.pmb_io.specs.Count.{capped}
use Rattle.pmb_io.specs.Lines.{Last, TooLong}
use Rattle.pmb_run.proofs.Hosts.{HostRuns, beginning_on, counted_as, stands_behind}

-- A line whose fault is put out.
pub fault_taken : (members : List InState) (ts : List TransactionData) (before after : Runner) (line why : List ℕ) (h0 h1 : Option (List ℕ))
    (w0 w1 : List ℕ)
    → IsRefused (bench_profile before.bench) ts line why → BenchStands before.bench members ts
    → after.bench ≡ before.bench → after.lines ≡ before.lines → after.tally ≡ with_refusal before.tally
    → PutsText h0 w0 h1 w1 (numbered_text before.lines why) → RunnerTakes members ts before after line h0 w0 h1 w1
fault_taken members ts before after line why h0 h1 w0 w1 refused stands same lines_are tally_is writes = record {
  answer = Refusal why;
  answers = refused;
  writes = writes;
  same = ap (λ (b : Bench). b.profile) same;
  lines = lines_are;
  tally = tally_is;
  stands = subst (λ (b : Bench). BenchStands b (all_after [] members) (ts ++ [])) (sym same)
      (subst (λ (ms : List InState). BenchStands before.bench ms (ts ++ [])) (sym (map-id members))
      (subst (λ (us : List TransactionData). BenchStands before.bench members us) (sym (append-nil ts)) stands));
}

-- A line without words: nothing is put out.
pub blank_taken : (members : List InState) (ts : List TransactionData) (runner : Runner) (line : List ℕ)
    (h : Option (List ℕ)) (w : List ℕ) → line_words line ≡ [] → BenchStands runner.bench members ts
    → PutsText h w h w [] → RunnerTakes members ts runner runner line h w h w
blank_taken members ts runner line h w blank stands writes = record {
  answer = Nothing;
  answers = blank;
  writes = writes;
  same = refl;
  lines = refl;
  tally = refl;
  stands = subst (λ (ms : List InState). BenchStands runner.bench ms (ts ++ [])) (sym (map-id members))
      (subst (λ (us : List TransactionData). BenchStands runner.bench members us) (sym (append-nil ts)) stands);
}

-- No host is made for the request.
pub host_refused : (ts : List TransactionData) (bench : Bench) (line : List ℕ) (request : RequestData)
    (profile : Bor (List DeviceParts)) (because : HostFault)
    → SpellsRequest (mode (bench_profile bench) ts) line request → profile ≡ bench.profile
    → IsFault profile.now request because
    → IsRefused (bench_profile bench) ts line (host_fault_text because)
host_refused ts bench line request profile because spells same fault =
    IsRefused.no_host request because spells
    (subst (λ (p : Bor (List DeviceParts)). IsFault p.now request because) same fault) refl

-- The line spells no request.
pub line_refused : (ts : List TransactionData) (bench : Bench) (line : List ℕ) (because : RequestFault)
    → IsRequestFault line because → because ≢ Line line_fault.Blank
    → IsRefused (bench_profile bench) ts line (fault_text because)
line_refused ts bench line because fault has_words = IsRefused.no_request because fault has_words refl

-- A request whose host has ended.
pub host_taken : TextsAddUp → (members : List InState) (ts : List TransactionData) (before after : Runner) (bench going : Bench)
    (request : RequestData) (host : Host) (line : List ℕ) (sent : ℕ) (end : HostStep) (exchange next : Exchange)
    (h0 h1 h2 h3 : Option (List ℕ)) (w0 w1 w2 w3 : List ℕ)
    (stands : BenchStands before.bench members ts) (new : IsNewHost (bench_profile before.bench) request host)
    → SpellsRequest (mode (bench_profile before.bench) ts) line request
    → (runs : HostRuns members ts (beginning_on members ts before.bench request host stands new) sent going exchange h0 w0 h1 w1)
    → HasEnded members ts (record (beginning_on members ts before.bench request host stands new) { events = runs.events; sent = sent })
    end bench next h1 w1 h2 w2
    → PutsText h2 w2 h3 w3 (result_line (end_text end))
    → bench.profile ≡ before.bench.profile → after.bench ≡ bench → after.lines ≡ before.lines
    → after.tally ≡ end_counted end before.tally
    → RunnerTakes members ts before after line h0 w0 h3 w3
host_taken add_up members ts before after bench going request host line sent end exchange next h0 h1 h2 h3 w0 w1 w2 w3 stands
    new spells runs ended puts profile_is bench_is lines_are tally_is =
    let first = beginning_on members ts before.bench request host stands new in
    let over = ended.over in record {
      -- the transaction that was recorded, and the end that the host returned
      answer = Recorded over.done runs.events (end_text end);
      answers = record {
        request = request;
        spells = spells;
        word = new.word;
        number = new.number;
        allowed = new.allowed;
        exchanges = over.exchanges;
        packet = over.packet;
        end = end;
        ends = over.told;
        told = refl;
      };
      -- the events were put out, then the line of the end
      writes = add_up h0 h1 h3 w0 w1 w3 (canonical_text runs.events) (result_line (end_text end)) runs.writes
          (add_up h1 h2 h3 w1 w2 w3 [] (result_line (end_text end)) ended.writes puts);
      same = ap (λ (b : Bench). b.profile) bench_is ∙ profile_is;
      lines = lines_are;
      -- it counts as done or failed as the transaction is
      tally = tally_is ∙ counted_as new.number over.done end before.tally over.told;
      stands = subst (λ (b : Bench). BenchStands b (all_after (over.done ∷ []) members) (ts ++ over.done ∷ []))
          (sym bench_is)
          (stands_behind members ts bench next (record first { events = runs.events; sent = sent }) end ended.runs over);
    }

-- 4,162 is one more than the most (`signals_are_few` of pmb_host)
-- A host never sends so many signals.
pub never_taken : (members : List InState) (ts : List TransactionData) (first : ExchangeStanding) (before after : Runner) (bench : Bench)
    (exchange : Exchange) (line : List ℕ) (sent : ℕ) (h0 h1 : Option (List ℕ)) (w0 w1 : List ℕ)
    → HostRuns members ts first sent bench exchange h0 w0 h1 w1 → 4162 ≤ sent
    → RunnerTakes members ts before after line h0 w0 h1 w1
never_taken members ts first before after bench exchange line sent h0 h1 w0 w1 runs many =
    let none : ⊥ = omega (arith, runs.few, many) in absurd none

-- ---- the next line

-- A line that was counted, and then taken.
pub next_taken : (members : List InState) (ts : List TransactionData) (before after : Runner) (number : ℕ)
    (line : List ℕ) (h0 h1 : Option (List ℕ)) (w0 w1 : List ℕ)
    → number ≡ capped (before.lines + 1) → length line ≤ most_request_line
    → RunnerTakes members ts (record before { lines = number }) after line h0 w0 h1 w1
    → NextTaken members ts before after line h0 w0 h1 w1
next_taken members ts before after number line h0 h1 w0 w1 number_is short takes = record {
  answer = takes.answer;
  said = Last line;
  said_is = IsSaid.whole short refl;
  answers = takes.answers;
  writes = subst (λ (n : ℕ). PutsText h0 w0 h1 w1 (answer_text n takes.answer)) (sym takes.lines) takes.writes;
  same = takes.same;
  lines = takes.lines ∙ number_is;
  tally = takes.tally;
  stands = takes.stands;
}

-- One that is too long.
pub next_fault : (members : List InState) (ts : List TransactionData) (before after : Runner) (number : ℕ)
    (line why : List ℕ) (h0 h1 : Option (List ℕ)) (w0 w1 : List ℕ)
    → number ≡ capped (before.lines + 1) → most_request_line < length line
    → why ≡ fault_text (Line (line_fault.TooLong most_request_line))
    → BenchStands before.bench members ts
    → after.bench ≡ before.bench → after.lines ≡ number → after.tally ≡ with_refusal before.tally
    → PutsText h0 w0 h1 w1 (numbered_text number why) → NextTaken members ts before after line h0 w0 h1 w1
next_fault members ts before after number line why h0 h1 w0 w1 number_is long why_is stands same lines_are tally_is
    writes = record {
      answer = Refusal why;
      said = TooLong;
      said_is = IsSaid.too_long long refl;
      answers = ap Refusal why_is;
      writes = subst (λ (n : ℕ). PutsText h0 w0 h1 w1 (numbered_text n why)) (sym lines_are) writes;
      same = ap (λ (b : Bench). b.profile) same;
      lines = lines_are ∙ number_is;
      tally = tally_is;
      stands = subst (λ (b : Bench). BenchStands b (all_after [] members) (ts ++ [])) (sym same)
          (subst (λ (ms : List InState). BenchStands before.bench ms (ts ++ [])) (sym (map-id members))
          (subst (λ (us : List TransactionData). BenchStands before.bench members us) (sym (append-nil ts)) stands));
    }
