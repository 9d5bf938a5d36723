-- What is kept while requests are run.
use Rattle.std.specs.Prelude.{◌≡◌, ℕ, ◌+◌, ◌<◌, ◌≤◌, Option, List, ◌++◌, length}
use Rattle.pmb_io.specs.Count.{capped}
use Rattle.pmb_io.specs.Lines.{TextLine, Last, TooLong}
use Rattle.pmb_io.specs.Outgoing.{PutsText}
use Rattle.pmb_io.specs.Tally.{with_packet, with_refusal}
use Rattle.pmb_io.specs.declared.tally.Tally.{Tally}
use Rattle.pmb_transaction.specs.Transaction.{TransactionData, Write, Read, Call, Refused, Alert, NoAlert}
use Rattle.pmb_registers.specs.State.{InState}
use Rattle.pmb_devices.specs.Runs.{all_after}
use Rattle.pmb_host.specs.declared.step.HostStep.{HostStep}
use Rattle.pmb_host.specs.declared.step.HostStep.TheVariants.{Send, Done, Failed}
use Rattle.pmb_run.specs.Answer.{RunAnswer, RunsLineWith, RunsTextWith, most_request_line, Recorded, Refusal, Nothing, answer_text}
use Rattle.pmb_run.specs.Lines.{RunsCounted, all_recorded, recorded_by}
use Rattle.pmb_run.specs.declared.runner.Runner.{Runner}
use Rattle.pmb_run.specs.machine.Bench.{BenchStands, HasRun, bench_profile}

-- a host's end is counted
abbrev pub end_counted : HostStep → Tally → Tally
end_counted (Send signal) tally = tally
end_counted (Done reply) tally = with_packet tally
end_counted (Failed why) tally = with_refusal tally

-- an answer more is counted
abbrev pub counted_transaction : TransactionData → Tally → Tally
counted_transaction (Write parts) tally = with_packet tally
counted_transaction (Read t) tally = with_packet tally
counted_transaction (Call t) tally = with_packet tally
counted_transaction (Refused t) tally = with_refusal tally
counted_transaction (Alert t) tally = with_refusal tally
counted_transaction NoAlert tally = with_refusal tally

abbrev pub counted_in : RunAnswer → Tally → Tally
counted_in (Recorded t events result) tally = counted_transaction t tally
counted_in (Refusal why) tally = with_refusal tally
counted_in Nothing tally = tally

-- A line that was counted is answered, on devices in these states, by the transactions before it; the answer is
-- put out and counted.
pub record RunnerTakes (members : List InState) (ts : List TransactionData) (before after : Runner) (line : List ℕ)
    (held_old : Option (List ℕ)) (waiting_old : List ℕ) (held_new : Option (List ℕ)) (waiting_new : List ℕ) : Type
    0 where
  pub answer : RunAnswer
  pub answers : RunsTextWith (bench_profile before.bench) ts members line answer
  pub writes : PutsText held_old waiting_old held_new waiting_new (answer_text before.lines answer)
  pub same : after.bench.profile ≡ before.bench.profile
  pub lines : after.lines ≡ before.lines
  pub tally : after.tally ≡ counted_in answer before.tally
  pub stands : BenchStands after.bench (all_after (recorded_by answer) members) (ts ++ recorded_by answer)

-- what is said of a line: one of more bytes is too long, whatever it says
pub data IsSaid (line : List ℕ) (said : TextLine) : Type 0 where
  whole : length line ≤ most_request_line → said ≡ Last line → IsSaid line said
  too_long : most_request_line < length line → said ≡ TooLong → IsSaid line said

-- The next line was counted, and is answered so.
pub record NextTaken (members : List InState) (ts : List TransactionData) (before after : Runner) (line : List ℕ)
    (held_old : Option (List ℕ)) (waiting_old : List ℕ) (held_new : Option (List ℕ)) (waiting_new : List ℕ) : Type
    0 where
  pub answer : RunAnswer
  pub said : TextLine
  pub said_is : IsSaid line said
  pub answers : RunsLineWith (bench_profile before.bench) ts members said answer
  pub writes : PutsText held_old waiting_old held_new waiting_new (answer_text after.lines answer)
  pub same : after.bench.profile ≡ before.bench.profile
  pub lines : after.lines ≡ capped (before.lines + 1)
  pub tally : after.tally ≡ counted_in answer before.tally
  pub stands : BenchStands after.bench (all_after (recorded_by answer) members) (ts ++ recorded_by answer)

-- The profile stays, and the text is the answers to the lines, which are counted; the bench stands after
-- what was recorded of them.
pub record RunnerStands (start now : Runner) (lines : List TextLine) (text : List ℕ) : Type 0 where
  pub same : now.bench.profile ≡ start.bench.profile
  pub answered : RunsCounted (bench_profile start.bench) now.tally lines text
  pub number : now.lines ≡ capped (length answered.given.answers)
  pub stands : HasRun now.bench (all_recorded answered.given.answers)
