-- A run of a host, signal by signal: for the loop of `drive`. `IsUnderWay` is its invariant: the
-- host stands after what it heard, and the wire holds just those signals. A signal of the host and
-- its answer keep it, and the end that the host tells is that of the run.
use Rattle.std.proofs.Common.{◌≡◌, ℕ, ◌+◌, ◌≤◌, ◌∙◌, Option, None, Some, Result, Ok, Err, List, [], ◌∷◌, ◌++◌, length}
use Rattle.std.proofs.Common.{refl, sym, ap, subst, arith, append_assoc, length-append}
use Rattle.std.specs.Prelude.{◌↔◌, IsOk, MatchResult}
use Rattle.std.proofs.lemmas.List.{append-nil}
use Rattle.pmb_device.specs.declared.signal.HostSignal.{HostSignal}
use Rattle.pmb_device.specs.declared.signal.HostSignal.TheVariants.{Byte, Ask}
use Rattle.pmb_device.specs.declared.signal.DeviceSignal.{DeviceSignal}
use Rattle.pmb_device.specs.declared.signal.DeviceSignal.TheVariants.{Silent}
use Rattle.pmb_devices.specs.Bus.{AnsweredSignal}
use Rattle.pmb_host.specs.declared.host.Host.{Host}
use Rattle.pmb_host.specs.declared.step.HostFault.{HostFault}
use Rattle.pmb_host.specs.declared.step.HostStep.{HostStep}
use Rattle.pmb_host.specs.declared.step.HostStep.TheVariants.{Done, Failed, Send}
use Rattle.pmb_host.specs.declared.step.Reply.{Reply}
use Rattle.pmb_host.specs.Host.{Ends, FirstSteps, HostStanding, HostStandsAt, IsDone, Job, Steps, heard_with}
use Rattle.pmb_host.specs.Steps.{Fails, GoWell, IsGood, bad_pec, no_byte, refused}
use Rattle.pmb_host.specs.Run.{Drives, GoesRight, IsRun, beginning}

-- where a host stands that has not ended
abbrev pub going : Job → List AnsweredSignal → Option HostSignal → HostStanding
going job heard last = record { job = job; heard = heard; last = last; ended = None }

-- A run is under way: so many signals were put on the wire, and the host is given the last answer
-- next.
pub record IsUnderWay (job : Job) (host : Host) (answer : DeviceSignal) (count : ℕ)
    (Before Now : List AnsweredSignal → Type 0) : Type 0 where
  -- what the host heard, without the last answer
  pub heard : List AnsweredSignal
  -- the last signal that it sent
  pub last : Option HostSignal
  pub stands : HostStandsAt host (going job heard last)
  -- on the wire is what was there before, and what the host heard
  pub put : (earlier : List AnsweredSignal) → Before earlier → Now (earlier ++ heard_with (going job heard last) answer)
  pub count_is : length (heard_with (going job heard last) answer) ≡ count
  -- at most 4,161 signals (`signals_are_few`)
  pub few : count ≤ 4161

-- ---- the first signal

pub begins : (job : Job) (host : Host) (Before : List AnsweredSignal → Type 0) → HostStandsAt host (beginning job)
    → IsUnderWay job host Silent 0 Before Before
begins job host Before stands = record {
  heard = [];
  last = None;
  stands = stands;
  put = λ earlier told. subst Before (sym (append-nil earlier)) told;
  count_is = refl;
  few = omega arith;
}

-- ---- all that went well went right

-- what stands in a list of answers that all are good
good_at : (front : List AnsweredSignal) (one : AnsweredSignal) (more : List AnsweredSignal)
    → GoWell (front ++ one ∷ more) → IsGood one.signal one.result
good_at [] one more well = well.0
good_at (x ∷ front) one more well = good_at front one more well.1

-- a run that failed did not go right
not_right : (job : Job) (heard : List AnsweredSignal) (fault : HostFault) → Fails job.profile job.task heard fault
    → GoesRight job heard → ⊥
not_right job heard fault (refused leg byte at_read is fault_is) right =
    is.not_acked (good_at is.front (record { signal = Byte is.refused; result = is.result }) _
    (subst GoWell is.stops.split right.well))
not_right job heard fault (no_byte is fault_is) right =
    let good = good_at is.front (record { signal = Ask; result = is.result }) _
    (subst GoWell is.stops.split right.well) in is.none good.0 good.1
not_right job heard fault (bad_pec is fault_is) right = is.wrong right.reply right.says

-- ---- a step

module _ (job : Job) (host : Host) (answer : DeviceSignal) (count : ℕ) (Before Now : List AnsweredSignal → Type 0)
    (way : IsUnderWay job host answer count Before Now) where
  -- all that was heard
  abbrev all : List AnsweredSignal
  all = heard_with (going job way.heard way.last) answer

  -- what the host does next, where that is known
  pub does : (step this : HostStep) (new : Host) → step ≡ this
      → ((standing : HostStanding) → HostStandsAt host standing → Steps standing answer step new)
      → FirstSteps (going job way.heard way.last) all this new
  does step this new is next = subst (λ (s : HostStep). FirstSteps (going job way.heard way.last) all s new) is
      (next (going job way.heard way.last) way.stands)

  -- a signal is put on the wire, and answered
  pub puts : (new : Host) (signal : HostSignal) (result : DeviceSignal) (Next : List AnsweredSignal → Type 0)
      → FirstSteps (going job way.heard way.last) all (Send signal) new
      → ((told : List AnsweredSignal) → Now told → Next (told ++ record { signal = signal; result = result } ∷ []))
      → IsUnderWay job new result (count + 1) Before Next
  puts new signal result Next sends put = record {
    heard = all;
    last = Some signal;
    stands = sends.stands;
    put = λ earlier told. subst Next (append_assoc earlier all (record { signal = signal; result = result } ∷ []))
        (put (earlier ++ all) (way.put earlier told));
    count_is = length-append all (record { signal = signal; result = result } ∷ []) ∙ ap (λ n. n + 1) way.count_is;
    few = let few = sends.few in let count_is = way.count_is in omega (arith, few, count_is);
  }

  run : (result : Result Reply HostFault) → (step : HostStep) → (new : Host)
      → Ends (going job way.heard way.last) all step new → (IsOk result ↔ GoesRight job all)
      → MatchResult result (IsDone (beginning job) all) (Fails job.profile job.task all) → IsRun job all result
  run result step new ends exact told = record {
    few = let few = way.few in let count_is = way.count_is in omega (arith, few, count_is);
    front = ends.front;
    last = ends.last;
    split = ends.split;
    stop = ends.stop;
    one = ends.one;
    exact = exact;
    told = told;
  }

  -- the host tells a reply
  pub is_done : (new : Host) (reply : Reply) → FirstSteps (going job way.heard way.last) all (Done reply) new
      → Drives job Before Now new (Ok reply)
  is_done new reply steps = record {
    heard = all;
    put = way.put;
    run = run (Ok reply) (Done reply) new steps.0 (
      (λ ok. record { well = steps.1.succeeds.completes.well; reply = steps.1.reply; says = steps.1.succeeds.says }),
      λ right. refl,
    )
        (record { reply = steps.1.reply; succeeds = steps.1.succeeds; told = steps.1.told });
    stands = steps.0.stands;
  }

  -- it tells a fault
  pub has_failed : (new : Host) (fault : HostFault) → FirstSteps (going job way.heard way.last) all (Failed fault) new
      → Drives job Before Now new (Err fault)
  has_failed new fault steps = record {
    heard = all;
    put = way.put;
    run = run (Err fault) (Failed fault) new steps.0
        ((λ ok. absurd (cc ok)), λ right. absurd (not_right job all fault steps.1 right)) steps.1;
    stands = steps.0.stands;
  }
