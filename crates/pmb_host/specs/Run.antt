-- A whole run of a host, from its first signal to its end.
use Rattle.std.specs.Prelude.{◌≡◌, ◌≢◌, ◌≤◌, ◌↔◌, ℕ, IsOk, MatchResult, Result, Ok, Err, None, Some, List, [], ◌∷◌}
use Rattle.std.specs.Prelude.{◌++◌, length}
use Rattle.std.specs.List.{AllByRecursion}
use Rattle.pmb_device.specs.declared.signal.HostSignal.TheVariants.{Stop}
use Rattle.pmb_devices.specs.Bus.{AnsweredSignal}
use Rattle.pmb_host.specs.declared.host.Host.{Host}
use Rattle.pmb_host.specs.declared.step.HostFault.{HostFault}
use Rattle.pmb_host.specs.declared.step.HostStep.{HostStep}
use Rattle.pmb_host.specs.declared.step.HostStep.TheVariants.{Done, Failed}
use Rattle.pmb_host.specs.declared.step.Reply.{Reply}
use Rattle.pmb_host.specs.Host.{HostStanding, HostStandsAt, IsDone, Job}
use Rattle.pmb_host.specs.Steps.{Fails, GoWell, SaysReply, bytes_read}

-- where a host of a job stands that was not asked for a step yet
abbrev pub beginning : Job → HostStanding
beginning job = record { job = job; heard = []; last = None; ended = None }

-- the step that tells how it ended
abbrev pub last_step : Result Reply HostFault → HostStep
last_step (Ok answer) = Done answer
last_step (Err fault) = Failed fault

-- Each byte was acknowledged, each Ask given a byte, and the bytes that were read say a reply, with
-- the right packet error code where one was asked for.
pub record GoesRight (job : Job) (heard : List AnsweredSignal) : Type 0 where
  pub well : GoWell heard
  pub reply : List ℕ
  pub says : SaysReply job.profile job.task reply (bytes_read heard)

-- The signals of a run are these, and it ended so: there are at most 4,161, the last of them STOP,
-- the only one. It succeeds exactly where all went right, and then tells the reply of the request's
-- packet.
pub record IsRun (job : Job) (heard : List AnsweredSignal) (result : Result Reply HostFault) : Type 0 where
  pub few : length heard ≤ 4161
  pub front : List AnsweredSignal
  pub last : AnsweredSignal
  pub split : heard ≡ front ++ last ∷ []
  pub stop : last.signal ≡ Stop
  pub one : AllByRecursion (λ one. one.signal ≢ Stop) front
  pub exact : IsOk result ↔ GoesRight job heard
  pub told : MatchResult result (IsDone (beginning job) heard) (Fails job.profile job.task heard)

-- A host made a run on a wire, and has ended: a wire that stood at some signals stands at these
-- after them.
pub record Drives (job : Job) (Before After : List AnsweredSignal → Type 0) (new : Host)
    (result : Result Reply HostFault) : Type 0 where
  pub heard : List AnsweredSignal
  pub put : (earlier : List AnsweredSignal) → Before earlier → After (earlier ++ heard)
  pub run : IsRun job heard result
  pub stands : HostStandsAt new (record { job = job; heard = heard; last = None; ended = Some (last_step result) })
