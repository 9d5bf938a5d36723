-- Where a host stands, and what its next step is.
--
-- `HostStandsAt host standing` says where a host stands. What this says of its fields is in
-- `machine`, and nothing here needs it to be understood.
use Rattle.std.specs.Prelude.{◌≡◌, ◌≢◌, ℕ, ◌<◌, Option, Some, None, MatchOption, List, [], ◌∷◌, ◌++◌, length}
use Rattle.std.specs.List.{AllByRecursion}
use Rattle.pmb_command.specs.Parts.{DeviceParts}
use Rattle.pmb_device.specs.declared.signal.HostSignal.{HostSignal}
use Rattle.pmb_device.specs.declared.signal.HostSignal.TheVariants.{Stop}
use Rattle.pmb_device.specs.declared.signal.DeviceSignal.{DeviceSignal}
use Rattle.pmb_devices.specs.Bus.{AnsweredSignal}
use Rattle.pmb_host.specs.declared.host.Host.{Host}
use Rattle.pmb_value.specs.declared.number_format.NumberFormat.{NumberFormat}
use Rattle.pmb_host.specs.declared.step.HostStep.{HostStep}
use Rattle.pmb_host.specs.declared.step.HostStep.TheVariants.{Send, Done, Failed}
use Rattle.pmb_host.specs.declared.step.Reply.{Reply}
use Rattle.pmb_request.specs.Request.{RequestData}
use Rattle.pmb_host.specs.Task.{task_of}
use Rattle.pmb_host.specs.Rules.{IsAllowed}
use Rattle.pmb_host.specs.Steps.{Fails, GivesUp, GoesOn, IsTold, Succeeds, reply_data}
pub use Rattle.pmb_host.specs.machine.Standing.{HostStandsAt}
pub use Rattle.pmb_host.specs.Standing.{HostStanding, Job, answered}

-- A host that was made for a request, and was not asked for a step. The word is the one that a Set
-- writes; for other requests it means nothing.
pub record IsNewHost (profile : List DeviceParts) (request : RequestData) (host : Host) : Type 0 where
  pub word : ℕ
  pub number : Option NumberFormat
  pub allowed : IsAllowed profile request word number
  pub stands : HostStandsAt host (record {
    job =
        record { profile = profile; task = task_of request word; number = number };
    heard = [];
    last = None;
    ended =
        None;
  })

-- what was heard, with the answer to the last signal
abbrev pub heard_with : HostStanding → DeviceSignal → List AnsweredSignal
heard_with standing result = standing.heard ++ answered standing.last result

-- The next signal: that of the transaction while all goes well, or STOP after the first that does
-- not.
pub data IsNext (job : Job) (heard : List AnsweredSignal) (signal : HostSignal) : Type 0 where
  goes_on : GoesOn job.profile job.task heard signal → IsNext job heard signal
  gives_up : GivesUp job.profile job.task heard signal → IsNext job heard signal

-- It is sent: there are at most 4,161, and none after STOP.
pub record Sends (standing : HostStanding) (heard : List AnsweredSignal) (signal : HostSignal)
    (new : Host) : Type 0 where
  pub next : IsNext standing.job heard signal
  pub few : length heard < 4161
  pub no_stop : AllByRecursion (λ one. one.signal ≢ Stop) heard
  pub stands : HostStandsAt new (record { job = standing.job; heard = heard; last = Some signal; ended = None })

-- The end is told, and will be told again.
pub record Ends (standing : HostStanding) (heard : List AnsweredSignal) (step : HostStep) (new : Host) : Type 0 where
  pub front : List AnsweredSignal
  pub last : AnsweredSignal
  pub split : heard ≡ front ++ last ∷ []
  pub stop : last.signal ≡ Stop
  pub one : AllByRecursion (λ one. one.signal ≢ Stop) front
  pub stands : HostStandsAt new (record { job = standing.job; heard = heard; last = None; ended = Some step })

pub record IsDone (standing : HostStanding) (heard : List AnsweredSignal) (answer : Reply) : Type 0 where
  pub reply : List ℕ
  pub succeeds : Succeeds standing.job.profile standing.job.task heard reply
  pub told : IsTold standing.job.profile standing.job.task standing.job.number reply (reply_data answer)

-- what a step is where none told the end before
abbrev pub FirstSteps : HostStanding → List AnsweredSignal → HostStep → Host → Type 0
FirstSteps standing heard (Send signal) new = Sends standing heard signal new
FirstSteps standing heard (Done answer) new = Ends standing heard (Done answer) new × IsDone standing heard answer
FirstSteps standing heard (Failed fault) new = Ends standing heard (Failed fault) new
    × Fails standing.job.profile standing.job.task heard fault

-- What a step is, after the answer to the signal before. After the last one it is that one for
-- ever.
abbrev pub Steps : HostStanding → DeviceSignal → HostStep → Host → Type 0
Steps standing result step new =
    MatchOption standing.ended (FirstSteps standing (heard_with standing result) step new)
    (λ last. (step ≡ last) × HostStandsAt new standing)
