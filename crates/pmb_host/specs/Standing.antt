-- What a host was made for, and what it went through.
use Rattle.std.specs.Prelude.{◌≡◌, ℕ, Option, Some, None, List, [], ◌∷◌}
use Rattle.pmb_command.specs.Parts.{DeviceParts}
use Rattle.pmb_transaction.specs.Transaction.{TransactionData}
use Rattle.pmb_device.specs.declared.signal.HostSignal.{HostSignal}
use Rattle.pmb_device.specs.declared.signal.DeviceSignal.{DeviceSignal}
use Rattle.pmb_devices.specs.Bus.{AnsweredSignal}
use Rattle.pmb_request.specs.Request.{RequestData}
use Rattle.pmb_value.specs.declared.number_format.NumberFormat.{NumberFormat}
use Rattle.pmb_host.specs.declared.step.HostStep.{HostStep}
use Rattle.pmb_host.specs.Rules.{IsAllowed}
use Rattle.pmb_host.specs.Task.{task_of}

-- What a host is to do under a profile: a transaction, its reply still empty, and the format in which
-- that is told as a quantity.
pub record Job : Type 0 where
  pub profile : List DeviceParts
  pub task : TransactionData
  pub number : Option NumberFormat

-- The signals that it sent with the answers to them, the last one, whose answer is to come, and the last
-- step, where that was told.
pub record HostStanding : Type 0 where
  pub job : Job
  pub heard : List AnsweredSignal
  pub last : Option HostSignal
  pub ended : Option HostStep

-- the last signal with its answer
abbrev pub answered : Option HostSignal → DeviceSignal → List AnsweredSignal
answered None result = []
answered (Some signal) result = record { signal = signal; result = result } ∷ []

-- It is that of a request which is allowed.
pub record IsAsked (job : Job) : Type 0 where
  pub request : RequestData
  pub word : ℕ
  pub task_is : job.task ≡ task_of request word
  pub allowed : IsAllowed job.profile request word job.number
