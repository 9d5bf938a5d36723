-- What the fields of a host say of what it heard.
--
-- A host waits for an answer in each phase but `Start` and the told `End`. Where the answer doesn't matter
-- (to START, ACK, NACK and STOP) its phase says what holds with any answer; to a byte and an Ask it
-- says what was sent, and the answer decides. So each step is one signal more at the end of `heard`:
-- `AtLeg` (START comes next), `InLeg` (a byte), `InReply` (an Ask), `IsRead` (NACK), `AtStop` (STOP),
-- `EndsSo` (the end).
use Rattle.std.specs.Prelude.{◌≡◌, ◌≢◌, ℕ, ◌+◌, ◌<◌, ◌≤◌, ◌⊎◌, Bool, true, if◌then◌else◌, Option, Some, None, is_some}
use Rattle.std.specs.Prelude.{IfSome, List, [], ◌∷◌, ◌++◌, length, flat_map}
use Rattle.std.specs.List.{AllByRecursion}
use Rattle.pmb_bus.specs.Pec.{pec}
use Rattle.pmb_command.specs.declared.form.Form.{Form}
use Rattle.pmb_command.specs.Bus.{IsBus}
use Rattle.pmb_command.specs.Wire.{AreByteValues, wire_length}
use Rattle.pmb_transaction.specs.Transaction.{TransactionData, Write, Read, Call, Refused, Alert, NoAlert}
use Rattle.pmb_transaction.specs.Transaction.{transaction_data}
use Rattle.pmb_device.specs.declared.signal.HostSignal.{HostSignal}
use Rattle.pmb_device.specs.declared.signal.HostSignal.TheVariants.{Byte, Ask, Ack, Nack, Stop}
use Rattle.pmb_device.specs.declared.signal.DeviceSignal.{DeviceSignal}
use Rattle.pmb_device.specs.declared.signal.DeviceSignal.TheVariants as answers
use Rattle.pmb_devices.specs.Bus.{AnsweredSignal}
use Rattle.pmb_host.specs.declared.host.Host.{Host}
use Rattle.pmb_host.specs.declared.host.HostPhase.{HostPhase}
use Rattle.pmb_host.specs.declared.host.HostPhase.TheVariants as phases
use Rattle.pmb_value.specs.declared.number_format.NumberFormat.{NumberFormat}
use Rattle.pmb_host.specs.declared.step.HostFault.{HostFault}
use Rattle.pmb_host.specs.declared.step.HostFault.TheVariants.{BadPec}
use Rattle.pmb_host.specs.declared.step.HostStep.{HostStep}
use Rattle.pmb_host.specs.declared.step.HostStep.TheVariants.{Done, Failed}
use Rattle.pmb_host.specs.declared.step.Reply.{Reply}
use Rattle.pmb_host.specs.declared.step.Reply.TheVariants.{Written}
use Rattle.pmb_host.specs.declared.reply.Incoming.{Incoming}
use Rattle.pmb_host.specs.Signals.{AreRead, leg_form, leg_signals, legs_of, reply_form, reply_has_pec, signals}
use Rattle.pmb_host.specs.Steps.{Completes, Fails, GivesUp, GoWell, GoesOn, SaysReply, bytes_read, reply_data}
use Rattle.pmb_host.specs.Steps.{sent_signals}
use Rattle.pmb_host.specs.machine.Replies.{Holds, told_data}
pub use Rattle.pmb_host.specs.Standing.{HostStanding, IsAsked, Job, answered}

-- a signal at the end, with the answer to it
abbrev pub with_signal : List AnsweredSignal → HostSignal → DeviceSignal → List AnsweredSignal
with_signal heard signal result = heard ++ record { signal = signal; result = result } ∷ []

-- ---- the job

-- addresses have seven bits
abbrev pub AreAddresses : TransactionData → Type 0
AreAddresses (Write parts) = AllByRecursion (λ part. part.addr < 128) parts
AreAddresses (Read t) = t.addr < 128
AreAddresses (Call t) = t.addr < 128
AreAddresses (Refused t) = ⊥
AreAddresses (Alert t) = ⊥
AreAddresses NoAlert = ⊥

-- A host has it. No run of it is longer than 4,161 signals, and a reply has a first byte.
pub record HasJob (host : Host) (job : Job) : Type 0 where
  pub profile_is : host.profile.now ≡ job.profile
  pub task_is : transaction_data host.transaction ≡ job.task
  pub number_is : host.number ≡ job.number
  pub accepted : IsBus job.profile
  pub asked : IsAsked job
  pub few : (bytes : List ℕ) → AreRead (reply_form job.profile job.task) (reply_has_pec job.task) bytes
      → length (signals (legs_of job.profile job.task) bytes) ≤ 4161
  pub addresses : AreAddresses job.task
  pub few_legs : length (legs_of job.profile job.task) ≤ 16
  pub some : IfSome (reply_form job.profile job.task) (λ form. 0 < wire_length form [])

-- the bytes of its legs
abbrev pub job_legs : Job → List (List ℕ)
job_legs job = legs_of job.profile job.task

-- The reply that is to come is of this form, with a packet error code or without, and these bytes came.
abbrev pub IsIncoming : Option Incoming → Option Form → Bool → List ℕ → Type 0
IsIncoming None None with_pec bytes = Unit {0}
IsIncoming None (Some form) with_pec bytes = ⊥
IsIncoming (Some reply) None with_pec bytes = ⊥
IsIncoming (Some reply) (Some form) with_pec bytes = (reply.form ≡ form) × (reply.pec ≡ with_pec)
    × (reply.bytes.items ≡ bytes)

abbrev pub HasRead : Host → Job → List ℕ → Type 0
HasRead host job bytes = IsIncoming host.reply (reply_form job.profile job.task) (reply_has_pec job.task) bytes

-- ---- in the legs

-- Nothing failed, and nothing was read.
pub record IsWriting (host : Host) (job : Job) (heard : List AnsweredSignal) : Type 0 where
  pub job_is : HasJob host job
  pub well : GoWell heard
  pub nothing : bytes_read heard ≡ []
  pub empty : HasRead host job []
  pub not_failed : host.fault ≡ None

-- Some legs were sent, and this one comes next. To read, the packet error code runs through all legs.
pub record AtLeg (host : Host) (job : Job) (heard : List AnsweredSignal) : Type 0 where
  pub writing : IsWriting host job heard
  pub before : List (List ℕ)
  pub leg : List ℕ
  pub behind : List (List ℕ)
  pub legs_are : job_legs job ≡ before ++ leg ∷ behind
  pub leg_is : host.leg ≡ length before
  pub sent_is : sent_signals heard ≡ flat_map leg_signals before
  pub crc_is : is_some host.reply ≡ true → host.crc ≡ pec (flat_map (λ bytes. bytes) before)

-- the bytes that the packet error code covers: in a part those of its leg, in a read or a call those
-- of the legs before too
abbrev pub covered : Option Incoming → List (List ℕ) → List ℕ → List ℕ
covered None before bytes = bytes
covered (Some reply) before bytes = flat_map (λ leg. leg) before ++ bytes

-- Some legs were sent, and of the next one these bytes.
pub record InLeg (host : Host) (job : Job) (heard : List AnsweredSignal) : Type 0 where
  pub writing : IsWriting host job heard
  pub before : List (List ℕ)
  pub bytes : List ℕ
  pub more : List ℕ
  pub behind : List (List ℕ)
  pub legs_are : job_legs job ≡ before ++ (bytes ++ more) ∷ behind
  pub leg_is : host.leg ≡ length before + 1
  pub place_is : host.place ≡ length bytes
  pub form_is : host.form ≡ leg_form job.profile job.task (length before)
  pub sent_is : sent_signals heard ≡ flat_map leg_signals before ++ leg_signals bytes
  pub crc_is : host.crc ≡ pec (covered host.reply before bytes)

-- .. with this byte next
pub record BehindByte (host : Host) (job : Job) (heard : List AnsweredSignal) (byte : ℕ) : Type 0 where
  pub inside : InLeg host job heard
  pub rest : List ℕ
  pub next : inside.more ≡ byte ∷ rest

-- .. or all of it
pub record IsLegSent (host : Host) (job : Job) (heard : List AnsweredSignal) : Type 0 where
  pub inside : InLeg host job heard
  pub none : inside.more ≡ []

-- A byte of a leg was sent, and its answer is to come.
pub record IsSent (host : Host) (job : Job) (heard : List AnsweredSignal) (last : Option HostSignal) : Type 0 where
  pub byte : ℕ
  pub last_is : last ≡ Some (Byte byte)
  pub next : GoesOn job.profile job.task heard (Byte byte)
  pub acked : InLeg host job (with_signal heard (Byte byte) answers.Ack)
  pub before : List (List ℕ)
  pub bytes : List ℕ
  pub leg_is : host.leg ≡ length before + 1
  pub place_is : host.place ≡ length bytes + 1
  pub sent_is : sent_signals heard ≡ flat_map leg_signals before ++ leg_signals bytes

-- ---- in the reply

-- an Ask and its ACK for each byte
abbrev pub acked_asks : List ℕ → List HostSignal
acked_asks bytes = flat_map (λ b. Ask ∷ Ack ∷ []) bytes

-- Fewer bytes of a reply were read than there are.
pub record IsShort (form : Option Form) (with_pec : Bool) (bytes : List ℕ) : Type 0 where
  pub of : Form
  pub form_is : form ≡ Some of
  pub small : AreByteValues bytes
  pub less : length bytes < wire_length of bytes + (if with_pec then 1 else 0)

-- All legs were sent, and there is more to be read.
pub record InReply (host : Host) (job : Job) (heard : List AnsweredSignal) : Type 0 where
  pub job_is : HasJob host job
  pub well : GoWell heard
  pub read : HasRead host job (bytes_read heard)
  pub not_failed : host.fault ≡ None
  pub short : IsShort (reply_form job.profile job.task) (reply_has_pec job.task) (bytes_read heard)
  pub sent_is : sent_signals heard ≡ flat_map leg_signals (job_legs job) ++ acked_asks (bytes_read heard)
  pub crc_is : host.crc ≡ pec (flat_map (λ leg. leg) (job_legs job) ++ bytes_read heard)

-- By the fault that is kept the bytes say a reply, or none for a wrong packet error code.
abbrev pub IsSaid : Option HostFault → Job → List ℕ → Type 0
IsSaid None job bytes = (content : List ℕ) × SaysReply job.profile job.task content bytes
IsSaid (Some fault) job bytes = (fault ≡ BadPec) × ((content : List ℕ) → SaysReply job.profile job.task content bytes
    → ⊥)

-- All was read, and NACK comes next.
pub record IsRead (host : Host) (job : Job) (heard : List AnsweredSignal) : Type 0 where
  pub job_is : HasJob host job
  pub well : GoWell heard
  pub read : HasRead host job (bytes_read heard)
  pub all : AreRead (reply_form job.profile job.task) (reply_has_pec job.task) (bytes_read heard)
  pub sent_is : signals (job_legs job) (bytes_read heard) ≡ sent_signals heard ++ Nack ∷ Stop ∷ []
  pub said : IsSaid host.fault job (bytes_read heard)

-- ---- the end

-- How it ended, and that the fault which is kept says so.
abbrev pub EndsSo : Option Incoming → Option HostFault → Job → List AnsweredSignal → Type 0
EndsSo reply None job heard =
    IsIncoming reply (reply_form job.profile job.task) (reply_has_pec job.task) (bytes_read heard)
    × Completes job.profile job.task heard
    × ((content : List ℕ) × SaysReply job.profile job.task content (bytes_read heard))
EndsSo reply (Some fault) job heard = Fails job.profile job.task heard fault

-- STOP comes next, and whatever is answered, the end is known.
pub record AtStop (host : Host) (job : Job) (heard : List AnsweredSignal) : Type 0 where
  pub job_is : HasJob host job
  pub next : GoesOn job.profile job.task heard Stop ⊎ GivesUp job.profile job.task heard Stop
  pub few : length heard < 4161
  pub no_stop : AllByRecursion (λ one. one.signal ≢ Stop) heard
  pub ends : (result : DeviceSignal) → EndsSo host.reply host.fault job (with_signal heard Stop result)

-- STOP was sent, and it ended so.
pub record AtEnd (host : Host) (job : Job) (heard : List AnsweredSignal) : Type 0 where
  pub job_is : HasJob host job
  pub front : List AnsweredSignal
  pub result : DeviceSignal
  pub split : heard ≡ with_signal front Stop result
  pub one : AllByRecursion (λ one. one.signal ≢ Stop) front
  pub ends : EndsSo host.reply host.fault job heard

-- What is told in the end, by the fault that is kept, or by the data of the reply.
abbrev pub IsToldOf : Option HostFault → Option Incoming → Option NumberFormat → HostStep → Type 0
IsToldOf None None number step = step ≡ Done Written
IsToldOf None (Some reply) number step =
    (content : List ℕ) → Holds reply.form content reply.bytes.items
    → (answer : Reply) × (step ≡ Done answer) × (reply_data answer ≡ told_data number content)
IsToldOf (Some fault) reply number step = step ≡ Failed fault

abbrev pub Tells : Host → HostStep → Type 0
Tells host step = IsToldOf host.fault host.reply host.number step

-- ---- phases

module _ (host : Host) (standing : HostStanding) where
  -- With any answer to the last signal this holds.
  abbrev pub Behind : (Host → Job → List AnsweredSignal → Type 0) → Type 0
  Behind Holds = (result : DeviceSignal) → Holds host standing.job (standing.heard ++ answered standing.last result)

  abbrev pub InEnd : Option HostStep → Type 0
  InEnd None = Behind AtEnd
  InEnd (Some step) = AtEnd host standing.job standing.heard × Tells host step

  abbrev pub InPhase : HostPhase → Type 0
  InPhase phases.Start = (standing.ended ≡ None) × Behind AtLeg
  InPhase phases.Address = (standing.ended ≡ None) × Behind InLeg
  InPhase phases.Byte = (standing.ended ≡ None) × IsSent host standing.job standing.heard standing.last
  InPhase phases.Ask = (standing.ended ≡ None) × Behind InReply
  InPhase phases.Given =
      (standing.ended ≡ None) × (standing.last ≡ Some Ask) × InReply host standing.job standing.heard
  InPhase phases.Stop = (standing.ended ≡ None) × Behind AtStop
  InPhase phases.End = InEnd standing.ended

-- A host of this job stands there.
abbrev pub HostStandsAt : Host → HostStanding → Type 0
HostStandsAt host standing = InPhase host standing host.phase
