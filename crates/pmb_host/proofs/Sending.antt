-- A signal is the next one of the task while all goes well (`GoesOn`). For `Host::take`,
-- `Host::ask`, `Host::start`, `Host::send` and the other steps of a host. The signals of a task
-- are its legs, the Asks and answers of its reply, and STOP at the end alone: so there are fewer
-- than 4,161 before another one, none of them STOP, and the place in the legs or in the reply says
-- which one is next.
use Rattle.std.proofs.Common.{◌≡◌, ◌≢◌, ℕ, ◌<◌, Bool, Option, Some, None, List, [], ◌∷◌, ◌++◌, length, map, flat_map}
use Rattle.std.proofs.Common.{refl, sym, ap, subst, ◌∙◌, arith, append_assoc, length-append, suc}
use Rattle.std.specs.List.{AllByRecursion}
use Rattle.std.specs.Option.{IfSome}
use Rattle.std.proofs.lemmas.List.{append-nil, map-append}
use Rattle.std.proofs.lemmas.Grind.{flat_map-append}
use Rattle.pmb_command.specs.declared.form.Form.{Form}
use Rattle.pmb_command.specs.Wire.{wire_length}
use Rattle.pmb_device.specs.declared.signal.HostSignal.{HostSignal}
use Rattle.pmb_device.specs.declared.signal.HostSignal.TheVariants.{Start, Byte, Ask, Stop}
use Rattle.pmb_device.specs.declared.signal.DeviceSignal.{DeviceSignal}
use Rattle.pmb_devices.specs.Bus.{AnsweredSignal}
use Rattle.pmb_host.specs.declared.host.Host.{Host}
use Rattle.pmb_host.specs.Signals.{AreRead, leg_signals, legs_of, reading_signals, reply_form, reply_has_pec, signals}
use Rattle.pmb_host.specs.Steps.{GoWell, GoesOn, IsGood, bytes_read, byte_of, sent_signals}
use Rattle.pmb_host.specs.machine.Standing.{AtLeg, BehindByte, HasJob, HostStanding, HostStandsAt, InReply, IsWriting}
use Rattle.pmb_host.specs.machine.Standing.{Job, acked_asks, job_legs, with_signal}
use Rattle.pmb_host.specs.Host.{Sends, goes_on}
use Rattle.pmb_host.proofs.Reading.{reading_behind, to_be_read}

-- ---- no STOP before the last

abbrev NoStop : List HostSignal → Type 0
NoStop signals = AllByRecursion (λ signal. signal ≢ Stop) signals

both_no_stop : (xs ys : List HostSignal) → NoStop xs → NoStop ys → NoStop (xs ++ ys)
both_no_stop [] ys all more = more
both_no_stop (x ∷ xs) ys all more = (all.0, both_no_stop xs ys all.1 more)

bytes_no_stop : (bytes : List ℕ) → NoStop (map Byte bytes)
bytes_no_stop [] = tt
bytes_no_stop (b ∷ bytes) = ((λ is. cc is), bytes_no_stop bytes)

legs_no_stop : (legs : List (List ℕ)) → NoStop (flat_map leg_signals legs)
legs_no_stop [] = tt
legs_no_stop (leg ∷ legs) = (
  (λ is. cc is),
  both_no_stop (map Byte leg) (flat_map leg_signals legs) (bytes_no_stop leg)
      (legs_no_stop legs),
)

reading_no_stop : (bytes : List ℕ) → NoStop (reading_signals bytes)
reading_no_stop [] = tt
reading_no_stop (b ∷ []) = ((λ is. cc is), ((λ is. cc is), tt))
reading_no_stop (b ∷ c ∷ bytes) = ((λ is. cc is), ((λ is. cc is), reading_no_stop (c ∷ bytes)))

-- what stands before another signal of a list with one STOP, at its end
front_no_stop : (front xs : List HostSignal) (signal : HostSignal) (ys : List HostSignal) → NoStop front
    → front ++ Stop ∷ [] ≡ xs ++ signal ∷ ys → NoStop xs
front_no_stop front [] signal ys all same = tt
front_no_stop [] (x ∷ []) signal ys all same = absurd (cc same)
front_no_stop [] (x ∷ z ∷ xs) signal ys all same = absurd (cc same)
front_no_stop (f ∷ front) (x ∷ xs) signal ys all same =
    let head : f ≡ x = cc same in ((λ is. all.0 (head ∙ is)), front_no_stop front xs signal ys all.1 (cc same))

heard_no_stop : (heard : List AnsweredSignal) → NoStop (sent_signals heard)
    → AllByRecursion (λ one. one.signal ≢ Stop) heard
heard_no_stop [] all = tt
heard_no_stop (one ∷ heard) all = (all.0, heard_no_stop heard all.1)

pub as_many_sent : (heard : List AnsweredSignal) → length (sent_signals heard) ≡ length heard
as_many_sent [] = refl
as_many_sent (one ∷ heard) = ap suc (as_many_sent heard)

module _ (job : Job) (heard : List AnsweredSignal) (signal : HostSignal)
    (next : GoesOn job.profile job.task heard signal) where
  pub no_stop_before : AllByRecursion (λ one. one.signal ≢ Stop) heard
  no_stop_before =
      let bytes = bytes_read heard ++ next.to_read in
      let legs = legs_of job.profile job.task in
      heard_no_stop heard (front_no_stop (flat_map leg_signals legs ++ reading_signals bytes)
      (sent_signals heard) signal next.behind
      (both_no_stop (flat_map leg_signals legs) (reading_signals bytes) (legs_no_stop legs) (reading_no_stop bytes))
      (append_assoc (flat_map leg_signals legs) (reading_signals bytes) (Stop ∷ []) ∙ next.spelled))

  pub few_before : (host : Host) → HasJob host job → length heard < 4161
  few_before host has =
      let most = has.few (bytes_read heard ++ next.to_read) next.all in
      let same = ap length next.spelled in
      let split = length-append (sent_signals heard) (signal ∷ next.behind) in
      let as_many = as_many_sent heard in
      omega (arith, most, same, split, as_many)

-- the signal is sent
pub sends : (standing : HostStanding) (heard : List AnsweredSignal) (signal : HostSignal) (host new : Host)
    → HasJob host standing.job
    → GoesOn standing.job.profile standing.job.task heard signal
    → HostStandsAt new (record { job = standing.job; heard = heard; last = Some signal; ended = None })
    → Sends standing heard signal new
sends standing heard signal host new has next stands = record {
  next = goes_on next;
  few = few_before standing.job heard signal next host has;
  no_stop = no_stop_before standing.job heard signal next;
  stands = stands;
}

-- ---- one signal more

pub sent_more : (heard : List AnsweredSignal) (signal : HostSignal) (result : DeviceSignal)
    → sent_signals (with_signal heard signal result) ≡ sent_signals heard ++ signal ∷ []
sent_more heard signal result = map-append (λ (one : AnsweredSignal). one.signal) heard
    (record { signal = signal; result = result } ∷ [])

pub read_more : (heard : List AnsweredSignal) (signal : HostSignal) (result : DeviceSignal)
    → bytes_read (with_signal heard signal result) ≡ bytes_read heard ++ byte_of signal result
read_more heard signal result =
    flat_map-append (λ (one : AnsweredSignal). byte_of one.signal one.result) heard
    (record { signal = signal; result = result } ∷ [])
    ∙ ap (λ (bs : List ℕ). bytes_read heard ++ bs) (append-nil (byte_of signal result))

pub well_more : (heard : List AnsweredSignal) (signal : HostSignal) (result : DeviceSignal) → GoWell heard
    → IsGood signal result → GoWell (with_signal heard signal result)
well_more [] signal result well good = (good, tt)
well_more (one ∷ heard) signal result well good = (well.0, well_more heard signal result well.1 good)

-- ---- in the legs

split_legs : (before : List (List ℕ)) (bytes : List ℕ) (byte : ℕ) (rest : List ℕ) (behind : List (List ℕ))
    (tail : List HostSignal)
    → flat_map leg_signals (before ++ (bytes ++ byte ∷ rest) ∷ behind) ++ tail
    ≡ (flat_map leg_signals before ++ leg_signals bytes) ++ Byte byte
    ∷ (map Byte rest ++ (flat_map leg_signals behind ++ tail))
split_legs before bytes byte rest behind tail =
    simp (flat_map-append leg_signals before, map-append Byte bytes (byte ∷ rest), append_assoc) refl

split_at : (before : List (List ℕ)) (leg : List ℕ) (behind : List (List ℕ)) (tail : List HostSignal)
    → flat_map leg_signals (before ++ leg ∷ behind) ++ tail ≡ flat_map leg_signals before ++ Start
    ∷ (map Byte leg ++ (flat_map leg_signals behind ++ tail))
split_at before leg behind tail = simp (flat_map-append leg_signals before, append_assoc) refl

-- some bytes are all that is read
pub some_read : (form : Option Form) (with_pec : Bool) → IfSome form (λ form. 0 < wire_length form [])
    → (bytes : List ℕ) × AreRead form with_pec bytes
some_read None with_pec some = ([], refl)
some_read (Some form) with_pec some =
    let more = to_be_read form with_pec [] tt (omega (arith, some)) in
    (more.0 ∷ more.1, more.2)

-- all went well, and of the bytes that are read there was none: these come next
pub next_written : (host : Host) (job : Job) (heard : List AnsweredSignal) (signal : HostSignal)
    → IsWriting host job heard
    → (behind : List HostSignal → List HostSignal)
    → ((tail : List HostSignal) → flat_map leg_signals (job_legs job) ++ tail ≡ sent_signals heard ++ signal
    ∷ behind tail)
    → GoesOn job.profile job.task heard signal
next_written host job heard signal writing behind spelled =
    let to_read = some_read (reply_form job.profile job.task) (reply_has_pec job.task) writing.job_is.some in
    let front : bytes_read heard ++ to_read.0 ≡ to_read.0 = ap (λ (bs : List ℕ). bs ++ to_read.0) writing.nothing in
    record {
      well = writing.well;
      to_read = to_read.0;
      all = subst (AreRead (reply_form job.profile job.task) (reply_has_pec job.task)) (sym front) to_read.1;
      behind = behind (reading_signals to_read.0 ++ Stop ∷ []);
      spelled = ap (signals (job_legs job)) front ∙ spelled (reading_signals to_read.0 ++ Stop ∷ []);
    }

pub next_byte : (host : Host) (job : Job) (heard : List AnsweredSignal) (byte : ℕ) → BehindByte host job heard byte
    → GoesOn job.profile job.task heard (Byte byte)
next_byte host job heard byte at =
    let inside = at.inside in
    next_written host job heard (Byte byte) inside.writing
    (λ tail. map Byte at.rest ++ (flat_map leg_signals inside.behind ++ tail)) (λ tail.
    ap (λ (legs : List (List ℕ)). flat_map leg_signals legs ++ tail) inside.legs_are
    ∙ ap (λ (more : List ℕ). flat_map leg_signals (inside.before ++ (inside.bytes ++ more) ∷ inside.behind) ++ tail)
    at.next
    ∙ split_legs inside.before inside.bytes byte at.rest inside.behind tail
    ∙ ap (λ (sent : List HostSignal). sent ++ Byte byte
    ∷ (map Byte at.rest ++ (flat_map leg_signals inside.behind ++ tail))) (sym inside.sent_is))

pub next_start : (host : Host) (job : Job) (heard : List AnsweredSignal) → AtLeg host job heard
    → GoesOn job.profile job.task heard Start
next_start host job heard at =
    next_written host job heard Start at.writing (λ tail. map Byte at.leg ++ (flat_map leg_signals at.behind ++ tail))
    (λ tail.
    ap (λ (legs : List (List ℕ)). flat_map leg_signals legs ++ tail) at.legs_are
    ∙ split_at at.before at.leg at.behind tail
    ∙ ap (λ (sent : List HostSignal). sent ++ Start ∷ (map Byte at.leg ++ (flat_map leg_signals at.behind ++ tail)))
    (sym at.sent_is))

-- ---- in the reply

pub next_ask : (host : Host) (job : Job) (heard : List AnsweredSignal) → InReply host job heard
    → GoesOn job.profile job.task heard Ask
next_ask host job heard at =
    let short = at.short in
    let more = to_be_read short.of (reply_has_pec job.task) (bytes_read heard) short.small short.less in
    let reading = reading_behind (bytes_read heard) more.0 more.1 in
    let legs = flat_map leg_signals (job_legs job) in record {
      well = at.well;
      to_read = more.0 ∷ more.1;
      all = subst (λ (form : Option Form). AreRead form (reply_has_pec job.task) (bytes_read heard ++ more.0 ∷ more.1))
          (sym short.form_is) more.2;
      behind = reading.0 ++ Stop ∷ [];
      spelled = ap (λ (xs : List HostSignal). legs ++ (xs ++ Stop ∷ [])) reading.1
          ∙ ap (λ (xs : List HostSignal). legs ++ xs)
          (append_assoc (acked_asks (bytes_read heard)) (Ask ∷ reading.0) (Stop ∷ []))
          ∙ sym (append_assoc legs (acked_asks (bytes_read heard)) (Ask ∷ (reading.0 ++ Stop ∷ [])))
          ∙ ap (λ (xs : List HostSignal). xs ++ Ask ∷ (reading.0 ++ Stop ∷ [])) (sym at.sent_is);
    }
