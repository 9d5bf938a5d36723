-- STOP comes next after what did not go well: a byte that was not acknowledged, or an Ask to which
-- no byte was given. For `Host::heard_of_byte` and `Host::heard_of_ask`. The signal that failed
-- was not STOP, so there is room for STOP, and the fault says its place: leg and byte.
use Rattle.std.proofs.Common.{◌≡◌, ◌≢◌, ℕ, ◌+◌, ◌-◌, ◌<◌, inr, Bool, ◌&&◌, Option, Some, None, is_some, List, [], ◌∷◌}
use Rattle.std.proofs.Common.{◌++◌, length, flat_map, refl, ap, ◌∙◌, arith, append_assoc, length-append}
use Rattle.std.specs.Prelude.{nat_eq}
use Rattle.std.specs.List.{AllByRecursion}
use Rattle.pmb_command.specs.declared.form.Form.{Form}
use Rattle.pmb_device.specs.declared.signal.HostSignal.{HostSignal}
use Rattle.pmb_device.specs.declared.signal.HostSignal.TheVariants.{Byte, Ask, Stop}
use Rattle.pmb_device.specs.declared.signal.DeviceSignal.{DeviceSignal}
use Rattle.pmb_device.specs.declared.signal.DeviceSignal.TheVariants as answers
use Rattle.pmb_devices.specs.Bus.{AnsweredSignal}
use Rattle.pmb_host.specs.declared.host.Host.{Host}
use Rattle.pmb_host.specs.declared.reply.Incoming.{Incoming}
use Rattle.pmb_host.specs.declared.step.HostFault.TheVariants.{Refused, NoByte}
use Rattle.pmb_host.specs.Signals.{leg_signals, reading_signals, reply_form, reply_has_pec}
use Rattle.pmb_host.specs.Steps.{GoesOn, IsGood, StopsBehind, bytes_read, no_byte, refused, sent_signals}
use Rattle.pmb_host.specs.machine.Standing.{AtStop, EndsSo, HasJob, InReply, IsIncoming, IsSent, Job, job_legs}
use Rattle.pmb_host.specs.machine.Standing.{with_signal}
use Rattle.pmb_host.proofs.Sending.{as_many_sent, next_ask, no_stop_before}
use Rattle.pmb_host.proofs.Behind.{job_stays}

-- ---- after what did not go well

-- a signal in the place of STOP is STOP
last_is_stop : (front xs : List HostSignal) (signal : HostSignal) → front ++ Stop ∷ [] ≡ xs ++ signal ∷ []
    → signal ≡ Stop
last_is_stop [] [] signal same = cc same
last_is_stop [] (x ∷ []) signal same = absurd (cc same)
last_is_stop [] (x ∷ y ∷ xs) signal same = absurd (cc same)
last_is_stop (f ∷ []) [] signal same = absurd (cc same)
last_is_stop (f ∷ g ∷ front) [] signal same = absurd (cc same)
last_is_stop (f ∷ front) (x ∷ xs) signal same = last_is_stop front xs signal (cc same)

module _ (host : Host) (job : Job) (heard : List AnsweredSignal) (signal : HostSignal)
    (next : GoesOn job.profile job.task heard signal) (has : HasJob host job) (other : signal ≢ Stop) where
  -- one signal more is not too many
  few_behind : (behind : List HostSignal) → next.behind ≡ behind → length heard + 1 < 4161
  -- the signal would be the last one of the task, which is STOP
  few_behind [] is =
      let bytes = bytes_read heard ++ next.to_read in
      absurd (other (last_is_stop (flat_map leg_signals (job_legs job) ++ reading_signals bytes)
      (sent_signals heard) signal
      (append_assoc (flat_map leg_signals (job_legs job)) (reading_signals bytes) (Stop ∷ []) ∙ next.spelled
      ∙ ap (λ (xs : List HostSignal). sent_signals heard ++ signal ∷ xs) is)))
  -- a signal follows in the task: so this one and STOP are not too many
  few_behind (x ∷ behind) is =
      let most = has.few (bytes_read heard ++ next.to_read) next.all in
      let same = ap length (next.spelled ∙ ap (λ (xs : List HostSignal). sent_signals heard ++ signal ∷ xs) is) in
      let split = length-append (sent_signals heard) (signal ∷ x ∷ behind) in
      let as_many = as_many_sent heard in
      omega (arith, most, same, split, as_many)

  pub few_with : (result : DeviceSignal) → length (with_signal heard signal result) < 4161
  few_with result =
      let few = few_behind next.behind refl in
      let long = length-append heard (record { signal = signal; result = result } ∷ []) in
      omega (arith, few, long)

  no_stop_both : (front : List AnsweredSignal) (result : DeviceSignal) → AllByRecursion (λ one. one.signal ≢ Stop) front
      → AllByRecursion (λ one. one.signal ≢ Stop) (with_signal front signal result)
  no_stop_both [] result all = (other, tt)
  no_stop_both (one ∷ front) result all = (all.0, no_stop_both front result all.1)

  pub no_stop_with : (result : DeviceSignal)
      → AllByRecursion (λ one. one.signal ≢ Stop) (with_signal heard signal result)
  no_stop_with result = no_stop_both heard result (no_stop_before job heard signal next)

  -- after an answer that is not the one it needs
  pub gives_up_behind : (new : Host) (result : DeviceSignal) → HasJob new job → (IsGood signal result → ⊥)
      → ((stopped : DeviceSignal) → EndsSo new.reply new.fault job
      (with_signal (with_signal heard signal result) Stop stopped))
      → AtStop new job (with_signal heard signal result)
  gives_up_behind new result stays bad ends = record {
    job_is = stays;
    next = inr (record {
      front = heard;
      last = record { signal = signal; result = result };
      split = refl;
      well =
          next.well;
      not_well = bad;
      stop = refl;
    });
    few = few_with result;
    no_stop = no_stop_with result;
    ends = ends;
  }

  -- the last two
  pub two_more : (result stopped : DeviceSignal)
      → StopsBehind job.profile job.task (with_signal (with_signal heard signal result) Stop stopped) heard
      (record { signal = signal; result = result })
  two_more result stopped = record {
    result = stopped;
    split = append_assoc heard (record { signal = signal; result = result } ∷ [])
        (record { signal = Stop; result = stopped } ∷ []);
    well = next.well;
  }

-- a reply is kept where there is one to come
some_incoming : (reply : Option Incoming) (form : Option Form) (with_pec : Bool) (bytes : List ℕ)
    → IsIncoming reply form with_pec bytes → is_some reply ≡ is_some form
some_incoming None None with_pec bytes is = refl
some_incoming None (Some form) with_pec bytes is = absurd is
some_incoming (Some reply) None with_pec bytes is = absurd is
some_incoming (Some reply) (Some form) with_pec bytes is = refl

pub refused_stops : (host : Host) (job : Job) (heard : List AnsweredSignal) (last : Option HostSignal) (place : ℕ)
    (at_read : Bool) (result : DeviceSignal)
    → (sent : IsSent host job heard last) → result ≢ answers.Ack → place ≡ host.place - 1
    → at_read ≡ (is_some host.reply && nat_eq host.leg 2)
    → AtStop (record host { fault = Some (Refused host.leg place at_read) }) job
    (with_signal heard (Byte sent.byte) result)
refused_stops host job heard last place at_read result sent not_acked place_is at_read_is =
    -- the byte that was sent, and that it was the next one of the task
    let byte = sent.byte in
    let next = sent.next in
    let has = sent.acked.writing.job_is in
    let stays = job_stays host (record host { fault = Some (Refused host.leg place at_read) }) job refl refl refl has in
    let bytes = sent.place_is in
    let some = some_incoming host.reply (reply_form job.profile job.task)
    (reply_has_pec job.task) [] sent.acked.writing.empty in
    -- after it STOP, whatever is answered to it
    gives_up_behind host job heard (Byte byte) next has (λ is. cc is)
    (record host { fault = Some (Refused host.leg place at_read) }) result stays not_acked
    -- the refusal: which byte of which leg, as the host counts them
    (λ stopped. refused host.leg place at_read (record {
      front = heard;
      refused = byte;
      result = result;
      not_acked = not_acked;
      stops = two_more host job heard (Byte byte) next has (λ is. cc is) result stopped;
      legs = sent.before;
      bytes = sent.bytes;
      before = sent.sent_is;
      leg_is = sent.leg_is;
      byte_is = omega (arith, place_is, bytes);
      at_read_is = at_read_is ∙ ap (λ (b : Bool). b && nat_eq host.leg 2) some;
    }) refl)

pub no_byte_stops : (host : Host) (job : Job) (heard : List AnsweredSignal) (result : DeviceSignal)
    → (at : InReply host job heard) → ((b : ℕ) → result ≢ answers.Byte b)
    → AtStop (record host { fault = Some NoByte }) job (with_signal heard Ask result)
no_byte_stops host job heard result at none =
    let next = next_ask host job heard at in
    let stays = job_stays host (record host { fault = Some NoByte }) job refl refl refl at.job_is in
    gives_up_behind host job heard Ask next at.job_is (λ is. cc is) (record host { fault = Some NoByte }) result stays
    (λ good. none good.0 good.1)
    (λ stopped. no_byte (record {
      front = heard;
      result = result;
      none = none;
      stops = two_more host job heard Ask next at.job_is (λ is. cc is) result stopped;
    }) refl)
