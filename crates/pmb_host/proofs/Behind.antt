-- Where a host stands when it has sent a START or a byte of a leg. For `Host::take`, `Host::ask`,
-- `Host::start`, `Host::end_leg`, `Host::end_reply`, `Host::send`, and those that begin a host.
-- One signal more, answered well, keeps all that the host knows of its task (`IsWriting`): the
-- bytes of the leg grow by one, and so do its place and its packet error code.
use Rattle.std.proofs.Common.{◌≡◌, ℕ, ◌+◌, ◌-◌, ◌<◌, ◌≤◌, true, if◌then◌else◌, Option, Some, None, is_some, List, []}
use Rattle.std.proofs.Common.{◌∷◌, ◌++◌, length, map, flat_map, refl, sym, ap, subst, ◌∙◌, arith, append_assoc}
use Rattle.std.proofs.Common.{length-append, suc}
use Rattle.std.proofs.lemmas.List.{append-nil, map-append}
use Rattle.pmb_bus.specs.Pec.{left_after, number, pec}
use Rattle.pmb_command.specs.declared.form.Form.{Form}
use Rattle.pmb_transaction.specs.Transaction.{transaction_data}
use Rattle.pmb_device.specs.declared.signal.HostSignal.{HostSignal}
use Rattle.pmb_device.specs.declared.signal.HostSignal.TheVariants.{Start, Byte}
use Rattle.pmb_device.specs.declared.signal.DeviceSignal.{DeviceSignal}
use Rattle.pmb_device.specs.declared.signal.DeviceSignal.TheVariants as answers
use Rattle.pmb_devices.specs.Bus.{AnsweredSignal}
use Rattle.pmb_host.specs.declared.host.Host.{Host}
use Rattle.pmb_host.specs.declared.host.HostPhase.TheVariants as phases
use Rattle.pmb_host.specs.declared.reply.Incoming.{Incoming}
use Rattle.pmb_host.specs.Signals.{leg_form, leg_signals, legs_of, reply_form, reply_has_pec}
use Rattle.pmb_host.specs.Steps.{IsGood, bytes_read, byte_of}
use Rattle.pmb_host.specs.machine.Standing.{AtLeg, BehindByte, HasJob, InLeg, IsSent, IsIncoming, IsWriting, Job}
use Rattle.pmb_host.specs.machine.Standing.{covered, job_legs, with_signal}
use Rattle.pmb_host.proofs.Sending.{few_before, next_byte, read_more, sent_more, well_more, as_many_sent}

pub job_stays : (host new : Host) (job : Job) → new.profile.now ≡ host.profile.now → new.transaction ≡ host.transaction
    → new.number ≡ host.number
    → HasJob host job → HasJob new job
job_stays host new job profile transaction number has = record {
  profile_is = profile ∙ has.profile_is;
  task_is = ap (λ t. transaction_data t) transaction ∙ has.task_is;
  number_is = number ∙ has.number_is;
  accepted = has.accepted;
  asked = has.asked;
  few = has.few;
  addresses = has.addresses;
  few_legs = has.few_legs;
  some = has.some;
}

covered_more : (reply : Option Incoming) (before : List (List ℕ)) (bytes : List ℕ) (byte : ℕ)
    → covered reply before (bytes ++ byte ∷ []) ≡ covered reply before bytes ++ byte ∷ []
covered_more None before bytes byte = refl
covered_more (Some reply) before bytes byte = sym (append_assoc (flat_map (λ leg. leg) before) bytes (byte ∷ []))

-- a signal that is answered well, and reads nothing
pub writing_more : (host new : Host) (job : Job) (heard : List AnsweredSignal) (signal : HostSignal)
    (result : DeviceSignal) → HasJob new job → new.reply ≡ host.reply → new.fault ≡ host.fault
    → IsGood signal result → byte_of signal result ≡ [] → IsWriting host job heard
    → IsWriting new job (with_signal heard signal result)
writing_more host new job heard signal result has reply fault good none w = record {
  job_is = has;
  well = well_more heard signal result w.well good;
  nothing = read_more heard signal result ∙ ap (λ (bs : List ℕ). bytes_read heard ++ bs) none
      ∙ append-nil (bytes_read heard) ∙ w.nothing;
  empty = subst (λ (r : Option Incoming). IsIncoming r (reply_form job.profile job.task) (reply_has_pec job.task) [])
      (sym reply) w.empty;
  not_failed = fault ∙ w.not_failed;
}

-- ---- after a byte

bytes_length : (bytes : List ℕ) → length (map Byte bytes) ≡ length bytes
bytes_length [] = refl
bytes_length (b ∷ bytes) = ap suc (bytes_length bytes)

-- of no bytes it is 0
pub pec_of_none : pec [] ≡ 0
unfolding pec number left_after
pec_of_none = refl

first_crc : (reply : Option Incoming) (crc : ℕ) (before : List (List ℕ))
    → (is_some reply ≡ true → crc ≡ pec (flat_map (λ bytes. bytes) before))
    → (if is_some reply then crc else 0) ≡ pec (covered reply before [])
first_crc None crc before is = sym pec_of_none
first_crc (Some reply) crc before is = is refl ∙ ap pec (sym (append-nil (flat_map (λ bytes. bytes) before)))

short_place : (host : Host) (job : Job) (heard : List AnsweredSignal) (byte : ℕ) (at : BehindByte host job heard byte)
    -- 4,161 is the greatest number of signals of a task (`signals_are_few`)
    → host.place < 4161
short_place host job heard byte at =
    let inside = at.inside in
    let few = few_before job heard (Byte byte) (next_byte host job heard byte at) host inside.writing.job_is in
    let sent = ap length inside.sent_is ∙ length-append (flat_map leg_signals inside.before)
    (leg_signals inside.bytes) in
    let as_many = as_many_sent heard in
    let bytes = bytes_length inside.bytes in
    let place = inside.place_is in
    omega (arith, few, sent, as_many, bytes, place)

module _ (host : Host) (job : Job) (heard : List AnsweredSignal) (byte : ℕ) (at : BehindByte host job heard byte)
    (place crc : ℕ)
    -- 65535, where the place would stop to count, is never reached
    (place_is : host.place < 65535 → place ≡ host.place + 1) (crc_is : (bytes : List ℕ) → pec bytes ≡ host.crc
    → crc ≡ pec (bytes ++ byte ∷ [])) where
  place_after : place ≡ length at.inside.bytes + 1
  place_after = let short = short_place host job heard byte at in
      place_is (omega (arith, short)) ∙ ap (λ (n : ℕ). n + 1) at.inside.place_is

  acked : InLeg (record host { phase = phases.Byte; place = place; crc = crc }) job
      (with_signal heard (Byte byte) answers.Ack)
  acked =
      let inside = at.inside in record {
        writing = writing_more host (record host { phase = phases.Byte; place = place; crc = crc }) job heard
            (Byte byte) answers.Ack
            (job_stays host (record host { phase = phases.Byte; place = place; crc = crc }) job refl refl refl
            -- the byte goes from those to come to those sent,
            inside.writing.job_is) refl refl refl refl inside.writing;
        before = inside.before;
        bytes = inside.bytes ++ byte ∷ [];
        more = at.rest;
        behind = inside.behind;
        legs_are = inside.legs_are ∙ ap (λ (bs : List ℕ). inside.before ++ (inside.bytes ++ bs) ∷ inside.behind) at.next
            ∙ ap (λ (bs : List ℕ). inside.before ++ bs ∷ inside.behind)
            (sym (append_assoc inside.bytes (byte ∷ []) at.rest));
        -- the place and the code count it,
        leg_is = inside.leg_is;
        place_is = place_after ∙ sym (length-append inside.bytes (byte ∷ []));
        form_is = inside.form_is;
        -- and it is the last signal sent
        sent_is = sent_more heard (Byte byte) answers.Ack
            ∙ ap (λ (xs : List HostSignal). xs ++ Byte byte ∷ []) inside.sent_is
            ∙ append_assoc (flat_map leg_signals inside.before) (leg_signals inside.bytes) (Byte byte ∷ [])
            ∙ ap (λ (xs : List HostSignal). flat_map leg_signals inside.before ++ Start ∷ xs)
            (sym (map-append Byte inside.bytes (byte ∷ [])));
        crc_is = crc_is (covered host.reply inside.before inside.bytes) (sym inside.crc_is)
            ∙ ap pec (sym (covered_more host.reply inside.before inside.bytes byte));
      }

  pub behind_byte : IsSent (record host { phase = phases.Byte; place = place; crc = crc }) job heard (Some (Byte byte))
  behind_byte = record {
    byte = byte;
    last_is = refl;
    next = next_byte host job heard byte at;
    acked = acked;
    before = at.inside.before;
    bytes = at.inside.bytes;
    leg_is = at.inside.leg_is;
    place_is = place_after;
    sent_is = at.inside.sent_is;
  }

-- ---- after START

pub behind_start : (host : Host) (job : Job) (heard : List AnsweredSignal) (leg place crc : ℕ) (form : Option Form)
    (result : DeviceSignal) → (at : AtLeg host job heard) → place ≡ 0
    → leg ≡ length at.before + 1
    → form ≡ leg_form job.profile job.task (length at.before) → crc ≡ (if is_some host.reply then host.crc else 0)
    → InLeg (record host { phase = phases.Address; leg = leg; place = place; form = form; crc = crc }) job
    (with_signal heard Start result)
behind_start host job heard leg place crc form result at place_is leg_is form_is crc_is = record {
  writing = writing_more host (record host { phase = phases.Address; leg = leg; place = place; form = form; crc = crc })
      job heard Start result
      (job_stays host (record host { phase = phases.Address; leg = leg; place = place; form = form; crc = crc }) job
      refl refl refl at.writing.job_is) refl refl tt refl at.writing;
  before = at.before;
  bytes = [];
  more = at.leg;
  behind = at.behind;
  legs_are = at.legs_are;
  leg_is = leg_is;
  place_is = place_is;
  form_is = form_is;
  sent_is = sent_more heard Start result ∙ ap (λ (xs : List HostSignal). xs ++ Start ∷ []) at.sent_is;
  crc_is = crc_is ∙ first_crc host.reply host.crc at.before at.crc_is;
}

pub leg_after : (host : Host) (job : Job) (heard : List AnsweredSignal) (leg : ℕ) (at : AtLeg host job heard)
    -- 255: no task has that many legs
    → (host.leg < 255 → leg ≡ host.leg + 1) → leg ≡ length at.before + 1
leg_after host job heard leg at is =
    let few = at.writing.job_is.few_legs in
    let all = ap length at.legs_are ∙ length-append at.before (at.leg ∷ at.behind) in
    let here = at.leg_is in
    is (omega (arith, few, all, here)) ∙ ap (λ (n : ℕ). n + 1) here

pub form_after : (host : Host) (job : Job) (heard : List AnsweredSignal) (leg : ℕ) (form : Option Form)
    (at : AtLeg host job heard) → leg ≡ length at.before + 1
    → (1 ≤ leg → form ≡ leg_form host.profile.now (transaction_data host.transaction) (leg - 1))
    → form ≡ leg_form job.profile job.task (length at.before)
form_after host job heard leg form at leg_is is =
    let has = at.writing.job_is in
    let place : leg - 1 ≡ length at.before = omega (arith, leg_is) in
    is (omega (arith, leg_is)) ∙ ap (λ (n : ℕ). leg_form host.profile.now (transaction_data host.transaction) n) place
    ∙ ap (λ p. leg_form p (transaction_data host.transaction) (length at.before)) has.profile_is
    ∙ ap (λ t. leg_form job.profile t (length at.before)) has.task_is

-- the legs are those of the job
pub same_legs : (host : Host) (job : Job) → HasJob host job
    → length (legs_of host.profile.now (transaction_data host.transaction)) ≡ length (job_legs job)
same_legs host job has =
    ap (λ p. length (legs_of p (transaction_data host.transaction))) has.profile_is
    ∙ ap (λ t. length (legs_of job.profile t)) has.task_is
