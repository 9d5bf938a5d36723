-- What comes after a whole leg: START of the next one, the first Ask of the reply, or STOP. For
-- `Host::end_leg`. The host compares its leg's number with the number of legs of the task; where
-- no leg is left, the signals sent are all legs, and what follows them is said by the form of the
-- reply.
use Rattle.std.proofs.Common.{◌≡◌, ℕ, ◌+◌, ◌<◌, ◌≤◌, inl, Bool, true, false, Option, Some, None, is_some, List, [], ◌∷◌}
use Rattle.std.proofs.Common.{◌++◌, length, flat_map, refl, sym, ap, subst, ◌∙◌, arith, append_assoc, length-append}
use Rattle.std.specs.Option.{IfSome}
use Rattle.std.proofs.lemmas.List.{append-nil}
use Rattle.std.proofs.lemmas.Grind.{flat_map-append}
use Rattle.pmb_bus.specs.Pec.{pec}
use Rattle.pmb_command.specs.declared.form.Form.{Form}
use Rattle.pmb_command.specs.Wire.{wire_length}
use Rattle.pmb_device.specs.declared.signal.HostSignal.{HostSignal}
use Rattle.pmb_device.specs.declared.signal.HostSignal.TheVariants.{Stop}
use Rattle.pmb_device.specs.declared.signal.DeviceSignal.{DeviceSignal}
use Rattle.pmb_devices.specs.Bus.{AnsweredSignal}
use Rattle.pmb_host.specs.declared.host.Host.{Host}
use Rattle.pmb_host.specs.declared.reply.Incoming.{Incoming}
use Rattle.pmb_host.specs.declared.step.HostFault.{HostFault}
use Rattle.pmb_host.specs.Signals.{AreRead, Say, leg_signals, reply_form, reply_has_pec, signals}
use Rattle.pmb_host.specs.Steps.{GoesOn, SaysReply, bytes_read, sent_signals}
use Rattle.pmb_host.specs.machine.Standing.{AtLeg, AtStop, EndsSo, InReply, IsIncoming, IsLegSent, IsShort, Job}
use Rattle.pmb_host.specs.machine.Standing.{acked_asks, covered, job_legs, with_signal}
use Rattle.pmb_host.proofs.Sending.{few_before, no_stop_before, read_more, sent_more, well_more}

module _ (host : Host) (job : Job) (heard : List AnsweredSignal) (at : IsLegSent host job heard) where
  -- the leg that was sent is whole
  whole_leg : job_legs job ≡ at.inside.before ++ at.inside.bytes ∷ at.inside.behind
  whole_leg =
      at.inside.legs_are ∙ ap (λ (more : List ℕ). at.inside.before ++ (at.inside.bytes ++ more) ∷ at.inside.behind)
      at.none
      ∙ ap (λ (bytes : List ℕ). at.inside.before ++ bytes ∷ at.inside.behind) (append-nil at.inside.bytes)

  -- with the legs before it
  sent_legs : flat_map leg_signals (at.inside.before ++ at.inside.bytes ∷ []) ≡ sent_signals heard
  sent_legs =
      flat_map-append leg_signals at.inside.before (at.inside.bytes ∷ [])
      ∙ ap (λ (xs : List HostSignal). flat_map leg_signals at.inside.before ++ xs)
      (append-nil (leg_signals at.inside.bytes)) ∙ sym at.inside.sent_is

  legs_covered : (reply : Option Incoming) → is_some reply ≡ true → (crc : ℕ)
      → crc ≡ pec (covered reply at.inside.before at.inside.bytes)
      → crc ≡ pec (flat_map (λ bytes. bytes) (at.inside.before ++ at.inside.bytes ∷ []))
  legs_covered None some crc is = absurd (cc some)
  legs_covered (Some reply) some crc is =
      is ∙ ap pec (sym (flat_map-append (λ (bytes : List ℕ). bytes) at.inside.before (at.inside.bytes ∷ [])
      ∙ ap (λ (xs : List ℕ). flat_map (λ (bytes : List ℕ). bytes) at.inside.before ++ xs) (append-nil at.inside.bytes)))

  how_many : length (job_legs job) ≡ host.leg + length at.inside.behind
  how_many =
      let all = ap length whole_leg ∙ length-append at.inside.before (at.inside.bytes ∷ at.inside.behind) in
      let leg = at.inside.leg_is in
      omega (arith, all, leg)

  -- ---- another leg

  to_leg : (leg : List ℕ) (behind : List (List ℕ)) → at.inside.behind ≡ leg ∷ behind → AtLeg host job heard
  to_leg leg behind is = record {
    writing = at.inside.writing;
    before = at.inside.before ++ at.inside.bytes ∷ [];
    leg = leg;
    behind = behind;
    legs_are = whole_leg ∙ ap (λ (more : List (List ℕ)). at.inside.before ++ at.inside.bytes ∷ more) is
        ∙ sym (append_assoc at.inside.before (at.inside.bytes ∷ []) (leg ∷ behind));
    leg_is = at.inside.leg_is ∙ sym (length-append at.inside.before (at.inside.bytes ∷ []));
    sent_is = sym sent_legs;
    crc_is = λ some. legs_covered host.reply some host.crc at.inside.crc_is;
  }

  more_legs : (behind : List (List ℕ)) → at.inside.behind ≡ behind → host.leg < length (job_legs job)
      → AtLeg host job heard
  more_legs [] is more =
      let all = how_many in
      let none = ap length is in
      absurd (omega (arith, all, none, more))
  more_legs (leg ∷ behind) is more = to_leg leg behind is

  pub next_leg : host.leg < length (job_legs job) → AtLeg host job heard
  next_leg more = more_legs at.inside.behind refl more

  -- ---- no other

  no_behind : (behind : List (List ℕ)) → at.inside.behind ≡ behind → length (job_legs job) ≤ host.leg → behind ≡ []
  no_behind [] is last = refl
  no_behind (leg ∷ behind) is last =
      let all = how_many in
      let some = ap length is in
      absurd (omega (arith, all, some, last))

  all_legs : length (job_legs job) ≤ host.leg → job_legs job ≡ at.inside.before ++ at.inside.bytes ∷ []
  all_legs last = whole_leg ∙ ap (λ (more : List (List ℕ)). at.inside.before ++ at.inside.bytes ∷ more)
      (no_behind at.inside.behind refl last)

  all_sent : length (job_legs job) ≤ host.leg → sent_signals heard ≡ flat_map leg_signals (job_legs job)
  all_sent last = sym sent_legs ∙ ap (λ (legs : List (List ℕ)). flat_map leg_signals legs) (sym (all_legs last))

  first_short : (reply : Option Incoming) (form : Option Form) (with_pec : Bool) → is_some reply ≡ true
      → IsIncoming reply form with_pec []
      → IfSome form (λ form. 0 < wire_length form []) → IsShort form with_pec []
  first_short None form with_pec some is has = absurd (cc some)
  first_short (Some reply) None with_pec some is has = absurd is
  first_short (Some reply) (Some form) with_pec some is has =
      record { of = form; form_is = refl; small = tt; less = omega (arith, has) }

  pub first_ask : length (job_legs job) ≤ host.leg → is_some host.reply ≡ true → InReply host job heard
  first_ask last some =
      let w = at.inside.writing in
      let read = sym w.nothing in
      record {
        job_is = w.job_is;
        well = w.well;
        read = subst (λ (bytes : List ℕ). IsIncoming host.reply (reply_form job.profile job.task)
            (reply_has_pec job.task) bytes) read w.empty;
        not_failed = w.not_failed;
        short = subst (λ (bytes : List ℕ). IsShort (reply_form job.profile job.task) (reply_has_pec job.task) bytes)
            read
            (first_short host.reply (reply_form job.profile job.task) (reply_has_pec job.task) some w.empty
            w.job_is.some);
        sent_is = all_sent last ∙ sym (append-nil (flat_map leg_signals (job_legs job)))
            ∙ ap (λ (bytes : List ℕ). flat_map leg_signals (job_legs job) ++ acked_asks bytes) read;
        crc_is = legs_covered host.reply some host.crc at.inside.crc_is
            ∙ ap (λ (legs : List (List ℕ)). pec (flat_map (λ bytes. bytes) legs)) (sym (all_legs last))
            ∙ ap pec (sym (append-nil (flat_map (λ (bytes : List ℕ). bytes) (job_legs job))))
            ∙ ap (λ (bytes : List ℕ). pec (flat_map (λ bytes. bytes) (job_legs job) ++ bytes)) read;
      }

  -- ---- nothing is to be read

  none_incoming : (reply : Option Incoming) (form : Option Form) (with_pec : Bool) → is_some reply ≡ false
      → IsIncoming reply form with_pec [] → form ≡ None
  none_incoming None None with_pec none is = refl
  none_incoming None (Some form) with_pec none is = absurd is
  none_incoming (Some reply) form with_pec none is = absurd (cc none)

  read_none : (form : Option Form) (with_pec : Bool) → form ≡ None → AreRead form with_pec []
  read_none None with_pec is = refl
  read_none (Some form) with_pec is = absurd (cc is)

  say_none : (form : Option Form) (with_pec : Bool) (before : List ℕ) → form ≡ None → Say form with_pec before [] []
  say_none None with_pec before is = (refl, refl)
  say_none (Some form) with_pec before is = absurd (cc is)

  module _ (last : length (job_legs job) ≤ host.leg) (none : is_some host.reply ≡ false) where
    no_form : reply_form job.profile job.task ≡ None
    no_form = none_incoming host.reply (reply_form job.profile job.task)
        (reply_has_pec job.task) none at.inside.writing.empty

    all_read : (bytes : List ℕ) → bytes ≡ [] → AreRead (reply_form job.profile job.task) (reply_has_pec job.task) bytes
    all_read bytes is = subst (AreRead (reply_form job.profile job.task) (reply_has_pec job.task)) (sym is)
        (read_none (reply_form job.profile job.task) (reply_has_pec job.task) no_form)

    spelled : (bytes : List ℕ) → bytes ≡ [] → signals (job_legs job) bytes ≡ sent_signals heard ++ Stop ∷ []
    spelled bytes is = ap (signals (job_legs job)) is ∙ ap (λ (xs : List HostSignal). xs ++ Stop ∷ [])
        (sym (all_sent last))

    next_stop : GoesOn job.profile job.task heard Stop
    next_stop =
        let nothing = append-nil (bytes_read heard) ∙ at.inside.writing.nothing in record {
          well = at.inside.writing.well;
          to_read = [];
          all = all_read (bytes_read heard ++ []) nothing;
          behind = [];
          spelled = spelled (bytes_read heard ++ []) nothing;
        }

    ends : (result : DeviceSignal) → EndsSo host.reply None job (with_signal heard Stop result)
    ends result =
        let nothing = read_more heard Stop result ∙ append-nil (bytes_read heard) ∙ at.inside.writing.nothing in (
          subst (λ (bytes : List ℕ). IsIncoming host.reply (reply_form job.profile job.task)
              (reply_has_pec job.task) bytes) (sym nothing) at.inside.writing.empty,
          record {
            well = well_more heard Stop result at.inside.writing.well tt;
            all = all_read (bytes_read (with_signal heard Stop result)) nothing;
            spelled = sent_more heard Stop result ∙ sym (spelled (bytes_read (with_signal heard Stop result)) nothing);
          },
          (
            [],
            subst (λ (bytes : List ℕ). SaysReply job.profile job.task [] bytes) (sym nothing)
                (say_none (reply_form job.profile job.task) (reply_has_pec job.task)
                (flat_map (λ bytes. bytes) (job_legs job)) no_form),
          ),
        )

    pub all_written : AtStop host job heard
    all_written = record {
      job_is = at.inside.writing.job_is;
      next = inl next_stop;
      few = few_before job heard Stop next_stop host at.inside.writing.job_is;
      no_stop = no_stop_before job heard Stop next_stop;
      ends = λ result. subst (λ (fault : Option HostFault). EndsSo host.reply fault job (with_signal heard Stop result))
          (sym at.inside.writing.not_failed) (ends result);
    }
