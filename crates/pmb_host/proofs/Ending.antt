-- After STOP the host returns how the request ended, and again at each further call. For
-- `Host::next`. What the host has kept at STOP (`EndsSo`) is a fault, or the bytes of the reply:
-- those say the data that are told, and what was recorded is then the packet of the task
-- (`Recorded`). A reply is known by what is seen of it, so that the same end is told twice.
use Rattle.std.proofs.Common.{◌≡◌, inl, inr, ◌⊎◌, flat_map, ℕ, ◌+◌, ◌*◌, ◌/◌, ◌%◌, Bool, true, false, Option, Some}
use Rattle.std.proofs.Common.{None, is_some, List, [], ◌∷◌, ◌++◌, refl, sym, ap, subst, ◌∙◌, arith}
use Rattle.std.specs.Option.{MatchOption}
use Rattle.std.proofs.lemmas.List.{append-nil}
use Rattle.pmb_bus.specs.declared.event.Event.TheVariants as events
use Rattle.pmb_bus.specs.Pec.{pec}
use Rattle.pmb_command.specs.declared.form.Form.{Form}
use Rattle.pmb_command.specs.declared.form.Form.TheVariants.{Two}
use Rattle.pmb_command.specs.Parts.{DeviceParts}
use Rattle.pmb_command.specs.Wire.{Fits, wire}
use Rattle.pmb_transaction.specs.Packet.{Packet, leg, nacked}
use Rattle.pmb_transaction.specs.Transaction.{TransactionData}
use Rattle.pmb_device.specs.declared.signal.HostSignal.TheVariants.{Stop}
use Rattle.pmb_device.specs.declared.signal.DeviceSignal.{DeviceSignal}
use Rattle.pmb_devices.specs.Bus.{AnsweredSignal, recorded_events}
use Rattle.pmb_host.specs.declared.host.Host.{Host}
use Rattle.pmb_host.specs.declared.host.HostPhase.TheVariants as phases
use Rattle.pmb_value.specs.declared.number_format.NumberFormat.{NumberFormat}
use Rattle.pmb_host.specs.declared.reply.Incoming.{Incoming}
use Rattle.pmb_host.specs.declared.step.HostFault.{HostFault}
use Rattle.pmb_host.specs.declared.step.HostStep.{HostStep}
use Rattle.pmb_host.specs.declared.step.HostStep.TheVariants.{Done, Failed}
use Rattle.pmb_host.specs.declared.step.Reply.{Reply}
use Rattle.pmb_host.specs.declared.step.Reply.TheVariants.{Written, Bytes, Value, NoValue}
use Rattle.pmb_host.specs.Host.{Ends, FirstSteps, HostStanding, HostStandsAt, IsDone, Steps, heard_with}
use Rattle.pmb_value.specs.WordFault.{value_in}
use Rattle.pmb_host.specs.Signals.{Say, SayReply, legs_of, reply_form, reply_has_pec}
use Rattle.pmb_host.specs.Steps.{Completes, Fails, IsTold, ReplyData, SaysReply, Succeeds, bytes, told_word}
use Rattle.pmb_host.specs.Steps.{bytes_before, bytes_read, reply_data, value, written}
use Rattle.pmb_host.specs.Task.{replied, word_bytes}
use Rattle.pmb_host.specs.machine.Replies.{Holds, told_data}
use Rattle.pmb_host.specs.machine.Standing.{AtEnd, EndsSo, HasJob, InEnd, InPhase, IsIncoming, IsToldOf, Job, Tells}
use Rattle.pmb_host.proofs.Recorded.{packet_of, recorded_done}
use Rattle.pmb_host.proofs.Words.{quantity_is_word}

-- ---- the data that were read

-- Bytes that say data hold them.
holds_said : (form : Form) (with_pec : Bool) (before content read : List ℕ) → SayReply form with_pec before content read
    → Holds form content read
holds_said form false before content read says =
    record { fits = says.fits; rest = []; split = says.spelled ∙ sym (append-nil (wire form content)) }
holds_said form true before content read says =
    record { fits = says.fits; rest = pec (before ++ wire form content) ∷ []; split = says.spelled }

-- they are those of a reply of its form
record SaysKept (reply : Incoming) (form : Option Form) (content : List ℕ) : Type 0 where
  -- there is a reply to read,
  pub some : is_some form ≡ true
  -- it has this form,
  pub of : Form
  pub form_is : form ≡ Some of
  -- the data fit the form,
  pub fits : Fits of content
  -- and the bytes that are kept hold them
  pub holds : Holds reply.form content reply.bytes.items

kept_says : (reply : Incoming) (form : Option Form) (with_pec : Bool) (before content read : List ℕ)
    → IsIncoming (Some reply) form with_pec read → Say form with_pec before content read
    → SaysKept reply form content
kept_says reply None with_pec before content read kept says = absurd kept
kept_says reply (Some form) with_pec before content read kept says = record {
  some = refl;
  of = form;
  form_is = refl;
  fits = says.fits;
  holds = subst (λ (bs : List ℕ). Holds reply.form content bs) (sym kept.2)
      (subst (λ (f : Form). Holds f content read) (sym kept.0) (holds_said form with_pec before content read says));
}

no_form : (form : Option Form) (with_pec : Bool) (read : List ℕ) → IsIncoming None form with_pec read → form ≡ None
no_form None with_pec read kept = refl
no_form (Some form) with_pec read kept = absurd kept

-- ---- what is told of them

-- a value of two bytes is that of their word
word_told : (format : NumberFormat) (content : List ℕ) → Fits Two content → (word : ℕ) × (content ≡ word_bytes word)
    × (told_data (Some format) content ≡ told_word (value_in format word))
word_told format [] fits = absurd (cc fits.taken)
word_told format (b ∷ []) fits = absurd (cc fits.taken)
word_told format (low ∷ high ∷ []) fits =
    let small = fits.small.0 in
    let high_is : high ≡ (low + 256 * high) / 256 = omega (arith, small) in
    let low_is : low ≡ (low + 256 * high) % 256 = omega (arith, small) in
    (low + 256 * high, cc (low_is, high_is), refl)
word_told format (a ∷ b ∷ c ∷ content) fits = absurd (omega (arith, fits.taken))

module _ (job : Job) where
  told_of : (number : Option NumberFormat) (content : List ℕ) (told : ReplyData)
      → is_some (reply_form job.profile job.task) ≡ true
      → ((format : NumberFormat) → number ≡ Some format → Fits Two content) → told ≡ told_data number content
      → IsTold job.profile job.task number content told
  told_of None content told some two is = bytes some refl is
  told_of (Some format) content told some two is =
      let word = word_told format content (two format refl) in
      value format word.0 refl word.1 (is ∙ word.2)

-- what is seen of a reply tells it apart
same_reply : (a b : Reply) → reply_data a ≡ reply_data b → a ≡ b
same_reply Written Written same = refl
same_reply Written (Bytes b) same = absurd (cc same)
same_reply Written (Value b) same = absurd (cc same)
same_reply Written NoValue same = absurd (cc same)
same_reply (Bytes a) Written same = absurd (cc same)
same_reply (Bytes a) (Bytes b) same = let items : a.items ≡ b.items = cc same in
    ap (λ (items : List ℕ). Bytes (record { items = items })) items
same_reply (Bytes a) (Value b) same = absurd (cc same)
same_reply (Bytes a) NoValue same = absurd (cc same)
same_reply (Value a) Written same = absurd (cc same)
same_reply (Value a) (Bytes b) same = absurd (cc same)
same_reply (Value a) (Value b) same = let values : a ≡ b = cc same in ap Value values
same_reply (Value a) NoValue same = absurd (cc same)
same_reply NoValue Written same = absurd (cc same)
same_reply NoValue (Bytes b) same = absurd (cc same)
same_reply NoValue (Value b) same = absurd (cc same)
same_reply NoValue NoValue same = refl

-- ---- the end

-- It did what was asked for, or failed.
abbrev IsEnd : HostStanding → List AnsweredSignal → HostStep → Type 0
IsEnd standing heard step =
    ((answer : Reply) × (step ≡ Done answer) × IsDone standing heard answer)
    ⊎ ((fault : HostFault) × (step ≡ Failed fault) × Fails standing.job.profile standing.job.task heard fault)

module _ (standing : HostStanding) (heard : List AnsweredSignal) (host : Host) (has : HasJob host standing.job) where
  abbrev profile : List DeviceParts
  profile = standing.job.profile

  abbrev task : TransactionData
  task = standing.job.task

  -- all went well, so the packet of the task was recorded
  succeeds : Completes profile task heard → (content : List ℕ) → SaysReply profile task content (bytes_read heard)
      → Succeeds profile task heard content
  succeeds done content says =
      let asked = has.asked in
      let here = subst (λ t. SaysReply profile t content (bytes_read heard)) asked.task_is says in
      let recorded = recorded_done profile task heard done
      ∙ ap (λ t. flat_map leg (legs_of profile t) ++ (nacked (bytes_read heard) ++ events.Stop ∷ []))
      asked.task_is in record {
        completes = done;
        says = says;
        packet = subst (λ t. Packet profile (replied t content) (recorded_events heard)) (sym asked.task_is)
            (packet_of profile has.accepted asked.request asked.word standing.job.number content (bytes_read heard)
            (recorded_events heard) asked.allowed here recorded);
      }

  -- a reply that is told as a quantity has two bytes
  quantity_fits : (of : Form) (content : List ℕ) → reply_form profile task ≡ Some of → Fits of content
      → (format : NumberFormat) → standing.job.number ≡ Some format → Fits Two content
  quantity_fits of content form_is fits format is =
      let asked = has.asked in
      let word = quantity_is_word profile has.accepted asked.request asked.word standing.job.number format asked.allowed
      is in
      let both : Some of ≡ Some Two = sym form_is ∙ ap (λ t. reply_form profile t) asked.task_is ∙ word in
      let two : of ≡ Two = cc both in
      subst (λ (f : Form). Fits f content) two fits

  end_told : (fault : Option HostFault) (reply : Option Incoming) (number : Option NumberFormat) (step : HostStep)
      → number ≡ standing.job.number → EndsSo reply fault standing.job heard
      → IsToldOf fault reply number step → IsEnd standing heard step
  -- a fault is kept: it is returned
  end_told (Some fault) reply number step number_is ends tells = inr (fault, tells, ends)
  -- nothing was to be read: it returns that all was written
  end_told None None number step number_is ends tells =
      inl (
        Written,
        tells,
        record {
          reply = ends.2.0;
          succeeds = succeeds ends.1 ends.2.0 ends.2.1;
          told = written (no_form (reply_form profile task) (reply_has_pec task) (bytes_read heard) ends.0) refl;
        },
      )
  -- a reply is kept: its data are returned, as bytes or as the value of a word
  end_told None (Some reply) number step number_is ends tells =
      let kept = kept_says reply (reply_form profile task) (reply_has_pec task) (bytes_before profile task) ends.2.0
      (bytes_read heard) ends.0 ends.2.1 in
      let told = tells ends.2.0 kept.holds in
      inl (
        told.0,
        told.1,
        record {
          reply = ends.2.0;
          succeeds = succeeds ends.1 ends.2.0 ends.2.1;
          told = told_of standing.job standing.job.number ends.2.0 (reply_data told.0) kept.some
              (quantity_fits kept.of ends.2.0 kept.form_is kept.fits)
              (told.2 ∙ ap (λ (n : Option NumberFormat). told_data n ends.2.0) number_is);
        },
      )

-- ---- the step

module _ (standing : HostStanding) (heard : List AnsweredSignal) (host : Host)
    (phase_is : host.phase ≡ phases.End) where
  -- the end was told, and stands
  ends_with : AtEnd host standing.job heard → (step : HostStep) → Tells host step → Ends standing heard step host
  ends_with at step tells = record {
    front = at.front;
    last = record { signal = Stop; result = at.result };
    split = at.split;
    stop = refl;
    one = at.one;
    stands = subst (InPhase host (record { job = standing.job; heard = heard; last = None; ended = Some step }))
        (sym phase_is) (at, tells);
  }

  first_by : (step : HostStep) → Ends standing heard step host → IsEnd standing heard step
      → FirstSteps standing heard step host
  first_by step ends (inl done) = subst (λ (s : HostStep). FirstSteps standing heard s host) (sym done.1)
      (subst (λ (s : HostStep). Ends standing heard s host) done.1 ends, done.2)
  first_by step ends (inr failed) = subst (λ (s : HostStep). FirstSteps standing heard s host) (sym failed.1)
      (subst (λ (s : HostStep). Ends standing heard s host) failed.1 ends, failed.2)

  -- the end is told first
  first_end : AtEnd host standing.job heard → (step : HostStep) → Tells host step → FirstSteps standing heard step host
  first_end at step tells =
      first_by step (ends_with at step tells) (end_told standing heard host at.job_is host.fault host.reply host.number
      step at.job_is.number_is at.ends tells)

-- the same is told of the same
same_told : (job : Job) (heard : List AnsweredSignal) (fault : Option HostFault) (reply : Option Incoming)
    (number : Option NumberFormat) (step last : HostStep) → EndsSo reply fault job heard
    → IsToldOf fault reply number step → IsToldOf fault reply number last → step ≡ last
same_told job heard (Some fault) reply number step last ends tells before = tells ∙ sym before
same_told job heard None None number step last ends tells before = tells ∙ sym before
same_told job heard None (Some reply) number step last ends tells before =
    let kept = kept_says reply (reply_form job.profile job.task) (reply_has_pec job.task)
    (bytes_before job.profile job.task) ends.2.0 (bytes_read heard) ends.0 ends.2.1 in
    let now = tells ends.2.0 kept.holds in
    let then = before ends.2.0 kept.holds in
    now.1 ∙ ap Done (same_reply now.0 then.0 (now.2 ∙ sym then.2)) ∙ sym then.1

-- A host after STOP tells how it ended, the first time and each time.
pub end_steps : (standing : HostStanding) (answer : DeviceSignal) (host : Host) (step : HostStep)
    → host.phase ≡ phases.End → HostStandsAt host standing → Tells host step → Steps standing answer step host
end_steps standing answer host step phase_is at tells =
    by_ended standing.ended (subst (InPhase host standing) phase_is at) where
      by_ended : (ended : Option HostStep) → InEnd host standing ended
          → MatchOption ended (FirstSteps standing (heard_with standing answer) step host)
          (λ last. (step ≡ last) × HostStandsAt host standing)
      by_ended None here = first_end standing (heard_with standing answer) host phase_is (here answer) step tells
      by_ended (Some last) here = (
        same_told standing.job standing.heard host.fault host.reply host.number step last
            here.0.ends tells here.1,
        at,
      )
