-- A byte of a reply was given: ACK comes next, or NACK after the last one, and then STOP and the
-- end. For `Host::take` and `Host::end_reply`. With the byte the reply is still short, or it is
-- all (`Reading`); all bytes say some data if the packet error code is right, and none if it is
-- wrong (`Replies`).
use Rattle.std.proofs.Common.{◌≡◌, ◌≢◌, ℕ, ◌<◌, ◌≤◌, inl, Bool, true, Option, Some, None, List, [], ◌∷◌, ◌++◌, length}
use Rattle.std.proofs.Common.{flat_map, refl, sym, ap, subst, ◌∙◌, append_assoc}
use Rattle.std.proofs.lemmas.List.{append-nil}
use Rattle.std.proofs.lemmas.Grind.{flat_map-append}
use Rattle.pmb_bus.specs.Pec.{pec}
use Rattle.pmb_command.specs.declared.form.Form.{Form}
use Rattle.pmb_command.specs.Wire.{AreByteValues}
use Rattle.pmb_device.specs.declared.signal.HostSignal.{HostSignal}
use Rattle.pmb_device.specs.declared.signal.HostSignal.TheVariants.{Ask, Ack, Nack, Stop}
use Rattle.pmb_device.specs.declared.signal.DeviceSignal.{DeviceSignal}
use Rattle.pmb_device.specs.declared.signal.DeviceSignal.TheVariants as answers
use Rattle.pmb_devices.specs.Bus.{AnsweredSignal}
use Rattle.pmb_host.specs.declared.host.Host.{Host}
use Rattle.pmb_host.specs.declared.reply.Incoming.{Incoming}
use Rattle.pmb_host.specs.declared.step.HostFault.{HostFault}
use Rattle.pmb_host.specs.declared.step.HostFault.TheVariants.{BadPec}
use Rattle.pmb_host.specs.Signals.{AreRead, Say, leg_signals, reading_signals, reply_form, reply_has_pec, signals}
use Rattle.pmb_host.specs.Steps.{Completes, GoWell, GoesOn, SaysReply, bad_pec, bytes_before, bytes_read, sent_signals}
use Rattle.pmb_host.specs.machine.Replies.{whole_length}
use Rattle.pmb_host.specs.machine.Standing.{AtStop, EndsSo, HasJob, HasRead, InReply, IsIncoming, IsRead, IsSaid}
use Rattle.pmb_host.specs.machine.Standing.{IsShort, Job, acked_asks, job_legs, with_signal}
use Rattle.pmb_host.proofs.Reading.{are_all, small_both, to_be_read}
use Rattle.pmb_host.proofs.Replies.{exactly, most, say, say_none}
use Rattle.pmb_host.proofs.Sending.{few_before, no_stop_before, read_more, sent_more, well_more}

-- ---- the signals with which bytes are read

-- up to the byte before the next one
reading_more : (bytes : List ℕ) (byte next : ℕ) (rest : List ℕ) → reading_signals ((bytes ++ byte ∷ []) ++ next ∷ rest)
    ≡ acked_asks bytes ++ Ask ∷ Ack ∷ reading_signals (next ∷ rest)
reading_more [] byte next rest = refl
reading_more (b ∷ []) byte next rest = ap (λ (xs : List HostSignal). Ask ∷ Ack ∷ xs) (reading_more [] byte next rest)
reading_more (b ∷ c ∷ bytes) byte next rest = ap (λ (xs : List HostSignal). Ask ∷ Ack ∷ xs)
    (reading_more (c ∷ bytes) byte next rest)

-- up to the last one
reading_last : (bytes : List ℕ) (byte : ℕ) → reading_signals (bytes ++ byte ∷ []) ≡ acked_asks bytes ++ Ask ∷ Nack ∷ []
reading_last [] byte = refl
reading_last (b ∷ []) byte = ap (λ (xs : List HostSignal). Ask ∷ Ack ∷ xs) (reading_last [] byte)
reading_last (b ∷ c ∷ bytes) byte = ap (λ (xs : List HostSignal). Ask ∷ Ack ∷ xs) (reading_last (c ∷ bytes) byte)

-- ---- a byte was given

module _ (host : Host) (job : Job) (heard : List AnsweredSignal) (at : InReply host job heard) (byte : ℕ)
    (is_byte : byte < 256) where
  abbrev form : Form
  form = at.short.of

  abbrev with_pec : Bool
  with_pec = reply_has_pec job.task

  abbrev legs : List HostSignal
  legs = flat_map leg_signals (job_legs job)

  -- what was heard with the byte
  abbrev given : List AnsweredSignal
  given = with_signal heard Ask (answers.Byte byte)

  -- all bytes with it
  abbrev bytes : List ℕ
  bytes = bytes_read heard ++ byte ∷ []

  read_is : bytes_read given ≡ bytes
  read_is = read_more heard Ask (answers.Byte byte)

  sent_is : sent_signals given ≡ legs ++ (acked_asks (bytes_read heard) ++ Ask ∷ [])
  sent_is =
      sent_more heard Ask (answers.Byte byte) ∙ ap (λ (xs : List HostSignal). xs ++ Ask ∷ []) at.sent_is
      ∙ append_assoc legs (acked_asks (bytes_read heard)) (Ask ∷ [])

  well : GoWell given
  well = well_more heard Ask (answers.Byte byte) at.well (byte, refl)

  small : AreByteValues bytes
  small = small_both (bytes_read heard) (byte ∷ []) at.short.small (is_byte, tt)

  -- there is room for it
  -- 257: a count, 255 bytes and a packet error code
  pub has_room : length (bytes_read heard) < 257
  has_room = most form with_pec (bytes_read heard) at.short.small at.short.less

  pub incoming : IsIncoming host.reply (Some form) with_pec (bytes_read heard)
  incoming = subst (λ (f : Option Form). IsIncoming host.reply f with_pec (bytes_read heard)) at.short.form_is at.read

  -- ---- more is to come

  module _ (short : length bytes < whole_length form with_pec bytes) where
    pub next_ack : GoesOn job.profile job.task given Ack
    next_ack =
        -- some bytes that would be all, of which at least one is to come
        let more = to_be_read form with_pec bytes small short in
        let to_read = more.0 ∷ more.1 in
        -- the signals after the ACK
        let tail = reading_signals to_read ++ Stop ∷ [] in record {
          well = well;
          to_read = to_read;
          all = subst (λ (bs : List ℕ). AreRead (reply_form job.profile job.task) with_pec (bs ++ to_read))
              (sym read_is)
              (subst (λ (f : Option Form). AreRead f with_pec (bytes ++ to_read)) (sym at.short.form_is) more.2);
          behind = tail;
          -- the task's signals for those bytes, cut after the Ask of this byte
          spelled = ap (λ (bs : List ℕ). signals (job_legs job) (bs ++ to_read)) read_is
              ∙ ap (λ (xs : List HostSignal). legs ++ (xs ++ Stop ∷ []))
              (reading_more (bytes_read heard) byte more.0 more.1)
              ∙ ap (λ (xs : List HostSignal). legs ++ xs)
              (append_assoc (acked_asks (bytes_read heard)) (Ask ∷ Ack ∷ reading_signals to_read) (Stop ∷ []))
              ∙ ap (λ (xs : List HostSignal). legs ++ xs)
              (sym (append_assoc (acked_asks (bytes_read heard)) (Ask ∷ []) (Ack ∷ tail)))
              ∙ sym (append_assoc legs (acked_asks (bytes_read heard) ++ Ask ∷ []) (Ack ∷ tail))
              ∙ ap (λ (xs : List HostSignal). xs ++ Ack ∷ tail) (sym sent_is);
        }

    read_then : (result : DeviceSignal) → bytes_read (with_signal given Ack result) ≡ bytes
    read_then result = read_more given Ack result ∙ append-nil (bytes_read given) ∙ read_is

    asks_then : acked_asks bytes ≡ (acked_asks (bytes_read heard) ++ Ask ∷ []) ++ Ack ∷ []
    asks_then =
        flat_map-append (λ (b : ℕ). Ask ∷ Ack ∷ []) (bytes_read heard) (byte ∷ [])
        ∙ sym (append_assoc (acked_asks (bytes_read heard)) (Ask ∷ []) (Ack ∷ []))

  module _ (new : Host) (has : HasJob new job) (read : IsIncoming new.reply (Some form) with_pec bytes) where
    has_read : HasRead new job (bytes_read given)
    has_read =
        subst (λ (f : Option Form). IsIncoming new.reply f with_pec (bytes_read given)) (sym at.short.form_is)
        (subst (λ (bs : List ℕ). IsIncoming new.reply (Some form) with_pec bs) (sym read_is) read)

    -- After the ACK the next Ask follows, whatever is answered.
    pub goes_on_reading : length bytes < whole_length form with_pec bytes → new.fault ≡ None
        → new.crc ≡ pec (flat_map (λ leg. leg) (job_legs job) ++ bytes) → (result : DeviceSignal)
        → InReply new job (with_signal given Ack result)
    goes_on_reading short not_failed crc_is result =
        let read_all = sym (read_then short result) in record {
          job_is = has;
          well = well_more given Ack result well tt;
          read = subst (λ (bs : List ℕ). IsIncoming new.reply (reply_form job.profile job.task) with_pec bs)
              (read_is ∙ read_all) has_read;
          not_failed = not_failed;
          short = subst (λ (bs : List ℕ). IsShort (reply_form job.profile job.task) with_pec bs) read_all
              (record { of = form; form_is = at.short.form_is; small = small; less = short });
          sent_is = sent_more given Ack result ∙ ap (λ (xs : List HostSignal). xs ++ Ack ∷ []) sent_is
              ∙ append_assoc legs (acked_asks (bytes_read heard) ++ Ask ∷ []) (Ack ∷ [])
              ∙ ap (λ (xs : List HostSignal). legs ++ xs) (sym (asks_then short))
              ∙ ap (λ (bs : List ℕ). legs ++ acked_asks bs) read_all;
          crc_is = crc_is ∙ ap (λ (bs : List ℕ). pec (flat_map (λ leg. leg) (job_legs job) ++ bs)) read_all;
        }

    -- ---- it was the last one

    module _ (whole : whole_length form with_pec bytes ≤ length bytes) where
      all_here : AreRead (Some form) with_pec bytes
      all_here = are_all form with_pec bytes small (exactly form with_pec (bytes_read heard) byte at.short.less whole)

      all_read : AreRead (reply_form job.profile job.task) with_pec (bytes_read given)
      all_read =
          subst (λ (bs : List ℕ). AreRead (reply_form job.profile job.task) with_pec bs) (sym read_is)
          (subst (λ (f : Option Form). AreRead f with_pec bytes) (sym at.short.form_is) all_here)

      sent_whole : signals (job_legs job) (bytes_read given) ≡ sent_signals given ++ Nack ∷ Stop ∷ []
      sent_whole =
          ap (λ (bs : List ℕ). signals (job_legs job) bs) read_is
          ∙ ap (λ (xs : List HostSignal). legs ++ (xs ++ Stop ∷ [])) (reading_last (bytes_read heard) byte)
          ∙ ap (λ (xs : List HostSignal). legs ++ xs)
          (append_assoc (acked_asks (bytes_read heard)) (Ask ∷ Nack ∷ []) (Stop ∷ []))
          ∙ ap (λ (xs : List HostSignal). legs ++ xs)
          (sym (append_assoc (acked_asks (bytes_read heard)) (Ask ∷ []) (Nack ∷ Stop ∷ [])))
          ∙ sym (append_assoc legs (acked_asks (bytes_read heard) ++ Ask ∷ []) (Nack ∷ Stop ∷ []))
          ∙ ap (λ (xs : List HostSignal). xs ++ Nack ∷ Stop ∷ []) (sym sent_is)

      -- what the bytes say is what those that were heard say
      says : (content : List ℕ) → Say (Some form) with_pec (bytes_before job.profile job.task) content bytes
          → SaysReply job.profile job.task content (bytes_read given)
      says content said =
          subst (λ (bs : List ℕ). Say (reply_form job.profile job.task) with_pec
          (bytes_before job.profile job.task) content bs) (sym read_is)
          (subst (λ (f : Option Form). Say f with_pec (bytes_before job.profile job.task) content bytes)
          (sym at.short.form_is) said)

      unsaid : (content : List ℕ) → SaysReply job.profile job.task content (bytes_read given)
          → Say (Some form) with_pec (bytes_before job.profile job.task) content bytes
      unsaid content said =
          subst (λ (f : Option Form). Say f with_pec (bytes_before job.profile job.task) content bytes) at.short.form_is
          (subst (λ (bs : List ℕ). Say (reply_form job.profile job.task) with_pec (bytes_before job.profile job.task)
          content bs) read_is said)

      read_whole : IsSaid new.fault job (bytes_read given) → IsRead new job given
      read_whole said = record {
        job_is = has;
        well = well;
        read = has_read;
        all = all_read;
        sent_is =
            sent_whole;
        said = said;
      }

      pub is_right : new.fault ≡ None → (with_pec ≡ true → byte ≡ host.crc) → IsRead new job given
      is_right not_failed right =
          let found = say form with_pec (bytes_read heard) (bytes_before job.profile job.task) byte host.crc all_here
          at.crc_is right in
          read_whole (subst (λ (fault : Option HostFault). IsSaid fault job (bytes_read given)) (sym not_failed)
          (found.0, says found.0 found.1))

      pub is_wrong : new.fault ≡ Some BadPec → with_pec ≡ true → byte ≢ host.crc → IsRead new job given
      is_wrong failed coded wrong =
          read_whole (subst (λ (fault : Option HostFault). IsSaid fault job (bytes_read given)) (sym failed) (
            refl,
            λ content said. say_none form with_pec (bytes_read heard) (bytes_before job.profile job.task) byte
                host.crc at.crc_is coded wrong content (unsaid content said),
          ))

-- ---- after the last byte

module _ (host : Host) (job : Job) (heard : List AnsweredSignal) (at : IsRead host job heard) where
  -- with nothing after the bytes they are all
  none_more : AreRead (reply_form job.profile job.task) (reply_has_pec job.task) (bytes_read heard ++ [])
  none_more = subst (λ (bs : List ℕ). AreRead (reply_form job.profile job.task) (reply_has_pec job.task) bs)
      (sym (append-nil (bytes_read heard))) at.all

  pub next_nack : GoesOn job.profile job.task heard Nack
  next_nack = record {
    well = at.well;
    to_read = [];
    all = none_more;
    behind = Stop ∷ [];
    spelled = ap (signals (job_legs job)) (append-nil (bytes_read heard)) ∙ at.sent_is;
  }

  module _ (result : DeviceSignal) where
    read_still : bytes_read (with_signal heard Nack result) ≡ bytes_read heard
    read_still = read_more heard Nack result ∙ append-nil (bytes_read heard)

    next_stop : GoesOn job.profile job.task (with_signal heard Nack result) Stop
    next_stop = record {
      well = well_more heard Nack result at.well tt;
      to_read = [];
      all = subst (λ (bs : List ℕ). AreRead (reply_form job.profile job.task) (reply_has_pec job.task) (bs ++ []))
          (sym read_still) none_more;
      behind = [];
      spelled = ap (λ (bs : List ℕ). signals (job_legs job) (bs ++ [])) read_still
          ∙ ap (signals (job_legs job)) (append-nil (bytes_read heard)) ∙ at.sent_is
          ∙ sym (append_assoc (sent_signals heard) (Nack ∷ []) (Stop ∷ []))
          ∙ ap (λ (xs : List HostSignal). xs ++ Stop ∷ []) (sym (sent_more heard Nack result));
    }

    module _ (stopped : DeviceSignal) where
      abbrev all_heard : List AnsweredSignal
      all_heard = with_signal (with_signal heard Nack result) Stop stopped

      read_all : bytes_read heard ≡ bytes_read all_heard
      read_all = sym (read_more (with_signal heard Nack result) Stop stopped
          ∙ append-nil (bytes_read (with_signal heard Nack result)) ∙ read_still)

      completes : Completes job.profile job.task all_heard
      completes = record {
        well = well_more (with_signal heard Nack result) Stop stopped (well_more heard Nack result at.well tt) tt;
        all = subst (λ (bs : List ℕ). AreRead (reply_form job.profile job.task) (reply_has_pec job.task) bs) read_all
            at.all;
        spelled = sent_more (with_signal heard Nack result) Stop stopped
            ∙ ap (λ (xs : List HostSignal). xs ++ Stop ∷ []) (sent_more heard Nack result)
            ∙ append_assoc (sent_signals heard) (Nack ∷ []) (Stop ∷ []) ∙ sym at.sent_is
            ∙ ap (signals (job_legs job)) read_all;
      }

      ends_by : (fault : Option HostFault) → IsSaid fault job (bytes_read all_heard)
          → EndsSo host.reply fault job all_heard
      ends_by None said = (
        subst (λ (bs : List ℕ). IsIncoming host.reply (reply_form job.profile job.task)
            (reply_has_pec job.task) bs) read_all at.read,
        completes,
        said,
      )
      ends_by (Some fault) said = bad_pec (record { completes = completes; wrong = said.1 }) said.0

      ends : EndsSo host.reply host.fault job all_heard
      ends = ends_by host.fault (subst (λ (bs : List ℕ). IsSaid host.fault job bs) read_all at.said)

    -- STOP follows, and it has ended as the bytes say.
    pub read_stops : (new : Host) → HasJob new job → new.reply ≡ host.reply → new.fault ≡ host.fault
        → AtStop new job (with_signal heard Nack result)
    read_stops new has reply fault = record {
      job_is = has;
      next = inl next_stop;
      few = few_before job (with_signal heard Nack result) Stop next_stop host at.job_is;
      no_stop = no_stop_before job (with_signal heard Nack result) Stop next_stop;
      ends = λ stopped. subst (λ (f : Option HostFault). EndsSo new.reply f job (all_heard stopped)) (sym fault)
          (subst (λ (r : Option Incoming). EndsSo r host.fault job (all_heard stopped)) (sym reply) (ends stopped));
    }
