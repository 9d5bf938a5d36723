-- What a read, a call or a quantity that is got asks for, by the rules of its request, and that
-- its run is the exchange of its task. For the law `runs_are_exchanges`. The rules give a device
-- that has the command in a form (`CanAsk`); with it `Asking` is met, and `Asking`'s lemmas say
-- how the run ended: done with the device's reply, or refused at the read address.
use Rattle.std.proofs.Common.{◌≡◌, ◌≢◌, ℕ, inl, inr, Bool, true, ◌&&◌, Option, Some, None, IsSome, Result, Ok, Err}
use Rattle.std.proofs.Common.{is_some, List, [], ◌∷◌, nat_eq, refl, sym, ap, subst, ◌∙◌}
use Rattle.std.specs.Option.{IfSome}
use Rattle.pmb_bus.specs.Address.{read_address, write_address}
use Rattle.pmb_command.specs.declared.form.Form.{Form}
use Rattle.pmb_command.specs.Bus.{IsDevice}
use Rattle.pmb_command.specs.Parts.{DeviceParts, device_with}
use Rattle.pmb_command.specs.PecMode.{AllowsPec}
use Rattle.pmb_command.specs.Wire.{Fits, wire}
use Rattle.pmb_transaction.specs.Body.{forms}
use Rattle.pmb_transaction.specs.Packet.{Packet}
use Rattle.pmb_transaction.specs.Transaction.{TransactionData, Call, Refused}
use Rattle.pmb_transaction.proofs.Known.{device_is}
use Rattle.pmb_writer.specs.Invalid.{AreKept, forms_at}
use Rattle.pmb_writer.proofs.Packets.{forms_are}
use Rattle.pmb_registers.specs.declared.cml_bit.CmlBit.{CmlBit}
use Rattle.pmb_registers.specs.Answer.{answer}
use Rattle.pmb_registers.specs.State.{InState}
use Rattle.pmb_devices.specs.Bus.{AnsweredSignal}
use Rattle.pmb_devices.proofs.ReplyForms.{call_form, called_taken, read_form, read_taken}
use Rattle.pmb_devices.proofs.ReplyGivers.{one_member}
use Rattle.pmb_request.specs.Request.{Command}
use Rattle.pmb_value.specs.declared.number_format.NumberFormat.{NumberFormat}
use Rattle.pmb_host.specs.declared.step.HostFault.{HostFault}
use Rattle.pmb_host.specs.declared.step.HostFault.TheVariants as faults
use Rattle.pmb_host.specs.declared.step.HostStep.{HostStep}
use Rattle.pmb_host.specs.declared.step.HostStep.TheVariants.{Send, Done, Failed}
use Rattle.pmb_host.specs.declared.step.Reply.{Reply}
use Rattle.pmb_host.specs.Host.{Job}
use Rattle.pmb_host.specs.Rules.{HasNumber, call_rules, get_rules, read_rules}
use Rattle.pmb_host.specs.Signals.{reply_form, wire_in}
use Rattle.pmb_host.specs.Steps.{Fails, IsRefused, IsTold, ReplyData, reply_data}
use Rattle.pmb_host.specs.Steps as ends
use Rattle.pmb_host.specs.Task.{read_by, replied}
use Rattle.pmb_exchange.specs.Exchange.{EndsWith, Exchanges, IsAnswered, IsReplyTold}
use Rattle.pmb_exchange.specs.Run.{AreMembers, HasRun, IsExchanged, stopped}
use Rattle.pmb_exchange.proofs.Asking.{Asking, code_is_right, each_given, reading_refused, refused_packet, told_is_own}
use Rattle.pmb_exchange.proofs.Members.{Found, found_with}
use Rattle.pmb_exchange.proofs.Stops.{recorded_stopped}

-- ---- the run of what is asked

module _ (job : Job) (members : List InState) (heard : List AnsweredSignal) (body : List ℕ) (form : Form)
    (with_pec : Bool)
    (a : Asking job members body form with_pec)
    (answered_by : (result : Result (List ℕ) CmlBit) → answer a.member.device a.member.state body ≡ result
    → IsAnswered members job.task a.member.device.address body result)
    (ends_with : (told : Reply) (reply : List ℕ) → IsReplyTold job.number reply (reply_data told)
    → EndsWith job.number (replied job.task reply) (Done told)) where
  -- what is told of the reply
  reply_told : (reply : List ℕ) (told : ReplyData) → IsTold job.profile job.task job.number reply told
      → IsReplyTold job.number reply told
  reply_told reply told (ends.written none is) = absurd (cc (sym a.form_is ∙ none))
  reply_told reply told (ends.bytes some none is) = IsReplyTold.bytes none is
  reply_told reply told (ends.value format word number_is word_is is) =
      IsReplyTold.value format word number_is word_is is

  refused_at : (fault : HostFault) (leg_at byte_at : ℕ) (at_read : Bool) → fault ≡ faults.Refused leg_at byte_at at_read
      → leg_at ≡ 2 → byte_at ≡ 0
      → at_read ≡ (is_some (reply_form job.profile job.task) && nat_eq leg_at 2)
      → Failed fault ≡ Failed (faults.Refused 2 0 true)
  refused_at fault leg_at byte_at at_read fault_is leg_is byte_is at_read_is =
      let read : at_read ≡ true =
      at_read_is ∙ ap (λ (o : Option Form). is_some o && nat_eq leg_at 2) a.form_is
      ∙ ap (λ (n : ℕ). nat_eq n 2) leg_is in
      ap (λ (f : HostFault). Failed f) fault_is ∙ ap (λ (n : ℕ). Failed (faults.Refused n byte_at at_read)) leg_is
      ∙ ap (λ (n : ℕ). Failed (faults.Refused 2 n at_read)) byte_is
      ∙ ap (λ (b : Bool). Failed (faults.Refused 2 0 b)) read

  -- ---- how it ends

  asked_done : (told : Reply) (run : HasRun job members heard (Done told)) → IsExchanged job members heard (Done told)
  asked_done told run =
      let reply = run.ended.0 in
      let s = run.ended.1 in
      let ok = told_is_own job members heard (Done told) run body form with_pec a reply s.completes s.says in
      record {
        done = replied job.task reply;
        exchanges = Exchanges.answered a.member.device.address body reply (answered_by (Ok reply) ok) refl;
        packet = subst (Packet job.profile (replied job.task reply)) (recorded_stopped heard run.last) s.packet;
        told = ends_with told reply (reply_told reply (reply_data told) run.ended.2);
      }

  asked_refused : (fault : HostFault) (run : HasRun job members heard (Failed fault)) (leg_at byte_at : ℕ)
      (at_read : Bool)
      → (x : IsRefused job.profile job.task (stopped heard run.last) leg_at byte_at at_read)
      → fault ≡ faults.Refused leg_at byte_at at_read
      → IsExchanged job members heard (Failed fault)
  asked_refused fault run leg_at byte_at at_read x fault_is =
      let refusal = reading_refused job members heard (Failed fault) run body form with_pec a leg_at byte_at at_read
      x in
      record {
        done = Refused (record { parts = []; addr = a.member.device.address; sent = body; at_read = true });
        exchanges = Exchanges.read_refused a.member.device.address body refusal.bit
            (answered_by (Err refusal.bit) refusal.err) refl;
        packet = refused_packet job members heard (Failed fault) run body form with_pec a leg_at byte_at refusal;
        told = refused_at fault leg_at byte_at at_read fault_is refusal.leg_is refusal.byte_is x.at_read_is;
      }

  asked_fails : (fault : HostFault) (run : HasRun job members heard (Failed fault))
      → Fails job.profile job.task (stopped heard run.last) fault
      → IsExchanged job members heard (Failed fault)
  asked_fails fault run (ends.refused leg_at byte_at at_read x fault_is) =
      asked_refused fault run leg_at byte_at at_read x fault_is
  asked_fails fault run (ends.no_byte g fault_is) =
      absurd (each_given job members heard (Failed fault) run body form with_pec a g)
  asked_fails fault run (ends.bad_pec b fault_is) =
      absurd (code_is_right job members heard (Failed fault) run body form with_pec a b)

  pub asked_exchange : (step : HostStep) → HasRun job members heard step → IsExchanged job members heard step
  asked_exchange (Send signal) run = absurd (run.ended)
  asked_exchange (Done told) run = asked_done told run
  asked_exchange (Failed fault) run = asked_fails fault run run.ended

-- ---- rules of a request

-- what there is
pub some_of : {X : Type 0} (o : Option X) → IsSome o → (x : X) × (o ≡ Some x)
some_of None some = absurd (cc some)
some_of (Some x) some = (x, refl)

-- A device is asked for a command that it has in a form.
pub record CanAsk (profile : List DeviceParts) (c : Command) : Type 0 where
  pub device : DeviceParts
  -- the device at the command's address, as the profile has it
  pub known : device_with c.addr profile ≡ Some device
  -- it allows a packet error code where one is asked for
  pub mode : AllowsPec device.pec c.pec

can_ask : (profile : List DeviceParts) (c : Command) → IsSome (device_with c.addr profile)
    → IfSome (device_with c.addr profile) (λ device. AllowsPec device.pec c.pec) → CanAsk profile c
can_ask profile c some mode =
    let device = some_of (device_with c.addr profile) some in
    record {
      device = device.0;
      known = device.1;
      mode = subst (λ (o : Option DeviceParts). IfSome o (λ device. AllowsPec device.pec c.pec)) device.1 mode;
    }

-- the job of a read
abbrev pub read_job : List DeviceParts → Option NumberFormat → Command → Job
read_job profile number c = record { profile = profile; task = read_by c; number = number }

-- and of a call
abbrev pub call_task : Command → List ℕ → TransactionData
call_task c bytes = Call (record { addr = c.addr; code = c.code; bytes = bytes; reply = []; pec = c.pec })

abbrev pub call_job : List DeviceParts → Option NumberFormat → Command → List ℕ → Job
call_job profile number c bytes = record { profile = profile; task = call_task c bytes; number = number }

module _ (profile : List DeviceParts) (number : Option NumberFormat) (members : List InState) (c : Command)
    (can : CanAsk profile c) where
  module _ (on : AreMembers (read_job profile number c) members) (form : Form)
      (is : (forms_at profile c.addr c.code).read ≡ Some form) where
    found : Found members c.addr can.device
    found =
        found_with members c.addr can.device
        (subst (λ (ds : List DeviceParts). device_with c.addr ds ≡ Some can.device) (sym on.devices_are) can.known)

    accepted : IsDevice found.member.device
    accepted = subst IsDevice (sym found.device_is) (device_is profile c.addr can.device on.accepted can.known).0

    read_is : (forms found.member.device c.code).read ≡ Some form
    read_is =
        subst (λ (d : DeviceParts). (forms d c.code).read ≡ Some form) (sym found.device_is)
        (ap (λ s. s.read) (sym (forms_are profile c.addr c.code can.device can.known)) ∙ is)

    read_asking : Asking (read_job profile number c) members (c.code ∷ []) form c.pec
    read_asking = record {
      member = found.member;
      in_bus = found.in_bus;
      same = λ m there same. one_member profile members m found.member on.accepted on.devices_are there found.in_bus
          same;
      accepted = accepted;
      known =
          ap (λ (a : ℕ). device_with a profile) found.address_is ∙ can.known
          ∙ ap (λ (d : DeviceParts). Some d) (sym found.device_is);
      request = inl (c.code, form, record { read = read_is; spelled = refl });
      only = read_form found.member.device accepted c.code form read_is;
      takes = read_taken found.member.device accepted found.member.state c.code form read_is
          (on.fit found.member found.in_bus);
      mode = subst (λ (d : DeviceParts). AllowsPec d.pec c.pec) (sym found.device_is) can.mode;
      legs_are = ap (λ (a : ℕ). (write_address a ∷ c.code ∷ []) ∷ (read_address a ∷ []) ∷ []) (sym found.address_is);
      form_is = is;
      pec_is = refl;
    }

    read_answered : (result : Result (List ℕ) CmlBit) → answer found.member.device found.member.state (c.code ∷ [])
        ≡ result
        → IsAnswered members (read_by c) found.member.device.address (c.code ∷ []) result
    read_answered result answers = record {
      asked = ap (λ (a : ℕ). Some a) (sym found.address_is);
      member = found.member;
      is_at = record { one_of = found.in_bus; address_is = refl };
      asks = refl;
      answers = answers;
    }

    -- A read's run is its exchange.
    pub read_exchange : (heard : List AnsweredSignal) (step : HostStep)
        → HasRun (read_job profile number c) members heard step
        → IsExchanged (read_job profile number c) members heard step
    unfolding read_asking
    read_exchange heard step run =
        asked_exchange (read_job profile number c) members heard (c.code ∷ []) form c.pec read_asking read_answered
        (λ told reply is. (told, refl, is)) step run

  -- a call and its job
  module _ (bytes : List ℕ) where
    module _ (on : AreMembers (call_job profile number c bytes) members) (form : Form)
        (is : (forms_at profile c.addr c.code).call ≡ Some form) (fits : Fits form bytes) where
      called_at : Found members c.addr can.device
      called_at =
          found_with members c.addr can.device
          (subst (λ (ds : List DeviceParts). device_with c.addr ds ≡ Some can.device) (sym on.devices_are) can.known)

      called_accepted : IsDevice called_at.member.device
      called_accepted = subst IsDevice (sym called_at.device_is)
          (device_is profile c.addr can.device on.accepted can.known).0

      call_is : (forms called_at.member.device c.code).call ≡ Some form
      call_is =
          subst (λ (d : DeviceParts). (forms d c.code).call ≡ Some form) (sym called_at.device_is)
          (ap (λ s. s.call) (sym (forms_are profile c.addr c.code can.device can.known)) ∙ is)

      call_asking : Asking (call_job profile number c bytes) members (c.code ∷ wire form bytes) form c.pec
      call_asking = record {
        member = called_at.member;
        in_bus = called_at.in_bus;
        same = λ m there same. one_member profile members m called_at.member on.accepted on.devices_are there
            called_at.in_bus same;
        accepted = called_accepted;
        known =
            ap (λ (a : ℕ). device_with a profile) called_at.address_is ∙ can.known
            ∙ ap (λ (d : DeviceParts). Some d) (sym called_at.device_is);
        request = inr (c.code, form, bytes, record { called = call_is; fits = fits; spelled = refl });
        only = call_form called_at.member.device called_accepted c.code form bytes call_is fits;
        takes = called_taken called_at.member.device called_accepted called_at.member.state c.code form bytes call_is
            fits;
        mode = subst (λ (d : DeviceParts). AllowsPec d.pec c.pec) (sym called_at.device_is) can.mode;
        legs_are =
            ap (λ (o : Option Form). (write_address c.addr ∷ c.code ∷ wire_in o bytes) ∷ (read_address c.addr ∷ [])
            ∷ []) is
            ∙ ap (λ (a : ℕ). (write_address a ∷ c.code ∷ wire form bytes) ∷ (read_address a ∷ []) ∷ [])
            (sym called_at.address_is);
        form_is = is;
        pec_is = refl;
      }

      call_answered : (result : Result (List ℕ) CmlBit)
          → answer called_at.member.device called_at.member.state (c.code ∷ wire form bytes) ≡ result
          → IsAnswered members (call_task c bytes) called_at.member.device.address (c.code ∷ wire form bytes) result
      call_answered result answers = record {
        asked = ap (λ (a : ℕ). Some a) (sym called_at.address_is);
        member = called_at.member;
        is_at = record { one_of = called_at.in_bus; address_is = refl };
        asks = (form, record { called = call_is; fits = fits; spelled = refl });
        answers = answers;
      }

      -- A call's run is its exchange.
      pub call_exchange : (heard : List AnsweredSignal) (step : HostStep)
          → HasRun (call_job profile number c bytes) members heard step
          → IsExchanged (call_job profile number c bytes) members heard step
      unfolding call_asking
      call_exchange heard step run =
          asked_exchange (call_job profile number c bytes) members heard (c.code ∷ wire form bytes) form c.pec
          call_asking call_answered (λ told reply is. (told, refl, is)) step run

-- ---- by the rules

module _ (profile : List DeviceParts) (number : Option NumberFormat) (members : List InState) (c : Command)
    (heard : List AnsweredSignal) (step : HostStep) where
  -- a read of bytes
  pub read_by_rules : AreKept (read_rules profile c) → HasRun (read_job profile number c) members heard step
      → IsExchanged (read_job profile number c) members heard step
  read_by_rules kept run =
      let form = some_of (forms_at profile c.addr c.code).read kept.1.1.0 in
      read_exchange profile number members c (can_ask profile c kept.0 kept.1.1.1.0) run.on form.0 form.1 heard step run

  -- and of a quantity
  pub get_by_rules : (mode : Option ℕ) → AreKept (get_rules profile c) → IfSome number (HasNumber profile c mode)
      → number ≢ None
      → HasRun (read_job profile number c) members heard step
      → IsExchanged (read_job profile number c) members heard step
  get_by_rules mode kept has some run =
      let form = some_of (forms_at profile c.addr c.code).read kept.1.1.0 in
      read_exchange profile number members c (can_ask profile c kept.0 (mode_kept number has some)) run.on form.0 form.1
      heard step run
    where
      mode_kept : (number : Option NumberFormat) → IfSome number (HasNumber profile c mode) → number ≢ None
          → IfSome (device_with c.addr profile) (λ device. AllowsPec device.pec c.pec)
      mode_kept None has some = absurd (some refl)
      mode_kept (Some format) has some = has.kept

  -- a call
  pub call_by_rules : (bytes : List ℕ) → AreKept (call_rules profile c bytes)
      → HasRun (call_job profile number c bytes) members heard step
      → IsExchanged (call_job profile number c bytes) members heard step
  call_by_rules bytes kept run =
      let form = some_of (forms_at profile c.addr c.code).call kept.1.1.0 in
      let fits = subst (λ (o : Option Form). IfSome o (λ form. Fits form bytes)) form.1 kept.1.1.1.0 in
      call_exchange profile number members c (can_ask profile c kept.0 kept.1.1.1.1.0) bytes run.on form.0 form.1 fits
      heard step run
