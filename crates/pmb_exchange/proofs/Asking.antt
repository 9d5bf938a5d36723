-- A run whose task is a read or a call ends with the device's own reply, or at the read address
-- where the device refuses to be read. For the law `runs_are_exchanges`. Both legs of such a task
-- are known (`two_legs`), so what the host heard is what the one device that was asked answers: ACK
-- up to the read address, there by its state, and then the bytes of its reply one after the other.
-- So no Ask is left without a byte, and no packet error code is wrong.
use Rattle.std.proofs.Common.{◌≡◌, ℕ, ◌+◌, ◌<◌, ◌≤◌, Bool, true, false, if◌then◌else◌, Option, Some, Result, Ok, Err}
use Rattle.std.proofs.Common.{List, [], ◌∷◌, ◌++◌, length, map, flat_map, nat_eq, refl, sym, ap, subst, ◌∙◌}
use Rattle.std.proofs.Common.{append_assoc, arith}
use Rattle.std.specs.List.{AllByRecursion, Contains, IsDistinct}
use Rattle.std.proofs.lemmas.List.{append-nil}
use Rattle.std.proofs.lemmas.Grind.{flat_map-append}
use Rattle.pmb_bus.specs.declared.event.Event.{Event}
use Rattle.pmb_bus.specs.declared.event.Event.TheVariants as events
use Rattle.pmb_bus.specs.Address.{read_address, write_address}
use Rattle.pmb_command.specs.declared.form.Form.{Form}
use Rattle.pmb_command.specs.declared.pec_mode.PecMode.{PecMode}
use Rattle.pmb_command.specs.declared.pec_mode.PecMode.TheVariants.{Off, On, Optional}
use Rattle.pmb_command.specs.Bus.{IsDevice}
use Rattle.pmb_command.specs.Parts.{DeviceParts, device_with}
use Rattle.pmb_command.specs.PecMode.{AllowsPec}
use Rattle.pmb_command.specs.Wire.{Fits, Takes, wire}
use Rattle.pmb_transaction.specs.Body.{IsFormOfRequest, IsRequest}
use Rattle.pmb_transaction.specs.Packet.{Packet, ReadRefused, RefusedLeg, addresses, leg}
use Rattle.pmb_transaction.specs.Transaction.{Refused}
use Rattle.pmb_transaction.proofs.Data.{checked_is, code_behind}
use Rattle.pmb_registers.specs.declared.cml_bit.CmlBit.{CmlBit}
use Rattle.pmb_registers.specs.Answer.{answer}
use Rattle.pmb_registers.specs.State.{InState}
use Rattle.pmb_leg.specs.declared.place.LegPlace.TheVariants.{First}
use Rattle.pmb_device.proofs.Requests.{request_is_taken}
use Rattle.pmb_device.specs.declared.signal.HostSignal.{HostSignal}
use Rattle.pmb_device.specs.declared.signal.HostSignal.TheVariants.{Start, Byte, Ask, Stop}
use Rattle.pmb_device.specs.declared.signal.DeviceSignal.{DeviceSignal}
use Rattle.pmb_device.specs.declared.signal.DeviceSignal.TheVariants as answers
use Rattle.pmb_device.specs.Legs.{Legs, Outside, Inside}
use Rattle.pmb_device.specs.Rules.{TakesAll, carries_pec, taken_or_not}
use Rattle.pmb_devices.specs.Bus.{AreAnswered, AnsweredSignal, BusAnswers, recorded_events}
use Rattle.pmb_devices.proofs.OwnLegs.{byte_leg}
use Rattle.pmb_devices.proofs.ReplyForms.{wire_front}
use Rattle.pmb_host.specs.declared.step.HostStep.{HostStep}
use Rattle.pmb_host.specs.Host.{Job}
use Rattle.pmb_host.specs.Signals.{AreAll, AreRead, Say, SayReply, leg_signals, legs_of, reading_signals, reply_form}
use Rattle.pmb_host.specs.Signals.{reply_has_pec}
use Rattle.pmb_host.specs.Steps.{Completes, GetsNoByte, GoWell, HasBadPec, IsGood, IsRefused, SaysReply, byte_of}
use Rattle.pmb_host.specs.Steps.{bytes_before, bytes_read, sent_signals}
use Rattle.pmb_exchange.specs.Run.{HasRun, stopped}
use Rattle.pmb_exchange.proofs.Failures.{ByteFailed, ask_failed, byte_failed}
use Rattle.pmb_exchange.proofs.Members.{address_acked, byte_acked}
use Rattle.pmb_exchange.proofs.Pages.{takes_parts}
use Rattle.pmb_exchange.proofs.Places.{Cut, answer_at, answered_behind, cut, legs_by, legs_by_leg, legs_by_legs, place}
use Rattle.pmb_exchange.proofs.Places.{well_parts}
use Rattle.pmb_exchange.proofs.Reading.{all_bytes, ask_given, byte_at, count_read, goes_on_too, legs_by_asks}
use Rattle.pmb_exchange.proofs.Reading.{read_answer, read_so_far, reads_none}
use Rattle.pmb_exchange.proofs.Signals.{ask_behind_legs, asked_of, asks}
use Rattle.pmb_exchange.proofs.Stops.{IsWritten, legs_events_are, legs_written, recorded-append, recorded_well}
use Rattle.pmb_exchange.proofs.Stops.{refused_event, stop_last, stop_reads_nothing, well_before}

-- What a task asks of a device of the bus: a body to which it replies in one form.
pub record Asking (job : Job) (members : List InState) (body : List ℕ) (form : Form) (with_pec : Bool) : Type 0 where
  -- the device that is asked, with its state
  pub member : InState
  pub in_bus : Contains members member
  -- no other member has its address
  pub same : (m : InState) → Contains members m → m.device.address ≡ member.device.address → m ≡ member
  pub accepted : IsDevice member.device
  pub known : device_with member.device.address job.profile ≡ Some member.device
  -- the body asks for a reply,
  pub request : IsRequest member.device body
  -- of this form alone,
  pub only : (f : Form) → IsFormOfRequest member.device f body → f ≡ form
  -- and the device's reply has that form
  pub takes : (reply : List ℕ) → answer member.device member.state body ≡ Ok reply → Takes form (length reply)
  -- the device allows the packet error code that the task asks for
  pub mode : AllowsPec member.device.pec with_pec
  -- the task's legs: the body, and the read address alone
  pub legs_are : legs_of job.profile job.task ≡ (write_address member.device.address ∷ body)
      ∷ (read_address member.device.address ∷ []) ∷ []
  -- the form of the reply, and whether a code is read after it, as the host reads the task
  pub form_is : reply_form job.profile job.task ≡ Some form
  pub pec_is : reply_has_pec job.task ≡ with_pec

-- ---- answers to be read

-- ACK is given where the device does not refuse
ok_of : (device : DeviceParts) (r : Result (List ℕ) CmlBit) (result : DeviceSignal) → result ≡ taken_or_not device r
    → result ≡ answers.Ack
    → (reply : List ℕ) × (r ≡ Ok reply)
ok_of device (Ok reply) result is ack = (reply, refl)
ok_of device (Err bit) result is ack = absurd (cc (is, ack))

-- and none where it does
err_of : (device : DeviceParts) (r : Result (List ℕ) CmlBit) (result : DeviceSignal) → result ≡ taken_or_not device r
    → (result ≡ answers.Ack → ⊥)
    → (bit : CmlBit) × (r ≡ Err bit)
err_of device (Ok reply) result is none = absurd (none is)
err_of device (Err bit) result is none = (bit, refl)

-- ---- a byte in two legs

-- A byte of a leg of bytes, or the one byte of the leg after it.
pub data InTwo (first : List ℕ) (second : ℕ) (legs : List (List ℕ)) (bytes : List ℕ) (b : ℕ)
    -- The bytes end in the first leg: `more` are those of that leg after b.
    (more : List ℕ) : Type 0 where
  in_first : legs ≡ [] → first ≡ bytes ++ b ∷ more → InTwo first second legs bytes b more
  -- All of the first leg was sent, and b is the second one's only byte.
  in_second : legs ≡ first ∷ [] → bytes ≡ [] → b ≡ second → InTwo first second legs bytes b more

nothing_left : {X : Type 0} (front : List X) (x : X) (back : List X) → [] ≡ front ++ x ∷ back → ⊥
nothing_left [] x back is = cc is
nothing_left (y ∷ front) x back is = cc is

second_byte : (first : List ℕ) (second : ℕ) (bytes : List ℕ) (b : ℕ) (more : List ℕ) → second ∷ [] ≡ bytes ++ b ∷ more
    → InTwo first second (first ∷ []) bytes b more
second_byte first second [] b more is = in_second refl refl (cc is)
second_byte first second (c ∷ bytes) b more is =
    let rest : [] ≡ bytes ++ b ∷ more = cc is in
    absurd (nothing_left bytes b more rest)

in_two : (first : List ℕ) (second : ℕ) (legs : List (List ℕ)) (bytes : List ℕ) (b : ℕ) (more : List ℕ)
    (behind : List (List ℕ))
    → first ∷ (second ∷ []) ∷ [] ≡ legs ++ (bytes ++ b ∷ more) ∷ behind → InTwo first second legs bytes b more
in_two first second [] bytes b more behind is = in_first refl (cc is)
in_two first second (l ∷ []) bytes b more behind is =
    let one : second ∷ [] ≡ bytes ++ b ∷ more = cc is in
    let same : first ≡ l = cc is in
    subst (λ (x : List ℕ). InTwo first second (x ∷ []) bytes b more) same (second_byte first second bytes b more one)
in_two first second (l ∷ k ∷ legs) bytes b more behind is =
    let rest : [] ≡ legs ++ (bytes ++ b ∷ more) ∷ behind = cc is in
    absurd (nothing_left legs (bytes ++ b ∷ more) behind rest)

-- ---- packet error codes

-- a code that is asked for is given
given_where_asked : (device : DeviceParts) (mode : PecMode) (with_pec : Bool) (before told : List ℕ)
    → AllowsPec mode with_pec
    → (if with_pec then 1 else 0) ≤ length (code_behind (carries_pec device mode) before told)
given_where_asked device Off true before told allows = absurd (cc allows)
given_where_asked device Off false before told allows = omega arith
given_where_asked device On true before told allows = omega arith
given_where_asked device On false before told allows = omega arith
given_where_asked device Optional true before told allows = omega arith
given_where_asked device Optional false before told allows = omega arith

-- so it is the right one
right_code : (device : DeviceParts) (mode : PecMode) (with_pec : Bool) (before told code rest : List ℕ)
    → AllowsPec mode with_pec
    → length code ≡ (if with_pec then 1 else 0) → code_behind (carries_pec device mode) before told ≡ code ++ rest
    → code ≡ code_behind with_pec before told
right_code device mode false before told [] rest allows long is = refl
right_code device mode false before told (c ∷ code) rest allows long is = absurd (omega (arith, long))
right_code device mode true before told [] rest allows long is = absurd (omega (arith, long))
right_code device Off true before told (c ∷ []) rest allows long is = absurd (cc allows)
right_code device On true before told (c ∷ []) rest allows long is = ap (λ (n : ℕ). n ∷ []) (cc is)
right_code device Optional true before told (c ∷ []) rest allows long is = ap (λ (n : ℕ). n ∷ []) (cc is)
right_code device mode true before told (c ∷ d ∷ code) rest allows long is = absurd (omega (arith, long))

-- what is after the same bytes
same_back : (front a b : List ℕ) → front ++ a ≡ front ++ b → a ≡ b
same_back [] a b is = is
same_back (x ∷ front) a b is =
    let rest : front ++ a ≡ front ++ b = cc is in
    same_back front a b rest

module _ (job : Job) (members : List InState) (heard : List AnsweredSignal) (step : HostStep)
    (run : HasRun job members heard step) (body : List ℕ)
    (form : Form) (with_pec : Bool) (a : Asking job members body form with_pec) where
  abbrev w : ℕ
  w = write_address a.member.device.address

  abbrev r : ℕ
  r = read_address a.member.device.address

  abbrev two_legs : List (List ℕ)
  two_legs = (w ∷ body) ∷ (r ∷ []) ∷ []

  -- ---- the address for reading

  -- after an ACK to it the device has a reply
  read_ok : (all : List AnsweredSignal) (tail : List HostSignal) → AreAnswered members Outside all → GoWell all
      → sent_signals all ≡ flat_map leg_signals two_legs ++ tail
      → (reply : List ℕ) × (answer a.member.device a.member.state body ≡ Ok reply)
  read_ok all tail answered well is =
      let first = leg_signals (w ∷ body) in
      -- the place of the read address: after the first leg and a START
      let front = first ++ Start ∷ [] in
      let here =
      place all front (Byte r) tail
      (is ∙ append_assoc first (Start ∷ Byte r ∷ []) tail ∙ sym (append_assoc first (Start ∷ []) (Byte r ∷ tail))) in
      -- what the bus answered there, with the legs that were sent by then
      let bus = answer_at members Outside here.before here.one here.behind
      (subst (AreAnswered members Outside) here.split answered) in
      let legs_are : legs_by Outside (sent_signals here.before) ≡ Inside (byte_leg (w ∷ body) ∷ []) [] =
      ap (legs_by Outside) here.before_are ∙ legs_by_leg Outside (w ∷ body) (Start ∷ []) in
      let bus_there = subst (λ (ls : Legs). BusAnswers members ls here.one.signal here.one.result) legs_are bus in
      let bus_byte = subst (λ (s : HostSignal). BusAnswers members (Inside (byte_leg (w ∷ body) ∷ []) []) s
      here.one.result) here.signal_is bus_there in
      -- all went well, so that answer is ACK, which the device gives only if it has a reply
      let good = (well_parts here.before (here.one ∷ here.behind) (subst GoWell here.split well)).1.0 in
      let ack : here.one.result ≡ answers.Ack =
      subst (λ (s : HostSignal). IsGood s here.one.result) here.signal_is good in
      ok_of a.member.device (answer a.member.device a.member.state body) here.one.result
      (read_answer members a.member a.in_bus a.same body form a.only a.request here.one.result bus_byte) ack

  -- What a run has after both legs.
  pub record Behind (all : List AnsweredSignal) (tail : List HostSignal) : Type 0 where
    -- the reply that the device gives,
    pub reply : List ℕ
    pub ok : answer a.member.device a.member.state body ≡ Ok reply
    -- and the signals after both legs: what was read, was read there
    pub asked : List AnsweredSignal
    pub asked_are : sent_signals asked ≡ tail
    pub well : GoWell asked
    pub answered : AreAnswered members (Inside (byte_leg (w ∷ body) ∷ []) (Byte r ∷ asks 0)) asked
    pub read_are : bytes_read all ≡ bytes_read asked

  behind : (all : List AnsweredSignal) (tail : List HostSignal) → AreAnswered members Outside all → GoWell all
      → sent_signals all ≡ flat_map leg_signals two_legs ++ tail → Behind all tail
  behind all tail answered well is =
      -- the device has a reply, since its read address was acknowledged
      let ok = read_ok all tail answered well is in
      let legs = flat_map leg_signals two_legs in
      -- the run cut after both legs: what went well and was answered, on each side
      let parts : Cut all legs tail = cut all legs tail is in
      let both = well_parts parts.first parts.second (subst GoWell parts.split well) in
      let later = answered_behind members Outside parts.first parts.second
      (subst (AreAnswered members Outside) parts.split answered) in
      -- the second part begins with no byte asked for yet,
      let legs_are : legs_by Outside (sent_signals parts.first) ≡ Inside (byte_leg (w ∷ body) ∷ []) (Byte r ∷ asks 0) =
      ap (legs_by Outside) parts.first_are ∙ ap (legs_by Outside) (sym (append-nil legs))
      ∙ legs_by_legs Outside two_legs [] in
      -- and the first part, which was written, read none
      let written =
      subst (AllByRecursion IsWritten) (ap (λ (xs : List HostSignal). xs ++ leg_signals (r ∷ []))
      (append-nil (leg_signals (w ∷ body))))
      (legs_written ((w ∷ body) ∷ []) (r ∷ [])) in
      let nothing = reads_none parts.first legs parts.first_are written in
      record {
        reply = ok.0;
        ok = ok.1;
        asked = parts.second;
        asked_are = parts.second_are;
        well = both.1;
        answered = subst (λ (ls : Legs). AreAnswered members ls parts.second) legs_are later;
        read_are =
            ap bytes_read parts.split ∙ flat_map-append (λ (one : AnsweredSignal). byte_of one.signal one.result)
            parts.first parts.second
            ∙ ap (λ (bs : List ℕ). bs ++ bytes_read parts.second) nothing;
      }

  -- ---- a byte was not acknowledged

  -- the bytes in which the device is asked are
  first_acked : (bytes : List ℕ) (b : ℕ) (more : List ℕ) (result : DeviceSignal) → w ∷ body ≡ bytes ++ b ∷ more
      → BusAnswers members (Inside [] (byte_leg bytes)) (Byte b) result → result ≡ answers.Ack
  first_acked [] b more result is bus =
      let here : b ≡ w = cc is in
      address_acked members a.member a.in_bus [] result refl
      (subst (λ (n : ℕ). BusAnswers members (Inside [] []) (Byte n) result) here bus)
  first_acked (x ∷ bytes) b more result is bus =
      let here : x ≡ w = cc is in
      let body_is : body ≡ bytes ++ b ∷ more = cc is in
      let all = request_is_taken a.member.device a.accepted body a.request in
      let both = takes_parts a.member.device First [] bytes (b ∷ more)
      (subst (λ (bs : List ℕ). TakesAll a.member.device First [] bs) body_is all) in
      byte_acked members a.member a.in_bus [] refl bytes b both.0 result
      (subst (λ (n : ℕ). BusAnswers members (Inside [] (byte_leg (n ∷ bytes))) (Byte b) result) here bus) both.1.0

  -- The device refused to be read.
  pub record ReadingRefused (leg_at byte_at : ℕ) : Type 0 where
    -- why the device refuses
    pub bit : CmlBit
    pub err : answer a.member.device a.member.state body ≡ Err bit
    -- the place that the host reports: the first byte of the second leg, which is the read address
    pub leg_is : leg_at ≡ 2
    pub byte_is : byte_at ≡ 0
    pub recorded_are : recorded_events heard ≡ leg (w ∷ body) ++ events.Start ∷ events.Byte r ∷ events.Nack ∷ []

  module _ (leg_at byte_at : ℕ) (at_read : Bool)
      (x : IsRefused job.profile job.task (stopped heard run.last) leg_at byte_at at_read) where
    failed : ByteFailed job members heard step run leg_at byte_at at_read x
    failed = byte_failed job members heard step run leg_at byte_at at_read x

    place_in : InTwo (w ∷ body) r x.legs x.bytes x.refused failed.within.more
    place_in = in_two (w ∷ body) r x.legs x.bytes x.refused failed.within.more failed.within.behind
        (sym a.legs_are ∙ failed.within.split)

    by_place : InTwo (w ∷ body) r x.legs x.bytes x.refused failed.within.more → ReadingRefused leg_at byte_at
    -- a byte of the first leg: the device acknowledges each of those, so that none is refused
    by_place (in_first none is) =
        let bus = subst (λ (ls : List (List ℕ)). BusAnswers members (Inside (map byte_leg ls) (byte_leg x.bytes))
        (Byte x.refused) x.result) none failed.bus in
        absurd (x.not_acked (first_acked x.bytes x.refused failed.within.more x.result is bus))
    -- the read address: what the bus answered there, in the legs as they are known now
    by_place (in_second legs_is bytes_is byte_is) =
        let bus_legs =
        subst (λ (ls : List (List ℕ)). BusAnswers members (Inside (map byte_leg ls) (byte_leg x.bytes))
        (Byte x.refused) x.result) legs_is failed.bus in
        let bus_bytes =
        subst (λ (bs : List ℕ). BusAnswers members (Inside (byte_leg (w ∷ body) ∷ []) (byte_leg bs))
        (Byte x.refused) x.result) bytes_is bus_legs in
        let bus = subst (λ (n : ℕ). BusAnswers members (Inside (byte_leg (w ∷ body) ∷ []) []) (Byte n) x.result) byte_is
        bus_bytes in
        -- the device answered it, and not by ACK: so it refuses, with this reason
        let err =
        err_of a.member.device (answer a.member.device a.member.state body) x.result
        (read_answer members a.member a.in_bus a.same body form a.only a.request x.result bus) x.not_acked in
        -- what was recorded: the legs before, then the refused byte
        let one = record { signal = Byte x.refused; result = x.result } ∷ [] in
        let front : recorded_events x.front ≡ flat_map leg x.legs ++ leg x.bytes =
        recorded_well x.front (flat_map leg_signals x.legs ++ leg_signals x.bytes) x.before
        (legs_written x.legs x.bytes) x.stops.well
        ∙ legs_events_are x.legs x.bytes in
        let last : recorded_events one ≡ events.Byte r ∷ events.Nack ∷ [] =
        ap (λ (e : Event). events.Byte x.refused ∷ e ∷ []) (refused_event x.result x.not_acked)
        ∙ ap (λ (n : ℕ). events.Byte n ∷ events.Nack ∷ []) byte_is in
        record {
          bit = err.0;
          err = err.1;
          leg_is = x.leg_is ∙ ap (λ (ls : List (List ℕ)). length ls + 1) legs_is;
          byte_is = x.byte_is ∙ ap (λ (bs : List ℕ). length bs) bytes_is;
          -- all that was recorded, with the legs and the bytes put in
          recorded_are =
              ap recorded_events failed.heard_is ∙ recorded-append x.front one
              ∙ ap (λ (es : List Event). es ++ recorded_events one) front
              ∙ ap (λ (es : List Event). (flat_map leg x.legs ++ leg x.bytes) ++ es) last
              ∙ ap (λ (ls : List (List ℕ)). (flat_map leg ls ++ leg x.bytes) ++ events.Byte r ∷ events.Nack ∷ [])
              legs_is
              ∙ ap (λ (bs : List ℕ). ((leg (w ∷ body) ++ []) ++ leg bs) ++ events.Byte r ∷ events.Nack ∷ []) bytes_is
              ∙ ap (λ (es : List Event). (es ++ events.Start ∷ []) ++ events.Byte r ∷ events.Nack ∷ [])
              (append-nil (leg (w ∷ body)))
              ∙ append_assoc (leg (w ∷ body)) (events.Start ∷ []) (events.Byte r ∷ events.Nack ∷ []);
        }

    pub reading_refused : ReadingRefused leg_at byte_at
    reading_refused = by_place place_in

  -- ---- all that is to be read

  -- what is read has the form of the reply, and a packet error code where one was asked for
  all_read : (bytes : List ℕ) → AreRead (reply_form job.profile job.task) (reply_has_pec job.task) bytes
      → AreAll form with_pec bytes
  all_read bytes all =
      subst (λ (p : Bool). AreAll form p bytes) a.pec_is
      (subst (λ (o : Option Form). AreRead o (reply_has_pec job.task) bytes) a.form_is all)

  -- the bytes that the code covers
  abbrev before_reply : List ℕ
  before_reply = w ∷ body ++ r ∷ []

  -- the code that the device gives
  abbrev own_code : List ℕ → List ℕ
  own_code told = code_behind (carries_pec a.member.device a.member.device.pec) before_reply told

  -- No Ask is left without a byte.
  pub each_given : GetsNoByte job.profile job.task (stopped heard run.last) → ⊥
  each_given g =
      -- the Ask that failed, and the signals that the host was still to send
      let f = ask_failed job members heard step run g in
      let bytes = bytes_read g.front ++ f.next.to_read in
      -- the signals up to it are both legs, and then some Asks, each with its ACK
      let back =
      ask_behind_legs two_legs (sent_signals g.front) (reading_signals bytes ++ Stop ∷ []) f.next.behind
      (ap (λ (ls : List (List ℕ)). flat_map leg_signals ls ++ (reading_signals bytes ++ Stop ∷ [])) (sym a.legs_are)
      ∙ f.next.spelled) in
      let place_of = asked_of bytes back.asked f.next.behind back.tail_is in
      -- the bytes that these Asks got begin the device's reply
      let b = behind g.front back.asked f.answered g.stops.well back.front_is in
      let so_far =
      read_so_far members a.member a.in_bus a.same body form a.only a.request b.reply b.ok bytes 0 b.asked
      (Ask ∷ f.next.behind)
      (back.tail_is ∙ ap (λ (xs : List HostSignal). xs ++ Ask ∷ f.next.behind) (sym b.asked_are)) b.answered b.well in
      -- there are as many of them as there were Asks
      let count : length (bytes_read b.asked) ≡ place_of.count =
      count_read place_of.count b.asked (b.asked_are ∙ place_of.asked_are) b.well in
      -- What the host was to read is a reply of the form and a code, and the device's own bytes
      -- are not shorter: it gives a code wherever one is asked for.
      let all = all_read bytes f.next.all in
      let long : length all.code ≤ length (own_code (wire form b.reply)) =
      subst (λ (n : ℕ). n ≤ length (own_code (wire form b.reply))) (sym all.one)
      (given_where_asked a.member.device a.member.device.pec with_pec before_reply (wire form b.reply) a.mode) in
      -- the host had not read all, so that the device too has a byte more (`goes_on_too`)
      let same_read = ap (λ (bs : List ℕ). bs ++ f.next.to_read) b.read_are in
      let same_length = ap (λ (bs : List ℕ). length bs) same_read in
      let fewer : length (bytes_read b.asked) < length (bytes_read b.asked ++ f.next.to_read) =
      omega (arith, place_of.fewer, count, same_length) in
      let more =
      goes_on_too form all.reply b.reply all.code (own_code (wire form b.reply)) (bytes_read b.asked) f.next.to_read
      so_far.0 all.fits.taken
      (a.takes b.reply b.ok) long (sym same_read ∙ all.spelled)
      (sym so_far.1 ∙ checked_is (carries_pec a.member.device a.member.device.pec) before_reply (wire form b.reply))
      fewer in
      -- that byte, at the place of the Ask among all bytes of the reply
      let whole = all_bytes members a.member a.in_bus a.same body form a.only a.request b.reply b.ok in
      let within : place_of.count < length whole = subst (λ (bs : List ℕ). place_of.count < length bs) (sym so_far.1)
      (omega (arith, more, count)) in
      let there = byte_at whole place_of.count within in
      -- the bus stood there after as many Asks, so that it gave the byte: the Ask was not left
      -- without one
      let legs_are : legs_by Outside (sent_signals g.front)
      ≡ Inside (byte_leg (w ∷ body) ∷ []) (Byte r ∷ asks place_of.count) =
      ap (legs_by Outside) back.front_is ∙ legs_by_legs Outside two_legs back.asked
      ∙ ap (legs_by (Inside (byte_leg (w ∷ body) ∷ []) (Byte r ∷ []))) place_of.asked_are
      ∙ legs_by_asks (byte_leg (w ∷ body) ∷ []) (Byte r ∷ []) place_of.count in
      g.none there.0
      (
      ask_given members a.member a.in_bus a.same body form a.only a.request b.reply b.ok place_of.count there.0 g.result
      there.1
      (subst (λ (ls : Legs). BusAnswers members ls Ask g.result) legs_are f.bus)
      )

  -- ---- a run that read all

  -- The bytes that were read begin the device's reply.
  pub record Whole (bytes : List ℕ) : Type 0 where
    -- the device's reply,
    pub reply : List ℕ
    pub ok : answer a.member.device a.member.state body ≡ Ok reply
    -- and those bytes of it, with its code, that were not read
    pub rest : List ℕ
    pub spelled : wire form reply ++ own_code (wire form reply) ≡ bytes ++ rest

  pub whole_read : Completes job.profile job.task (stopped heard run.last) → Whole (bytes_read (stopped heard run.last))
  whole_read c =
      let bytes = bytes_read (stopped heard run.last) in
      let b =
      behind heard (reading_signals bytes) run.answered (well_before heard run.last c.well)
      (
      stop_last heard run.last (legs_of job.profile job.task) bytes c.spelled
      ∙ ap (λ (ls : List (List ℕ)). flat_map leg_signals ls ++ reading_signals bytes) a.legs_are
      ) in
      let so_far =
      read_so_far members a.member a.in_bus a.same body form a.only a.request b.reply b.ok bytes 0 b.asked (Stop ∷ [])
      (ap (λ (xs : List HostSignal). xs ++ Stop ∷ []) (sym b.asked_are)) b.answered b.well in
      record {
        reply = b.reply;
        ok = b.ok;
        rest = so_far.0;
        spelled =
            sym (checked_is (carries_pec a.member.device a.member.device.pec) before_reply (wire form b.reply))
            ∙ so_far.1
            ∙ ap (λ (bs : List ℕ). bs ++ so_far.0) (sym (stop_reads_nothing heard run.last ∙ b.read_are));
      }

  -- A reply that they say is the device's.
  pub own_reply : (bytes : List ℕ) (whole : Whole bytes) (told code : List ℕ) → Fits form told
      → bytes ≡ wire form told ++ code → whole.reply ≡ told
  own_reply bytes whole told code fits is =
      wire_front form whole.reply told (own_code (wire form whole.reply)) (code ++ whole.rest)
      (a.takes whole.reply whole.ok) fits.taken
      (whole.spelled ∙ ap (λ (bs : List ℕ). bs ++ whole.rest) is ∙ append_assoc (wire form told) code whole.rest)

  -- The bytes before the reply are those of both legs.
  before_is : bytes_before job.profile job.task ≡ before_reply
  before_is = ap (λ (ls : List (List ℕ)). flat_map (λ bytes. bytes) ls) a.legs_are

  -- what the bytes say, in the words of the host
  to_says : (reply bytes : List ℕ) → SayReply form with_pec before_reply reply bytes
      → SaysReply job.profile job.task reply bytes
  to_says reply bytes say =
      subst (λ (o : Option Form). Say o (reply_has_pec job.task) (bytes_before job.profile job.task) reply bytes)
      (sym a.form_is)
      (
      subst (λ (p : Bool). SayReply form p (bytes_before job.profile job.task) reply bytes) (sym a.pec_is)
      (subst (λ (bs : List ℕ). SayReply form with_pec bs reply bytes) (sym before_is) say)
      )

  from_says : (reply bytes : List ℕ) → SaysReply job.profile job.task reply bytes
      → SayReply form with_pec before_reply reply bytes
  from_says reply bytes says =
      subst (λ (bs : List ℕ). SayReply form with_pec bs reply bytes) before_is
      (
      subst (λ (p : Bool). SayReply form p (bytes_before job.profile job.task) reply bytes) a.pec_is
      (subst (λ (o : Option Form). Say o (reply_has_pec job.task) (bytes_before job.profile job.task) reply bytes)
      a.form_is says)
      )

  -- No packet error code is wrong.
  pub code_is_right : HasBadPec job.profile job.task (stopped heard run.last) → ⊥
  code_is_right b =
      let bytes = bytes_read (stopped heard run.last) in
      let whole = whole_read b.completes in
      let all = all_read bytes b.completes.all in
      let told = all.reply in
      -- the reply that was read is the device's own
      let same = own_reply bytes whole told all.code all.fits all.spelled in
      -- so after the reply the bytes read go on as the device's own code
      let rows =
      ap (λ (x : List ℕ). wire form x ++ own_code (wire form x)) (sym same) ∙ whole.spelled
      ∙ ap (λ (bs : List ℕ). bs ++ whole.rest) all.spelled
      ∙ append_assoc (wire form told) all.code whole.rest in
      -- that code is the right one, where one is asked for,
      let code =
      right_code a.member.device a.member.device.pec with_pec before_reply (wire form told) all.code whole.rest a.mode
      all.one
      (same_back (wire form told) (own_code (wire form told)) (all.code ++ whole.rest) rows) in
      -- while the failure says that the bytes spell no reply with the right code
      b.wrong told
      (
      to_says told bytes
      (
      record {
        fits = all.fits;
        spelled =
            all.spelled ∙ ap (λ (bs : List ℕ). wire form told ++ bs) code
            ∙ sym (checked_is with_pec before_reply (wire form told));
      }
      )
      )

  -- What was told is the device's reply.
  pub told_is_own : (reply : List ℕ) → Completes job.profile job.task (stopped heard run.last)
      → SaysReply job.profile job.task reply (bytes_read (stopped heard run.last))
      → answer a.member.device a.member.state body ≡ Ok reply
  told_is_own reply c says =
      let bytes = bytes_read (stopped heard run.last) in
      let whole = whole_read c in
      let say = from_says reply bytes says in
      let same =
      own_reply bytes whole reply (code_behind with_pec before_reply (wire form reply)) say.fits
      (say.spelled ∙ checked_is with_pec before_reply (wire form reply)) in
      whole.ok ∙ ap (λ (bs : List ℕ). Ok bs) same

  -- ---- the packet of a refusal

  refused_leg : (sent : List ℕ) (all : List Event) → ReadRefused job.profile [] a.member.device.address sent all
      → RefusedLeg job.profile [] a.member.device.address sent true all
  refused_leg [] all is = is
  refused_leg (b ∷ sent) all is = is

  no_addresses : IsDistinct nat_eq (addresses [])
  unfolding IsDistinct
  no_addresses = tt

  pub refused_packet : (leg_at byte_at : ℕ) → ReadingRefused leg_at byte_at
      → Packet job.profile (Refused (record {
        parts = [];
        addr = a.member.device.address;
        sent = body;
        at_read =
            true;
      })) (recorded_events heard ++ events.Stop ∷ [])
  refused_packet leg_at byte_at x =
      -- the leg of the request, then START and the read address, which was refused
      let last = leg (w ∷ body) ++ events.Start ∷ events.Byte r ∷ events.Nack ∷ [] in
      record {
        -- no part stands before it, so there is nothing to compare
        few = omega arith;
        distinct = no_addresses;
        another = refl;
        legs = [];
        each = refl;
        last = last;
        -- the request is one that this device is asked by
        refused =
            refused_leg body last (record {
              alone = refl;
              device = a.member.device;
              known = a.known;
              body =
                  a.request;
              spelled = refl;
            });
        spelled = ap (λ (es : List Event). es ++ events.Stop ∷ []) x.recorded_are;
      }
