-- The transaction that a request comes to on devices in good states: it has a packet, the host has
-- an end to tell, and the devices are in good states after it. For the law `some_running`. By the
-- cases of `Exchanges`: a write, a write refused at a value of PAGE, a reply, or a device that
-- refuses to be read; a reply fits its form since the device's registers do.
use Rattle.std.proofs.Common.{◌≡◌, ℕ, ◌+◌, ◌*◌, ◌%◌, ◌/◌, inl, inr, Option, Some, None, Result, Ok, Err, List, [], ◌∷◌}
use Rattle.std.proofs.Common.{◌++◌, length, length-append, map, nat_eq, true, false, refl, sym, ap, subst, ◌∙◌, arith}
use Rattle.std.specs.Prelude.{IfSome}
use Rattle.std.specs.List.{AllByRecursion, IsDistinct}
use Rattle.std.proofs.lemmas.Option.{same_Some}
use Rattle.pmb_bus.specs.Address.{read_address, write_address}
use Rattle.pmb_bus.specs.declared.event.Event.TheVariants.{Start, Byte, Nack, Stop}
use Rattle.pmb_command.specs.declared.form.Form.{Form}
use Rattle.pmb_command.specs.declared.form.Form.TheVariants.{Zero, One, Two, Four, Eight, Block}
use Rattle.pmb_command.specs.declared.form.Shape.{Shape}
use Rattle.pmb_command.specs.Bus.{IsBus}
use Rattle.pmb_command.specs.Parts.{DeviceParts, device_with}
use Rattle.pmb_command.specs.Wire.{AreByteValues, Fits, Takes, wire}
use Rattle.pmb_transaction.specs.Body.{Allowed, IsRequest, IsWriteBody, forms}
use Rattle.pmb_transaction.specs.Packet.{leg, nacked}
use Rattle.pmb_transaction.specs.Transaction.{CallData, PartData, ReadData, RefusedData, TransactionData, Write, Read}
use Rattle.pmb_transaction.specs.Transaction.{Call, Refused, Alert, NoAlert}
use Rattle.pmb_registers.specs.declared.cml_bit.CmlBit.{CmlBit}
use Rattle.pmb_registers.specs.Answer.{answer}
use Rattle.pmb_registers.specs.Apply.{after_parts, after_refusal}
use Rattle.pmb_registers.specs.State.{InState}
use Rattle.pmb_devices.specs.Signal.{all_applied}
use Rattle.pmb_devices.proofs.ReplyForms.{called_taken, read_taken}
use Rattle.pmb_writer.specs.Invalid.{HasPacket, forms_at}
use Rattle.pmb_writer.proofs.Packets.{forms_are}
use Rattle.pmb_value.specs.declared.number_format.NumberFormat.{NumberFormat}
use Rattle.pmb_value.specs.declared.number_format.WordFault.{WordFault}
use Rattle.pmb_value.specs.WordFault.{value_in}
use Rattle.pmb_quantity.specs.Fraction.{Fraction}
use Rattle.pmb_host.specs.declared.step.HostStep.{HostStep}
use Rattle.pmb_host.specs.declared.step.HostStep.TheVariants.{Done, Failed}
use Rattle.pmb_host.specs.declared.step.HostFault.TheVariants as faults
use Rattle.pmb_host.specs.declared.step.Reply.{Reply}
use Rattle.pmb_host.specs.declared.step.Reply.TheVariants.{Written, Bytes, Value, NoValue}
use Rattle.pmb_host.specs.Signals.{reply_form}
use Rattle.pmb_host.specs.Steps.{reply_data, told_word}
use Rattle.pmb_host.specs.Task.{replied, word_bytes}
use Rattle.pmb_exchange.specs.Exchange.{EndsWith, Exchanges, IsAnswered, IsReplyTold, IsTaken, WritesNoPage, answered}
use Rattle.pmb_exchange.specs.Exchange.{part_refused, read_refused, written}
use Rattle.pmb_exchange.proofs.Pages.{page_body}
use Rattle.pmb_exchange.proofs.Parts.{HasLeg, all_parts, distinct_front, have_legs, legs_events, new_address}
use Rattle.pmb_exchange.proofs.Parts.{parts_events}
use Rattle.pmb_host.specs.Signals.{part_bytes}
use Rattle.pmb_run.proofs.Members.{IsMember, all_good_after, of_contained, others_stay_good, parts_good}
use Rattle.pmb_run.proofs.Members.{refusal_good, same_device}
use Rattle.pmb_run.proofs.Replies.{reply_small}

-- ---- replies

-- some data of each form
some_data : (form : Form) → (reply : List ℕ) × Fits form reply
-- zeros, as many as the form takes; an empty Block
some_data Zero = ([], record { small = tt; taken = refl })
some_data One = (0 ∷ [], record { small = (omega arith, tt); taken = refl })
some_data Two = (0 ∷ 0 ∷ [], record { small = (omega arith, (omega arith, tt)); taken = refl })
some_data Four = (
  0 ∷ 0 ∷ 0 ∷ 0 ∷ [],
  record
      { small = (omega arith, (omega arith, (omega arith, (omega arith, tt)))); taken = refl },
)
some_data Eight = (
  0 ∷ 0 ∷ 0 ∷ 0 ∷ 0 ∷ 0 ∷ 0 ∷ 0 ∷ [],
  record {
    small = (
      omega arith,
      (
        omega arith,
        (
          omega arith,
          (omega arith, (omega arith, (omega arith, (omega arith, (omega arith, tt))))),
        ),
      ),
    );
    taken = refl;
  },
)
some_data Block = ([], record { small = tt; taken = omega arith })

some_reply : (form : Option Form) → (reply : List ℕ) × IfSome form (λ form. Fits form reply)
some_reply None = ([], tt)
some_reply (Some form) = some_data form

-- two bytes are those of a word
word_of : (reply : List ℕ) → length reply ≡ 2 → AreByteValues reply → (word : ℕ) × (reply ≡ word_bytes word)
word_of [] two small = absurd (omega (arith, two))
word_of (a ∷ []) two small = absurd (omega (arith, two))
word_of (a ∷ b ∷ []) two small =
    let word = a + b * 256 in
    let low : a ≡ word % 256 = omega (arith, small.0) in
    let high : b ≡ word / 256 = omega (arith, small.0) in
    (word, cc (low, high))
word_of (a ∷ b ∷ c ∷ more) two small = absurd (omega (arith, two))

-- what a word is worth is told by a reply
told_by : (told : Result Fraction WordFault) → (reply : Reply) × (reply_data reply ≡ told_word told)
told_by (Ok value) = (Value value, refl)
told_by (Err fault) = (NoValue, refl)

-- a reply is told as its bytes, or as a value
telling : (number : Option NumberFormat) (form : Form) (reply : List ℕ) → Fits form reply
    → ((format : NumberFormat) → number ≡ Some format → form ≡ Two)
    → (told : Reply) × IsReplyTold number reply (reply_data told)
telling None form reply fits two = (Bytes (record { items = reply }), IsReplyTold.bytes refl refl)
telling (Some format) form reply fits two =
    let word = word_of reply (subst (λ (f : Form). Takes f (length reply)) (two format refl) fits.taken) fits.small in
    let told = told_by (value_in format word.0) in
    (told.0, IsReplyTold.value format word.0 refl word.1 told.1)

-- ---- the end of an exchange

distinct_none : IsDistinct nat_eq []
unfolding IsDistinct
distinct_none = tt

-- a write body is allowed after any parts
allowed_behind : (device : DeviceParts) (before : List PartData) (body : List ℕ) → IsWriteBody device body
    → Allowed device before body
allowed_behind device [] body write = inl write
allowed_behind device (part ∷ before) body write = write

module _ (profile : List DeviceParts) (members : List InState) (bus : IsBus profile)
    (devices_are : map (λ m. m.device) members ≡ profile)
    (all : AllByRecursion IsMember members) (number : Option NumberFormat) where
  -- What a task asks for has a packet, whatever reply fits, and where a number is read that has
  -- two bytes.
  pub record IsAsked (task : TransactionData) : Type 0 where
    -- with any reply that fits
    pub packets : (reply : List ℕ) → IfSome (reply_form profile task) (λ form. Fits form reply)
        → HasPacket profile (replied task reply)
    pub words : (format : NumberFormat) → number ≡ Some format → reply_form profile task ≡ Some Two

  -- A transaction has a packet and an end, and leads to good states.
  pub record Ending (done : TransactionData) : Type 0 where
    -- the end that the host returns
    pub packet : HasPacket profile done
    pub end : HostStep
    pub ends : EndsWith number done end
    pub after : AllByRecursion IsMember (all_applied done members)

  -- ---- what is written

  write_ends : (parts : List PartData) → IsAsked (Write parts) → AllByRecursion (IsTaken members) parts
      → Ending (Write parts)
  write_ends parts asked taken =
      let packet = asked.packets [] tt in
      let legs = have_legs profile bus parts packet.1.legs packet.1.each in
      record {
        packet = packet;
        end = Done Written;
        ends = (Written, refl, refl);
        after = all_good_after (Write parts) members
            (
            λ m at is.
            others_stay_good profile members bus devices_are m at is.accepted parts legs
            (after_parts m.device parts m.state)
            (parts_good profile members bus devices_are m at is.accepted parts legs taken m.state is.good)
            ) all;
      }

  part_ends : (before : List PartData) (part : PartData) (behind : List PartData)
      → IsAsked (Write (before ++ part ∷ behind))
      → AllByRecursion (IsTaken members) before → WritesNoPage members part
      → Ending (Refused (record { parts = before; addr = part.addr; sent = part.code ∷ part.bytes; at_read = false }))
  part_ends before part behind asked taken wrong =
      -- the packet of the whole write tells the legs of its parts
      let whole = asked.packets [] tt in
      let legs = all_parts (HasLeg profile) before part behind
      (have_legs profile bus (before ++ part ∷ behind) whole.1.legs whole.1.each) in
      let has = legs.1 in
      -- this part's body is 00h, the code of PAGE, and the value
      let body = page_body has.device has.accepted part.code part.bytes part.pec has.body has.allowed wrong.page in
      let sent = part.code ∷ part.bytes in
      let code_is : part.code ≡ 0x00 = wrong.page in
      let content_is : part.bytes ≡ body.value ∷ [] = body.content_is in
      let split : sent ≡ 0x00 ∷ body.value ∷ [] = cc (code_is, content_is) in
      -- at most 15 parts come before it
      let few = whole.1.few in
      let lengths : length (before ++ part ∷ behind) ≡ length before + length (part ∷ behind) =
      length-append before (part ∷ behind) in
      -- the events of the refused leg, and of the parts before
      let last = leg (write_address part.addr ∷ []) ++ nacked sent in
      let events = legs_events profile (map (part_bytes profile) before) in
      let t : RefusedData = record { parts = before; addr = part.addr; sent = sent; at_read = false } in
      record {
        packet = (
          events ++ last ++ Stop ∷ [],
          record {
            few = omega (arith, few, lengths);
            distinct = distinct_front profile before (part ∷ behind) whole.1.distinct;
            another = new_address profile before part behind whole.1.distinct;
            legs = events;
            each = parts_events profile before legs.0;
            last = last;
            -- the refused leg: the value of PAGE got NACK
            refused = record {
              device = has.device;
              known = has.known;
              bytes = (omega (arith, code_is), has.allowed.fits.small);
              front = 0x00 ∷ [];
              last = body.value;
              split = split;
              begins =
                  inr (
                    has.body,
                    allowed_behind has.device before has.body (part.code, part.bytes, part.pec, has.allowed),
                    record { next = body.value; rest = body.rest; split = body.body_is },
                  );
              spelled = refl;
            };
            spelled = refl;
          },
        );
        -- the host reports the leg and the byte
        end = Failed (faults.Refused (length before + 1) (length sent) false);
        ends = refl;
        -- each device took the parts before, or notes the value
        after = all_good_after (Refused t) members
            (
            λ m at is.
            others_stay_good profile members bus devices_are m at is.accepted before legs.0
            (after_refusal m.device t (after_parts m.device before m.state))
            (refusal_good profile members bus devices_are m at is.accepted t (after_parts m.device before m.state)
            (parts_good profile members bus devices_are m at is.accepted before legs.0 taken m.state is.good))
            ) all;
      }

  -- ---- what is read

  -- a device that is asked refuses to be read
  refused_ends : (address : ℕ) (device : DeviceParts) → device_with address profile ≡ Some device
      → (code : ℕ) (behind : List ℕ)
      → IsRequest device (code ∷ behind)
      → Ending (Refused (record { parts = []; addr = address; sent = code ∷ behind; at_read = true }))
  refused_ends address device known code behind body =
      let t : RefusedData = record { parts = []; addr = address; sent = code ∷ behind; at_read = true } in
      let last = leg (write_address address ∷ code ∷ behind) ++ Start ∷ Byte (read_address address) ∷ Nack ∷ [] in
      record {
        packet = (
          last ++ Stop ∷ [],
          record {
            few = omega arith;
            distinct = distinct_none;
            another = refl;
            legs = [];
            each = refl;
            last = last;
            refused = record { alone = refl; device = device; known = known; body = body; spelled = refl };
            spelled = refl;
          },
        );
        -- the second leg, at its address
        end = Failed (faults.Refused 2 0 true);
        ends = refl;
        after = all_good_after (Refused t) members
            (
            λ m at is.
            others_stay_good profile members bus devices_are m at is.accepted [] tt (after_refusal m.device t m.state)
            (refusal_good profile members bus devices_are m at is.accepted t m.state is.good)
            ) all;
      }

  module _ (t : ReadData) (asked : IsAsked (Read t)) (address : ℕ) (body : List ℕ) where
    read_packet : HasPacket profile (replied (Read t) (some_reply (reply_form profile (Read t))).0)
    read_packet = asked.packets (some_reply (reply_form profile (Read t))).0
        (some_reply (reply_form profile (Read t))).1

    read_refused_ends : (bit : CmlBit) → IsAnswered members (Read t) address body (Err bit)
        → Ending (Refused (record { parts = []; addr = address; sent = body; at_read = true }))
    read_refused_ends bit is =
        let packet = read_packet.1 in
        let known : device_with address profile ≡ Some packet.device =
        subst (λ (n : ℕ). device_with n profile ≡ Some packet.device)
        (same_Some t.addr address is.asked) packet.known in
        subst (λ (bs : List ℕ). Ending (Refused (record { parts = []; addr = address; sent = bs; at_read = true })))
        (sym is.asks)
        (refused_ends address packet.device known t.code []
        (inl (t.code, packet.form, record { read = packet.read; spelled = refl })))

    read_answered_ends : (reply : List ℕ) → IsAnswered members (Read t) address body (Ok reply)
        → Ending (replied (Read t) reply)
    read_answered_ends reply is =
        -- a packet of this read, with some reply, tells the device and the form
        let packet = read_packet.1 in
        let here : t.addr ≡ is.member.device.address = same_Some t.addr address is.asked ∙ sym is.is_at.address_is in
        let same : packet.device ≡ is.member.device =
        same_device profile members bus devices_are is.member is.is_at.one_of t.addr packet.device packet.known here in
        -- the device's answer is a reply of that form
        let m : IsMember is.member = of_contained IsMember members is.member all is.is_at.one_of in
        let form = packet.form in
        let read : (forms is.member.device t.code).read ≡ Some form =
        subst (λ (d : DeviceParts). (forms d t.code).read ≡ Some form) same packet.read in
        let told : answer is.member.device is.member.state (t.code ∷ []) ≡ Ok reply =
        ap (λ (bs : List ℕ). answer is.member.device is.member.state bs) (sym is.asks) ∙ is.answers in
        let fits : Fits form reply = record {
          small = reply_small is.member.device m.kept is.member.state m.good body reply is.answers;
          taken = read_taken is.member.device m.accepted is.member.state t.code form read m.good.fits reply told;
        } in
        -- the form is the profile's for this code
        let form_is : (forms_at profile t.addr t.code).read ≡ Some form =
        ap (λ (s : Shape). s.read) (forms_are profile t.addr t.code packet.device packet.known) ∙ packet.read in
        -- the host tells it as bytes, or as a value of two
        let reply_is = telling number form reply fits
        (λ format some. same_Some form Two (sym form_is ∙ asked.words format some)) in
        record {
          packet = asked.packets reply (subst (λ (o : Option Form). IfSome o (λ it. Fits it reply)) (sym form_is) fits);
          end = Done reply_is.0;
          ends = (reply_is.0, refl, reply_is.1);
          after = all_good_after (replied (Read t) reply) members (λ member at it. it.good) all;
        }

  module _ (t : CallData) (asked : IsAsked (Call t)) (address : ℕ) (body : List ℕ) where
    call_packet : HasPacket profile (replied (Call t) (some_reply (reply_form profile (Call t))).0)
    call_packet = asked.packets (some_reply (reply_form profile (Call t))).0
        (some_reply (reply_form profile (Call t))).1

    called_device : (result : Result (List ℕ) CmlBit) (is : IsAnswered members (Call t) address body result)
        → call_packet.1.device ≡ is.member.device
    called_device result is =
        same_device profile members bus devices_are is.member is.is_at.one_of t.addr call_packet.1.device
        call_packet.1.known
        (same_Some t.addr address is.asked ∙ sym is.is_at.address_is)

    call_refused_ends : (bit : CmlBit) → IsAnswered members (Call t) address body (Err bit)
        → Ending (Refused (record { parts = []; addr = address; sent = body; at_read = true }))
    call_refused_ends bit is =
        let packet = call_packet.1 in
        let form = is.asks.0 in
        let known : device_with address profile ≡ Some packet.device =
        subst (λ (n : ℕ). device_with n profile ≡ Some packet.device)
        (same_Some t.addr address is.asked) packet.known in
        let called : (forms packet.device t.code).call ≡ Some form =
        subst (λ (d : DeviceParts). (forms d t.code).call ≡ Some form)
        (sym (called_device (Err bit) is)) is.asks.1.called in
        subst (λ (bs : List ℕ). Ending (Refused (record { parts = []; addr = address; sent = bs; at_read = true })))
        (sym is.asks.1.spelled)
        (
        refused_ends address packet.device known t.code (wire form t.bytes)
        (inr (t.code, form, t.bytes, record { called = called; fits = is.asks.1.fits; spelled = refl }))
        )

    call_answered_ends : (reply : List ℕ) → IsAnswered members (Call t) address body (Ok reply)
        → Ending (replied (Call t) reply)
    call_answered_ends reply is =
        -- as for a read: the packet of this call, with some reply
        let packet = call_packet.1 in
        let form = is.asks.0 in
        let m : IsMember is.member = of_contained IsMember members is.member all is.is_at.one_of in
        let told : answer is.member.device is.member.state (t.code ∷ wire form t.bytes) ≡ Ok reply =
        ap (λ (bs : List ℕ). answer is.member.device is.member.state bs) (sym is.asks.1.spelled) ∙ is.answers in
        -- the device's answer is a reply of the form that it was called in
        let fits : Fits form reply = record {
          small = reply_small is.member.device m.kept is.member.state m.good body reply is.answers;
          taken = called_taken is.member.device m.accepted is.member.state t.code form t.bytes is.asks.1.called
              is.asks.1.fits reply told;
        } in
        let form_is : (forms_at profile t.addr t.code).call ≡ Some form =
        ap (λ (s : Shape). s.call) (forms_are profile t.addr t.code packet.device packet.known)
        ∙ subst (λ (d : DeviceParts). (forms d t.code).call ≡ Some form) (sym (called_device (Ok reply) is))
        is.asks.1.called in
        let reply_is = telling number form reply fits
        (λ format some. same_Some form Two (sym form_is ∙ asked.words format some)) in
        record {
          packet = asked.packets reply (subst (λ (o : Option Form). IfSome o (λ it. Fits it reply)) (sym form_is) fits);
          end = Done reply_is.0;
          ends = (reply_is.0, refl, reply_is.1);
          after = all_good_after (replied (Call t) reply) members (λ member at it. it.good) all;
        }

  -- no other task asks a device
  not_asked : {P : Type 0} (address : ℕ) → None ≡ Some address → P
  not_asked address none = absurd (cc none)

  by_refusal : (task : TransactionData) → IsAsked task → (address : ℕ) (body : List ℕ) (bit : CmlBit)
      → IsAnswered members task address body (Err bit)
      → Ending (Refused (record { parts = []; addr = address; sent = body; at_read = true }))
  by_refusal (Write parts) asked address body bit is = not_asked address is.asked
  by_refusal (Read t) asked address body bit is = read_refused_ends t asked address body bit is
  by_refusal (Call t) asked address body bit is = call_refused_ends t asked address body bit is
  by_refusal (Refused t) asked address body bit is = not_asked address is.asked
  by_refusal (Alert t) asked address body bit is = not_asked address is.asked
  by_refusal NoAlert asked address body bit is = not_asked address is.asked

  by_reply : (task : TransactionData) → IsAsked task → (address : ℕ) (body reply : List ℕ)
      → IsAnswered members task address body (Ok reply)
      → Ending (replied task reply)
  by_reply (Write parts) asked address body reply is = not_asked address is.asked
  by_reply (Read t) asked address body reply is = read_answered_ends t asked address body reply is
  by_reply (Call t) asked address body reply is = call_answered_ends t asked address body reply is
  by_reply (Refused t) asked address body reply is = not_asked address is.asked
  by_reply (Alert t) asked address body reply is = not_asked address is.asked
  by_reply NoAlert asked address body reply is = not_asked address is.asked

  -- ---- all tasks

  -- What a task comes to has a packet and an end, and leads to good states.
  pub exchanged : (task done : TransactionData) → IsAsked task → Exchanges members task done → Ending done
  exchanged task done asked (written parts is taken same) =
      subst Ending (sym same) (write_ends parts (subst IsAsked is asked) taken)
  exchanged task done asked (part_refused before part behind is taken wrong same) =
      subst Ending (sym same) (part_ends before part behind (subst IsAsked is asked) taken wrong)
  exchanged task done asked (answered address body reply is same) =
      subst Ending (sym same) (by_reply task asked address body reply is)
  exchanged task done asked (read_refused address body bit is same) =
      subst Ending (sym same) (by_refusal task asked address body bit is)
