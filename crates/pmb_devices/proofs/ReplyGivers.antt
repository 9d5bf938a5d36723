-- The bytes that are recorded of Asks are given by the one device that is read, and are a front of
-- its answer. For the law `replies_are_answers`. A member is known by its address; it was asked
-- one body, to which it gives one answer in one form; the bytes of the packet, with their code,
-- begin that answer, and as both are wires of one form the data are the same.
use Rattle.std.proofs.Common.{◌≡◌, ℕ, ◌<◌, zero, suc, Bool, None, Result, Ok, Err, List, [], ◌∷◌, ◌++◌, length, map}
use Rattle.std.proofs.Common.{get_or, nat_eq, refl, sym, ap, subst, ◌∙◌, append_assoc, arith}
use Rattle.std.specs.List.{Contains, IsDistinct}
use Rattle.std.proofs.lemmas.Bool.{eqb-false}
use Rattle.pmb_bus.specs.declared.event.Event.TheVariants as event
use Rattle.pmb_bus.specs.Address.{read_address, write_address}
use Rattle.pmb_command.specs.declared.form.Form.{Form}
use Rattle.pmb_command.specs.Bus.{IsBus}
use Rattle.pmb_command.specs.Parts.{DeviceParts}
use Rattle.pmb_command.specs.Wire as form_of
use Rattle.pmb_transaction.specs.Body.{checked, IsFormOfRequest, IsRequest}
use Rattle.pmb_transaction.specs.Packet.{answered, leg, nacked}
use Rattle.pmb_transaction.proofs.Data.{checked_is, code_behind}
use Rattle.pmb_registers.specs.declared.cml_bit.CmlBit.{CmlBit}
use Rattle.pmb_registers.specs.Answer.{answer}
use Rattle.pmb_registers.specs.Apply.{bit_of_answer}
use Rattle.pmb_registers.specs.State.{InState}
use Rattle.pmb_device.specs.declared.signal.HostSignal.TheVariants.{Byte, Ask}
use Rattle.pmb_device.specs.declared.signal.DeviceSignal.TheVariants as answers
use Rattle.pmb_device.specs.Legs.{Leg, Legs, Outside, Inside, sent}
use Rattle.pmb_device.specs.Rules.{AnswersAsk, IsRead, IsReplyTo, carries_pec, next_of, not_read, replies}
use Rattle.pmb_devices.specs.Bus.{BusAnswers}
use Rattle.pmb_devices.specs.Replies.{HasAddressAlone}
use Rattle.pmb_devices.proofs.AskedBytes.{reply_front}
use Rattle.pmb_devices.proofs.Devices.{other_at}
use Rattle.pmb_devices.proofs.Givers.{read_taken, run_address, run_leg}
use Rattle.pmb_devices.proofs.OwnLegs.{byte_leg, sent_bytes}
use Rattle.pmb_devices.proofs.Parsing.{Stands, acknowledged_is}
use Rattle.pmb_devices.proofs.ReplyForms.{wire_front}

-- ---- one address, one member

-- two places of a bus with one address are one
same_at : (members : List InState) (i j : ℕ) (a b : InState)
    → IsDistinct nat_eq (map (λ d. d.address) (map (λ m. m.device) members))
    → i < length members → get_or members i a ≡ a → j < length members → get_or members j b ≡ b
    → a.device.address ≡ b.device.address → a ≡ b
unfolding IsDistinct
same_at [] i j a b own small at less also same = absurd (omega arith)
same_at (m ∷ members) zero zero a b own small at less also same = sym at ∙ also
same_at (m ∷ members) zero (suc j) a b own small at less also same =
    let other = other_at m.device.address members j b own.0 (omega arith) also in
    absurd (eqb-false m.device.address b.device.address other (ap (λ (m : InState). m.device.address) at ∙ same))
same_at (m ∷ members) (suc i) zero a b own small at less also same =
    let other = other_at m.device.address members i a own.0 (omega arith) at in
    absurd (eqb-false m.device.address a.device.address other (ap (λ (m : InState). m.device.address) also ∙ sym same))
same_at (m ∷ members) (suc i) (suc j) a b own small at less also same = same_at members i j a b own.1 (omega arith) at
    (omega arith) also same

-- a member is told by its address
pub one_member : (profile : List DeviceParts) (members : List InState) (a b : InState) → IsBus profile
    → map (λ m. m.device) members ≡ profile
    → Contains members a → Contains members b → a.device.address ≡ b.device.address → a ≡ b
one_member profile members a b bus is here there same =
    same_at members here.0 there.0 a b (subst (λ (ds : List DeviceParts). IsDistinct nat_eq (map (λ d. d.address) ds))
    (sym is) bus.own_addresses)
    here.1 here.2 there.1 there.2 same

-- ---- who gives a byte

-- an answer that is no refusal has bytes
ok_of : (r : Result (List ℕ) CmlBit) → bit_of_answer r ≡ None → (reply : List ℕ) × (r ≡ Ok reply)
ok_of (Ok reply) is = (reply, refl)
ok_of (Err bit) is = absurd (cc is)

-- an address tells the device that it is of
one_address : (a b : ℕ) → write_address a ≡ write_address b → a ≡ b
one_address a b same = omega arith

-- all bytes of a reply
abbrev pub reply_of : DeviceParts → List ℕ → Form → List ℕ → List ℕ
reply_of device body form reply =
    checked (carries_pec device device.pec) (write_address device.address ∷ body ++ read_address device.address ∷ [])
    (form_of.wire form reply)

module _ (members : List InState) (member : InState) (same : (m : InState) → Contains members m
    → m.device.address ≡ member.device.address → m ≡ member)
    (body : List ℕ) (form : Form) (only : (f : Form) → IsFormOfRequest member.device f body → f ≡ form) where
  -- the leg in which the member is asked
  abbrev asked_leg : Leg
  asked_leg = byte_leg (write_address member.device.address ∷ body)

  -- a device that is read after the leg has the member's address, and was asked the body
  read_there : (device : DeviceParts) (address : ℕ) (others : List ℕ) → IsRead device (asked_leg ∷ []) address others
      → (device.address ≡ member.device.address) × (others ≡ body)
  read_there device address others is =
      let first : asked_leg ≡ is.asked.first = cc (is.asked.alone) in
      let rows : write_address device.address ∷ others ≡ write_address member.device.address ∷ body =
      sym is.asked.own ∙ ap sent (sym first) ∙ sent_bytes (write_address member.device.address ∷ body) in
      let w : write_address device.address ≡ write_address member.device.address = cc rows in
      (one_address device.address member.device.address w, cc rows)

  module _ (reply : List ℕ) (ok : answer member.device member.state body ≡ Ok reply) where
    -- what such a device replies is the member's answer
    all_are : (others replied all : List ℕ) → others ≡ body → answer member.device member.state others ≡ Ok replied
        → IsReplyTo member.device others replied all → all ≡ reply_of member.device body form reply
    all_are others replied all body_is also is =
        let form_is : is.form ≡ form = only is.form
        (subst (λ (bs : List ℕ). IsFormOfRequest member.device is.form bs) body_is is.asked) in
        let rows : Ok replied ≡ Ok reply = sym also ∙ ap (answer member.device member.state) body_is ∙ ok in
        let reply_is : replied ≡ reply = cc rows in
        is.spelled ∙ ap (λ (bs : List ℕ). reply_of member.device bs is.form replied) body_is
        ∙ ap (λ (f : Form). reply_of member.device body f replied) form_is
        ∙ ap (reply_of member.device body form) reply_is

    -- so is the byte that it gives
    byte_of : (s : Leg) (b : ℕ) → AnswersAsk member.device member.state (asked_leg ∷ [])
        (Byte (read_address member.device.address) ∷ s) (answers.Byte b)
        → next_of member.device (reply_of member.device body form reply) s ≡ answers.Byte b
    byte_of s b (replies address bytes sent_is others read replied all also is given_is) =
        let there = read_there member.device address others read in
        ap (λ (bs : List ℕ). next_of member.device bs s) (sym (all_are others replied all there.1 also is))
        ∙ sym given_is
    byte_of s b (not_read none given_is) = absurd (cc given_is)

    -- a byte that the bus gives is the member's
    given_by_member : (m : InState) → Contains members m → (s : Leg) (b : ℕ)
        → AnswersAsk m.device m.state (asked_leg ∷ []) (Byte (read_address member.device.address) ∷ s) (answers.Byte b)
        → m ≡ member
    given_by_member m in_bus s b (replies address bytes sent_is others read replied all also is given_is) =
        same m in_bus (read_there m.device address others read).0
    given_by_member m in_bus s b (not_read none given_is) = absurd (cc given_is)

    -- So each byte that the bus gives is the next one of the member's answer.
    bus_gives : (s : Leg) (b : ℕ) → BusAnswers members
        (Inside (asked_leg ∷ []) (Byte (read_address member.device.address) ∷ s)) Ask (answers.Byte b)
        → next_of member.device (reply_of member.device body form reply) s ≡ answers.Byte b
    bus_gives s b bus =
        let one = bus.given_by_one (λ silent. cc silent) in
        let is : one.0 ≡ member = given_by_member one.0 one.1 s b one.2 in
        byte_of s b
        (
        subst (λ (m : InState). AnswersAsk m.device m.state (asked_leg ∷ [])
        (Byte (read_address member.device.address) ∷ s) (answers.Byte b)) is one.2
        )

  -- ---- a packet

  module _ (in_bus : Contains members member) (final : Legs) (alone : HasAddressAlone final)
      (request : IsRequest member.device body) where
    -- The member gave ACK to be read, and these bytes were recorded after that.
    pub record Turned (bytes : List ℕ) : Type 0 where
      -- it did not refuse,
      pub ok : bit_of_answer (answer member.device member.state body) ≡ None
      -- and the rest of the packet was recorded after its read address
      pub stands : Stands members final (Inside (asked_leg ∷ []) (Byte (read_address member.device.address) ∷ []))
          (nacked bytes ++ event.Stop ∷ [])

    -- so it is in the packet of a read or a call
    turned : (told : List ℕ) (with_pec : Bool)
        → Stands members final Outside (answered member.device.address body told with_pec)
        → Turned (checked with_pec (write_address member.device.address ∷ body ++ read_address member.device.address
        ∷ []) told)
    turned told with_pec stands =
        -- the two address bytes, and the bytes of the packet's reply
        let d = member.device in
        let w = write_address d.address in
        let r = read_address d.address in
        let bytes = checked with_pec (w ∷ body ++ r ∷ []) told in
        let rest = nacked bytes ++ event.Stop ∷ [] in
        let reply_leg = leg (r ∷ []) ++ nacked bytes in
        -- the packet is the member's own leg, and one that reads it
        let spelled : answered d.address body told with_pec ≡ leg (w ∷ body)
        ++ (event.Start ∷ event.Byte r ∷ event.Ack ∷ rest) =
        append_assoc (leg (w ∷ body)) reply_leg (event.Stop ∷ []) in
        -- the signals of both,
        let written =
        run_leg members final Outside d.address body (event.Start ∷ event.Byte r ∷ event.Ack ∷ rest)
        (subst (Stands members final Outside) spelled stands) in
        let read = run_address members final (Inside [] asked_leg) r event.Ack rest written.stands in
        -- and the member's ACK to its read address
        let ack = subst (BusAnswers members (Inside (asked_leg ∷ []) []) (Byte r))
        (acknowledged_is read.result read.recorded_as) read.answer in
        record {
          ok =
              read_taken members member in_bus (asked_leg ∷ []) body
              (record {
                own = refl;
                asked = record {
                  first = asked_leg;
                  alone = refl;
                  own =
                      sent_bytes (w ∷ body);
                  request = request;
                };
              }) ack;
          stands = read.stands;
        }

    -- The reply of the packet is the member's answer.
    pub reply_is : (told : List ℕ) (with_pec : Bool) → form_of.Takes form (length told)
        → ((reply : List ℕ) → answer member.device member.state body ≡ Ok reply → form_of.Takes form (length reply))
        → Stands members final Outside (answered member.device.address body (form_of.wire form told) with_pec)
        → answer member.device member.state body ≡ Ok told
    reply_is told with_pec taken takes stands =
        -- the bytes that were recorded after the read address
        let d = member.device in
        let before = write_address d.address ∷ body ++ read_address d.address ∷ [] in
        let bytes = checked with_pec before (form_of.wire form told) in
        let behind = turned (form_of.wire form told) with_pec stands in
        -- the member has an answer,
        let answer_is = ok_of (answer d member.state body) behind.ok in
        let reply = answer_is.0 in
        -- and those bytes begin it
        let front =
        reply_front members final alone (asked_leg ∷ []) (read_address d.address) d (reply_of d body form reply)
        (bus_gives reply answer_is.1) [] bytes
        behind.stands in
        let all : reply_of d body form reply ≡ bytes ++ front.0 = front.1 in
        -- each of the two is the wire of its data, and a code perhaps
        let mine = checked_is (carries_pec d d.pec) before (form_of.wire form reply) in
        let theirs = checked_is with_pec before (form_of.wire form told) in
        let code = code_behind with_pec before (form_of.wire form told) in
        let rows : form_of.wire form reply ++ code_behind (carries_pec d d.pec) before (form_of.wire form reply)
        ≡ form_of.wire form told ++ (code ++ front.0) =
        sym mine ∙ all ∙ ap (λ (bs : List ℕ). bs ++ front.0) theirs
        ∙ append_assoc (form_of.wire form told) code front.0 in
        -- so the data are the same
        let same_reply : reply ≡ told =
        wire_front form reply told (code_behind (carries_pec d d.pec) before (form_of.wire form reply))
        (code ++ front.0) (takes reply answer_is.1) taken
        rows in
        answer_is.1 ∙ ap (λ (bs : List ℕ). Ok bs) same_reply
