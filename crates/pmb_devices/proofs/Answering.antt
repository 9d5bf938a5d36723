-- Where the events since the last STOP are, with STOP, the packet of a read or a call that the
-- host read by Asks alone, the reply is the device's answer. For the law `replies_are_answers`.
-- Device, form and body are known from the packet; `ReplyGivers` then says that the bytes of the
-- packet are those of the answer.
use Rattle.std.proofs.Common.{◌≡◌, ℕ, inl, inr, Some, Ok, Option, List, [], ◌∷◌, ◌++◌, map, nat_eq, refl, sym, ap}
use Rattle.std.proofs.Common.{subst, ◌∙◌}
use Rattle.std.specs.List.{Contains}
use Rattle.std.specs.Option.{IfSome}
use Rattle.std.proofs.lemmas.Option.{same_Some}
use Rattle.pmb_bus.specs.declared.event.Event.{Event}
use Rattle.pmb_bus.specs.declared.event.Event.TheVariants as event
use Rattle.pmb_command.specs.declared.form.Form.{Form}
use Rattle.pmb_command.specs.Bus.{IsBus, IsDevice}
use Rattle.pmb_command.specs.Parts.{DeviceParts, device_with}
use Rattle.pmb_command.specs.Wire.{Fits, wire}
use Rattle.pmb_transaction.specs.Body.{IsCallBody, IsReadBody, forms}
use Rattle.pmb_transaction.specs.Packet.{CallPacket, Packet, ReadPacket, answered}
use Rattle.pmb_transaction.specs.Transaction.{CallData, ReadData, Call, Read}
use Rattle.pmb_table.proofs.Accepted.{All-find}
use Rattle.pmb_registers.specs.Answer.{answer}
use Rattle.pmb_registers.specs.State.{InState}
use Rattle.pmb_device.specs.Legs.{Legs, Outside}
use Rattle.pmb_devices.specs.Bus.{AreAnswered, AnsweredSignal, recorded_events, legs_after}
use Rattle.pmb_devices.specs.Replies.{HasAddressAlone, IsState}
use Rattle.pmb_devices.proofs.Devices.{found_is_own}
use Rattle.pmb_devices.proofs.Parsing.{Stands}
use Rattle.pmb_devices.proofs.ReplyForms.{call_form, called_taken, read_form, read_taken}
use Rattle.pmb_devices.proofs.ReplyGivers.{one_member, reply_is}

module _ (profile : List DeviceParts) (members : List InState) (member : InState) (bus : IsBus profile)
    (is : map (λ m. m.device) members ≡ profile) (in_bus : Contains members member) (final : Legs)
    (alone : HasAddressAlone final) where
  -- the device that is found by the member's address is the member's, and accepted
  found_here : (addr : ℕ) (device : DeviceParts) → member.device.address ≡ addr → device_with addr profile ≡ Some device
      → (device ≡ member.device) × IsDevice member.device
  found_here addr device here known =
      let own : device ≡ member.device =
      found_is_own profile members member bus is in_bus device
      (subst (λ (a : ℕ). device_with a profile ≡ Some device) (sym here) known) in
      let accepted : IsDevice device =
      subst (λ (o : Option DeviceParts). IfSome o IsDevice) known
      (All-find IsDevice (λ d. nat_eq d.address addr) profile bus.devices) in
      (own, subst IsDevice own accepted)

  -- a member with the same address is the member
  same_member : (m : InState) → Contains members m → m.device.address ≡ member.device.address → m ≡ member
  same_member m there same = one_member profile members m member bus is there in_bus same

  -- a read
  read_is : (t : ReadData) (events : List Event) → ReadPacket profile t events → member.device.address ≡ t.addr
      → IsState member.device member.state
      → Stands members final Outside events
      → answer member.device member.state (t.code ∷ []) ≡ Ok t.reply
  read_is t events packet here fits stands =
      let d = member.device in
      let found = found_here t.addr packet.device here packet.known in
      let form = packet.form in
      let read : (forms d t.code).read ≡ Some form =
      subst (λ (x : DeviceParts). (forms x t.code).read ≡ Some form) found.0 packet.read in
      let request : IsReadBody d (t.code ∷ []) = (t.code, form, record { read = read; spelled = refl }) in
      let spelled : events ≡ answered d.address (t.code ∷ []) (wire form t.reply) t.pec =
      packet.spelled ∙ ap (λ (a : ℕ). answered a (t.code ∷ []) (wire form t.reply) t.pec) (sym here) in
      reply_is members member same_member (t.code ∷ []) form (read_form d found.1 t.code form read) in_bus final alone
      (inl request) t.reply t.pec
      packet.fits.taken (read_taken d found.1 member.state t.code form read fits)
      (subst (Stands members final Outside) spelled stands)

  -- a call
  call_is : (t : CallData) (form : Form) (events : List Event) → CallPacket profile t events
      → member.device.address ≡ t.addr
      → (forms member.device t.code).call ≡ Some form → Stands members final Outside events
      → answer member.device member.state (t.code ∷ wire form t.bytes) ≡ Ok t.reply
  call_is t form events packet here called stands =
      let d = member.device in
      -- the packet's device is the member's, and so is the form in which it is called
      let found = found_here t.addr packet.device here packet.known in
      let also : (forms d t.code).call ≡ Some packet.form =
      subst (λ (x : DeviceParts). (forms x t.code).call ≡ Some packet.form) found.0 packet.called in
      let form_is : packet.form ≡ form = same_Some packet.form form (sym also ∙ called) in
      -- both data fit that form
      let sent : Fits form t.bytes = subst (λ (f : Form). Fits f t.bytes) form_is packet.sent in
      let replied : Fits form t.reply = subst (λ (f : Form). Fits f t.reply) form_is packet.replied in
      -- the body that asks the device
      let body = t.code ∷ wire form t.bytes in
      let request : IsCallBody d body = (
        t.code,
        form,
        t.bytes,
        record { called = called; fits = sent; spelled = refl },
      ) in
      -- the packet, spelled with these
      let spelled : events ≡ answered d.address body (wire form t.reply) t.pec =
      packet.spelled ∙ ap (λ (a : ℕ). answered a (t.code ∷ wire packet.form t.bytes) (wire packet.form t.reply) t.pec)
      (sym here)
      ∙ ap (λ (f : Form). answered d.address (t.code ∷ wire f t.bytes) (wire f t.reply) t.pec) form_is in
      reply_is members member same_member body form (call_form d found.1 t.code form t.bytes called sent) in_bus final
      alone (inr request) t.reply t.pec
      replied.taken (called_taken d found.1 member.state t.code form t.bytes called sent)
      (subst (Stands members final Outside) spelled stands)

-- The reply of a read is the device's answer.
pub reads_are_answers : (profile : List DeviceParts) (members : List InState) (history : List AnsweredSignal)
    (t : ReadData) (member : InState)
    → IsBus profile → map (λ m. m.device) members ≡ profile → AreAnswered members Outside history
    → Packet profile (Read t) (recorded_events history ++ event.Stop ∷ [])
    → HasAddressAlone (legs_after Outside history) → Contains members member
    → member.device.address ≡ t.addr → IsState member.device member.state
    → answer member.device member.state (t.code ∷ []) ≡ Ok t.reply
reads_are_answers profile members history t member bus is answered_are packet alone in_bus here fits =
    read_is profile members member bus is in_bus (legs_after Outside history) alone t
    (recorded_events history ++ event.Stop ∷ []) packet here fits
    (record { more = history; answered = answered_are; spelled = refl; ends = refl })

-- So is the reply of a call, whatever the device's registers hold.
pub calls_are_answers : (profile : List DeviceParts) (members : List InState) (history : List AnsweredSignal)
    (t : CallData) (member : InState) (form : Form)
    → IsBus profile → map (λ m. m.device) members ≡ profile → AreAnswered members Outside history
    → Packet profile (Call t) (recorded_events history ++ event.Stop ∷ [])
    → HasAddressAlone (legs_after Outside history) → Contains members member
    → member.device.address ≡ t.addr → (forms member.device t.code).call ≡ Some form
    → answer member.device member.state (t.code ∷ wire form t.bytes) ≡ Ok t.reply
calls_are_answers profile members history t member form bus is answered_are packet alone in_bus here called =
    call_is profile members member bus is in_bus (legs_after Outside history) alone t form
    (recorded_events history ++ event.Stop ∷ []) packet here
    called (record { more = history; answered = answered_are; spelled = refl; ends = refl })
