-- A transaction has one packet at most under a profile. For the law `one_packet`, and for readings
-- of captures. The profile gives one device for an address and one form for a code, and these fix
-- the events of each part, leg and answer.
use Rattle.std.proofs.Common.{◌≡◌, ℕ, Bool, true, false, Option, Some, List, [], ◌∷◌, ◌++◌, sym, ap, ◌∙◌, subst}
use Rattle.std.proofs.lemmas.Option.{same_Some}
use Rattle.pmb_bus.specs.declared.event.Event.{Event}
use Rattle.pmb_bus.specs.declared.event.Event.TheVariants.{Stop}
use Rattle.pmb_bus.specs.Address.{write_address}
use Rattle.pmb_command.specs.declared.form.Form.{Form}
use Rattle.pmb_command.specs.Parts.{DeviceParts, device_with}
use Rattle.pmb_command.specs.Wire.{wire}
use Rattle.pmb_transaction.specs.Body.{WriteBody, checked, forms}
use Rattle.pmb_transaction.specs.Transaction.{PartData, ReadData, CallData, TransactionData, Write, Read, Call, Refused}
use Rattle.pmb_transaction.specs.Transaction.{Alert, NoAlert}
use Rattle.pmb_transaction.specs.Packet.{CallPacket, Packet, PartEvents, PartsEvents, ReadPacket, RefusedLeg, answered}
use Rattle.pmb_transaction.specs.Packet.{leg}

-- what is found is one thing
pub same_found : {X : Type 0} (o : Option X) (x y : X) → o ≡ Some x → o ≡ Some y → x ≡ y
same_found o x y first second = same_Some x y (sym first ∙ second)

-- a device writes a part's data in one way
one_write_body : (device : DeviceParts) (code : ℕ) (bytes : List ℕ) (with_pec : Bool) (a b : List ℕ)
    → WriteBody device code bytes with_pec a
    → WriteBody device code bytes with_pec b → a ≡ b
one_write_body device code bytes with_pec a b first second =
    let form = same_found (forms device code).write first.form second.form first.written second.written in
    first.spelled
    ∙ ap (λ (form : Form). checked with_pec (write_address device.address ∷ []) (code ∷ wire form bytes)) form
    ∙ sym second.spelled

module _ (profile : List DeviceParts) where
  one_part : (part : PartData) (a b : List Event) → PartEvents profile part a → PartEvents profile part b → a ≡ b
  one_part part a b first second =
      let device = same_found (device_with part.addr profile) first.device second.device first.known second.known in
      let allowed = subst (λ (d : DeviceParts). WriteBody d part.code part.bytes part.pec first.body) device
      first.allowed in
      let body = one_write_body second.device part.code part.bytes part.pec first.body second.body allowed
      second.allowed in
      first.spelled ∙ ap (λ (body : List ℕ). leg (write_address part.addr ∷ body)) body ∙ sym second.spelled

  one_row_of_parts : (parts : List PartData) (a b : List Event) → PartsEvents profile parts a
      → PartsEvents profile parts b → a ≡ b
  one_row_of_parts [] a b first second = first ∙ sym second
  one_row_of_parts (part ∷ parts) a b first second =
      let here : first.0 ≡ second.0 = one_part part first.0 second.0 first.3 second.3 in
      let later : first.1 ≡ second.1 = one_row_of_parts parts first.1 second.1 first.4 second.4 in
      first.2 ∙ cc (here, later) ∙ sym second.2

  one_refused_leg : (parts : List PartData) (addr : ℕ) (sent : List ℕ) (at_read : Bool) (a b : List Event)
      → RefusedLeg profile parts addr sent at_read a → RefusedLeg profile parts addr sent at_read b → a ≡ b
  one_refused_leg parts addr [] false a b first second = first.spelled ∙ sym second.spelled
  one_refused_leg parts addr (c ∷ bytes) false a b first second = first.spelled ∙ sym second.spelled
  one_refused_leg parts addr [] true a b first second = first.spelled ∙ sym second.spelled
  one_refused_leg parts addr (c ∷ bytes) true a b first second = first.spelled ∙ sym second.spelled

  one_read : (t : ReadData) (a b : List Event) → ReadPacket profile t a → ReadPacket profile t b → a ≡ b
  one_read t a b first second =
      let device = same_found (device_with t.addr profile) first.device second.device first.known second.known in
      let read = subst (λ (d : DeviceParts). (forms d t.code).read ≡ Some first.form) device first.read in
      let form = same_found (forms second.device t.code).read first.form second.form read second.read in
      first.spelled ∙ ap (λ (form : Form). answered t.addr (t.code ∷ []) (wire form t.reply) t.pec) form
      ∙ sym second.spelled

  one_call : (t : CallData) (a b : List Event) → CallPacket profile t a → CallPacket profile t b → a ≡ b
  one_call t a b first second =
      let device = same_found (device_with t.addr profile) first.device second.device first.known second.known in
      let called = subst (λ (d : DeviceParts). (forms d t.code).call ≡ Some first.form) device first.called in
      let form = same_found (forms second.device t.code).call first.form second.form called second.called in
      first.spelled
      ∙ ap (λ (form : Form). answered t.addr (t.code ∷ wire form t.bytes) (wire form t.reply) t.pec) form
      ∙ sym second.spelled

  pub one_packet : (t : TransactionData) (a b : List Event) → Packet profile t a → Packet profile t b → a ≡ b
  one_packet (Write parts) a b first second =
      let legs = one_row_of_parts parts first.legs second.legs first.each second.each in
      first.spelled ∙ ap (λ (legs : List Event). legs ++ Stop ∷ []) legs ∙ sym second.spelled
  one_packet (Read t) a b first second = one_read t a b first second
  one_packet (Call t) a b first second = one_call t a b first second
  one_packet (Refused t) a b first second =
      let legs : first.legs ≡ second.legs = one_row_of_parts t.parts first.legs second.legs first.each second.each in
      let last : first.last ≡ second.last = one_refused_leg t.parts t.addr t.sent t.at_read first.last second.last
      first.refused second.refused in
      first.spelled ∙ cc (legs, last) ∙ sym second.spelled
  one_packet (Alert t) a b first second = first.spelled ∙ sym second.spelled
  one_packet NoAlert a b first second = first ∙ sym second
