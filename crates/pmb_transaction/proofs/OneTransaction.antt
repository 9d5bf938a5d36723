-- Events are the packet of one transaction at most under an accepted profile. For the law
-- `one_transaction`. The events of each packet are those of some legs, and what these tell (`told`,
-- in Telling) is its transaction; the events tell the legs (Legs), so there is one transaction.
use Rattle.std.proofs.Common.{◌≡◌, ℕ, Bool, true, false, Option, Some, map, List, [], ◌∷◌, ◌++◌, refl, sym, ap, ◌∙◌}
use Rattle.std.proofs.Common.{append_assoc}
use Rattle.pmb_bus.specs.declared.event.Event.{Event}
use Rattle.pmb_bus.specs.declared.event.Event.TheVariants.{Start, Byte, Nack, Stop}
use Rattle.pmb_bus.specs.Address.{read_address, write_address, alert_address}
use Rattle.pmb_command.specs.declared.form.Form.{Form}
use Rattle.pmb_command.specs.Bus.{IsBus}
use Rattle.pmb_command.specs.Parts.{DeviceParts, device_with}
use Rattle.pmb_command.specs.Wire.{wire}
use Rattle.pmb_transaction.specs.Body.{checked}
use Rattle.pmb_transaction.specs.Transaction.{PartData, ReadData, CallData, TransactionData, Write, Read, Call, Refused}
use Rattle.pmb_transaction.specs.Transaction.{Alert, NoAlert}
use Rattle.pmb_transaction.specs.Packet.{AlertPacket, CallPacket, Packet, PartEvents, PartsEvents, ReadPacket}
use Rattle.pmb_transaction.specs.Packet.{RefusedLeg, WritePacket, acked, answered, leg, nacked}
use Rattle.pmb_transaction.proofs.Data.{Data, checked_is, code_behind, data_alone, data_of, data_with_code, first_byte}
use Rattle.pmb_transaction.proofs.Known.{call_has_data, device_is, read_has_data}
use Rattle.pmb_transaction.proofs.Legs.{Leg, events_of_legs, legs_then, legs_then-append, one_row_of_legs}
use Rattle.pmb_transaction.proofs.Telling.{all_taken, answer_told, call_with, forms_at, half-write, part_told}
use Rattle.pmb_transaction.proofs.Telling.{part_with, read_with, told, told_last, told_read, told_refused, told_write}

module _ (profile : List DeviceParts) where
  -- The events are those of some legs, which tell the transaction.
  pub record Tells (t : TransactionData) (events : List Event) : Type 0 where
    -- the legs of the events
    pub legs : List Leg
    pub spelled : events ≡ events_of_legs legs
    -- what the legs tell
    pub told_is : told profile legs ≡ t

  -- ---- parts

  -- The events of parts are legs of which each byte was taken, and which tell these parts.
  pub record TellParts (parts : List PartData) (events : List Event) : Type 0 where
    pub legs : List Leg
    pub spelled : (rest : List Event) → events ++ rest ≡ legs_then legs rest
    pub taken : all_taken legs ≡ true
    pub told_is : map (λ leg. part_told profile leg.bytes) legs ≡ parts

  part_is_told : (part : PartData) (events : List Event) (each : PartEvents profile part events)
      → part_told profile (write_address part.addr ∷ each.body) ≡ part
  part_is_told part events each =
      let addr = part.addr in
      let form = each.allowed.form in
      let before = write_address each.device.address ∷ [] in
      let covered = part.code ∷ wire form part.bytes in
      let body : each.body ≡ part.code ∷ wire form part.bytes ++ code_behind part.pec before covered =
      each.allowed.spelled ∙ checked_is part.pec before covered in
      let rest = wire form part.bytes ++ code_behind part.pec before covered in
      let data_is = data_with_code form part.bytes part.pec before covered each.allowed.fits in
      ap (λ (bytes : List ℕ). part_told profile (write_address addr ∷ bytes)) body
      ∙ ap (λ (a : ℕ). part_with profile a part.code
      (data_of (forms_at profile (device_with a profile) part.code).write rest)) (half-write addr)
      ∙ ap (λ (o : Option DeviceParts). part_with profile addr part.code
      (data_of (forms_at profile o part.code).write rest)) each.known
      ∙ ap (λ (o : Option Form). part_with profile addr part.code (data_of o rest)) each.allowed.written
      ∙ ap (part_with profile addr part.code) data_is

  pub tell_parts : (parts : List PartData) (events : List Event) → PartsEvents profile parts events
      → TellParts parts events
  tell_parts [] events each = record {
    legs = [];
    spelled =
        λ rest. ap (λ (events : List Event). events ++ rest) each;
    taken = refl;
    told_is = refl;
  }
  tell_parts (part ∷ parts) events each =
      let later = tell_parts parts each.1 each.4 in
      let bytes = write_address part.addr ∷ each.3.body in
      let leg : Leg = record { bytes = bytes; taken = true } in
      let here : part_told profile bytes ≡ part = part_is_told part each.0 each.3 in
      record {
        legs = leg ∷ later.legs;
        spelled = λ rest.
            ap (λ (events : List Event). events ++ rest) each.2
            ∙ append_assoc each.0 each.1 rest
            ∙ ap (λ (first : List Event). first ++ (each.1 ++ rest)) each.3.spelled
            ∙ ap (λ (events : List Event). Start ∷ acked bytes ++ events) (later.spelled rest);
        taken = later.taken;
        told_is = ap (λ (p : PartData). p ∷ map (λ leg. part_told profile leg.bytes) later.legs) here
            ∙ ap (λ (ps : List PartData). part ∷ ps) later.told_is;
      }

  -- ---- each variant

  tell_write : (parts : List PartData) (events : List Event) → WritePacket profile parts events
      → Tells (Write parts) events
  tell_write parts events packet =
      let legs = tell_parts parts packet.legs packet.each in
      record {
        legs = legs.legs;
        spelled = packet.spelled ∙ legs.spelled (Stop ∷ []);
        told_is =
            told_write profile legs.legs parts legs.taken legs.told_is;
      }

  -- a read or a call is told by the body that was sent and the bytes after the read address
  tell_answered : (t : TransactionData) (events : List Event) (addr : ℕ) (body reply : List ℕ) (with_pec : Bool) (b : ℕ)
      (more : List ℕ)
      → events ≡ answered addr body reply with_pec
      → checked with_pec (write_address addr ∷ body ++ read_address addr ∷ []) reply ≡ b ∷ more
      → answer_told profile addr body (b ∷ more) ≡ t → Tells t events
  tell_answered t events addr body reply with_pec b more spelled bytes told_is =
      let first : Leg = record { bytes = write_address addr ∷ body; taken = true } in
      let written = leg (write_address addr ∷ body) in
      record {
        legs = first ∷ record { bytes = read_address addr ∷ b ∷ more; taken = false } ∷ [];
        spelled =
            spelled
            ∙ ap (λ (bytes : List ℕ). (written ++ (leg (read_address addr ∷ []) ++ nacked bytes)) ++ Stop ∷ []) bytes
            ∙ append_assoc written (leg (read_address addr ∷ []) ++ nacked (b ∷ more)) (Stop ∷ []);
        told_is = told_last profile (first ∷ []) (read_address addr ∷ b ∷ more)
            ∙ told_read profile first addr (b ∷ more) ∙ told_is;
      }

  tell_read : IsBus profile → (t : ReadData) (events : List Event) → ReadPacket profile t events → Tells (Read t) events
  tell_read bus t events packet =
      let device = packet.device in
      let form = packet.form in
      let is = device_is profile t.addr device bus packet.known in
      let before = write_address t.addr ∷ t.code ∷ [] ++ read_address t.addr ∷ [] in
      let tail = code_behind t.pec before (wire form t.reply) in
      let some = first_byte form t.reply packet.fits (read_has_data device t.code form is.0 packet.read) in
      let bytes : wire form t.reply ++ tail ≡ some.0 ∷ some.1 ++ tail = ap (λ (front : List ℕ). front ++ tail) some.2 in
      let read_is = λ (o : Option Form). read_with profile t.addr t.code (data_of o (some.0 ∷ some.1 ++ tail)) in
      tell_answered (Read t) events t.addr (t.code ∷ []) (wire form t.reply) t.pec some.0
      (some.1 ++ tail) packet.spelled
      (checked_is t.pec before (wire form t.reply) ∙ bytes)
      (
      ap (λ (o : Option DeviceParts). read_is (forms_at profile o t.code).read) packet.known
      ∙ ap read_is packet.read
      ∙ ap (λ (bytes : List ℕ). read_with profile t.addr t.code (data_of (Some form) bytes)) (sym bytes)
      ∙ ap (read_with profile t.addr t.code) (data_with_code form t.reply t.pec before (wire form t.reply) packet.fits)
      )

  tell_call : IsBus profile → (t : CallData) (events : List Event) → CallPacket profile t events → Tells (Call t) events
  tell_call bus t events packet =
      -- what is called has data, so both the data sent and the reply have a first byte
      let device = packet.device in
      let form = packet.form in
      let is = device_is profile t.addr device bus packet.known in
      let with_data = call_has_data device t.code form is.0 packet.called in
      let body = t.code ∷ wire form t.bytes in
      let before = write_address t.addr ∷ body ++ read_address t.addr ∷ [] in
      let tail = code_behind t.pec before (wire form t.reply) in
      let sent = first_byte form t.bytes packet.sent with_data in
      let some = first_byte form t.reply packet.replied with_data in
      let bytes : wire form t.reply ++ tail ≡ some.0 ∷ some.1 ++ tail = ap (λ (front : List ℕ). front ++ tail) some.2 in
      -- the call that a form of the code makes of these bytes
      let call_is = λ (o : Option Form). call_with profile t.addr t.code (data_of o (sent.0 ∷ sent.1))
      (data_of o (some.0 ∷ some.1 ++ tail)) in
      tell_answered (Call t) events t.addr body (wire form t.reply) t.pec some.0 (some.1 ++ tail) packet.spelled
      (checked_is t.pec before (wire form t.reply) ∙ bytes)
      -- the device is found, then its form; then the data sent and the reply are read back by it
      (
      ap (λ (data_bytes : List ℕ). answer_told profile t.addr (t.code ∷ data_bytes) (some.0 ∷ some.1 ++ tail)) sent.2
      ∙ ap (λ (o : Option DeviceParts). call_is (forms_at profile o t.code).call) packet.known
      ∙ ap call_is packet.called
      ∙ ap (λ (bytes : List ℕ). call_with profile t.addr t.code (data_of (Some form) bytes)
      (data_of (Some form) (some.0 ∷ some.1 ++ tail))) (sym sent.2)
      ∙ ap (λ (bytes : List ℕ). call_with profile t.addr t.code (data_of (Some form) (wire form t.bytes))
      (data_of (Some form) bytes)) (sym bytes)
      ∙ ap (λ (d : Data). call_with profile t.addr t.code d (data_of (Some form) (wire form t.reply ++ tail)))
      (data_alone form t.bytes packet.sent)
      ∙ ap (call_with profile t.addr t.code (record { bytes = t.bytes; pec = false }))
      (data_with_code form t.reply t.pec before (wire form t.reply) packet.replied)
      )

  -- a refused byte of a written leg, be it the address byte
  tell_byte : (parts : List PartData) (addr : ℕ) (sent : List ℕ) (events legs last : List Event)
      → PartsEvents profile parts legs
      → last ≡ Start ∷ nacked (write_address addr ∷ sent) → events ≡ legs ++ last ++ Stop ∷ []
      → Tells (Refused (record { parts = parts; addr = addr; sent = sent; at_read = false })) events
  tell_byte parts addr sent events legs last each last_is spelled =
      let front = tell_parts parts legs each in
      let behind : Leg = record { bytes = write_address addr ∷ sent; taken = false } in
      record {
        legs = front.legs ++ behind ∷ [];
        spelled =
            spelled
            ∙ append_assoc legs last (Stop ∷ [])
            ∙ front.spelled (last ++ Stop ∷ [])
            ∙ ap (λ (last : List Event). legs_then front.legs (last ++ Stop ∷ [])) last_is
            ∙ sym (legs_then-append front.legs (behind ∷ []) (Stop ∷ []));
        told_is =
            told_last profile front.legs (write_address addr ∷ sent)
            ∙ told_refused profile front.legs addr sent
            ∙ ap (λ (ps : List PartData). Refused (record { parts = ps; addr = addr; sent = sent; at_read = false }))
            front.told_is;
      }

  -- refused to be read
  tell_at_read : (addr : ℕ) (sent : List ℕ) (events legs last : List Event) → legs ≡ []
      → last ≡ leg (write_address addr ∷ sent) ++ Start ∷ Byte (read_address addr) ∷ Nack ∷ []
      → events ≡ legs ++ last ++ Stop ∷ []
      → Tells (Refused (record { parts = []; addr = addr; sent = sent; at_read = true })) events
  tell_at_read addr sent events legs last none last_is spelled =
      let first : Leg = record { bytes = write_address addr ∷ sent; taken = true } in
      record {
        legs = first ∷ record { bytes = read_address addr ∷ []; taken = false } ∷ [];
        spelled =
            spelled
            ∙ ap (λ (legs : List Event). legs ++ last ++ Stop ∷ []) none
            ∙ ap (λ (last : List Event). last ++ Stop ∷ []) last_is
            ∙ append_assoc (leg (write_address addr ∷ sent)) (Start ∷ Byte (read_address addr) ∷ Nack ∷ []) (Stop ∷ []);
        told_is = told_last profile (first ∷ []) (read_address addr ∷ []) ∙ told_read profile first addr [];
      }

  tell_refused : (parts : List PartData) (addr : ℕ) (sent : List ℕ) (at_read : Bool) (events legs last : List Event)
      → PartsEvents profile parts legs → RefusedLeg profile parts addr sent at_read last
      → events ≡ legs ++ last ++ Stop ∷ []
      → Tells (Refused (record { parts = parts; addr = addr; sent = sent; at_read = at_read })) events
  tell_refused parts addr [] false events legs last each refused spelled =
      tell_byte parts addr [] events legs last each refused.spelled spelled
  tell_refused parts addr (b ∷ bytes) false events legs last each refused spelled =
      tell_byte parts addr (b ∷ bytes) events legs last each refused.spelled spelled
  tell_refused [] addr [] true events legs last each refused spelled =
      tell_at_read addr [] events legs last each refused.spelled spelled
  tell_refused [] addr (b ∷ bytes) true events legs last each refused spelled =
      tell_at_read addr (b ∷ bytes) events legs last each refused.spelled spelled
  tell_refused (part ∷ parts) addr [] true events legs last each refused spelled = absurd (cc refused.alone)
  tell_refused (part ∷ parts) addr (b ∷ bytes) true events legs last each refused spelled = absurd (cc refused.alone)

  tell_alert : (byte : ℕ) (with_pec : Bool) (events : List Event)
      → AlertPacket (record { byte = byte; pec = with_pec }) events
      → Tells (Alert (record { byte = byte; pec = with_pec })) events
  tell_alert byte false events packet = record {
    legs = record { bytes = read_address alert_address ∷ byte ∷ []; taken = false } ∷ [];
    spelled = packet.spelled;
    told_is = refl;
  }
  tell_alert byte true events packet = record {
    legs = record {
      bytes = read_address alert_address ∷ checked true (read_address alert_address ∷ [])
          (byte ∷ []);
      taken = false;
    } ∷ [];
    spelled = packet.spelled;
    told_is = refl;
  }

  pub tell : IsBus profile → (t : TransactionData) (events : List Event) → Packet profile t events → Tells t events
  tell bus (Write parts) events packet = tell_write parts events packet
  tell bus (Read t) events packet = tell_read bus t events packet
  tell bus (Call t) events packet = tell_call bus t events packet
  tell bus (Refused t) events packet =
      tell_refused t.parts t.addr t.sent t.at_read events packet.legs packet.last packet.each packet.refused
      packet.spelled
  tell bus (Alert t) events packet = tell_alert t.byte t.pec events packet
  tell bus NoAlert events packet = record {
    legs = record { bytes = read_address alert_address ∷ []; taken = false } ∷ [];
    spelled = packet;
    told_is = refl;
  }

  -- events are the packet of one transaction
  pub one_transaction : (t u : TransactionData) (events : List Event) → IsBus profile → Packet profile t events
      → Packet profile u events → t ≡ u
  one_transaction t u events bus first second =
      let a = tell bus t events first in
      let b = tell bus u events second in
      let legs = one_row_of_legs a.legs b.legs (sym a.spelled ∙ b.spelled) in
      sym a.told_is ∙ ap (told profile) legs ∙ b.told_is
