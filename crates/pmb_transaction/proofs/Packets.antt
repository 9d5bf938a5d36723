-- Which packet events make with their last one: a write or one part more, a byte or a read that is
-- refused, a whole reply, a whole answer at the Alert Response Address. For the laws of
-- `src/endings.rt` from `one_part_more` to `alerts_are_packets`. A body asks in one form, so the
-- reply has the form of the packet's code.
use Rattle.std.proofs.Common.{◌≡◌, ℕ, ◌+◌, ◌<◌, ◌≤◌, inl, inr, Bool, true, false, Option, Some, List, [], ◌∷◌, ◌++◌}
use Rattle.std.proofs.Common.{length, nat_eq, refl, sym, ap, ◌∙◌, subst, append_assoc, arith}
use Rattle.std.specs.List.{IsDistinct}
use Rattle.std.proofs.lemmas.List.{length_push}
use Rattle.std.proofs.lemmas.Option.{same_Some}
use Rattle.pmb_bus.specs.Pec.{pec}
use Rattle.pmb_bus.specs.declared.event.Event.{Event}
use Rattle.pmb_bus.specs.declared.event.Event.TheVariants.{Start, Byte, Ack, Nack, Stop}
use Rattle.pmb_bus.specs.Address.{write_address, read_address, alert_address}
use Rattle.pmb_command.specs.declared.form.Form.{Form}
use Rattle.pmb_command.specs.Bus.{IsBus}
use Rattle.pmb_command.specs.Parts.{DeviceParts, IsNew, device_with}
use Rattle.pmb_command.specs.PecMode.{AllowsPec}
use Rattle.pmb_command.specs.Wire.{IsByte, Fits, wire}
use Rattle.pmb_transaction.specs.Transaction.{PartData, Write, Read, Call, Refused, Alert}
use Rattle.pmb_transaction.specs.Body.{checked, forms, WriteBody, ReadBody, CallBody, IsRequest, IsFormOfRequest}
use Rattle.pmb_transaction.specs.Packet.{Packet, PartEvents, PartsEvents, addresses, answered, leg, nacked}
use Rattle.pmb_transaction.specs.Viable.{IsInsideBody}
use Rattle.pmb_transaction.proofs.Addresses.{distinct_none, distinct_with}
use Rattle.pmb_transaction.proofs.Answers.{asked_has_data, wire_has_byte}
use Rattle.pmb_transaction.proofs.Beginnings.{parts_push}
use Rattle.pmb_transaction.proofs.Completions.{byte_refused, nacked_append, read_refused, small_inside}
use Rattle.pmb_transaction.proofs.Known.{device_is}

-- ---- the bytes of an answer, of which the last was refused

-- before STOP
refused_last : (front : List Event) (address : ℕ) (bytes : List ℕ) (byte : ℕ)
    → front ++ leg (address ∷ bytes) ++ Byte byte ∷ [] ++ Nack ∷ [] ≡ front
    ++ (leg (address ∷ []) ++ nacked (bytes ++ byte ∷ []))
refused_last front address bytes byte =
    append_assoc (front ++ leg (address ∷ bytes)) (Byte byte ∷ []) (Nack ∷ [])
    ∙ append_assoc front (leg (address ∷ bytes)) (Byte byte ∷ Nack ∷ [])
    ∙ ap (λ (es : List Event). front ++ Start ∷ Byte address ∷ Ack ∷ es) (sym (nacked_append bytes byte []))

-- an answer that is spelled so
answered_is : (addr : ℕ) (body reply : List ℕ) (with_pec : Bool) (bytes : List ℕ) (byte : ℕ)
    → bytes ++ byte ∷ [] ≡ checked with_pec (write_address addr ∷ body ++ read_address addr ∷ []) reply
    → leg (write_address addr ∷ body) ++ leg (read_address addr ∷ bytes) ++ Byte byte ∷ [] ++ Nack ∷ [] ++ Stop ∷ []
    ≡ answered addr body reply with_pec
answered_is addr body reply with_pec bytes byte spelled =
    let written_leg = leg (write_address addr ∷ body) in
    ap (λ (es : List Event). es ++ Stop ∷ []) (refused_last written_leg (read_address addr) bytes byte)
    ∙ ap (λ (bs : List ℕ). (written_leg ++ (leg (read_address addr ∷ []) ++ nacked bs)) ++ Stop ∷ []) spelled

-- ---- one form

-- where a device has a form of a code, it has no other one
one_form : (o : Option Form) (a b : Form) → o ≡ Some a → o ≡ Some b → a ≡ b
one_form o a b first second = same_Some a b (sym first ∙ second)

module _ (profile : List DeviceParts) (bus : IsBus profile) (addr : ℕ) (device : DeviceParts)
    (known : device_with addr profile ≡ Some device) (body : List ℕ) where
  -- a call body has data after its code, and so is no read body
  no_call : (code : ℕ) (a b : Form) (asked : ℕ) (sent : List ℕ) → ReadBody device code a body
      → CallBody device asked b sent body → ⊥
  no_call code a b asked sent read call =
      let is = device_is profile addr device bus known in
      let some = wire_has_byte b sent call.fits (asked_has_data device b body is.0 (inr (asked, sent, call))) in
      let same : code ∷ [] ≡ asked ∷ wire b sent = sym read.spelled ∙ call.spelled in
      let none : [] ≡ wire b sent = cc same in
      cc (none ∙ some.split)

  read_form_is : (code : ℕ) (a b : Form) → ReadBody device code a body → IsFormOfRequest device b body → a ≡ b
  read_form_is code a b read (inl w) =
      let same : code ∷ [] ≡ w.0 ∷ [] = sym read.spelled ∙ w.1.spelled in
      let same_code : code ≡ w.0 = cc same in
      one_form (forms device w.0).read a b (subst (λ (c : ℕ). (forms device c).read ≡ Some a) same_code read.read)
      w.1.read
  read_form_is code a b read (inr w) = absurd (no_call code a b w.0 w.1 read w.2)

  call_form_is : (code : ℕ) (content : List ℕ) (a b : Form) → CallBody device code a content body
      → IsFormOfRequest device b body → a ≡ b
  call_form_is code content a b call (inl w) = absurd (no_call w.0 b a code content w.1 call)
  call_form_is code content a b call (inr w) =
      let same : code ∷ wire a content ≡ w.0 ∷ wire b w.1 = sym call.spelled ∙ w.2.spelled in
      let same_code : code ≡ w.0 = cc same in
      one_form (forms device w.0).call a b (subst (λ (c : ℕ). (forms device c).call ≡ Some a) same_code call.called)
      w.2.called

  module _ (form : Form) (reply : List ℕ) (with_pec : Bool) (bytes : List ℕ) (byte : ℕ) where
    abbrev all_events : List Event
    all_events = leg (write_address addr ∷ body) ++ leg (read_address addr ∷ bytes) ++ Byte byte ∷ [] ++ Nack ∷ []
        ++ Stop ∷ []

    abbrev IsWhole : Type 0
    IsWhole = bytes ++ byte ∷ [] ≡ checked with_pec (write_address addr ∷ body ++ read_address addr ∷ [])
        (wire form reply)

    -- a whole reply to a read body
    pub read_packet : (code : ℕ) (read_form : Form) → IsFormOfRequest device form body → Fits form reply
        → AllowsPec device.pec with_pec → IsWhole
        → ReadBody device code read_form body → Packet profile
        (Read (record { addr = addr; code = code; reply = reply; pec = with_pec })) all_events
    read_packet code read_form asks fits mode spelled read = record {
      device = device;
      form = form;
      known = known;
      read = read.read ∙ ap Some (read_form_is code read_form form read asks);
      fits = fits;
      mode = mode;
      spelled =
          answered_is addr body (wire form reply) with_pec bytes byte spelled
          ∙ ap (λ (bs : List ℕ). answered addr bs (wire form reply) with_pec) read.spelled;
    }

    -- a whole reply to a call body
    pub call_packet : (code : ℕ) (content : List ℕ) (call_form : Form) → IsFormOfRequest device form body
        → Fits form reply → AllowsPec device.pec with_pec
        → IsWhole → CallBody device code call_form content body
        → Packet profile (Call (record { addr = addr; code = code; bytes = content; reply = reply; pec = with_pec }))
        all_events
    call_packet code content call_form asks fits mode spelled call =
        let same : call_form ≡ form = call_form_is code content call_form form call asks in
        let sent : CallBody device code form content body =
        subst (λ (f : Form). CallBody device code f content body) same call in
        record {
          device = device;
          form = form;
          known = known;
          called = sent.called;
          sent = sent.fits;
          replied = fits;
          mode = mode;
          spelled =
              answered_is addr body (wire form reply) with_pec bytes byte spelled
              ∙ ap (λ (bs : List ℕ). answered addr bs (wire form reply) with_pec) sent.spelled;
        }

-- a whole answer at the Alert Response Address
pub alert_packet : (profile : List DeviceParts) (answer : ℕ) (with_pec : Bool) (bytes : List ℕ) (byte : ℕ)
    → IsByte answer
    → bytes ++ byte ∷ [] ≡ checked with_pec (read_address alert_address ∷ []) (answer ∷ [])
    → Packet profile (Alert (record { byte = answer; pec = with_pec }))
    (leg (read_address alert_address ∷ bytes) ++ Byte byte ∷ [] ++ Nack ∷ [] ++ Stop ∷ [])
alert_packet profile answer with_pec bytes byte small spelled = record {
  byte = small;
  spelled =
      ap (λ (es : List Event). es ++ Stop ∷ []) (refused_last [] (read_address alert_address) bytes byte)
      ∙ ap (λ (bs : List ℕ). leg (read_address alert_address ∷ []) ++ nacked bs ++ Stop ∷ []) spelled;
}

-- ---- written legs

module _ (pec_is_byte : (bytes : List ℕ) → pec bytes < 256) (profile : List DeviceParts) (bus : IsBus profile)
    (parts : List PartData) (few : length parts ≤ 15) (own : IsDistinct nat_eq (addresses parts)) (legs : List Event)
    (each : PartsEvents profile parts legs) (addr : ℕ) (new : IsNew addr (addresses parts)) where
  module _ (device : DeviceParts) (known : device_with addr profile ≡ Some device) where
    -- one part more
    pub part_more : (code : ℕ) (content : List ℕ) (with_pec : Bool) (bytes : List ℕ)
        → WriteBody device code content with_pec bytes
        → PartsEvents profile (parts ++ record { addr = addr; code = code; bytes = content; pec = with_pec } ∷ [])
        (legs ++ leg (write_address addr ∷ bytes))
        × IsDistinct nat_eq (addresses (parts ++ record { addr = addr; code = code; bytes = content; pec = with_pec }
        ∷ []))
    part_more code content with_pec bytes allowed =
        let part : PartData = record { addr = addr; code = code; bytes = content; pec = with_pec } in
        let first = leg (write_address addr ∷ bytes) in
        let here : PartEvents profile part first =
        record { device = device; body = bytes; known = known; allowed = allowed; spelled = refl } in
        (parts_push pec_is_byte profile bus parts part legs first each here, distinct_with parts part own new)

    -- with STOP after it
    pub write_packet : (code : ℕ) (content : List ℕ) (with_pec : Bool) (bytes : List ℕ)
        → WriteBody device code content with_pec bytes
        → Packet profile (Write (parts ++ record { addr = addr; code = code; bytes = content; pec = with_pec } ∷ []))
        (legs ++ leg (write_address addr ∷ bytes) ++ Stop ∷ [])
    write_packet code content with_pec bytes allowed =
        let part : PartData = record { addr = addr; code = code; bytes = content; pec = with_pec } in
        let more = part_more code content with_pec bytes allowed in
        let long : length (parts ++ part ∷ []) ≡ length parts + 1 = length_push parts part in
        record {
          some = omega (arith, long);
          few = omega (arith, long, few);
          distinct = more.1;
          legs = legs ++ leg (write_address addr ∷ bytes);
          each = more.0;
          spelled = refl;
        }

    -- a byte that is refused
    pub byte_packet : (bytes : List ℕ) (byte : ℕ) → IsInsideBody device parts bytes → IsByte byte
        → Packet profile (Refused (record { parts = parts; addr = addr; sent = bytes ++ byte ∷ []; at_read = false }))
        (legs ++ leg (write_address addr ∷ bytes) ++ Byte byte ∷ [] ++ Nack ∷ [] ++ Stop ∷ [])
    byte_packet bytes byte inside small = record {
      few = few;
      distinct = own;
      another = new;
      legs = legs;
      each = each;
      last = leg (write_address addr ∷ []) ++ nacked (bytes ++ byte ∷ []);
      refused =
          byte_refused pec_is_byte profile bus parts addr device bytes byte known
          (small_inside pec_is_byte profile bus parts addr device bytes known inside) small inside;
      spelled = ap (λ (es : List Event). es ++ Stop ∷ []) (refused_last legs (write_address addr) bytes byte);
    }

-- a device that refuses to be read
pub read_refused_packet : (pec_is_byte : (bytes : List ℕ) → pec bytes < 256) (profile : List DeviceParts)
    → IsBus profile
    → (addr : ℕ) (device : DeviceParts) (body : List ℕ) → device_with addr profile ≡ Some device → IsRequest device body
    → Packet profile (Refused (record { parts = []; addr = addr; sent = body; at_read = true }))
    (leg (write_address addr ∷ body) ++ Start ∷ Byte (read_address addr) ∷ [] ++ Nack ∷ [] ++ Stop ∷ [])
read_refused_packet pec_is_byte profile bus addr device body known is =
    let written_leg = leg (write_address addr ∷ body) in
    let last = written_leg ++ Start ∷ Byte (read_address addr) ∷ Nack ∷ [] in
    record {
      few = omega arith;
      distinct = distinct_none;
      another = refl;
      legs = [];
      each = refl;
      last = last;
      refused =
          read_refused pec_is_byte profile bus addr body last
          (record { alone = refl; device = device; known = known; body = is; spelled = refl });
      spelled =
          ap (λ (es : List Event). es ++ Stop ∷ [])
          (append_assoc written_leg (Start ∷ Byte (read_address addr) ∷ []) (Nack ∷ []));
    }
