-- Each of the stated beginnings (`IsBeginning`) can be completed to a packet: the other half of the
-- law `viable_lists`, whose first half is in Beginnings. A device may refuse any byte, so a leg
-- under way is completed by one that is refused and STOP, a write body by STOP, a body that asks by
-- a refused read, and an answer by the rest of it.
use Rattle.std.proofs.Common.{◌≡◌, ℕ, ◌+◌, ◌<◌, ◌≤◌, inl, inr, Bool, true, false, Some, List, [], ◌∷◌, ◌++◌, length}
use Rattle.std.proofs.Common.{nat_eq, refl, sym, ap, ◌∙◌, subst, append_assoc, arith}
use Rattle.std.specs.List.{IsDistinct}
use Rattle.std.proofs.lemmas.List.{append-nil, length-map, length_push}
use Rattle.pmb_bus.specs.Pec.{pec}
use Rattle.pmb_bus.specs.declared.event.Event.{Event}
use Rattle.pmb_bus.specs.declared.event.Event.TheVariants.{Start, Byte, Ack, Nack, Stop}
use Rattle.pmb_bus.specs.Address.{write_address, read_address, alert_address}
use Rattle.pmb_command.specs.Bus.{IsBus}
use Rattle.pmb_command.specs.Parts.{DeviceParts, IsNew, device_with}
use Rattle.pmb_command.specs.Wire.{IsByte, AreByteValues, wire}
use Rattle.pmb_transaction.specs.Transaction.{PartData, ReadData, CallData, RefusedData, AlertData, TransactionData}
use Rattle.pmb_transaction.specs.Transaction.{Write, Read, Call, Refused, Alert, NoAlert}
use Rattle.pmb_transaction.specs.Body.{checked, IsWriteBody, Allowed, IsRequest, IsFormOfRequest}
use Rattle.pmb_transaction.specs.Packet.{Packet, PartEvents, PartsEvents, WritePacket, ReadPacket, CallPacket}
use Rattle.pmb_transaction.specs.Packet.{ReadRefused, RefusedLeg, RefusedPacket, AlertPacket, acked, nacked, leg}
use Rattle.pmb_transaction.specs.Packet.{addresses, answered}
use Rattle.pmb_transaction.specs.Capture.{IsPacket, Viable}
use Rattle.pmb_transaction.specs.Viable.{IsInsideBody, AnswerBegins, AlertBegins, ReadBegins, LegBegins, IsBeginning}
use Rattle.pmb_transaction.specs.Viable.{answer_taken, answer_sent, at_alert, alert_answer, read_start}
use Rattle.pmb_transaction.specs.Viable.{read_address_sent, read_answer, leg_start, leg_address, leg_taken, leg_sent}
use Rattle.pmb_transaction.specs.Viable.{whole, before_stop, written, read, alert, SaysAnswer}
use Rattle.pmb_transaction.proofs.Addresses.{distinct_none, distinct_with, free}
use Rattle.pmb_transaction.proofs.Beginnings.{parts_push}
use Rattle.pmb_transaction.proofs.Bytes.{small-append, small_body, small_sent}

-- ---- bytes, of which the last is refused

pub nacked_append : (bytes : List ℕ) (next : ℕ) (rest : List ℕ) → nacked (bytes ++ next ∷ rest) ≡ acked bytes
    ++ nacked (next ∷ rest)
nacked_append [] next rest = refl
nacked_append (b ∷ []) next rest = refl
nacked_append (b ∷ c ∷ bytes) next rest = ap (λ (es : List Event). Byte b ∷ Ack ∷ es)
    (nacked_append (c ∷ bytes) next rest)

-- what was taken, a byte that is refused, and STOP
taken_then : (bytes : List ℕ) (byte : ℕ) → acked bytes ++ Byte byte ∷ Nack ∷ Stop ∷ [] ≡ nacked (bytes ++ byte ∷ [])
    ++ Stop ∷ []
taken_then bytes byte =
    sym (append_assoc (acked bytes) (Byte byte ∷ Nack ∷ []) (Stop ∷ []))
    ∙ ap (λ (es : List Event). es ++ Stop ∷ []) (sym (nacked_append bytes byte []))

-- what follows a byte before others
abbrev behind_byte : List ℕ → List Event
behind_byte [] = Nack ∷ []
behind_byte (b ∷ bytes) = Ack ∷ nacked (b ∷ bytes)

byte_then : (byte : ℕ) (rest : List ℕ) → nacked (byte ∷ rest) ≡ Byte byte ∷ behind_byte rest
byte_then byte [] = refl
byte_then byte (b ∷ rest) = refl

-- bytes before others
small_front : (a b : List ℕ) → AreByteValues (a ++ b) → AreByteValues a
small_front [] b small = tt
small_front (x ∷ a) b small = (small.0, small_front a b small.1)

-- ---- the rest of a leg that is read

-- the events that complete a leg that is read
pub record AnswerGoesOn (address : ℕ) (answer : List ℕ) (events : List Event) : Type 0 where
  pub more : List Event
  pub all : events ++ more ≡ leg (address ∷ []) ++ nacked answer

rest_of_answer : (address : ℕ) (answer : List ℕ) (events : List Event) → AnswerBegins address answer events
    → AnswerGoesOn address answer events
rest_of_answer address answer events (answer_taken bytes fewer spelled) =
    let more = nacked (fewer.next ∷ fewer.rest) in
    let bytes_are : acked bytes ++ more ≡ nacked answer = sym (nacked_append bytes fewer.next fewer.rest)
    ∙ ap nacked (sym fewer.split) in
    record {
      more = more;
      all = ap (λ (es : List Event). es ++ more) spelled
          ∙ ap (λ (es : List Event). Start ∷ Byte address ∷ Ack ∷ es) bytes_are;
    }
rest_of_answer address answer events (answer_sent bytes byte rest split spelled) =
    let more = behind_byte rest in
    let bytes_are : (acked bytes ++ Byte byte ∷ []) ++ more ≡ nacked answer =
    append_assoc (acked bytes) (Byte byte ∷ []) more
    ∙ ap (λ (es : List Event). acked bytes ++ es) (sym (byte_then byte rest))
    ∙ sym (nacked_append bytes byte rest)
    ∙ ap nacked (sym split) in
    record {
      more = more;
      all = ap (λ (es : List Event). es ++ more) spelled
          ∙ ap (λ (es : List Event). Start ∷ Byte address ∷ Ack ∷ es) bytes_are;
    }

module _ (pec_is_byte : (bytes : List ℕ) → pec bytes < 256) (profile : List DeviceParts) (bus : IsBus profile) where
  -- events with some more are a packet
  completes : (events more all : List Event) (t : TransactionData) → events ++ more ≡ all → Packet profile t all
      → Viable profile events
  completes events more all t same packet = inr (more, (t, subst (Packet profile t) (sym same) packet))

  -- ---- refused legs

  pub refused_follows : (parts : List PartData) → length parts ≤ 15 → IsDistinct nat_eq (addresses parts)
      → (legs : List Event)
      → PartsEvents profile parts legs → (addr : ℕ) (sent : List ℕ) (at_read : Bool) → IsNew addr (addresses parts)
      → (all : List Event)
      → RefusedLeg profile parts addr sent at_read all → (events last more : List Event) → events ≡ legs ++ last
      → last ++ more ≡ all ++ Stop ∷ [] → Viable profile events
  refused_follows parts few own legs each addr sent at_read new all refused events last more spelled ends =
      let same : events ++ more ≡ (legs ++ all) ++ Stop ∷ [] =
      ap (λ (es : List Event). es ++ more) spelled
      ∙ append_assoc legs last more
      ∙ ap (λ (es : List Event). legs ++ es) ends
      ∙ sym (append_assoc legs all (Stop ∷ [])) in
      let t : RefusedData = record { parts = parts; addr = addr; sent = sent; at_read = at_read } in
      let packet : RefusedPacket profile t ((legs ++ all) ++ Stop ∷ []) = record {
        few = few;
        distinct = own;
        another = new;
        legs = legs;
        each = each;
        last = all;
        refused = refused;
        spelled = refl;
      } in
      completes events more ((legs ++ all) ++ Stop ∷ []) (Refused t) same packet

  pub byte_refused : (parts : List PartData) (addr : ℕ) (device : DeviceParts) (bytes : List ℕ) (byte : ℕ)
      → device_with addr profile ≡ Some device
      → AreByteValues bytes → IsByte byte → IsInsideBody device parts bytes
      → RefusedLeg profile parts addr (bytes ++ byte ∷ []) false
      (leg (write_address addr ∷ []) ++ nacked (bytes ++ byte ∷ []))
  byte_refused parts addr device [] byte known small last inside = record {
    device = device;
    known = known;
    bytes = (last, tt);
    front = [];
    last = byte;
    split = refl;
    begins = inside;
    spelled = refl;
  }
  byte_refused parts addr device (b ∷ bytes) byte known small last inside = record {
    device = device;
    known = known;
    bytes = small-append (b ∷ bytes) (byte ∷ []) small (last, tt);
    front = b ∷ bytes;
    last = byte;
    split = refl;
    begins = inside;
    spelled = refl;
  }

  pub read_refused : (addr : ℕ) (sent : List ℕ) (last : List Event) → ReadRefused profile [] addr sent last
      → RefusedLeg profile [] addr sent true last
  read_refused addr [] last refused = refused
  read_refused addr (b ∷ sent) last refused = refused

  -- after the leg of a read body or a call body the device may refuse to be read
  pub read_follows : (addr : ℕ) (device : DeviceParts) (body : List ℕ) → device_with addr profile ≡ Some device
      → IsRequest device body → (events begun more : List Event) → events ≡ leg (write_address addr ∷ body) ++ begun
      → begun ++ more ≡ Start ∷ Byte (read_address addr) ∷ Nack ∷ Stop ∷ [] → Viable profile events
  read_follows addr device body known is events begun more spelled ends =
      let written = leg (write_address addr ∷ body) in
      let all = written ++ Start ∷ Byte (read_address addr) ∷ Nack ∷ [] in
      let same : events ++ more ≡ all ++ Stop ∷ [] =
      ap (λ (es : List Event). es ++ more) spelled
      ∙ append_assoc written begun more
      ∙ ap (λ (es : List Event). written ++ es) ends
      ∙ sym (append_assoc written (Start ∷ Byte (read_address addr) ∷ Nack ∷ []) (Stop ∷ [])) in
      refused_follows [] (omega arith) distinct_none [] refl addr body true refl all
      (read_refused addr body all (record { alone = refl; device = device; known = known; body = is; spelled = refl }))
      events events more refl same

  -- ---- written legs

  small_allowed : (parts : List PartData) (addr : ℕ) (device : DeviceParts) (body : List ℕ)
      → device_with addr profile ≡ Some device
      → Allowed device parts body → AreByteValues body
  small_allowed [] addr device body known (inl w) =
      small_body pec_is_byte profile bus device addr w.0 w.1 w.2 body known w.3
  small_allowed [] addr device body known (inr is) = small_sent pec_is_byte profile bus addr device body known is
  small_allowed (part ∷ parts) addr device body known w =
      small_body pec_is_byte profile bus device addr w.0 w.1 w.2 body known w.3

  pub small_inside : (parts : List PartData) (addr : ℕ) (device : DeviceParts) (bytes : List ℕ)
      → device_with addr profile ≡ Some device
      → IsInsideBody device parts bytes → AreByteValues bytes
  small_inside parts addr device bytes known (inl none) = subst AreByteValues (sym none) tt
  small_inside parts addr device bytes known (inr w) =
      small_front bytes (w.2.next ∷ w.2.rest) (subst AreByteValues w.2.split
      (small_allowed parts addr device w.0 known w.1))

  module _ (parts : List PartData) (few : length parts ≤ 15) (own : IsDistinct nat_eq (addresses parts))
      (legs : List Event) (each : PartsEvents profile parts legs) where
    -- the leg of a write body makes one more part
    pub one_more : (addr : ℕ) (device : DeviceParts) (body : List ℕ) → device_with addr profile ≡ Some device
        → IsWriteBody device body
        → (part : PartData) × (part.addr ≡ addr) × PartsEvents profile (parts ++ part ∷ [])
        (legs ++ leg (write_address addr ∷ body))
    one_more addr device body known is =
        let part : PartData = record { addr = addr; code = is.0; bytes = is.1; pec = is.2 } in
        let first = leg (write_address addr ∷ body) in
        let here : PartEvents profile part first =
        record { device = device; body = body; known = known; allowed = is.3; spelled = refl } in
        (part, refl, parts_push pec_is_byte profile bus parts part legs first each here)

    -- so STOP after it makes a write
    pub write_packet : (addr : ℕ) (device : DeviceParts) (body : List ℕ) → IsNew addr (addresses parts)
        → device_with addr profile ≡ Some device
        → IsWriteBody device body → IsPacket profile ((legs ++ leg (write_address addr ∷ body)) ++ Stop ∷ [])
    write_packet addr device body new known is =
        let w = one_more addr device body known is in
        let all = parts ++ w.0 ∷ [] in
        let long : length all ≡ length parts + 1 = length_push parts w.0 in
        let packet : WritePacket profile all ((legs ++ leg (write_address addr ∷ body)) ++ Stop ∷ []) = record {
          some = omega (arith, long);
          few = omega (arith, long, few);
          distinct = distinct_with parts w.0 own (subst (λ (a : ℕ). IsNew a (addresses parts)) (sym w.1) new);
          legs = legs ++ leg (write_address addr ∷ body);
          each = w.2;
          spelled = refl;
        } in
        (Write all, packet)

    write_follows : (addr : ℕ) (device : DeviceParts) (body : List ℕ) → IsNew addr (addresses parts)
        → device_with addr profile ≡ Some device
        → IsWriteBody device body → (events : List Event) → events ≡ legs ++ leg (write_address addr ∷ body)
        → Viable profile events
    write_follows addr device body new known is events spelled =
        let all = (legs ++ leg (write_address addr ∷ body)) ++ Stop ∷ [] in
        let packet = write_packet addr device body new known is in
        completes events (Stop ∷ []) all packet.0 (ap (λ (es : List Event). es ++ Stop ∷ []) spelled) packet.1

    -- inside of a body a byte may be refused
    pub inside_follows : (addr : ℕ) (device : DeviceParts) (bytes : List ℕ) (byte : ℕ) → IsNew addr (addresses parts)
        → device_with addr profile ≡ Some device → IsInsideBody device parts bytes → IsByte byte
        → (events last more : List Event)
        → events ≡ legs ++ last
        → last ++ more ≡ Start ∷ Byte (write_address addr) ∷ Ack ∷ acked bytes ++ Byte byte ∷ Nack ∷ Stop ∷ []
        → Viable profile events
    inside_follows addr device bytes byte new known inside small events last more spelled ends =
        refused_follows parts few own legs each addr (bytes ++ byte ∷ []) false new
        (leg (write_address addr ∷ []) ++ nacked (bytes ++ byte ∷ []))
        (byte_refused parts addr device bytes byte known (small_inside parts addr device bytes known inside) small
        inside) events last more spelled
        (ends ∙ ap (λ (es : List Event). Start ∷ Byte (write_address addr) ∷ Ack ∷ es) (taken_then bytes byte))

  -- a whole body
  body_follows : (parts : List PartData) → length parts ≤ 15 → IsDistinct nat_eq (addresses parts) → (legs : List Event)
      → PartsEvents profile parts legs → (addr : ℕ) (device : DeviceParts) (body : List ℕ)
      → IsNew addr (addresses parts)
      → device_with addr profile ≡ Some device → Allowed device parts body → (events : List Event)
      → events ≡ legs ++ leg (write_address addr ∷ body) → Viable profile events
  body_follows [] few own legs each addr device body new known (inl w) events spelled =
      write_follows [] few own legs each addr device body new known w events spelled
  body_follows [] few own legs each addr device body new known (inr is) events spelled =
      let written = leg (write_address addr ∷ body) in
      read_follows addr device body known is events [] (Start ∷ Byte (read_address addr) ∷ Nack ∷ Stop ∷ [])
      (spelled ∙ ap (λ (es : List Event). es ++ written) each ∙ sym (append-nil written)) refl
  body_follows (part ∷ parts) few own legs each addr device body new known w events spelled =
      write_follows (part ∷ parts) few own legs each addr device body new known w events spelled

  -- bytes that begin a body, and the rest of it
  taken_follows : (parts : List PartData) → length parts ≤ 15 → IsDistinct nat_eq (addresses parts)
      → (legs : List Event)
      → PartsEvents profile parts legs → (addr : ℕ) (device : DeviceParts) (bytes body rest : List ℕ)
      → IsNew addr (addresses parts)
      → device_with addr profile ≡ Some device → Allowed device parts body → body ≡ bytes ++ rest
      → (events last : List Event)
      → events ≡ legs ++ last → last ≡ leg (write_address addr ∷ bytes) → Viable profile events
  taken_follows parts few own legs each addr device bytes body [] new known allowed split events last spelled last_is =
      body_follows parts few own legs each addr device bytes new known
      (subst (Allowed device parts) (split ∙ append-nil bytes) allowed) events
      (spelled ∙ ap (λ (es : List Event). legs ++ es) last_is)
  taken_follows parts few own legs each addr device bytes body (next ∷ rest) new known allowed split events last spelled
      last_is =
      inside_follows parts few own legs each addr device bytes 0 new known
      (inr (body, allowed, record { next = next; rest = rest; split = split })) (omega arith) events last
      (Byte 0 ∷ Nack ∷ Stop ∷ []) spelled
      (ap (λ (es : List Event). es ++ Byte 0 ∷ Nack ∷ Stop ∷ []) last_is)

  leg_follows : (parts : List PartData) → length parts ≤ 15 → IsDistinct nat_eq (addresses parts) → (legs : List Event)
      → PartsEvents profile parts legs → (events last : List Event) → events ≡ legs ++ last
      → LegBegins profile parts last → Viable profile events
  -- after START alone: an address that no part has, which is refused
  leg_follows parts few own legs each events last spelled (leg_start is) =
      let long : length (addresses parts) ≡ length parts = length-map parts (λ (p : PartData). p.addr) in
      let one = free 15 (addresses parts) (omega (arith, long, few)) in
      let below : one.number ≤ 15 = one.small in
      let addr = one.number in
      refused_follows parts few own legs each addr [] false one.new (Start ∷ Byte (write_address addr) ∷ Nack ∷ [])
      (record { seven = omega (arith, below); spelled = refl }) events last
      (Byte (write_address addr) ∷ Nack ∷ Stop ∷ []) spelled
      (ap (λ (es : List Event). es ++ Byte (write_address addr) ∷ Nack ∷ Stop ∷ []) is)
  -- after the address byte: that is refused
  leg_follows parts few own legs each events last spelled (leg_address addr seven new is) =
      refused_follows parts few own legs each addr [] false new (Start ∷ Byte (write_address addr) ∷ Nack ∷ [])
      (record { seven = seven; spelled = refl }) events last (Nack ∷ Stop ∷ []) spelled
      (ap (λ (es : List Event). es ++ Nack ∷ Stop ∷ []) is)
  -- after its ACK: a byte 0 that is refused
  leg_follows parts few own legs each events last spelled (leg_taken addr device bytes new known (inl none) is) =
      inside_follows parts few own legs each addr device bytes 0 new known (inl none) (omega arith) events last
      (Byte 0 ∷ Nack ∷ Stop ∷ []) spelled
      (ap (λ (es : List Event). es ++ Byte 0 ∷ Nack ∷ Stop ∷ []) is)
  -- after the beginning of a body: the rest of it
  leg_follows parts few own legs each events last spelled (leg_taken addr device bytes new known (inr w) is) =
      taken_follows parts few own legs each addr device bytes w.0 w.1 new known w.2 w.3 events last spelled is
  -- after a byte without an answer: that is refused
  leg_follows parts few own legs each events last spelled (leg_sent addr device bytes byte new known inside small is) =
      let ends : last ++ Nack ∷ Stop ∷ [] ≡ Start ∷ Byte (write_address addr) ∷ Ack ∷ acked bytes ++ Byte byte ∷ Nack
      ∷ Stop ∷ [] =
      ap (λ (es : List Event). es ++ Nack ∷ Stop ∷ []) is
      ∙ ap (λ (es : List Event). Start ∷ Byte (write_address addr) ∷ Ack ∷ es)
      (append_assoc (acked bytes) (Byte byte ∷ []) (Nack ∷ Stop ∷ [])) in
      inside_follows parts few own legs each addr device bytes byte new known inside small events last
      (Nack ∷ Stop ∷ []) spelled ends

  -- ---- legs that are read

  pub answered_packet : (addr : ℕ) (device : DeviceParts) (body reply : List ℕ) (with_pec : Bool)
      → device_with addr profile ≡ Some device
      → (answer : List ℕ) → (says : SaysAnswer device addr body reply with_pec answer)
      → IsFormOfRequest device says.form body
      → IsPacket profile (answered addr body (wire says.form reply) with_pec)
  -- to a read body it is a read
  answered_packet addr device body reply with_pec known answer says (inl w) =
      let bytes = wire says.form reply in
      let t : ReadData = record { addr = addr; code = w.0; reply = reply; pec = with_pec } in
      let packet : ReadPacket profile t (answered addr (w.0 ∷ []) bytes with_pec) = record {
        device = device;
        form = says.form;
        known = known;
        read = w.1.read;
        fits = says.fits;
        mode = says.mode;
        spelled = refl;
      } in
      subst (λ (sent : List ℕ). IsPacket profile (answered addr sent bytes with_pec)) (sym w.1.spelled) (Read t, packet)
  -- to a call body it is a call
  answered_packet addr device body reply with_pec known answer says (inr w) =
      let bytes = wire says.form reply in
      let t : CallData = record { addr = addr; code = w.0; bytes = w.1; reply = reply; pec = with_pec } in
      let packet : CallPacket profile t (answered addr (w.0 ∷ wire says.form w.1) bytes with_pec) = record {
        device = device;
        form = says.form;
        known = known;
        called = w.2.called;
        sent = w.2.fits;
        replied = says.fits;
        mode = says.mode;
        spelled = refl;
      } in
      subst (λ (sent : List ℕ). IsPacket profile (answered addr sent bytes with_pec)) (sym w.2.spelled) (Call t, packet)

  read_goes_on : (events : List Event) → ReadBegins profile events → Viable profile events
  read_goes_on events (read_start addr device body known is spelled) =
      read_follows addr device body known is events (Start ∷ []) (Byte (read_address addr) ∷ Nack ∷ Stop ∷ []) spelled
      refl
  read_goes_on events (read_address_sent addr device body known is spelled) =
      read_follows addr device body known is events (Start ∷ Byte (read_address addr) ∷ [])
      (Nack ∷ Stop ∷ []) spelled refl
  read_goes_on events (read_answer addr device body answer last known answers begins spelled) =
      let written = leg (write_address addr ∷ body) in
      let rest = rest_of_answer (read_address addr) answer last begins in
      let says = answers.2 in
      let packet = answered_packet addr device body answers.0 answers.1 known answer says says.asked in
      let same : events ++ (rest.more ++ Stop ∷ []) ≡ answered addr body (wire says.form answers.0) answers.1 =
      ap (λ (es : List Event). es ++ (rest.more ++ Stop ∷ [])) spelled
      ∙ sym (append_assoc (written ++ last) rest.more (Stop ∷ []))
      ∙ ap (λ (es : List Event). es ++ Stop ∷ []) (append_assoc written last rest.more)
      ∙ ap (λ (es : List Event). (written ++ es) ++ Stop ∷ []) rest.all
      ∙ ap (λ (bytes : List ℕ). (written ++ (leg (read_address addr ∷ []) ++ nacked bytes)) ++ Stop ∷ [])
      says.spelled in
      completes events (rest.more ++ Stop ∷ []) (answered addr body (wire says.form answers.0) answers.1) packet.0 same
      packet.1

  alert_goes_on : (events : List Event) → AlertBegins events → Viable profile events
  alert_goes_on events (at_alert is) =
      completes events (Nack ∷ Stop ∷ []) (Start ∷ Byte (read_address alert_address) ∷ Nack ∷ Stop ∷ []) NoAlert
      (ap (λ (es : List Event). es ++ Nack ∷ Stop ∷ []) is) refl
  alert_goes_on events (alert_answer byte with_pec small begins) =
      let answer = checked with_pec (read_address alert_address ∷ []) (byte ∷ []) in
      let rest = rest_of_answer (read_address alert_address) answer events begins in
      let t : AlertData = record { byte = byte; pec = with_pec } in
      let all = leg (read_address alert_address ∷ []) ++ nacked answer ++ Stop ∷ [] in
      let packet : AlertPacket t all = record { byte = small; spelled = refl } in
      let same : events ++ (rest.more ++ Stop ∷ []) ≡ all =
      sym (append_assoc events rest.more (Stop ∷ [])) ∙ ap (λ (es : List Event). es ++ Stop ∷ []) rest.all in
      completes events (rest.more ++ Stop ∷ []) all (Alert t) same packet

  -- each beginning begins a packet
  pub beginning_is_viable : (events : List Event) → IsBeginning profile events → Viable profile events
  beginning_is_viable events (whole packet) = inr ([], subst (IsPacket profile) (sym (append-nil events)) packet)
  beginning_is_viable events (before_stop packet) = inr (Stop ∷ [], packet)
  beginning_is_viable events (written w) = leg_follows w.parts w.few w.distinct w.legs w.each events w.last w.spelled
      w.begins
  beginning_is_viable events (read begins) = read_goes_on events begins
  beginning_is_viable events (alert begins) = alert_goes_on events begins
