-- Each list of events with which a packet begins, and that is not empty, is one of the stated
-- beginnings (`IsBeginning`): one half of the law `viable_lists`, whose other half is in
-- Completions. A packet is cut where the events end: after it, before its STOP, in one of the
-- parts, in the refused leg or in the leg that is read. `cut` of Fronts tells which,
-- `front_of_acked` and `front_of_nacked` tell how far.
use Rattle.std.proofs.Common.{◌≡◌, ◌≢◌, ℕ, ◌+◌, ◌<◌, ◌≤◌, ◌⊎◌, inl, inr, Bool, true, false, Some, List, [], ◌∷◌, ◌++◌}
use Rattle.std.proofs.Common.{length, nat_eq, refl, sym, ap, ◌∙◌, subst, append_assoc, arith}
use Rattle.std.specs.List.{IsDistinct}
use Rattle.std.proofs.lemmas.List.{append-nil, length-append, same_from_push}
use Rattle.pmb_bus.specs.Pec.{pec}
use Rattle.pmb_bus.specs.declared.event.Event.{Event}
use Rattle.pmb_bus.specs.declared.event.Event.TheVariants.{Start, Byte, Ack, Nack, Stop}
use Rattle.pmb_bus.specs.Address.{write_address, read_address, alert_address}
use Rattle.pmb_command.specs.Bus.{IsBus}
use Rattle.pmb_command.specs.Parts.{DeviceParts, IsNew, device_with}
use Rattle.pmb_command.specs.Wire.{IsByte, AreByteValues, wire}
use Rattle.pmb_transaction.specs.Transaction.{PartData, ReadData, CallData, TransactionData, Write, Read, Call, Refused}
use Rattle.pmb_transaction.specs.Transaction.{Alert, NoAlert}
use Rattle.pmb_transaction.specs.Body.{checked, IsProperPrefix, IsWriteBody, Allowed, IsRequest}
use Rattle.pmb_transaction.specs.Packet.{Packet, PartEvents, PartsEvents, ReadPacket, CallPacket, ByteRefused}
use Rattle.pmb_transaction.specs.Packet.{ReadRefused, RefusedLeg, acked, nacked, leg, addresses}
use Rattle.pmb_transaction.specs.Capture.{Viable}
use Rattle.pmb_transaction.specs.Viable.{BeginsBody, IsInsideBody, IsAnswer, AnswerBegins, AlertBegins, ReadBegins}
use Rattle.pmb_transaction.specs.Viable.{LegBegins, PartsAndLeg, IsBeginning, answer_taken, answer_sent, at_alert}
use Rattle.pmb_transaction.specs.Viable.{alert_answer, read_start, read_address_sent, read_answer, leg_start}
use Rattle.pmb_transaction.specs.Viable.{leg_address, leg_taken, leg_sent, whole, before_stop, written, read, alert}
use Rattle.pmb_transaction.proofs.Addresses.{distinct_none, parts_before}
use Rattle.pmb_transaction.proofs.Bytes.{seven_bits, small_body, small_sent}
use Rattle.pmb_transaction.proofs.Stops.{packet_ends_with_stop}
use Rattle.pmb_transaction.proofs.Fronts.{Beyond, Fewer, NotAllTaken, OneSent, SomeTaken, Within, cut, front_of_acked}
use Rattle.pmb_transaction.proofs.Fronts.{front_of_nacked, no_end, up_to_stop}

-- a byte among bytes
byte_among : (front : List ℕ) (b : ℕ) (rest : List ℕ) → AreByteValues (front ++ b ∷ rest) → IsByte b
byte_among [] b rest small = small.0
byte_among (x ∷ front) b rest small = byte_among front b rest small.1

none_at_end : (a : List ℕ) (b : ℕ) (rest : List ℕ) → a ++ b ∷ rest ≡ [] → ⊥
none_at_end [] b rest none = cc none
none_at_end (x ∷ a) b rest none = cc none

none_in_front : (a b : List ℕ) → [] ≡ a ++ b → a ≡ []
none_in_front [] b none = refl
none_in_front (x ∷ a) b none = cc none

-- what is before bytes but for the last, where those before it are known
in_front : (front more : List ℕ) (next : ℕ) (rest : List ℕ) (last : ℕ) → more ++ last ∷ [] ≡ front ++ next ∷ rest
    → (others : List ℕ) × (more ≡ front ++ others)
in_front [] more next rest last same = (more, refl)
in_front (x ∷ front) [] next rest last same =
    let none : front ++ next ∷ rest ≡ [] = cc same in
    absurd (none_at_end front next rest none)
in_front (x ∷ front) (y ∷ more) next rest last same =
    let first : y ≡ x = cc same in
    let later : more ++ last ∷ [] ≡ front ++ next ∷ rest = cc same in
    let others = in_front front more next rest last later in
    let split : more ≡ front ++ others.0 = others.1 in
    (others.0, cc (first, split))

-- what begins a body and goes on, and so does what is before it
goes_on : (front others : List ℕ) (next : ℕ) (rest body : List ℕ) → body ≡ (front ++ others) ++ next ∷ rest
    → IsProperPrefix front body
goes_on front [] next rest body split =
    record { next = next; rest = rest; split = split ∙ ap (λ (bs : List ℕ). bs ++ next ∷ rest) (append-nil front) }
goes_on front (b ∷ others) next rest body split =
    record { next = b; rest = others ++ next ∷ rest; split = split ∙ append_assoc front (b ∷ others) (next ∷ rest) }

inside_body : (device : DeviceParts) (parts : List PartData) (front shorter others : List ℕ)
    → IsInsideBody device parts front → front ≡ shorter ++ others
    → IsInsideBody device parts shorter
inside_body device parts front shorter others (inl none) split = inl (none_in_front shorter others (sym none ∙ split))
inside_body device parts front shorter others (inr w) split =
    let all : w.0 ≡ (shorter ++ others) ++ w.2.next ∷ w.2.rest = w.2.split
    ∙ ap (λ (bs : List ℕ). bs ++ w.2.next ∷ w.2.rest) split in
    inr (w.0, w.1, goes_on shorter others w.2.next w.2.rest w.0 all)

-- what is inside a body begins it
begins_body : (device : DeviceParts) (parts : List PartData) (bytes : List ℕ) → IsInsideBody device parts bytes
    → BeginsBody device parts bytes
begins_body device parts bytes (inl none) = inl none
begins_body device parts bytes (inr w) = inr (w.0, w.2.next ∷ w.2.rest, w.1, w.2.split)

-- a write body is allowed in each leg
pub write_is_allowed : (device : DeviceParts) (parts : List PartData) (body : List ℕ) → IsWriteBody device body
    → Allowed device parts body
write_is_allowed device [] body is = inl is
write_is_allowed device (part ∷ parts) body is = is

-- ---- legs that are read

answer_begins_at : (address : ℕ) (answer : List ℕ) (events : List Event)
    → NotAllTaken answer events ⊎ OneSent answer events
    → AnswerBegins address answer (Start ∷ Byte address ∷ Ack ∷ events)
answer_begins_at address answer events (inl w) =
    answer_taken w.front w.fewer (ap (λ (es : List Event). Start ∷ Byte address ∷ Ack ∷ es) w.spelled)
answer_begins_at address answer events (inr w) =
    answer_sent w.front w.byte w.rest w.split (ap (λ (es : List Event). Start ∷ Byte address ∷ Ack ∷ es) w.spelled)

-- what begins a leg that is read, after ACK, and is not all of it
answer_begins : (address : ℕ) (answer : List ℕ) (events : List Event) (next : Event) (more : List Event)
    → events ++ next ∷ more ≡ nacked answer
    → AnswerBegins address answer (Start ∷ Byte address ∷ Ack ∷ events)
answer_begins address answer events next more same = answer_begins_at address answer events
    (front_of_nacked answer events next more same)

alert_begins : (byte : ℕ) (with_pec : Bool) (e : Event) (events : List Event) (next : Event) (more : List Event)
    → IsByte byte
    → e ∷ events ++ next ∷ more
    ≡ Start ∷ Byte (read_address alert_address) ∷ Ack
    ∷ nacked (checked with_pec (read_address alert_address ∷ []) (byte ∷ []))
    → (e ∷ events ≡ Start ∷ []) ⊎ AlertBegins (e ∷ events)
alert_begins byte with_pec e [] next more small same =
    inl (let is : e ≡ Start = cc same in ap (λ (x : Event). x ∷ []) is)
alert_begins byte with_pec e (f ∷ []) next more small same =
    let is_start : e ≡ Start = cc same in
    let is_address : f ≡ Byte (read_address alert_address) = cc same in
    inr (at_alert (cc (is_start, is_address)))
alert_begins byte with_pec e (f ∷ g ∷ events) next more small same =
    let is_start : e ≡ Start = cc same in
    let is_address : f ≡ Byte (read_address alert_address) = cc same in
    let is_ack : g ≡ Ack = cc same in
    let all = checked with_pec (read_address alert_address ∷ []) (byte ∷ []) in
    let rest : events ++ next ∷ more ≡ nacked all = cc same in
    let front : Start ∷ Byte (read_address alert_address) ∷ Ack ∷ events ≡ e ∷ f ∷ g ∷ events =
    cc (is_start, is_address, is_ack) in
    inr (subst AlertBegins front (alert_answer byte with_pec small
    (answer_begins (read_address alert_address) all events next more rest)))

no_alert_begins : (e : Event) (events : List Event) (next : Event) (more : List Event)
    → e ∷ events ++ next ∷ more ≡ Start ∷ Byte (read_address alert_address) ∷ Nack ∷ []
    → (e ∷ events ≡ Start ∷ []) ⊎ AlertBegins (e ∷ events)
no_alert_begins e [] next more same = inl (let is : e ≡ Start = cc same in ap (λ (x : Event). x ∷ []) is)
no_alert_begins e (f ∷ []) next more same =
    let is_start : e ≡ Start = cc same in
    let is_address : f ≡ Byte (read_address alert_address) = cc same in
    inr (at_alert (cc (is_start, is_address)))
no_alert_begins e (f ∷ g ∷ events) next more same =
    let none : events ++ next ∷ more ≡ [] = cc same in
    absurd (no_end events next more none)

-- what is before STOP
pub same_before_stop : (a b : List Event) → a ++ Stop ∷ [] ≡ b ++ Stop ∷ [] → a ≡ b
same_before_stop a b same = (same_from_push a b Stop Stop same).0

-- ---- answers

-- the answer of a read
pub read_answers : (profile : List DeviceParts) (t : ReadData) (events : List Event)
    → (packet : ReadPacket profile t events)
    → IsAnswer packet.device t.addr (t.code ∷ [])
    (checked t.pec (write_address t.addr ∷ (t.code ∷ []) ++ read_address t.addr ∷ []) (wire packet.form t.reply))
read_answers profile t events packet = (
  t.reply,
  t.pec,
  record {
    form = packet.form;
    asked = inl (t.code, record { read = packet.read; spelled = refl });
    fits = packet.fits;
    mode = packet.mode;
    spelled = refl;
  },
)

-- the answer of a call
pub call_answers : (profile : List DeviceParts) (t : CallData) (events : List Event)
    → (packet : CallPacket profile t events)
    → IsAnswer packet.device t.addr (t.code ∷ wire packet.form t.bytes)
    (checked t.pec (write_address t.addr ∷ (t.code ∷ wire packet.form t.bytes) ++ read_address t.addr ∷ [])
    (wire packet.form t.reply))
call_answers profile t events packet = (
  t.reply,
  t.pec,
  record {
    form = packet.form;
    asked = inr (t.code, t.bytes, record { called = packet.called; fits = packet.sent; spelled = refl });
    fits = packet.replied;
    mode = packet.mode;
    spelled = refl;
  },
)

module _ (pec_is_byte : (bytes : List ℕ) → pec bytes < 256) (profile : List DeviceParts) (bus : IsBus profile) where
  -- ---- legs that are written

  leg_begins_at : (parts : List PartData) (addr : ℕ) (device : DeviceParts) (body : List ℕ)
      → device_with addr profile ≡ Some device
      → IsNew addr (addresses parts) → Allowed device parts body → AreByteValues body → (events : List Event)
      → SomeTaken body events ⊎ OneSent body events
      → LegBegins profile parts (Start ∷ Byte (write_address addr) ∷ Ack ∷ events)
  leg_begins_at parts addr device body known new allowed small events (inl w) =
      leg_taken addr device w.front new known (inr (body, w.rest, allowed, w.split))
      (ap (λ (es : List Event). Start ∷ Byte (write_address addr) ∷ Ack ∷ es) w.spelled)
  leg_begins_at parts addr device body known new allowed small events (inr w) =
      leg_sent addr device w.front w.byte new known
      (inr (body, allowed, record { next = w.byte; rest = w.rest; split = w.split }))
      (byte_among w.front w.byte w.rest (subst AreByteValues w.split small))
      (ap (λ (es : List Event). Start ∷ Byte (write_address addr) ∷ Ack ∷ es) w.spelled)

  -- what begins the leg of a body
  leg_begins : (parts : List PartData) (addr : ℕ) (device : DeviceParts) (body : List ℕ)
      → device_with addr profile ≡ Some device
      → IsNew addr (addresses parts) → Allowed device parts body → AreByteValues body
      → (e : Event) (events more : List Event)
      → e ∷ events ++ more ≡ leg (write_address addr ∷ body) → LegBegins profile parts (e ∷ events)
  leg_begins parts addr device body known new allowed small e [] more same =
      let is_start : e ≡ Start = cc same in
      leg_start (ap (λ (x : Event). x ∷ []) is_start)
  leg_begins parts addr device body known new allowed small e (f ∷ []) more same =
      let is_start : e ≡ Start = cc same in
      let is_address : f ≡ Byte (write_address addr) = cc same in
      leg_address addr (seven_bits pec_is_byte profile bus addr device known) new (cc (is_start, is_address))
  leg_begins parts addr device body known new allowed small e (f ∷ g ∷ events) more same =
      let is_start : e ≡ Start = cc same in
      let is_address : f ≡ Byte (write_address addr) = cc same in
      let is_ack : g ≡ Ack = cc same in
      let rest : events ++ more ≡ acked body = cc same in
      let front : Start ∷ Byte (write_address addr) ∷ Ack ∷ events ≡ e ∷ f ∷ g ∷ events =
      cc (is_start, is_address, is_ack) in
      subst (LegBegins profile parts) front
      (leg_begins_at parts addr device body known new allowed small events (front_of_acked body events more rest))

  -- ---- parts

  -- one more part
  pub parts_push : (done : List PartData) (part : PartData) (before first : List Event)
      → PartsEvents profile done before
      → PartEvents profile part first → PartsEvents profile (done ++ part ∷ []) (before ++ first)
  parts_push [] part before first each here =
      (first, [], ap (λ (es : List Event). es ++ first) each ∙ sym (append-nil first), here, refl)
  parts_push (p ∷ done) part before first each here = (
    each.0,
    each.1 ++ first,
    ap (λ (es : List Event). es ++ first) each.2 ∙ append_assoc each.0 each.1 first,
    each.3,
    parts_push done part each.1 first each.4 here,
  )

  part_begins_at : (done : List PartData) (part : PartData) (before first rest : List Event)
      → PartsEvents profile done before
      → PartEvents profile part first → length done ≤ 15 → IsDistinct nat_eq (addresses done)
      → IsNew part.addr (addresses done)
      → (e : Event) (events more : List Event)
      → ((f : Event) (others : List Event) → f ∷ others ++ more ≡ rest
      → PartsAndLeg profile ((before ++ first) ++ f ∷ others))
      → Within (e ∷ events) more first rest ⊎ Beyond (e ∷ events) more first rest
      → PartsAndLeg profile (before ++ e ∷ events)
  -- they end inside the first of the parts that are left
  part_begins_at done part before first rest each here few own new e events more later (inl w) =
      let body = here.body in
      let allowed : IsWriteBody here.device body = (part.code, part.bytes, part.pec, here.allowed) in
      let small = small_body pec_is_byte profile bus here.device part.addr part.code part.bytes part.pec body here.known
      here.allowed in
      record {
        parts = done;
        few = few;
        distinct = own;
        legs = before;
        each = each;
        last = e ∷ events;
        begins =
            leg_begins done part.addr here.device body here.known new (write_is_allowed here.device done body allowed)
            small e events w.rest
            (sym w.first ∙ here.spelled);
        spelled = refl;
      }
  -- or after it: the parts after it are next
  part_begins_at done part before first rest each here few own new e events more later (inr w) =
      let same : (before ++ first) ++ w.event ∷ w.rest ≡ before ++ e ∷ events =
      append_assoc before first (w.event ∷ w.rest) ∙ ap (λ (es : List Event). before ++ es) (sym w.first) in
      subst (PartsAndLeg profile) same (later w.event w.rest (sym w.second))

  -- what begins the legs of parts, after those of others
  pub parts_begin : (done parts : List PartData) (before legs : List Event) → PartsEvents profile done before
      → PartsEvents profile parts legs
      → length (done ++ parts) ≤ 16 → IsDistinct nat_eq (addresses (done ++ parts))
      → (e : Event) (events more : List Event)
      → e ∷ events ++ more ≡ legs → PartsAndLeg profile (before ++ e ∷ events)
  parts_begin done [] before legs each rest few own e events more same =
      let none : e ∷ events ++ more ≡ [] = same ∙ rest in
      absurd (cc none)
  parts_begin done (part ∷ parts) before legs each rest few own e events more same =
      let long : length (done ++ part ∷ parts) ≡ length done + length (part ∷ parts) =
      length-append done (part ∷ parts) in
      let apart = parts_before done part parts own in
      let again : (done ++ part ∷ []) ++ parts ≡ done ++ part ∷ parts = append_assoc done (part ∷ []) parts in
      part_begins_at done part before rest.0 rest.1 each rest.3 (omega (arith, long, few)) apart.0 apart.1 e events more
      (λ f others then.
      parts_begin (done ++ part ∷ []) parts (before ++ rest.0) rest.1 (parts_push done part before rest.0 each rest.3)
      rest.4
      (subst (λ (ps : List PartData). length ps ≤ 16) (sym again) few)
      (subst (λ (ps : List PartData). IsDistinct nat_eq (addresses ps)) (sym again) own) f others more then)
      (cut (e ∷ events) more rest.0 rest.1 (same ∙ rest.2))

  -- ---- a written leg and a leg that is read

  -- where a leg begins alone
  first_leg : (e : Event) (events : List Event) → LegBegins profile [] (e ∷ events) → IsBeginning profile (e ∷ events)
  first_leg e events begins =
      written
      (record {
        parts = [];
        few = omega arith;
        distinct = distinct_none;
        legs = [];
        each = refl;
        last = e
            ∷ events;
        begins = begins;
        spelled = refl;
      })

  -- what begins after the leg of the body
  read_leg_begins : (addr : ℕ) (device : DeviceParts) (body : List ℕ) → device_with addr profile ≡ Some device
      → IsRequest device body → (tail : List Event) (e : Event) (events : List Event) (next : Event) (more : List Event)
      → ((f : Event) (others : List Event) → f ∷ others ++ next ∷ more ≡ tail
      → ReadBegins profile (leg (write_address addr ∷ body) ++ Start ∷ Byte (read_address addr) ∷ f ∷ others))
      → Start ∷ Byte (read_address addr) ∷ tail ≡ e ∷ events ++ next ∷ more
      → ReadBegins profile (leg (write_address addr ∷ body) ++ e ∷ events)
  read_leg_begins addr device body known is tail e [] next more later same =
      let is_start : e ≡ Start = cc same in
      read_start addr device body known is (ap (λ (x : Event). leg (write_address addr ∷ body) ++ x ∷ []) is_start)
  read_leg_begins addr device body known is tail e (f ∷ []) next more later same =
      let is_start : e ≡ Start = cc same in
      let is_address : f ≡ Byte (read_address addr) = cc same in
      let front : e ∷ f ∷ [] ≡ Start ∷ Byte (read_address addr) ∷ [] = cc (is_start, is_address) in
      read_address_sent addr device body known is
      (ap (λ (es : List Event). leg (write_address addr ∷ body) ++ es) front)
  read_leg_begins addr device body known is tail e (f ∷ g ∷ events) next more later same =
      let is_start : e ≡ Start = cc same in
      let is_address : f ≡ Byte (read_address addr) = cc same in
      let then : g ∷ events ++ next ∷ more ≡ tail = cc same in
      let front : Start ∷ Byte (read_address addr) ∷ g ∷ events ≡ e ∷ f ∷ g ∷ events = cc (is_start, is_address) in
      subst (λ (es : List Event). ReadBegins profile (leg (write_address addr ∷ body) ++ es)) front
      (later g events then)

  answered_begins_at : (addr : ℕ) (device : DeviceParts) (body : List ℕ) → device_with addr profile ≡ Some device
      → IsRequest device body → (tail : List Event) (e : Event) (events : List Event) (next : Event) (more : List Event)
      → ((f : Event) (others : List Event) → f ∷ others ++ next ∷ more ≡ tail
      → ReadBegins profile (leg (write_address addr ∷ body) ++ Start ∷ Byte (read_address addr) ∷ f ∷ others))
      → Within (e ∷ events) (next ∷ more) (leg (write_address addr ∷ body)) (Start ∷ Byte (read_address addr) ∷ tail)
      ⊎ Beyond (e ∷ events) (next ∷ more) (leg (write_address addr ∷ body)) (Start ∷ Byte (read_address addr) ∷ tail)
      → IsBeginning profile (e ∷ events)
  answered_begins_at addr device body known is tail e events next more later (inl w) =
      first_leg e events
      (
      leg_begins [] addr device body known refl (inr is) (small_sent pec_is_byte profile bus addr device body known is)
      e events w.rest
      (sym w.first)
      )
  answered_begins_at addr device body known is tail e events next more later (inr w) =
      read
      (
      subst (ReadBegins profile) (sym w.first)
      (read_leg_begins addr device body known is tail w.event w.rest next more later w.second)
      )

  answered_begins : (addr : ℕ) (device : DeviceParts) (body : List ℕ) → device_with addr profile ≡ Some device
      → IsRequest device body → (tail : List Event) (e : Event) (events : List Event) (next : Event) (more : List Event)
      → ((f : Event) (others : List Event) → f ∷ others ++ next ∷ more ≡ tail
      → ReadBegins profile (leg (write_address addr ∷ body) ++ Start ∷ Byte (read_address addr) ∷ f ∷ others))
      → e ∷ events ++ next ∷ more ≡ leg (write_address addr ∷ body) ++ Start ∷ Byte (read_address addr) ∷ tail
      → IsBeginning profile (e ∷ events)
  answered_begins addr device body known is tail e events next more later same =
      answered_begins_at addr device body known is tail e events next more later
      (cut (e ∷ events) (next ∷ more) (leg (write_address addr ∷ body)) (Start ∷ Byte (read_address addr) ∷ tail) same)

  -- what begins a read or a call
  answer_of : (addr : ℕ) (device : DeviceParts) (body answer : List ℕ) → device_with addr profile ≡ Some device
      → IsRequest device body → IsAnswer device addr body answer
      → (e : Event) (events : List Event) (next : Event) (more : List Event)
      → e ∷ events ++ next ∷ more ≡ leg (write_address addr ∷ body) ++ (leg (read_address addr ∷ []) ++ nacked answer)
      → IsBeginning profile (e ∷ events)
  answer_of addr device body answer known is answers e events next more same =
      answered_begins addr device body known is (Ack ∷ nacked answer) e events next more
      (λ f others then.
      let is_ack : f ≡ Ack = cc then in
      let rest : others ++ next ∷ more ≡ nacked answer = cc then in
      read_answer addr device body answer (Start ∷ Byte (read_address addr) ∷ Ack ∷ others) known answers
      (answer_begins (read_address addr) answer others next more rest)
      (ap (λ (x : Event). leg (write_address addr ∷ body) ++ Start ∷ Byte (read_address addr) ∷ x ∷ others) is_ack))
      same

  -- ---- refused legs

  sent_begins_at : (parts : List PartData) (addr : ℕ) (sent : List ℕ) (last : List Event) → IsNew addr (addresses parts)
      → (refused : ByteRefused profile parts addr sent last) → (events : List Event)
      → NotAllTaken sent events ⊎ OneSent sent events
      → LegBegins profile parts (Start ∷ Byte (write_address addr) ∷ Ack ∷ events)
  sent_begins_at parts addr sent last new refused events (inl w) =
      let others = in_front w.front refused.front w.fewer.next w.fewer.rest refused.last
      (sym refused.split ∙ w.fewer.split) in
      let inside = inside_body refused.device parts refused.front w.front others.0 refused.begins others.1 in
      leg_taken addr refused.device w.front new refused.known (begins_body refused.device parts w.front inside)
      (ap (λ (es : List Event). Start ∷ Byte (write_address addr) ∷ Ack ∷ es) w.spelled)
  sent_begins_at parts addr sent last new refused events (inr w) =
      let others = in_front w.front refused.front w.byte w.rest refused.last (sym refused.split ∙ w.split) in
      let inside = inside_body refused.device parts refused.front w.front others.0 refused.begins others.1 in
      leg_sent addr refused.device w.front w.byte new refused.known inside
      (byte_among w.front w.byte w.rest (subst AreByteValues w.split refused.bytes))
      (ap (λ (es : List Event). Start ∷ Byte (write_address addr) ∷ Ack ∷ es) w.spelled)

  -- what begins a leg in which a byte was refused, be it the address byte
  byte_leg_begins : (parts : List PartData) (addr : ℕ) → addr < 128 → IsNew addr (addresses parts) → (tail : List Event)
      → (e : Event) (events : List Event) (next : Event) (more : List Event)
      → ((f : Event) (others : List Event) → f ∷ others ++ next ∷ more ≡ tail
      → LegBegins profile parts (Start ∷ Byte (write_address addr) ∷ f ∷ others))
      → e ∷ events ++ next ∷ more ≡ Start ∷ Byte (write_address addr) ∷ tail → LegBegins profile parts (e ∷ events)
  byte_leg_begins parts addr seven new tail e [] next more later same =
      let is_start : e ≡ Start = cc same in
      leg_start (ap (λ (x : Event). x ∷ []) is_start)
  byte_leg_begins parts addr seven new tail e (f ∷ []) next more later same =
      let is_start : e ≡ Start = cc same in
      let is_address : f ≡ Byte (write_address addr) = cc same in
      leg_address addr seven new (cc (is_start, is_address))
  byte_leg_begins parts addr seven new tail e (f ∷ g ∷ events) next more later same =
      let is_start : e ≡ Start = cc same in
      let is_address : f ≡ Byte (write_address addr) = cc same in
      let then : g ∷ events ++ next ∷ more ≡ tail = cc same in
      let front : Start ∷ Byte (write_address addr) ∷ g ∷ events ≡ e ∷ f ∷ g ∷ events = cc (is_start, is_address) in
      subst (LegBegins profile parts) front (later g events then)

  -- what begins one event is none
  one_event : (f g : Event) (others : List Event) (next : Event) (more : List Event)
      → f ∷ others ++ next ∷ more ≡ g ∷ [] → ⊥
  one_event f g others next more same =
      let none : others ++ next ∷ more ≡ [] = cc same in
      no_end others next more none

  at_read_begins : (addr : ℕ) (sent : List ℕ) (legs last : List Event) → legs ≡ []
      → ReadRefused profile [] addr sent last
      → (e : Event) (events : List Event) (next : Event) (more : List Event) → e ∷ events ++ next ∷ more ≡ last
      → IsBeginning profile (legs ++ e ∷ events)
  at_read_begins addr sent legs last none refused e events next more same =
      subst (λ (es : List Event). IsBeginning profile (es ++ e ∷ events)) (sym none)
      (
      answered_begins addr refused.device sent refused.known refused.body (Nack ∷ []) e events next more
      (λ f others then. absurd (one_event f Nack others next more then)) (same ∙ refused.spelled)
      )

  -- what begins the last leg of a refused packet and is not all of it
  refused_begins : (parts : List PartData) (addr : ℕ) (sent : List ℕ) (at_read : Bool) (legs last : List Event)
      → length parts ≤ 15
      → IsDistinct nat_eq (addresses parts) → IsNew addr (addresses parts) → PartsEvents profile parts legs
      → RefusedLeg profile parts addr sent at_read last
      → (e : Event) (events : List Event) (next : Event) (more : List Event)
      → e ∷ events ++ next ∷ more ≡ last → IsBeginning profile (legs ++ e ∷ events)
  -- the address byte is refused
  refused_begins parts addr [] false legs last few own new each refused e events next more same =
      written
      (record {
        parts = parts;
        few = few;
        distinct = own;
        legs = legs;
        each = each;
        last = e ∷ events;
        begins =
            byte_leg_begins parts addr refused.seven new (Nack ∷ []) e events next more
            (λ f others then. absurd (one_event f Nack others next more then)) (same ∙ refused.spelled);
        spelled = refl;
      })
  -- a byte after it is refused
  refused_begins parts addr (b ∷ bytes) false legs last few own new each refused e events next more same =
      let seven = seven_bits pec_is_byte profile bus addr refused.device refused.known in
      written
      (record {
        parts = parts;
        few = few;
        distinct = own;
        legs = legs;
        each = each;
        last = e ∷ events;
        begins =
            byte_leg_begins parts addr seven new (Ack ∷ nacked (b ∷ bytes)) e events next more
            (λ f others then.
            let is_ack : Ack ≡ f = cc then in
            let rest : others ++ next ∷ more ≡ nacked (b ∷ bytes) = cc then in
            subst (λ (x : Event). LegBegins profile parts (Start ∷ Byte (write_address addr) ∷ x ∷ others)) is_ack
            (sent_begins_at parts addr (b ∷ bytes) last new refused others
            (front_of_nacked (b ∷ bytes) others next more rest)))
            (same ∙ refused.spelled);
        spelled = refl;
      })
  -- reading is refused in a packet without parts alone
  refused_begins (part ∷ parts) addr [] true legs last few own new each refused e events next more same =
      absurd (cc refused.alone)
  refused_begins (part ∷ parts) addr (b ∷ bytes) true legs last few own new each refused e events next more same =
      absurd (cc refused.alone)
  -- there the written leg comes first, then the refused address byte
  refused_begins [] addr [] true legs last few own new each refused e events next more same =
      at_read_begins addr [] legs last each refused e events next more same
  refused_begins [] addr (b ∷ bytes) true legs last few own new each refused e events next more same =
      at_read_begins addr (b ∷ bytes) legs last each refused e events next more same

  refused_begins_at : (parts : List PartData) (addr : ℕ) (sent : List ℕ) (at_read : Bool) (legs last : List Event)
      → length parts ≤ 15
      → IsDistinct nat_eq (addresses parts) → IsNew addr (addresses parts) → PartsEvents profile parts legs
      → RefusedLeg profile parts addr sent at_read last
      → (e : Event) (events : List Event) (next : Event) (more : List Event)
      → Within (e ∷ events) (next ∷ more) legs last ⊎ Beyond (e ∷ events) (next ∷ more) legs last
      → IsBeginning profile (e ∷ events)
  refused_begins_at parts addr sent at_read legs last few own new each refused e events next more (inl w) =
      written (parts_begin [] parts [] legs refl each (omega (arith, few)) own e events w.rest (sym w.first))
  refused_begins_at parts addr sent at_read legs last few own new each refused e events next more (inr w) =
      subst (IsBeginning profile) (sym w.first)
      (refused_begins parts addr sent at_read legs last few own new each refused w.event w.rest next more
      (sym w.second))

  start_or_alert : (e : Event) (events : List Event) → (e ∷ events ≡ Start ∷ []) ⊎ AlertBegins (e ∷ events)
      → IsBeginning profile (e ∷ events)
  start_or_alert e events (inl same) = first_leg e events (leg_start same)
  start_or_alert e events (inr begins) = alert begins

  -- ---- packets

  -- what begins a packet without its STOP and is not all of it
  inside : (t : TransactionData) (all : List Event) → Packet profile t (all ++ Stop ∷ [])
      → (e : Event) (events : List Event)
      → Fewer (e ∷ events) all → IsBeginning profile (e ∷ events)
  -- a write: inside one of its parts
  inside (Write parts) all packet e events w =
      let same : all ≡ packet.legs = same_before_stop all packet.legs packet.spelled in
      written (parts_begin [] parts [] packet.legs refl packet.each packet.few packet.distinct e events
      (w.event ∷ w.rest) (w.split ∙ same))
  -- a read: in the leg of its code, or after it
  inside (Read t) all packet e events w =
      let addr = t.addr in
      let body = t.code ∷ [] in
      let answer = checked t.pec (write_address addr ∷ body ++ read_address addr ∷ []) (wire packet.form t.reply) in
      let same = same_before_stop all (leg (write_address addr ∷ body)
      ++ (leg (read_address addr ∷ []) ++ nacked answer)) packet.spelled in
      answer_of addr packet.device body answer packet.known
      (inl (t.code, packet.form, record { read = packet.read; spelled = refl }))
      (read_answers profile t (all ++ Stop ∷ []) packet) e events w.event w.rest (w.split ∙ same)
  -- a call: in the leg of its body, or after it
  inside (Call t) all packet e events w =
      let addr = t.addr in
      let body = t.code ∷ wire packet.form t.bytes in
      let answer = checked t.pec (write_address addr ∷ body ++ read_address addr ∷ []) (wire packet.form t.reply) in
      let same = same_before_stop all (leg (write_address addr ∷ body)
      ++ (leg (read_address addr ∷ []) ++ nacked answer)) packet.spelled in
      answer_of addr packet.device body answer packet.known
      (inr (t.code, packet.form, t.bytes, record { called = packet.called; fits = packet.sent; spelled = refl }))
      (call_answers profile t (all ++ Stop ∷ []) packet) e events w.event w.rest (w.split ∙ same)
  -- a refused packet: in its parts, or in the refused leg
  inside (Refused t) all packet e events w =
      let same : all ≡ packet.legs ++ packet.last = same_before_stop all (packet.legs ++ packet.last) packet.spelled in
      refused_begins_at t.parts t.addr t.sent t.at_read packet.legs packet.last packet.few packet.distinct
      packet.another packet.each
      packet.refused e events w.event w.rest (cut (e ∷ events) (w.event ∷ w.rest) packet.legs packet.last
      (w.split ∙ same))
  -- the Alert Response Address: in its only leg
  inside (Alert t) all packet e events w =
      let answer = checked t.pec (read_address alert_address ∷ []) (t.byte ∷ []) in
      let same = same_before_stop all (leg (read_address alert_address ∷ []) ++ nacked answer) packet.spelled in
      start_or_alert e events (alert_begins t.byte t.pec e events w.event w.rest packet.byte (w.split ∙ same))
  inside NoAlert all packet e events w =
      let same = same_before_stop all (Start ∷ Byte (read_address alert_address) ∷ Nack ∷ []) packet in
      start_or_alert e events (no_alert_begins e events w.event w.rest (w.split ∙ same))

  beginning_at : (t : TransactionData) (front : List Event) (e : Event) (events : List Event)
      → Packet profile t (front ++ Stop ∷ [])
      → (e ∷ events ≡ front ++ Stop ∷ []) ⊎ ((e ∷ events ≡ front) ⊎ Fewer (e ∷ events) front)
      → IsBeginning profile (e ∷ events)
  beginning_at t front e events packet (inl same) = whole (t, subst (Packet profile t) (sym same) packet)
  beginning_at t front e events packet (inr (inl same)) =
      before_stop (t, subst (λ (es : List Event). Packet profile t (es ++ Stop ∷ [])) (sym same) packet)
  beginning_at t front e events packet (inr (inr w)) = inside t front packet e events w

  -- what begins a packet is one of the beginnings
  beginning : (t : TransactionData) (e : Event) (events more : List Event) → Packet profile t (e ∷ events ++ more)
      → IsBeginning profile (e ∷ events)
  beginning t e events more packet =
      let at_stop = packet_ends_with_stop profile t (e ∷ events ++ more) packet in
      beginning_at t at_stop.front e events (subst (Packet profile t) at_stop.split packet)
      (up_to_stop (e ∷ events) more at_stop.front at_stop.split)

  pub viable_is_beginning : (events : List Event) → events ≢ [] → Viable profile events → IsBeginning profile events
  viable_is_beginning events some (inl none) = absurd (some none)
  viable_is_beginning [] some (inr w) = absurd (some refl)
  viable_is_beginning (e ∷ events) some (inr w) = beginning w.1.0 e events w.0 w.1.1
