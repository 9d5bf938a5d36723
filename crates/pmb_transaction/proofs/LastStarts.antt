-- Events with which a packet begins, cut at their last START: what comes before it, and how the
-- last leg ends, in a packet under way (`InLastLeg`) or before STOP (`EndsInLeg`). For the laws on
-- what may follow at each place of a leg, such as `later_addresses` and `replies_go_on`. A leg has
-- one START, at its front, so the last START begins the last leg.
use Rattle.std.proofs.Common.{◌≡◌, ℕ, ◌≤◌, ◌⊎◌, inl, inr, Bool, true, false, Some, List, [], ◌∷◌, ◌++◌, length, map}
use Rattle.std.proofs.Common.{nat_eq, refl, sym, ap, ◌∙◌, subst, append_assoc}
use Rattle.std.specs.List.{IsDistinct}
use Rattle.std.proofs.lemmas.List.{append-nil}
use Rattle.pmb_bus.specs.declared.event.Event.{Event}
use Rattle.pmb_bus.specs.declared.event.Event.TheVariants.{Start, Byte, Ack, Nack, Stop}
use Rattle.pmb_bus.specs.Address.{write_address, read_address, alert_address}
use Rattle.pmb_command.specs.Parts.{DeviceParts, device_with}
use Rattle.pmb_command.specs.Wire.{wire}
use Rattle.pmb_transaction.specs.Transaction.{PartData, TransactionData, Write, Read, Call, Refused, Alert, NoAlert}
use Rattle.pmb_transaction.specs.Body.{checked, IsRequest}
use Rattle.pmb_transaction.specs.Packet.{Packet, PartEvents, PartsEvents, RefusedLeg, acked, addresses, leg, nacked}
use Rattle.pmb_transaction.specs.Capture.{IsPacket}
use Rattle.pmb_transaction.specs.Turns.{is_stop, follows_in_turn}
use Rattle.pmb_transaction.specs.Viable.{IsAnswer, AnswerBegins, answer_taken, answer_sent, AlertBegins, ReadBegins}
use Rattle.pmb_transaction.specs.Viable.{LegBegins, IsBeginning, at_alert, alert_answer, read_start, read_address_sent}
use Rattle.pmb_transaction.specs.Viable.{read_answer, leg_start, leg_address, leg_taken, leg_sent, whole, before_stop}
use Rattle.pmb_transaction.specs.Viable.{written, read, alert}
use Rattle.pmb_transaction.specs.Following.{IsAlertAnswer}
use Rattle.pmb_transaction.proofs.Beginnings.{call_answers, read_answers, same_before_stop}
use Rattle.pmb_transaction.proofs.Ends.{ends_behind, ends_with}
use Rattle.pmb_transaction.proofs.Fronts.{no_end}
use Rattle.pmb_transaction.proofs.Legs.{one_row_of_legs}
use Rattle.pmb_transaction.proofs.OneTransaction.{tell_parts}
use Rattle.pmb_transaction.proofs.Starts.{has_start, no_start-acked, no_start-answer, no_start-nacked, no_start-sent}
use Rattle.pmb_transaction.proofs.Starts.{not_both, same_last_start}
use Rattle.pmb_transaction.proofs.Telling.{part_told}

-- events that begin with their only START
pub record IsLeg (events : List Event) : Type 0 where
  -- the events after START, among which there is no other one
  pub tail : List Event
  pub split : events ≡ Start ∷ tail
  pub no_start : has_start tail ≡ false

-- where events end with such, they are cut there
pub cut_leg : (front own before events : List Event) → has_start own ≡ false → IsLeg events
    → front ++ Start ∷ own ≡ before ++ events
    → (before ≡ front) × (events ≡ Start ∷ own)
cut_leg front own before events none is same =
    let cut =
    same_last_start front before own is.tail none is.no_start
    (same ∙ ap (λ (es : List Event). before ++ es) is.split) in
    (sym cut.0, is.split ∙ ap (λ (es : List Event). Start ∷ es) (sym cut.1))

is_answer_leg : (address : ℕ) (answer : List ℕ) (events : List Event) → AnswerBegins address answer events
    → IsLeg events
is_answer_leg address answer events begins =
    let tail = no_start-answer address answer events begins in
    record { tail = Byte address ∷ tail.0; split = tail.1; no_start = tail.2 }

-- ---- addresses for writing and for reading

-- an answer stands after no address byte for writing
pub not_written : (addr other : ℕ) (answer : List ℕ) (rest : List Event)
    → AnswerBegins (read_address other) answer (Start ∷ Byte (write_address addr) ∷ rest) → ⊥
not_written addr other answer rest (answer_taken bytes fewer is) = not_both addr other (cc is)
not_written addr other answer rest (answer_sent bytes byte more split is) = not_both addr other (cc is)

pub no_alert_written : (addr : ℕ) (rest : List Event) → AlertBegins (Start ∷ Byte (write_address addr) ∷ rest) → ⊥
no_alert_written addr rest (at_alert is) = not_both addr alert_address (cc is)
no_alert_written addr rest (alert_answer byte with_pec small begins) = not_written addr alert_address _ rest begins

module _ (profile : List DeviceParts) where
  -- no written leg begins with an address byte for reading
  pub not_in_written : (parts : List PartData) (addr : ℕ) (rest : List Event)
      → LegBegins profile parts (Start ∷ Byte (read_address addr) ∷ rest) → ⊥
  not_in_written parts addr rest (leg_start is) = cc is
  not_in_written parts addr rest (leg_address other seven new is) = not_both other addr (cc is)
  not_in_written parts addr rest (leg_taken other device bytes new known begins is) = not_both other addr (cc is)
  not_in_written parts addr rest (leg_sent other device bytes byte new known inside small is) =
      not_both other addr (cc is)

  pub not_a_part : (part : PartData) (addr : ℕ) (rest : List Event)
      → PartEvents profile part (Start ∷ Byte (read_address addr) ∷ rest) → ⊥
  not_a_part part addr rest here = not_both part.addr addr (cc (here.spelled))

  -- ---- parts

  -- events are those of one list of parts
  pub one_list_of_parts : (a b : List PartData) (events : List Event) → PartsEvents profile a events
      → PartsEvents profile b events → a ≡ b
  one_list_of_parts a b events first second =
      let x = tell_parts profile a events first in
      let y = tell_parts profile b events second in
      let legs = one_row_of_legs x.legs y.legs (sym (x.spelled (Stop ∷ [])) ∙ y.spelled (Stop ∷ [])) in
      sym x.told_is ∙ ap (map (λ leg. part_told profile leg.bytes)) legs ∙ y.told_is

  -- the last of some parts
  record LastPart (all : List PartData) (events : List Event) : Type 0 where
    -- the parts before it, then the part
    pub done : List PartData
    pub part : PartData
    pub split : all ≡ done ++ part ∷ []
    -- the events of those, then its own
    pub before : List Event
    pub last : List Event
    pub each : PartsEvents profile done before
    pub here : PartEvents profile part last
    pub spelled : events ≡ before ++ last

  last_part : (part : PartData) (parts : List PartData) (events : List Event)
      → PartsEvents profile (part ∷ parts) events
      → LastPart (part ∷ parts) events
  -- one part alone is the last
  last_part part [] events each = record {
    done = [];
    part = part;
    split = refl;
    before = [];
    last = each.0;
    each = refl;
    here = each.3;
    spelled = each.2 ∙ ap (λ (es : List Event). each.0 ++ es) each.4 ∙ append-nil each.0;
  }
  -- else it is the last of the others
  last_part part (next ∷ parts) events each =
      let later = last_part next parts each.1 each.4 in
      record {
        done = part ∷ later.done;
        part = later.part;
        split = ap (λ (ps : List PartData). part ∷ ps) later.split;
        before = each.0 ++ later.before;
        last = later.last;
        each = (each.0, later.before, refl, each.3, later.each);
        here = later.here;
        spelled =
            each.2
            ∙ ap (λ (es : List Event). each.0 ++ es) later.spelled
            ∙ sym (append_assoc each.0 later.before later.last);
      }

  is_part_leg : (part : PartData) (events : List Event) → PartEvents profile part events → IsLeg events
  is_part_leg part events here =
      record {
        tail = acked (write_address part.addr ∷ here.body);
        split = here.spelled;
        no_start =
            no_start-acked here.body;
      }

  -- the last of parts, by the last START of their events
  pub record PartBehind (all : List PartData) (front own : List Event) : Type 0 where
    pub done : List PartData
    pub part : PartData
    pub split : all ≡ done ++ part ∷ []
    -- the events before the last START are those of the parts before it, the others its own
    pub each : PartsEvents profile done front
    pub here : PartEvents profile part (Start ∷ own)

  pub part_behind : (all : List PartData) (events front own : List Event) → has_start own ≡ false
      → PartsEvents profile all events
      → front ++ Start ∷ own ≡ events → PartBehind all front own
  part_behind [] events front own none each same = absurd (no_end front Start own (same ∙ each))
  part_behind (part ∷ parts) events front own none each same =
      let w = last_part part parts events each in
      let cut = cut_leg front own w.before w.last none (is_part_leg w.part w.last w.here) (same ∙ w.spelled) in
      record {
        done = w.done;
        part = w.part;
        split = w.split;
        each = subst (PartsEvents profile w.done) cut.0 w.each;
        here = subst (PartEvents profile w.part) cut.1 w.here;
      }

  -- ---- what ends inside a leg

  -- What ends inside a leg, by the events before its START and those after it.
  pub data InLastLeg (front own : List Event) : Type 0 where
    -- in a written leg after some parts: parts .. S ..
    in_written : (parts : List PartData) → length parts ≤ 15 → IsDistinct nat_eq (addresses parts)
        → PartsEvents profile parts front
        → LegBegins profile parts (Start ∷ own) → InLastLeg front own
    -- after a body that asks, at START: S addr+W A body A .. S
    at_reply : (addr : ℕ) → (device : DeviceParts) → (body : List ℕ) → device_with addr profile ≡ Some device
        → IsRequest device body → front ≡ leg (write_address addr ∷ body) → own ≡ [] → InLastLeg front own
    -- at the address byte of the reply: S addr+W A body A .. S addr+R
    at_read_address : (addr : ℕ) → (device : DeviceParts) → (body : List ℕ) → device_with addr profile ≡ Some device
        → IsRequest device body → front ≡ leg (write_address addr ∷ body) → own ≡ Byte (read_address addr) ∷ []
        → InLastLeg front own
    -- in the reply: S addr+W A body A .. S addr+R A ..
    in_reply : (addr : ℕ) → (device : DeviceParts) → (body : List ℕ) → (answer : List ℕ)
        → device_with addr profile ≡ Some device
        → IsAnswer device addr body answer → front ≡ leg (write_address addr ∷ body)
        → AnswerBegins (read_address addr) answer (Start ∷ own)
        → InLastLeg front own
    -- in the leg at the Alert Response Address: S 19 ..
    in_alert : front ≡ [] → AlertBegins (Start ∷ own) → InLastLeg front own

  is_written_leg : (parts : List PartData) (events : List Event) → LegBegins profile parts events → IsLeg events
  is_written_leg parts events (leg_start is) = record { tail = []; split = is; no_start = refl }
  is_written_leg parts events (leg_address addr seven new is) =
      record { tail = Byte (write_address addr) ∷ []; split = is; no_start = refl }
  is_written_leg parts events (leg_taken addr device bytes new known begins is) =
      record { tail = acked (write_address addr ∷ bytes); split = is; no_start = no_start-acked bytes }
  is_written_leg parts events (leg_sent addr device bytes byte new known inside small is) =
      record {
        tail = acked (write_address addr ∷ bytes) ++ Byte byte ∷ [];
        split = is;
        no_start =
            no_start-sent bytes byte;
      }

  is_alert_leg : (events : List Event) → AlertBegins events → IsLeg events
  is_alert_leg events (at_alert is) = record {
    tail = Byte (read_address alert_address) ∷ [];
    split = is;
    no_start =
        refl;
  }
  is_alert_leg events (alert_answer byte with_pec small begins) =
      is_answer_leg (read_address alert_address) (checked with_pec (read_address alert_address ∷ []) (byte ∷ [])) events
      begins

  in_read_leg : (front own events : List Event) → has_start own ≡ false → events ≡ front ++ Start ∷ own
      → ReadBegins profile events
      → InLastLeg front own
  in_read_leg front own events none spelled (read_start addr device body known is same) =
      let cut = same_last_start front (leg (write_address addr ∷ body)) own [] none refl (sym spelled ∙ same) in
      at_reply addr device body known is cut.0 cut.1
  in_read_leg front own events none spelled (read_address_sent addr device body known is same) =
      let cut =
      same_last_start front (leg (write_address addr ∷ body)) own (Byte (read_address addr) ∷ []) none refl
      (sym spelled ∙ same) in
      at_read_address addr device body known is cut.0 cut.1
  in_read_leg front own events none spelled (read_answer addr device body answer last known answers begins same) =
      let cut =
      cut_leg front own (leg (write_address addr ∷ body)) last none
      (is_answer_leg (read_address addr) answer last begins)
      (sym spelled ∙ same) in
      in_reply addr device body answer known answers (sym cut.0)
      (subst (AnswerBegins (read_address addr) answer) cut.1 begins)

  -- A beginning is a packet with or without its STOP, or ends inside its last leg.
  pub by_last_leg : (front own events : List Event) → has_start own ≡ false → events ≡ front ++ Start ∷ own
      → IsBeginning profile events
      → (IsPacket profile events ⊎ IsPacket profile (events ++ Stop ∷ [])) ⊎ InLastLeg front own
  by_last_leg front own events none spelled (whole packet) = inl (inl packet)
  by_last_leg front own events none spelled (before_stop packet) = inl (inr packet)
  by_last_leg front own events none spelled (written w) =
      let cut = cut_leg front own w.legs w.last none (is_written_leg w.parts w.last w.begins)
      (sym spelled ∙ w.spelled) in
      inr
      (
      in_written w.parts w.few w.distinct (subst (PartsEvents profile w.parts) cut.0 w.each)
      (subst (LegBegins profile w.parts) cut.1 w.begins)
      )
  by_last_leg front own events none spelled (read begins) = inr (in_read_leg front own events none spelled begins)
  by_last_leg front own events none spelled (alert begins) =
      let cut = cut_leg front own [] events none (is_alert_leg events begins) (sym spelled) in
      inr (in_alert (sym cut.0) (subst AlertBegins cut.1 begins))

  -- after an event that neither ends a packet nor has STOP after it, the latter
  by_open_leg_at : (events : List Event) (event : Event) (front own : List Event) → is_stop event ≡ false
      → follows_in_turn event Stop ≡ false
      → (IsPacket profile (events ++ event ∷ []) ⊎ IsPacket profile ((events ++ event ∷ []) ++ Stop ∷ []))
      ⊎ InLastLeg front own
      → InLastLeg front own
  by_open_leg_at events event front own other stays (inl (inl packet)) =
      absurd (ends_with profile events event other packet)
  by_open_leg_at events event front own other stays (inl (inr packet)) =
      absurd (ends_behind profile events event stays packet)
  by_open_leg_at events event front own other stays (inr w) = w

  pub by_open_leg : (events : List Event) (event : Event) (front own : List Event) → is_stop event ≡ false
      → follows_in_turn event Stop ≡ false
      → has_start own ≡ false → events ++ event ∷ [] ≡ front ++ Start ∷ own → IsBeginning profile (events ++ event ∷ [])
      → InLastLeg front own
  by_open_leg events event front own other stays none spelled begins =
      by_open_leg_at events event front own other stays
      (by_last_leg front own (events ++ event ∷ []) none spelled begins)

  -- ---- packets

  -- A packet without its STOP, by the events before its last START and those after it.
  pub data EndsInLeg (front own : List Event) : Type 0 where
    -- a write, with its last part: parts .. S addr+W A body A ..
    ends_write : (parts : List PartData) → (part : PartData) → PartsEvents profile parts front
        → PartEvents profile part (Start ∷ own)
        → EndsInLeg front own
    -- a refused address byte: S addr+W N
    ends_at_address : (addr : ℕ) → own ≡ Byte (write_address addr) ∷ Nack ∷ [] → EndsInLeg front own
    -- a refused byte: S addr+W A bytes A .. byte N
    ends_at_byte : (addr : ℕ) → (byte : ℕ) → (bytes : List ℕ) → own ≡ Byte (write_address addr) ∷ Ack
        ∷ nacked (byte ∷ bytes)
        → EndsInLeg front own
    -- a device that refuses to be read, or no answer to an alert: S addr+R N
    ends_at_read : (addr : ℕ) → own ≡ Byte (read_address addr) ∷ Nack ∷ [] → EndsInLeg front own
    -- a whole reply: S addr+W A body A .. S addr+R A answer A .. answer N
    ends_reply : (addr : ℕ) → (device : DeviceParts) → (body : List ℕ) → (answer : List ℕ)
        → device_with addr profile ≡ Some device
        → IsAnswer device addr body answer → front ≡ leg (write_address addr ∷ body)
        → own ≡ Byte (read_address addr) ∷ Ack ∷ nacked answer
        → EndsInLeg front own
    -- a whole answer at the Alert Response Address: S 19 A answer A .. answer N
    ends_alert : (answer : List ℕ) → IsAlertAnswer answer → front ≡ [] → own ≡ Byte (read_address alert_address) ∷ Ack
        ∷ nacked answer
        → EndsInLeg front own

  ends_in_reply : (front own : List Event) → has_start own ≡ false
      → (addr : ℕ) (device : DeviceParts) (body answer : List ℕ)
      → device_with addr profile ≡ Some device → IsAnswer device addr body answer
      → front ++ Start ∷ own ≡ leg (write_address addr ∷ body) ++ (leg (read_address addr ∷ []) ++ nacked answer)
      → EndsInLeg front own
  ends_in_reply front own none addr device body answer known answers same =
      let cut =
      same_last_start front (leg (write_address addr ∷ body)) own (Byte (read_address addr) ∷ Ack ∷ nacked answer) none
      (no_start-nacked answer) same in
      ends_reply addr device body answer known answers cut.0 cut.1

  ends_in_read_refused : (front own : List Event) → has_start own ≡ false
      → (legs : List Event) (addr : ℕ) (sent : List ℕ) (last : List Event)
      → last ≡ leg (write_address addr ∷ sent) ++ Start ∷ Byte (read_address addr) ∷ Nack ∷ []
      → front ++ Start ∷ own ≡ legs ++ last
      → EndsInLeg front own
  ends_in_read_refused front own none legs addr sent last spelled same =
      let written_leg = leg (write_address addr ∷ sent) in
      let cut =
      same_last_start front (legs ++ written_leg) own (Byte (read_address addr) ∷ Nack ∷ []) none refl
      (
      same
      ∙ ap (λ (es : List Event). legs ++ es) spelled
      ∙ sym (append_assoc legs written_leg (Start ∷ Byte (read_address addr) ∷ Nack ∷ []))
      ) in
      ends_at_read addr cut.1

  ends_in_refused : (front own : List Event) → has_start own ≡ false
      → (parts : List PartData) (addr : ℕ) (sent : List ℕ) (at_read : Bool)
      → (legs last : List Event) → RefusedLeg profile parts addr sent at_read last → front ++ Start ∷ own ≡ legs ++ last
      → EndsInLeg front own
  ends_in_refused front own none parts addr [] false legs last refused same =
      let cut =
      same_last_start front legs own (Byte (write_address addr) ∷ Nack ∷ []) none refl
      (same ∙ ap (λ (es : List Event). legs ++ es) refused.spelled) in
      ends_at_address addr cut.1
  ends_in_refused front own none parts addr (b ∷ bytes) false legs last refused same =
      let cut =
      same_last_start front legs own (Byte (write_address addr) ∷ Ack ∷ nacked (b ∷ bytes)) none
      (no_start-nacked (b ∷ bytes))
      (same ∙ ap (λ (es : List Event). legs ++ es) refused.spelled) in
      ends_at_byte addr b bytes cut.1
  ends_in_refused front own none parts addr [] true legs last refused same =
      ends_in_read_refused front own none legs addr [] last refused.spelled same
  ends_in_refused front own none parts addr (b ∷ bytes) true legs last refused same =
      ends_in_read_refused front own none legs addr (b ∷ bytes) last refused.spelled same

  ends_in_leg : (front own events : List Event) → has_start own ≡ false → events ≡ front ++ Start ∷ own
      → (t : TransactionData)
      → Packet profile t (events ++ Stop ∷ []) → EndsInLeg front own
  -- a write: its last part
  ends_in_leg front own events none spelled (Write parts) packet =
      let w = part_behind parts packet.legs front own none packet.each
      (sym spelled ∙ same_before_stop events packet.legs packet.spelled) in
      ends_write w.done w.part w.each w.here
  -- a read: its reply
  ends_in_leg front own events none spelled (Read t) packet =
      let body = t.code ∷ [] in
      let answer = checked t.pec (write_address t.addr ∷ body ++ read_address t.addr ∷ []) (wire packet.form t.reply) in
      let all = leg (write_address t.addr ∷ body) ++ (leg (read_address t.addr ∷ []) ++ nacked answer) in
      ends_in_reply front own none t.addr packet.device body answer packet.known
      (read_answers profile t (events ++ Stop ∷ []) packet)
      (sym spelled ∙ same_before_stop events all packet.spelled)
  -- a call: its reply
  ends_in_leg front own events none spelled (Call t) packet =
      let body = t.code ∷ wire packet.form t.bytes in
      let answer = checked t.pec (write_address t.addr ∷ body ++ read_address t.addr ∷ []) (wire packet.form t.reply) in
      let all = leg (write_address t.addr ∷ body) ++ (leg (read_address t.addr ∷ []) ++ nacked answer) in
      ends_in_reply front own none t.addr packet.device body answer packet.known
      (call_answers profile t (events ++ Stop ∷ []) packet)
      (sym spelled ∙ same_before_stop events all packet.spelled)
  -- a refused packet: its refused leg
  ends_in_leg front own events none spelled (Refused t) packet =
      ends_in_refused front own none t.parts t.addr t.sent t.at_read packet.legs packet.last packet.refused
      (sym spelled ∙ same_before_stop events (packet.legs ++ packet.last) packet.spelled)
  -- an alert: its only leg
  ends_in_leg front own events none spelled (Alert t) packet =
      let answer = checked t.pec (read_address alert_address ∷ []) (t.byte ∷ []) in
      let all = leg (read_address alert_address ∷ []) ++ nacked answer in
      let cut =
      same_last_start front [] own (Byte (read_address alert_address) ∷ Ack ∷ nacked answer) none
      (no_start-nacked answer)
      (sym spelled ∙ same_before_stop events all packet.spelled) in
      ends_alert answer (record { byte = t.byte; small = packet.byte; with_pec = t.pec; spelled = refl }) cut.0 cut.1
  ends_in_leg front own events none spelled NoAlert packet =
      let all = Start ∷ Byte (read_address alert_address) ∷ Nack ∷ [] in
      let cut =
      same_last_start front [] own (Byte (read_address alert_address) ∷ Nack ∷ []) none refl
      (sym spelled ∙ same_before_stop events all packet) in
      ends_at_read alert_address cut.1

  pub by_stop : (front own events : List Event) → has_start own ≡ false → events ≡ front ++ Start ∷ own
      → IsPacket profile (events ++ Stop ∷ [])
      → EndsInLeg front own
  by_stop front own events none spelled packet = ends_in_leg front own events none spelled packet.0 packet.1
