-- The legs of a packet under way have at most 258 bytes after their address byte. For the law
-- `legs_are_short`, by which a `PartialPacket` keeps all of them. By the law `bodies_are_short` of
-- `pmb_transaction`: data have 256 bytes at most, a body 258, a front of one 257; each sort of
-- packet has such legs.
use Rattle.std.proofs.Common.{◌≡◌, ℕ, ◌+◌, ◌≤◌, Bool, true, false, inl, inr, List, [], ◌∷◌, ◌++◌, length, refl, sym, ap}
use Rattle.std.proofs.Common.{subst, ◌∙◌, arith, append-nil, length-append}
use Rattle.std.specs.List.{AllByRecursion}
use Rattle.std.proofs.lemmas.List.{append_assoc}
use Rattle.pmb_bus.specs.declared.event.Event.{Event}
use Rattle.pmb_bus.specs.declared.event.Event.TheVariants.{Start, Byte, Ack, Nack, Stop}
use Rattle.pmb_bus.specs.Address.{write_address, read_address, alert_address}
use Rattle.pmb_bus.specs.Pec.{pec}
use Rattle.pmb_command.specs.declared.form.Form.{Form}
use Rattle.pmb_command.specs.Parts.{DeviceParts}
use Rattle.pmb_command.specs.Wire.{Fits, wire}
use Rattle.pmb_transaction.specs.Transaction.{PartData, TransactionData, Write, Read, Call, Refused, Alert, NoAlert}
use Rattle.pmb_transaction.specs.Body.{checked, Allowed, IsInsideBody}
use Rattle.pmb_transaction.specs.Packet.{acked, nacked, leg, answered, PartsEvents, ByteRefused, ReadRefused}
use Rattle.pmb_transaction.specs.Packet.{RefusedLeg, Packet}
use Rattle.pmb_transaction.specs.Capture.{Viable}
use Rattle.pmb_partial_packet.specs.PartialPacket.{IsShort, LegsAreShort, behind_address, bytes_of_leg, legs}

-- ---- events of one leg, and what comes after it

bytes_of_acked : (bytes : List ℕ) (rest : List Event) → bytes_of_leg (acked bytes ++ rest) ≡ bytes ++ bytes_of_leg rest
bytes_of_acked [] rest = refl
bytes_of_acked (b ∷ bytes) rest = ap (λ (bs : List ℕ). b ∷ bs) (bytes_of_acked bytes rest)

legs_behind_acked : (bytes : List ℕ) (rest : List Event) → legs (acked bytes ++ rest) ≡ legs rest
legs_behind_acked [] rest = refl
legs_behind_acked (b ∷ bytes) rest = legs_behind_acked bytes rest

bytes_of_nacked : (bytes : List ℕ) (rest : List Event) → bytes_of_leg (nacked bytes ++ rest) ≡ bytes
    ++ bytes_of_leg rest
bytes_of_nacked [] rest = refl
bytes_of_nacked (b ∷ []) rest = refl
bytes_of_nacked (b ∷ c ∷ bytes) rest = ap (λ (bs : List ℕ). b ∷ bs) (bytes_of_nacked (c ∷ bytes) rest)

legs_behind_nacked : (bytes : List ℕ) (rest : List Event) → legs (nacked bytes ++ rest) ≡ legs rest
legs_behind_nacked [] rest = refl
legs_behind_nacked (b ∷ []) rest = refl
legs_behind_nacked (b ∷ c ∷ bytes) rest = legs_behind_nacked (c ∷ bytes) rest

-- Events begin no leg with bytes of the one before, and their legs are short.
record AreShort (events : List Event) : Type 0 where
  -- they begin with START or STOP, so no byte belongs to the leg before
  apart : bytes_of_leg events ≡ []
  short : LegsAreShort events

stop : AreShort (Stop ∷ [])
stop = record { apart = refl; short = tt }

-- a leg of a device that took some bytes, before such events
taken : (address : ℕ) (bytes : List ℕ) (rest : List Event) → length bytes ≤ 258 → AreShort rest
    → AreShort (leg (address ∷ bytes) ++ rest)
taken address bytes rest few are =
    let all : bytes_of_leg (acked bytes ++ rest) ≡ bytes =
    bytes_of_acked bytes rest ∙ ap (λ (bs : List ℕ). bytes ++ bs) are.apart ∙ append-nil bytes in
    record {
      apart = refl;
      short = (
        subst (λ (bs : List ℕ). length bs ≤ 258) (sym all) few,
        subst (λ (ls : List (List ℕ)). AllByRecursion IsShort ls) (sym (legs_behind_acked bytes rest)) are.short,
      );
    }

-- .. and that refused the last one, or was sent it in a reply
ended : (address : ℕ) (bytes : List ℕ) (rest : List Event) → length bytes ≤ 258 → AreShort rest
    → AreShort (leg (address ∷ []) ++ (nacked bytes ++ rest))
ended address bytes rest few are =
    let all : bytes_of_leg (nacked bytes ++ rest) ≡ bytes =
    bytes_of_nacked bytes rest ∙ ap (λ (bs : List ℕ). bytes ++ bs) are.apart ∙ append-nil bytes in
    record {
      apart = refl;
      short = (
        subst (λ (bs : List ℕ). length bs ≤ 258) (sym all) few,
        subst (λ (ls : List (List ℕ)). AllByRecursion IsShort ls) (sym (legs_behind_nacked bytes rest)) are.short,
      );
    }

address_refused : (address : ℕ) (rest : List Event) → AreShort rest → AreShort (Start ∷ Byte address ∷ Nack ∷ rest)
address_refused address rest are =
    record { apart = refl; short = (subst (λ (bs : List ℕ). length bs ≤ 258) (sym are.apart) (omega arith), are.short) }

-- ---- what begins them

-- a leg has no more bytes after which events are left out
leg_of_front : (events more : List Event) → length (bytes_of_leg events) ≤ length (bytes_of_leg (events ++ more))
leg_of_front [] more = omega arith
leg_of_front (Start ∷ events) more = omega arith
leg_of_front (Byte b ∷ events) more = omega (arith, leg_of_front events more)
leg_of_front (Ack ∷ events) more = leg_of_front events more
leg_of_front (Nack ∷ events) more = leg_of_front events more
leg_of_front (Stop ∷ events) more = leg_of_front events more

behind_shorter : (a b : List ℕ) → length a ≤ length b → length (behind_address a) ≤ length (behind_address b)
behind_shorter [] b few = omega arith
behind_shorter (x ∷ a) [] few = omega (arith, few)
behind_shorter (x ∷ a) (y ∷ b) few = omega (arith, few)

legs_of_front : (events more : List Event) → LegsAreShort (events ++ more) → LegsAreShort events
legs_of_front [] more short = tt
legs_of_front (Start ∷ events) more short = (
  omega (
    arith,
    short.0,
    behind_shorter (bytes_of_leg events) (bytes_of_leg (events ++ more))
        (leg_of_front events more),
  ),
  legs_of_front events more short.1,
)
legs_of_front (Byte b ∷ events) more short = legs_of_front events more short
legs_of_front (Ack ∷ events) more short = legs_of_front events more short
legs_of_front (Nack ∷ events) more short = legs_of_front events more short
legs_of_front (Stop ∷ events) more short = legs_of_front events more short

-- ---- packets

-- 256, 258 and 257: what the law bodies_are_short says of data, bodies and their fronts
module _ (data_short : (form : Form) (bytes : List ℕ) → Fits form bytes → length (wire form bytes) ≤ 256)
    (checked_short : (with_pec : Bool) (before bytes : List ℕ)
    → length (checked with_pec before bytes) ≤ length bytes + 1)
    (body_short : (device : DeviceParts) (parts : List PartData) (body : List ℕ) → Allowed device parts body
    → length body ≤ 258)
    (front_short : (device : DeviceParts) (parts : List PartData) (front : List ℕ) → IsInsideBody device parts front
    → length front ≤ 257)
    (profile : List DeviceParts) where
  -- a leg, the leg of the reply, and STOP
  answer_short : (addr : ℕ) (body reply : List ℕ) (with_pec : Bool) → length body ≤ 258 → length reply ≤ 256
      → AreShort (answered addr body reply with_pec)
  answer_short addr body reply with_pec few few_replied =
      let before = write_address addr ∷ body ++ read_address addr ∷ [] in
      let answer = checked with_pec before reply in
      let all : length answer ≤ 258 = omega (arith, few_replied, checked_short with_pec before reply) in
      let reply_leg = leg (read_address addr ∷ []) ++ nacked answer in
      let reads : AreShort (reply_leg ++ Stop ∷ []) = ended (read_address addr) answer (Stop ∷ []) all stop in
      subst (λ (es : List Event). AreShort es)
      (sym (append_assoc (leg (write_address addr ∷ body)) reply_leg (Stop ∷ [])))
      (taken (write_address addr) body (reply_leg ++ Stop ∷ []) few reads)

  parts_short : (parts : List PartData) (events rest : List Event) → PartsEvents profile parts events → AreShort rest
      → AreShort (events ++ rest)
  parts_short [] events rest none are = subst (λ (es : List Event). AreShort (es ++ rest)) (sym none) are
  parts_short (part ∷ parts) events rest w are =
      let is = w.3 in
      let body : length is.body ≤ 258 = body_short is.device [] is.body
      (inl (part.code, part.bytes, part.pec, is.allowed)) in
      let behind : AreShort (w.1 ++ rest) = parts_short parts w.1 rest w.4 are in
      let first = taken (write_address part.addr) is.body (w.1 ++ rest) body behind in
      let split : w.0 ++ w.1 ++ rest ≡ leg (write_address part.addr ∷ is.body) ++ (w.1 ++ rest) =
      append_assoc w.0 w.1 rest ∙ ap (λ (es : List Event). es ++ (w.1 ++ rest)) is.spelled in
      subst (λ (es : List Event). AreShort (es ++ rest)) (sym w.2)
      (subst (λ (es : List Event). AreShort es) (sym split) first)

  byte_refused : (parts : List PartData) (addr : ℕ) (sent : List ℕ) (events : List Event)
      → ByteRefused profile parts addr sent events
      → AreShort (events ++ Stop ∷ [])
  byte_refused parts addr sent events is =
      let all : length sent ≡ length is.front + 1 = ap length is.split ∙ length-append is.front (is.last ∷ []) in
      let few : length is.front ≤ 257 = front_short is.device parts is.front is.begins in
      let short : AreShort (leg (write_address addr ∷ []) ++ nacked sent ++ Stop ∷ []) =
      ended (write_address addr) sent (Stop ∷ []) (omega (arith, all, few)) stop in
      subst (λ (es : List Event). AreShort (es ++ Stop ∷ [])) (sym is.spelled) short

  read_refused : (parts : List PartData) (addr : ℕ) (sent : List ℕ) (events : List Event)
      → ReadRefused profile parts addr sent events
      → AreShort (events ++ Stop ∷ [])
  read_refused parts addr sent events is =
      let rest = Start ∷ Byte (read_address addr) ∷ Nack ∷ Stop ∷ [] in
      let short : AreShort (leg (write_address addr ∷ sent) ++ rest) =
      taken (write_address addr) sent rest (body_short is.device [] sent (inr is.body))
      (address_refused (read_address addr) (Stop ∷ []) stop) in
      let split : events ++ Stop ∷ [] ≡ leg (write_address addr ∷ sent) ++ rest =
      ap (λ (es : List Event). es ++ Stop ∷ []) is.spelled
      ∙ append_assoc (leg (write_address addr ∷ sent)) (Start ∷ Byte (read_address addr) ∷ Nack ∷ []) (Stop ∷ []) in
      subst (λ (es : List Event). AreShort es) (sym split) short

  refused_short : (parts : List PartData) (addr : ℕ) (sent : List ℕ) (at_read : Bool) (events : List Event)
      → RefusedLeg profile parts addr sent at_read events
      → AreShort (events ++ Stop ∷ [])
  refused_short parts addr [] false events is =
      subst (λ (es : List Event). AreShort (es ++ Stop ∷ [])) (sym is.spelled)
      (address_refused (write_address addr) (Stop ∷ []) stop)
  refused_short parts addr (b ∷ bytes) false events is = byte_refused parts addr (b ∷ bytes) events is
  refused_short parts addr [] true events is = read_refused parts addr [] events is
  refused_short parts addr (b ∷ bytes) true events is = read_refused parts addr (b ∷ bytes) events is

  packet_short : (t : TransactionData) (events : List Event) → Packet profile t events → AreShort events
  packet_short (Write parts) events is =
      subst (λ (es : List Event). AreShort es) (sym is.spelled) (parts_short parts is.legs (Stop ∷ []) is.each stop)
  packet_short (Read t) events is =
      let reply : length (wire is.form t.reply) ≤ 256 = data_short is.form t.reply is.fits in
      subst (λ (es : List Event). AreShort es) (sym is.spelled)
      (answer_short t.addr (t.code ∷ []) (wire is.form t.reply) t.pec (omega arith) reply)
  packet_short (Call t) events is =
      let sent : length (wire is.form t.bytes) ≤ 256 = data_short is.form t.bytes is.sent in
      let reply : length (wire is.form t.reply) ≤ 256 = data_short is.form t.reply is.replied in
      subst (λ (es : List Event). AreShort es) (sym is.spelled)
      (answer_short t.addr (t.code ∷ wire is.form t.bytes) (wire is.form t.reply) t.pec (omega (arith, sent)) reply)
  packet_short (Refused t) events is =
      subst (λ (es : List Event). AreShort es) (sym (is.spelled ∙ append_assoc is.legs is.last (Stop ∷ [])))
      (parts_short t.parts is.legs (is.last ++ Stop ∷ []) is.each
      (refused_short t.parts t.addr t.sent t.at_read is.last is.refused))
  packet_short (Alert t) events is =
      let address = read_address alert_address in
      let answer = checked t.pec (address ∷ []) (t.byte ∷ []) in
      let all : length answer ≤ 258 = omega (arith, checked_short t.pec (address ∷ []) (t.byte ∷ [])) in
      subst (λ (es : List Event). AreShort es) (sym is.spelled) (ended address answer (Stop ∷ []) all stop)
  packet_short NoAlert events is =
      subst (λ (es : List Event). AreShort es) (sym is) (address_refused (read_address alert_address) (Stop ∷ []) stop)

  pub legs_are_short : (events : List Event) → Viable profile events → LegsAreShort events
  legs_are_short events (inl none) = subst (λ (es : List Event). LegsAreShort es) (sym none) tt
  legs_are_short events (inr w) = legs_of_front events w.0 (packet_short w.1.0 (events ++ w.0) w.1.1).short
