-- From the legs at the front of a text to the packet, and back: what bytes say is a packet's
-- events, and each packet has legs that say it. For `CanonicalReader::take`, `keep_write`,
-- `keep_both` and `keep_unread`. One lemma a sort of packet in each direction; the way back shows
-- that no packet in canonical text is left out.
use Rattle.std.proofs.Common.{◌≡◌, ℕ, ◌+◌, ◌*◌, ◌%◌, ◌≤◌, ◌<◌, inl, inr, Bool, true, false, List, [], ◌∷◌, ◌++◌, length}
use Rattle.std.proofs.Common.{nat_eq, refl, sym, ap, subst, ◌∙◌, arith, append_assoc, length-append}
use Rattle.std.proofs.lemmas.List.{append-nil}
use Rattle.std.proofs.Math.Seq.{drop-append_seam}
use Rattle.std.specs.List.{IsDistinct}
use Rattle.hex.specs.Hex.{encode_with}
use Rattle.pmb_bus.specs.declared.event.Event.{Event}
use Rattle.pmb_bus.specs.declared.event.Event.TheVariants.{Start, Byte, Ack, Nack, Stop}
use Rattle.pmb_bus.specs.Address.{write_address, read_address}
use Rattle.pmb_bus.specs.Event.{AreBytes, canonical_text}
use Rattle.pmb_command.specs.declared.form.Form.TheVariants.{Zero}
use Rattle.pmb_command.specs.Bus.{IsBus}
use Rattle.pmb_command.specs.Parts.{DeviceParts}
use Rattle.pmb_command.specs.Wire.{AreByteValues, wire}
use Rattle.pmb_transaction.specs.Transaction.{PartData, ReadData, CallData, AlertData, TransactionData, Write, Read}
use Rattle.pmb_transaction.specs.Transaction.{Call, Refused, Alert, NoAlert}
use Rattle.pmb_transaction.specs.Body.{Allowed, IsInsideBody, checked}
use Rattle.pmb_transaction.specs.Packet.{Packet, PartEvents, PartsEvents, ReadRefused, acked, leg, nacked}
use Rattle.pmb_canonical.specs.declared.legs.PacketShape.{PacketShape}
use Rattle.pmb_canonical.specs.declared.legs.PacketShape.TheVariants.{Written, Both, Group, Nacked}
use Rattle.pmb_canonical.specs.Alerts.{alert_bytes}
use Rattle.pmb_canonical.specs.Canonical.{BeginsWithPacket, OneCalled, OneRead, OneReadRefused, OneWritten}
use Rattle.pmb_canonical.specs.Canonical.{TakesPacket, nacked_leg, read_events}
use Rattle.pmb_canonical.specs.Groups.{MoreParts}
use Rattle.pmb_canonical.specs.Legs.{BeginsOdd, Follows, IsOfLegs, SayBoth, SayLegs, SaysAlone, leg_events}
use Rattle.pmb_canonical.specs.Nacked.{SaysNacked}
use Rattle.pmb_canonical.proofs.Alone.{some_answer, to_alert}
use Rattle.pmb_canonical.proofs.Ends.{both, both_events, length-both_text, length-written_text, second_leg}
use Rattle.pmb_canonical.proofs.LegBytes.{behind_acked, bytes_of_acked, bytes_of_nacked, few_checked, few_in_leg}
use Rattle.pmb_canonical.proofs.LegBytes.{few_on_wire, length-acked, length-nacked, some_checked, some_on_wire}
use Rattle.pmb_canonical.proofs.Found.{call_has_data, read_has_data}
use Rattle.pmb_canonical.proofs.Texts.{small-append, text-append}

-- ---- from legs to the packet

-- one address is none twice
one_address : (address : ℕ) → IsDistinct nat_eq (address ∷ [])
unfolding IsDistinct
one_address address = (tt, tt)

-- the write of one part
pub takes_write : (profile : List DeviceParts) (text rest : List ℕ) (address code : ℕ) (data_bytes : List ℕ)
    (with_pec : Bool) (bytes : List ℕ) (used count : ℕ)
    → OneWritten profile address code data_bytes with_pec bytes → text ≡ canonical_text (leg_events Written bytes)
    ++ rest
    → used ≡ 4 + 5 * length bytes → count ≡ 2 + 2 * length bytes
    → TakesPacket profile text used count (Write
    (record { addr = address; code = code; bytes = data_bytes; pec = with_pec } ∷ []))
takes_write profile text rest address code data_bytes with_pec bytes used count says split long many = record {
  events = leg bytes ++ Stop ∷ [];
  -- one part, whose leg is the packet's only one
  packet = record {
    some = omega arith;
    few = omega arith;
    distinct = one_address address;
    legs = leg bytes;
    each = (
      leg bytes,
      [],
      sym (append-nil (leg bytes)),
      record {
        device = says.device;
        body = says.body;
        known = says.known;
        allowed = says.allowed;
        spelled =
            ap leg says.spelled;
      },
      refl,
    );
    spelled = refl;
  };
  rest = rest;
  split = split;
  -- four characters for START and STOP, five a byte; two events a byte
  bytes = long ∙ sym (length-written_text bytes);
  all = omega (arith, many, length-append (acked bytes) (Stop ∷ []), length-acked bytes);
}

length-both : (front second : List ℕ) → length (both front second) ≡ 3 + 2 * length front + 2 * length second
length-both front second = omega (
  arith,
  length-append (acked front ++ nacked_leg second) (Stop ∷ []),
  length-append (acked front) (nacked_leg second),
  length-acked front,
  length-nacked second,
)

-- the packet of both legs
takes_both : (profile : List DeviceParts) (text rest : List ℕ) (t : TransactionData) (front second bytes : List ℕ)
    (written used count : ℕ) → Packet profile t (both front second) → bytes ≡ front ++ second
    → written ≡ length front
    → text ≡ canonical_text (leg_events (Both written) bytes) ++ rest → used ≡ 6 + 5 * length bytes
    → count ≡ 3 + 2 * length bytes
    → TakesPacket profile text used count t
takes_both profile text rest t front second bytes written used count packet spelled long split used_bytes many =
    let same : read_events written bytes ≡ both front second =
    ap (λ (n : ℕ). read_events n bytes) long ∙ ap (read_events (length front)) spelled ∙ both_events front second in
    let bytes_long : length bytes ≡ length front + length second =
    omega (arith, ap length spelled, length-append front second) in
    record {
      events = both front second;
      packet = packet;
      rest = rest;
      split = split ∙ ap (λ (events : List Event). canonical_text events ++ rest) same;
      bytes = omega (arith, used_bytes, bytes_long, length-both_text front second);
      all = omega (arith, many, bytes_long, length-both front second);
    }

-- the events of both legs where some bytes are read
both_read : (front : List ℕ) (to_read : ℕ) (reply : List ℕ) → 1 ≤ length reply
    → both front (to_read ∷ reply) ≡ leg front ++ (leg (to_read ∷ []) ++ nacked reply) ++ Stop ∷ []
both_read front to_read reply some = ap (λ (l : List Event). leg front ++ l ++ Stop ∷ [])
    (second_leg to_read reply some)

-- the read
pub takes_read : (profile : List DeviceParts) (text rest : List ℕ) (address code : ℕ) (data_bytes : List ℕ)
    (with_pec : Bool) (bytes : List ℕ)
    (written used count : ℕ) → OneRead profile address code data_bytes with_pec bytes → written ≡ 2
    → written + 1 < length bytes
    → text ≡ canonical_text (leg_events (Both written) bytes) ++ rest → used ≡ 6 + 5 * length bytes
    → count ≡ 3 + 2 * length bytes
    → TakesPacket profile text used count (Read
    (record { addr = address; code = code; reply = data_bytes; pec = with_pec }))
takes_read profile text rest address code data_bytes with_pec bytes written used count says two some split used_bytes
    many =
    let t : ReadData = record { addr = address; code = code; reply = data_bytes; pec = with_pec } in
    let front = write_address address ∷ code ∷ [] in
    let reply = checked with_pec (front ++ read_address address ∷ []) (wire says.form data_bytes) in
    let some_reply : 1 ≤ length reply = omega (arith, two, some, ap length says.spelled) in
    takes_both profile text rest (Read t) front (read_address address ∷ reply) bytes written used count
    (record {
      device = says.device;
      form = says.form;
      known = says.known;
      read = says.read;
      fits = says.fits;
      mode = says.mode;
      spelled = both_read front (read_address address) reply some_reply;
    }) says.spelled two split used_bytes many

-- the call
pub takes_call : (profile : List DeviceParts) (text rest : List ℕ) (address code : ℕ) (sent data_bytes : List ℕ)
    (with_pec : Bool) (bytes : List ℕ)
    (written used count : ℕ) → OneCalled profile address code data_bytes with_pec bytes sent written
    → written + 1 < length bytes
    → text ≡ canonical_text (leg_events (Both written) bytes) ++ rest → used ≡ 6 + 5 * length bytes
    → count ≡ 3 + 2 * length bytes
    → TakesPacket profile text used count (Call
    (record { addr = address; code = code; bytes = sent; reply = data_bytes; pec = with_pec }))
takes_call profile text rest address code sent data_bytes with_pec bytes written used count says some split used_bytes
    many =
    let t : CallData = record { addr = address; code = code; bytes = sent; reply = data_bytes; pec = with_pec } in
    -- the bytes of the first leg, and those after the second address byte
    let front = write_address address ∷ code ∷ wire says.form sent in
    let reply = checked with_pec (front ++ read_address address ∷ []) (wire says.form data_bytes) in
    let long : written ≡ length front = omega (arith, says.first) in
    let some_reply : 1 ≤ length reply = omega
    (arith, long, some, ap length says.spelled, length-append front (read_address address ∷ reply)) in
    -- so both legs are those of the call
    takes_both profile text rest (Call t) front (read_address address ∷ reply) bytes written used count
    (record {
      device = says.device;
      form = says.form;
      known = says.known;
      called = says.called;
      sent = says.sends;
      replied = says.fits;
      mode = says.mode;
      spelled = both_read front (read_address address) reply some_reply;
    }) says.spelled long split used_bytes many

-- what is kept of a refusal before which no part was
pub refused_alone : (parts : List PartData) (address : ℕ) (sent : List ℕ) (at_read : Bool) → parts ≡ []
    → Refused (record { parts = parts; addr = address; sent = sent ++ []; at_read = at_read })
    ≡ Refused (record { parts = []; addr = address; sent = sent; at_read = at_read })
refused_alone parts address sent at_read none =
    ap (λ (ps : List PartData). Refused (record { parts = ps; addr = address; sent = sent ++ []; at_read = at_read }))
    none
    ∙ ap (λ (l : List ℕ). Refused (record { parts = []; addr = address; sent = l; at_read = at_read }))
    (append-nil sent)

-- where to be read is refused
read_packet : (profile : List DeviceParts) (address : ℕ) (sent bytes : List ℕ) (written : ℕ)
    → (says : OneReadRefused profile address sent bytes written)
    → Packet profile (Refused (record { parts = []; addr = address; sent = sent; at_read = true }))
    (both (write_address address ∷ sent) (read_address address ∷ []))
unfolding IsDistinct
read_packet profile address [] bytes written says = record {
  few = omega arith;
  distinct = tt;
  another = refl;
  legs = [];
  each = refl;
  last = leg (write_address address ∷ []) ++ nacked_leg (read_address address ∷ []);
  refused = record { alone = refl; device = says.device; known = says.known; body = says.body; spelled = refl };
  spelled = refl;
}
read_packet profile address (first ∷ more) bytes written says = record {
  few = omega arith;
  distinct = tt;
  another = refl;
  legs = [];
  each = refl;
  last = leg (write_address address ∷ first ∷ more) ++ nacked_leg (read_address address ∷ []);
  refused = record { alone = refl; device = says.device; known = says.known; body = says.body; spelled = refl };
  spelled = refl;
}

pub takes_unread : (profile : List DeviceParts) (text rest : List ℕ) (address : ℕ) (sent bytes : List ℕ)
    (written used count : ℕ)
    → OneReadRefused profile address sent bytes written → text ≡ canonical_text (leg_events (Both written) bytes)
    ++ rest
    → used ≡ 6 + 5 * length bytes → count ≡ 3 + 2 * length bytes
    → TakesPacket profile text used count (Refused (record { parts = []; addr = address; sent = sent; at_read = true }))
takes_unread profile text rest address sent bytes written used count says split used_bytes many =
    takes_both profile text rest (Refused (record { parts = []; addr = address; sent = sent; at_read = true }))
    (write_address address ∷ sent) (read_address address ∷ []) bytes
    written used count (read_packet profile address sent bytes written says)
    says.spelled (omega (arith, says.first)) split used_bytes many

-- ---- from the packet to its legs

-- The legs that stand at the front of a text, and what they say.
pub record PacketLegs (profile : List DeviceParts) (text : List ℕ) : Type 0 where
  -- which legs there are, their bytes, and the text after them
  pub legs : PacketShape
  pub all : List ℕ
  pub rest : List ℕ
  -- their bytes are such legs, they say a packet, and the text begins with them
  pub are : IsOfLegs legs all
  pub follows : Follows legs rest
  pub say : SayLegs profile text legs all
  pub split : text ≡ canonical_text (leg_events legs all) ++ rest

bytes_of_both : (front second : List ℕ) → AreBytes (both front second) → AreByteValues (front ++ second)
bytes_of_both front second small =
    let behind = nacked_leg second ++ Stop ∷ [] in
    let both_small : AreBytes (acked front ++ behind) =
    subst AreBytes (append_assoc (acked front) (nacked_leg second) (Stop ∷ [])) small in
    small-append front second (bytes_of_acked front behind both_small)
    (bytes_of_nacked second (Stop ∷ []) (behind_acked front behind both_small))

bytes_before : (events more : List Event) → AreBytes (events ++ more) → AreBytes events
bytes_before [] more small = tt
bytes_before (Start ∷ events) more small = bytes_before events more small
bytes_before (Byte b ∷ events) more small = (small.0, bytes_before events more small.1)
bytes_before (Ack ∷ events) more small = bytes_before events more small
bytes_before (Nack ∷ events) more small = bytes_before events more small
bytes_before (Stop ∷ events) more small = bytes_before events more small

bytes_behind : (events more : List Event) → AreBytes (events ++ more) → AreBytes more
bytes_behind [] more small = small
bytes_behind (Start ∷ events) more small = bytes_behind events more small
bytes_behind (Byte b ∷ events) more small = bytes_behind events more small.1
bytes_behind (Ack ∷ events) more small = bytes_behind events more small
bytes_behind (Nack ∷ events) more small = bytes_behind events more small
bytes_behind (Stop ∷ events) more small = bytes_behind events more small

-- the text of a leg's first byte
begun_text : (byte : ℕ) (events : List Event) (rest : List ℕ)
    → canonical_text (Start ∷ Byte byte ∷ events) ++ rest ≡ canonical_text (Start ∷ [])
    ++ (canonical_text (Byte byte ∷ []) ++ (canonical_text events ++ rest))
unfolding encode_with
begun_text byte events rest = refl

-- events begin as a leg that is written does
abbrev pub BeginsLeg : List Event → Type 0
BeginsLeg events = (address : ℕ) × (more : List Event) × (events ≡ Start ∷ Byte (write_address address) ∷ more)

begins_nacked : (address : ℕ) (sent : List ℕ) (others : List Event)
    → BeginsLeg (nacked_leg (write_address address ∷ sent) ++ others)
begins_nacked address [] others = (address, Nack ∷ others, refl)
begins_nacked address (byte ∷ sent) others = (address, Ack ∷ (nacked (byte ∷ sent) ++ others), refl)

begins_part : (profile : List DeviceParts) (part : PartData) (parts : List PartData) (legs others : List Event)
    → PartsEvents profile (part ∷ parts) legs → BeginsLeg (legs ++ others)
begins_part profile part parts legs others each =
    (part.addr, _, ap (λ (l : List Event). l ++ others) (each.2 ∙ ap (λ (l : List Event). l ++ each.1) each.3.spelled))

begins_refused : (profile : List DeviceParts) (parts : List PartData) (legs : List Event) (address : ℕ) (sent : List ℕ)
    (others : List Event) → PartsEvents profile parts legs
    → BeginsLeg (legs ++ (nacked_leg (write_address address ∷ sent) ++ others))
begins_refused profile [] legs address sent others each =
    subst BeginsLeg (ap (λ (l : List Event). l ++ (nacked_leg (write_address address ∷ sent) ++ others)) (sym each))
    (begins_nacked address sent others)
begins_refused profile (part ∷ parts) legs address sent others each =
    begins_part profile part parts legs (nacked_leg (write_address address ∷ sent) ++ others) each

module _ (profile : List DeviceParts) (bus : IsBus profile)
    (are_bytes : (t : TransactionData) (events : List Event) → Packet profile t events → AreBytes events)
    -- 257: a body's front; 258: a body. What bodies_are_short of pmb_transaction says
    (few_inside : (device : DeviceParts) (parts : List PartData) (front : List ℕ) → IsInsideBody device parts front
    → length front ≤ 257)
    (few_asked : (device : DeviceParts) (parts : List PartData) (body : List ℕ) → Allowed device parts body
    → length body ≤ 258) (text : List ℕ) where
  -- that of a write of one part
  write_legs : (part : PartData) (events : List Event) (rest : List ℕ) → Packet profile (Write (part ∷ [])) events
      → text ≡ canonical_text events ++ rest
      → PacketLegs profile text
  write_legs part events rest packet split =
      -- the part's leg is the only one, and its bytes are below 256
      let here = packet.each.3 in
      let all = write_address part.addr ∷ here.body in
      let first : packet.legs ≡ leg all =
      packet.each.2 ∙ ap (λ (l : List Event). packet.each.0 ++ l) packet.each.4 ∙ append-nil packet.each.0
      ∙ here.spelled in
      let spelled : events ≡ leg all ++ Stop ∷ [] = packet.spelled ∙ ap (λ (l : List Event). l ++ Stop ∷ []) first in
      let small : AreBytes (leg all ++ Stop ∷ []) =
      subst AreBytes spelled (are_bytes (Write (part ∷ [])) events packet) in
      record {
        legs = Written;
        all = all;
        rest = rest;
        are = record {
          small = bytes_of_acked all (Stop ∷ []) small;
          enough = omega arith;
          few = few_in_leg profile part here;
          reads = tt;
        };
        follows = tt;
        say = (
          part.addr,
          part.code,
          part.bytes,
          part.pec,
          record { device = here.device; body = here.body; known = here.known; allowed = here.allowed; spelled = refl },
        );
        split = split ∙ ap (λ (l : List Event). canonical_text l ++ rest) spelled;
      }

  -- the first one of a group, by what follows it
  first_leg : (part : PartData) (own : List Event) (here : PartEvents profile part own) (behind : List Event)
      (rest : List ℕ)
      → AreBytes (leg (write_address part.addr ∷ here.body) ++ behind) → BeginsLeg behind
      → MoreParts profile (part.addr ∷ []) (canonical_text behind ++ rest)
      → text ≡ canonical_text (leg (write_address part.addr ∷ here.body) ++ behind) ++ rest → PacketLegs profile text
  first_leg part own here behind rest small begins more split =
      -- the first leg's bytes, and the address byte that follows its START
      let all = write_address part.addr ∷ here.body in
      let begun = write_address begins.0 in
      let small_behind : AreBytes (Start ∷ Byte begun ∷ begins.1) =
      subst AreBytes begins.2 (behind_acked all behind small) in
      -- the text is the first leg's, then that of the others
      let split_first : text ≡ canonical_text (leg all) ++ (canonical_text behind ++ rest) =
      split
      ∙ ap (λ (l : List ℕ). l ++ rest) (text-append (leg all) behind)
      ∙ append_assoc (canonical_text (leg all)) (canonical_text behind) rest in
      record {
        legs = Group;
        all = all;
        rest = canonical_text behind ++ rest;
        are = record {
          small = bytes_of_acked all behind small;
          enough = omega arith;
          few =
              few_in_leg profile part here;
          reads = tt;
        };
        -- an even address byte follows, so the leg is the first of a group
        follows = record {
          byte = begun;
          small = small_behind.0;
          even = omega arith;
          more = canonical_text begins.1 ++ rest;
          split = ap (λ (l : List Event). canonical_text l ++ rest) begins.2 ∙ begun_text begun begins.1 rest;
        };
        say = record {
          first = part;
          says = record {
            device = here.device;
            body = here.body;
            known = here.known;
            allowed = here.allowed;
            spelled =
                refl;
          };
          behind = canonical_text behind ++ rest;
          split = split_first;
          more = more;
        };
        split = split_first;
      }

  group_legs : (part next : PartData) (more : List PartData) (events : List Event) (rest : List ℕ)
      → Packet profile (Write (part ∷ next ∷ more)) events
      → text ≡ canonical_text events ++ rest → PacketLegs profile text
  group_legs part next more events rest packet split =
      let here = packet.each.3 in
      let later = packet.each.1 in
      let all = write_address part.addr ∷ here.body in
      let behind = later ++ Stop ∷ [] in
      -- the first part's leg, the others after it, and STOP
      let first : packet.legs ≡ leg all ++ later = packet.each.2 ∙ ap (λ (l : List Event). l ++ later) here.spelled in
      let spelled : events ≡ leg all ++ behind =
      packet.spelled ∙ ap (λ (l : List Event). l ++ Stop ∷ []) first ∙ append_assoc (leg all) later (Stop ∷ []) in
      let small : AreBytes (leg all ++ behind) =
      subst AreBytes spelled (are_bytes (Write (part ∷ next ∷ more)) events packet) in
      -- so the others follow as those of a group
      first_leg part packet.each.0 here behind rest small
      (begins_part profile next more later (Stop ∷ []) packet.each.4)
      (record {
        parts = next ∷ more;
        legs = later;
        each = packet.each.4;
        distinct = packet.distinct;
        few = omega (arith, packet.few);
        small = bytes_before later (Stop ∷ []) (behind_acked all behind small);
        last = Stop ∷ [];
        ends = inl refl;
        rest = rest;
        split = refl;
      })
      (split ∙ ap (λ (l : List Event). canonical_text l ++ rest) spelled)

  -- those of both legs
  both_legs : (t : TransactionData) (events : List Event) (rest : List ℕ) (front : List ℕ) (to_read : ℕ)
      (reply : List ℕ) → Packet profile t events
      → events ≡ both front (to_read ∷ reply) → length front + length reply ≤ 515
      → to_read % 2 ≡ 1 → SayBoth profile (length front) (front ++ to_read ∷ reply)
      → text ≡ canonical_text events ++ rest → PacketLegs profile text
  both_legs t events rest front to_read reply packet spelled few odd say split =
      let all = front ++ to_read ∷ reply in
      let long : length all ≡ length front + 1 + length reply = omega (arith, length-append front (to_read ∷ reply)) in
      record {
        legs = Both (length front);
        all = all;
        rest = rest;
        are = record {
          small = bytes_of_both front (to_read ∷ reply) (subst AreBytes spelled (are_bytes t events packet));
          enough = omega (arith, long);
          few = omega (arith, long, few);
          reads = subst BeginsOdd (sym (drop-append_seam front (to_read ∷ reply))) odd;
        };
        follows = tt;
        say = say;
        split = split ∙ ap (λ (l : List Event). canonical_text l ++ rest)
            (spelled ∙ sym (both_events front (to_read ∷ reply)));
      }

  -- those of a read
  read_legs : (t : ReadData) (events : List Event) (rest : List ℕ) → Packet profile (Read t) events
      → text ≡ canonical_text events ++ rest
      → PacketLegs profile text
  read_legs t events rest packet split =
      -- the bytes of both legs
      let front = write_address t.addr ∷ t.code ∷ [] in
      let before = front ++ read_address t.addr ∷ [] in
      let reply = checked t.pec before (wire packet.form t.reply) in
      -- the reply has a byte, by the profile's rules for what is read
      let on_wire : 1 ≤ length (wire packet.form t.reply) =
      some_on_wire packet.form t.reply packet.fits
      (read_has_data profile t.addr t.code packet.device packet.form bus packet.known packet.read) in
      let some : 1 ≤ length reply = omega (arith, on_wire, some_checked t.pec before (wire packet.form t.reply)) in
      both_legs (Read t) events rest front (read_address t.addr) reply packet
      (packet.spelled ∙ sym (both_read front (read_address t.addr) reply some))
      (omega (arith, few_checked t.pec before (wire packet.form t.reply), few_on_wire packet.form t.reply packet.fits))
      (omega arith)
      -- and the legs say this read
      (inr (
        omega (arith, some),
        inl (
          refl,
          t.addr,
          t.code,
          t.reply,
          t.pec,
          record {
            device = packet.device;
            form = packet.form;
            known = packet.known;
            read = packet.read;
            fits = packet.fits;
            mode = packet.mode;
            spelled = refl;
          },
        ),
      ))
      split

  -- those of a call
  call_legs : (t : CallData) (events : List Event) (rest : List ℕ) → Packet profile (Call t) events
      → text ≡ canonical_text events ++ rest
      → PacketLegs profile text
  call_legs t events rest packet split =
      -- the bytes of both legs
      let front = write_address t.addr ∷ t.code ∷ wire packet.form t.bytes in
      let before = front ++ read_address t.addr ∷ [] in
      let reply = checked t.pec before (wire packet.form t.reply) in
      -- both the data sent and the reply have a byte
      let not_zero : packet.form ≡ Zero → ⊥ = call_has_data profile t.addr t.code packet.device packet.form bus
      packet.known packet.called in
      let sent_on_wire : 1 ≤ length (wire packet.form t.bytes) =
      some_on_wire packet.form t.bytes packet.sent not_zero in
      let on_wire : 1 ≤ length (wire packet.form t.reply) = some_on_wire packet.form t.reply packet.replied not_zero in
      let some : 1 ≤ length reply = omega (arith, on_wire, some_checked t.pec before (wire packet.form t.reply)) in
      both_legs (Call t) events rest front (read_address t.addr) reply packet
      (packet.spelled ∙ sym (both_read front (read_address t.addr) reply some))
      (omega (
        arith,
        few_checked t.pec before (wire packet.form t.reply),
        few_on_wire packet.form t.reply packet.replied,
        few_on_wire packet.form t.bytes packet.sent,
      ))
      (omega arith)
      -- and the legs say this call
      (inr (
        omega (arith, some, length-append front (read_address t.addr ∷ reply)),
        inr (
          omega (arith, sent_on_wire),
          t.addr,
          t.code,
          t.bytes,
          t.reply,
          t.pec,
          record {
            device = packet.device;
            form = packet.form;
            known = packet.known;
            called = packet.called;
            sends = packet.sent;
            fits = packet.replied;
            mode = packet.mode;
            first = omega arith;
            spelled = refl;
          },
        ),
      ))
      split

  -- that of one whose last byte has NACK
  nacked_legs : (t : TransactionData) (events : List Event) (rest : List ℕ) (all : List ℕ) → Packet profile t events
      → events ≡ nacked_leg all ++ Stop ∷ []
      → 1 ≤ length all → length all ≤ 516 → SaysAlone profile all → text ≡ canonical_text events ++ rest
      → PacketLegs profile text
  nacked_legs t events rest all packet spelled some few say split =
      let small : AreBytes (nacked all ++ Stop ∷ []) = subst AreBytes spelled (are_bytes t events packet) in
      record {
        legs = Nacked;
        all = all;
        rest = rest;
        are = record { small = bytes_of_nacked all (Stop ∷ []) small; enough = some; few = few; reads = tt };
        follows = tt;
        say = say;
        split = split ∙ ap (λ (l : List Event). canonical_text l ++ rest) spelled;
      }

  -- where something is refused after parts or without any
  refused_legs : (parts : List PartData) (address : ℕ) (sent : List ℕ) (events : List Event) (rest : List ℕ)
      → (packet : Packet profile (Refused (record { parts = parts; addr = address; sent = sent; at_read = false }))
      events)
      → packet.last ≡ nacked_leg (write_address address ∷ sent) → length sent ≤ 515
      → SaysNacked profile parts (write_address address ∷ sent)
      → text ≡ canonical_text events ++ rest → PacketLegs profile text
  -- no parts: the refused leg is alone
  refused_legs [] address sent events rest packet spelled few says split =
      nacked_legs (Refused (record { parts = []; addr = address; sent = sent; at_read = false })) events rest
      (write_address address ∷ sent) packet
      (packet.spelled ∙ ap (λ (l : List Event). l ++ packet.last ++ Stop ∷ []) packet.each
      ∙ ap (λ (l : List Event). l ++ Stop ∷ []) spelled)
      (omega arith) (omega (arith, few)) (inl says) split
  -- after parts: they are a group, which the refused leg ends
  refused_legs (part ∷ parts) address sent events rest packet spelled few says split =
      let here = packet.each.3 in
      let later = packet.each.1 in
      let all = write_address part.addr ∷ here.body in
      let last = nacked_leg (write_address address ∷ sent) ++ Stop ∷ [] in
      let behind = later ++ last in
      let first : packet.legs ≡ leg all ++ later = packet.each.2 ∙ ap (λ (l : List Event). l ++ later) here.spelled in
      -- the first part's leg, the others, and the refused one
      let whole : events ≡ leg all ++ behind =
      packet.spelled
      ∙ ap (λ (l : List Event). l ++ packet.last ++ Stop ∷ []) first
      ∙ append_assoc (leg all ++ later) packet.last (Stop ∷ [])
      ∙ ap (λ (l : List Event). (leg all ++ later) ++ (l ++ Stop ∷ [])) spelled
      ∙ append_assoc (leg all) later last in
      let small : AreBytes (leg all ++ behind) =
      subst AreBytes whole (are_bytes (Refused
      (record { parts = part ∷ parts; addr = address; sent = sent; at_read = false })) events packet) in
      let small_behind : AreBytes behind = behind_acked all behind small in
      first_leg part packet.each.0 here behind rest small
      (begins_refused profile parts later address sent (Stop ∷ []) packet.each.4)
      (record {
        parts = parts;
        legs = later;
        each = packet.each.4;
        distinct = packet.distinct;
        few = omega (arith, packet.few);
        small = bytes_before later last small_behind;
        last = last;
        -- the refused leg ends the group
        ends = inr (record {
          parts = part ∷ parts;
          same = refl;
          bytes = write_address address ∷ sent;
          small = bytes_of_nacked (write_address address ∷ sent) (Stop ∷ []) (bytes_behind later last small_behind);
          some = omega arith;
          few = omega (arith, few);
          says = says;
          spelled = refl;
        });
        rest = rest;
        split = refl;
      })
      (split ∙ ap (λ (l : List Event). canonical_text l ++ rest) whole)

  -- an address
  address_legs : (parts : List PartData) (address : ℕ) (events : List Event) (rest : List ℕ)
      → Packet profile (Refused (record { parts = parts; addr = address; sent = []; at_read = false })) events
      → text ≡ canonical_text events ++ rest
      → PacketLegs profile text
  address_legs parts address events rest packet split =
      refused_legs parts address [] events rest packet packet.refused.spelled (omega arith)
      (record {
        address = address;
        few = packet.few;
        another = packet.another;
        refused =
            inl (packet.refused.seven, refl);
      })
      split

  -- a byte
  byte_legs : (parts : List PartData) (address first : ℕ) (more : List ℕ) (events : List Event) (rest : List ℕ)
      → Packet profile (Refused (record { parts = parts; addr = address; sent = first ∷ more; at_read = false })) events
      → text ≡ canonical_text events ++ rest
      → PacketLegs profile text
  byte_legs parts address first more events rest packet split =
      let here = packet.refused in
      -- at most 257 bytes begin a body, and one more is refused
      let few : length (first ∷ more) ≤ 258 =
      omega (
        arith,
        ap length here.split,
        length-append here.front (here.last ∷ []),
        few_inside here.device parts here.front here.begins,
      ) in
      -- so this leg is refused after the parts
      refused_legs parts address (first ∷ more) events rest packet here.spelled (omega (arith, few))
      (record {
        address = address;
        few = packet.few;
        another = packet.another;
        refused = inr (
          first ∷ more,
          record {
            device = here.device;
            known = here.known;
            front = here.front;
            last = here.last;
            split =
                here.split;
            begins = here.begins;
            spelled = refl;
          },
        );
      })
      split

  -- of an alert
  alert_legs : (t : AlertData) (events : List Event) (rest : List ℕ) → Packet profile (Alert t) events
      → text ≡ canonical_text events ++ rest → PacketLegs profile text
  alert_legs t events rest packet split =
      let reply = checked t.pec (to_alert ∷ []) (t.byte ∷ []) in
      nacked_legs (Alert t) events rest (alert_bytes t) packet
      (packet.spelled ∙ ap (λ (l : List Event). l ++ Stop ∷ []) (sym (second_leg to_alert reply (some_answer t))))
      (omega arith) (omega (arith, few_checked t.pec (to_alert ∷ []) (t.byte ∷ [])))
      (inr (Alert t, inl (t, packet.byte, refl, refl))) split

  -- those where to be read is refused
  unread_legs : (address : ℕ) (sent : List ℕ) (events : List Event) (rest : List ℕ) (last : List Event)
      → Packet profile (Refused (record { parts = []; addr = address; sent = sent; at_read = true })) events
      → (refused : ReadRefused profile [] address sent last) → events ≡ last ++ Stop ∷ []
      → text ≡ canonical_text events ++ rest
      → PacketLegs profile text
  unread_legs address sent events rest last packet here spelled split =
      let front = write_address address ∷ sent in
      -- a body that asks has at most 258 bytes
      let few : length sent ≤ 258 = few_asked here.device [] sent (inr here.body) in
      both_legs (Refused (record { parts = []; addr = address; sent = sent; at_read = true })) events rest front
      (read_address address) [] packet
      (spelled ∙ ap (λ (l : List Event). l ++ Stop ∷ []) here.spelled)
      (omega (arith, few))
      (omega arith)
      (inl (
        omega (arith, length-append front (read_address address ∷ [])),
        (
          address,
          sent,
          record {
            device = here.device;
            known = here.known;
            body = here.body;
            first =
                omega arith;
            spelled = refl;
          },
        ),
      ))
      split

  legs_of_unread : (address : ℕ) (sent : List ℕ) (events : List Event) (rest : List ℕ)
      → Packet profile (Refused (record { parts = []; addr = address; sent = sent; at_read = true })) events
      → text ≡ canonical_text events ++ rest
      → PacketLegs profile text
  legs_of_unread address [] events rest packet split =
      unread_legs address [] events rest packet.last packet packet.refused
      (packet.spelled ∙ ap (λ (l : List Event). l ++ packet.last ++ Stop ∷ []) packet.each) split
  legs_of_unread address (first ∷ more) events rest packet split =
      unread_legs address (first ∷ more) events rest packet.last packet packet.refused
      (packet.spelled ∙ ap (λ (l : List Event). l ++ packet.last ++ Stop ∷ []) packet.each) split

  -- those of a write
  legs_of_write : (parts : List PartData) (events : List Event) (rest : List ℕ) → Packet profile (Write parts) events
      → text ≡ canonical_text events ++ rest
      → PacketLegs profile text
  legs_of_write [] events rest packet split = absurd (omega (arith, packet.some))
  legs_of_write (part ∷ []) events rest packet split = write_legs part events rest packet split
  legs_of_write (part ∷ next ∷ more) events rest packet split = group_legs part next more events rest packet split

  -- those of a refusal, by what was sent and whether reading was refused
  legs_of_refused : (parts : List PartData) (address : ℕ) (sent : List ℕ) (at_read : Bool) (events : List Event)
      (rest : List ℕ)
      → Packet profile (Refused (record { parts = parts; addr = address; sent = sent; at_read = at_read })) events
      → text ≡ canonical_text events ++ rest
      → PacketLegs profile text
  legs_of_refused parts address [] false events rest packet split =
      address_legs parts address events rest packet split
  legs_of_refused parts address (first ∷ more) false events rest packet split =
      byte_legs parts address first more events rest packet split
  legs_of_refused [] address sent true events rest packet split =
      legs_of_unread address sent events rest packet split
  legs_of_refused (part ∷ parts) address [] true events rest packet split =
      let clash : part ∷ parts ≡ [] = packet.refused.alone in absurd (cc clash)
  legs_of_refused (part ∷ parts) address (first ∷ more) true events rest packet split =
      let clash : part ∷ parts ≡ [] = packet.refused.alone in absurd (cc clash)

  legs_of : (t : TransactionData) (events : List Event) (rest : List ℕ) → Packet profile t events
      → text ≡ canonical_text events ++ rest
      → PacketLegs profile text
  legs_of (Write parts) events rest packet split = legs_of_write parts events rest packet split
  legs_of (Read read) events rest packet split = read_legs read events rest packet split
  legs_of (Call call) events rest packet split = call_legs call events rest packet split
  legs_of (Refused t) events rest packet split =
      legs_of_refused t.parts t.addr t.sent t.at_read events rest packet split
  legs_of (Alert alert) events rest packet split = alert_legs alert events rest packet split
  legs_of NoAlert events rest packet split =
      nacked_legs NoAlert events rest (to_alert ∷ []) packet packet (omega arith) (omega arith)
      (inr (NoAlert, inr (refl, refl))) split

  -- The legs of the packet at the front of a text.
  pub packet_legs : BeginsWithPacket profile text → PacketLegs profile text
  packet_legs begins = legs_of begins.2 begins.3.events begins.3.rest begins.3.packet begins.3.split
