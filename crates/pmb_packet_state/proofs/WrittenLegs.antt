-- One event more in a leg that is written: the first address, bytes of a body, STOP, START and the
-- next address. For the functions of `src/written_leg.rt` (`at_start`, `begin_part`, `end_leg`,
-- `end_write`) and for `expected_at_address`. The leg that is kept stands after the parts that are
-- kept, so the laws of `pmb_transaction` hold of it.
use Rattle.std.proofs.Common.{◌≡◌, ℕ, ◌+◌, ◌*◌, ◌/◌, ◌%◌, ◌<◌, ◌≤◌, Bool, true, false, Some, List, [], ◌∷◌, ◌++◌}
use Rattle.std.proofs.Common.{length, nat_eq, ◌↔◌, refl, sym, ap, subst, ◌∙◌, append_assoc, length-append, arith, ◌||◌}
use Rattle.std.specs.List.{IsDistinct}
use Rattle.pmb_bus.specs.declared.event.Event.{Event}
use Rattle.pmb_bus.specs.declared.event.Event.TheVariants.{Start, Byte, Ack, Nack, Stop}
use Rattle.pmb_bus.specs.Address.{write_address}
use Rattle.pmb_command.specs.Bus.{IsBus}
use Rattle.pmb_command.specs.Parts.{DeviceParts, IsNew, device_with}
use Rattle.pmb_command.specs.Wire.{IsByte}
use Rattle.pmb_transaction.specs.Transaction.{PartData, Write, Refused}
use Rattle.pmb_transaction.specs.Body.{WriteBody, IsWriteBody}
use Rattle.pmb_transaction.specs.Packet.{Packet, PartsEvents, addresses, leg}
use Rattle.pmb_transaction.specs.Capture.{MayFollow}
use Rattle.pmb_transaction.specs.Following.{IsFirstAddress, IsNextAddress, alert_first, next_leg, reply_leg}
use Rattle.pmb_transaction.specs.Following.{written_first}
use Rattle.pmb_transaction.specs.Viable.{IsInsideBody}
use Rattle.pmb_leg.specs.declared.place.LegPlace.TheVariants.{First}
use Rattle.pmb_packet_state.specs.declared.packet_state.PacketPlace.{PacketPlace}
use Rattle.pmb_packet_state.specs.declared.packet_state.Answerer.TheVariants as sources
use Rattle.pmb_leg.specs.Leg.{IsRequest, Written, place_of}
use Rattle.pmb_transaction_slot.specs.TransactionSlot.{KeptData}
use Rattle.pmb_packet_state.specs.declared.packet_state.PacketState.{PacketState}
use Rattle.pmb_packet_state.specs.machine.PacketState.{HasParts, AtAddress, AtReadAddress, IsLeg, InLeg, BehindByte}
use Rattle.pmb_packet_state.specs.machine.PacketState.{BehindStart, StartsLeg}
use Rattle.pmb_packet_state.proofs.Steps.{EndsWith, leg_ends, leg_grows}

distinct_none : IsDistinct nat_eq []
unfolding IsDistinct
distinct_none = tt

-- ---- after the first START

-- an even byte is an address byte
pub even_address : (byte : ℕ) → byte < 256 → byte % 2 ≡ 0 → IsFirstAddress byte
even_address byte small even = written_first (byte / 2) (omega arith) (omega arith)

pub first_address : (profile : List DeviceParts) (u : PacketState) (byte : ℕ) (events : List Event) (event : Event)
    → byte < 256 → byte % 2 ≡ 0
    → u.kept.parts ≡ [] → events ≡ Start ∷ [] → event ≡ Byte byte
    → AtAddress profile u (byte / 2) (events ++ event ∷ [])
first_address profile u byte events event small even none is sent =
    let whole : byte ≡ 2 * (byte / 2) = omega arith in record {
      parts = [];
      legs = [];
      has = record { same = none; few = omega arith; distinct = distinct_none; each = refl };
      seven = omega arith;
      another = refl;
      spelled = ap (λ (es : List Event). es ++ event ∷ []) is ∙ ap (λ (e : Event). Start ∷ e ∷ []) sent
          ∙ ap (λ (b : ℕ). Start ∷ Byte b ∷ []) whole;
    }

pub first_follows : (profile : List DeviceParts) (byte : ℕ) (events : List Event) (event : Event)
    → (IsFirstAddress byte → MayFollow profile (Start ∷ []) (Byte byte)) → events ≡ Start ∷ [] → event ≡ Byte byte
    → IsFirstAddress byte
    → MayFollow profile events event
first_follows profile byte events event law is sent first =
    subst (λ (e : Event). MayFollow profile events e) (sym sent)
    (subst (λ (es : List Event). MayFollow profile es (Byte byte)) (sym is) (law first))

-- 25 is 0x19, the address byte of the Alert Response Address
pub no_first_address : (byte : ℕ) → (byte % 2 ≡ 0 → ⊥) → (byte ≡ 25 → ⊥) → IsFirstAddress byte → ⊥
no_first_address byte odd other (written_first addr seven is) = odd (omega arith)
no_first_address byte odd other (alert_first is) = other is

-- ---- the leg that is kept

pub address_ends : (profile : List DeviceParts) (u : PacketState) (addr : ℕ) (events : List Event)
    (at : AtAddress profile u addr events)
    → EndsWith events (Byte (write_address addr))
address_ends profile u addr events at =
    record {
      front = at.legs ++ Start ∷ [];
      split = at.spelled
          ∙ sym (append_assoc at.legs (Start ∷ []) (Byte (write_address addr) ∷ []));
    }

pub in_leg_ends : (profile : List DeviceParts) (kept : KeptData) (written : Written) (parts : List PartData)
    (events : List Event)
    (at : IsLeg profile kept written parts events) → EndsWith events Ack
in_leg_ends profile kept written parts events at =
    let ends = leg_ends at.legs (write_address written.device.address) written.bytes in
    record { front = ends.front; split = at.spelled ∙ ends.split }

-- an address that was taken begins one
pub leg_begins : (profile : List DeviceParts) (u after : PacketState) (addr : ℕ) (device : DeviceParts)
    (events : List Event) → AtAddress profile u addr events
    → device_with addr profile ≡ Some device → addr ≡ device.address → StartsLeg device u after
    → InLeg profile after (events ++ Ack ∷ [])
leg_begins profile u after addr device events at known same starts = record {
  written = record { device = device; place = place_of u.kept.parts; bytes = [] };
  is = starts.leg;
  parts = at.parts;
  leg = record {
    legs = at.legs;
    has = subst (λ (kept : KeptData). HasParts profile kept at.parts at.legs) (sym starts.same_kept) at.has;
    another = subst (λ (a : ℕ). IsNew a (addresses at.parts)) same at.another;
    known = subst (λ (a : ℕ). device_with a profile ≡ Some device) same known;
    place = ap place_of (sym at.has.same);
    spelled = ap (λ (es : List Event). es ++ Ack ∷ []) at.spelled
        ∙ append_assoc at.legs (Start ∷ Byte (write_address addr) ∷ []) (Ack ∷ [])
        ∙ ap (λ (a : ℕ). at.legs ++ leg (write_address a ∷ [])) same;
  };
}

-- a byte that was taken makes it longer
pub leg_goes_on : (profile : List DeviceParts) (kept : KeptData) (written after : Written) (parts : List PartData)
    (byte : ℕ) (front events : List Event)
    → IsLeg profile kept written parts front → after ≡ record written { bytes = written.bytes ++ byte ∷ [] }
    → events ≡ front ++ Byte byte ∷ [] → IsLeg profile kept after parts (events ++ Ack ∷ [])
leg_goes_on profile kept written after parts byte front events at is sent =
    subst (λ (w : Written). IsLeg profile kept w parts (events ++ Ack ∷ [])) (sym is)
    (
    record {
      legs = at.legs;
      has = at.has;
      another = at.another;
      known = at.known;
      place = at.place;
      spelled = ap (λ (es : List Event). es ++ Ack ∷ [])
          (sent ∙ ap (λ (es : List Event). es ++ Byte byte ∷ []) at.spelled)
          ∙ leg_grows at.legs (write_address written.device.address ∷ written.bytes) byte;
    }
    )

-- ---- what may follow a leg

-- What may follow a leg after complete parts, and some events more.
abbrev pub LegLaw : List DeviceParts → List Event → Event → (DeviceParts → List PartData → ℕ → List ℕ → Type 0) → Type 0
LegLaw profile more event Follows =
    (parts : List PartData) (legs : List Event) (addr : ℕ) (device : DeviceParts) (bytes : List ℕ) → IsBus profile
    → length parts ≤ 15
    → IsDistinct nat_eq (addresses parts) → PartsEvents profile parts legs → IsNew addr (addresses parts)
    → device_with addr profile ≡ Some device
    → (MayFollow profile ((legs ++ leg (write_address addr ∷ bytes)) ++ more) event ↔ Follows device parts addr bytes)

abbrev pub BareLegLaw : List DeviceParts → Event → (DeviceParts → List PartData → ℕ → List ℕ → Type 0) → Type 0
BareLegLaw profile event Follows =
    (parts : List PartData) (legs : List Event) (addr : ℕ) (device : DeviceParts) (bytes : List ℕ) → IsBus profile
    → length parts ≤ 15
    → IsDistinct nat_eq (addresses parts) → PartsEvents profile parts legs → IsNew addr (addresses parts)
    → device_with addr profile ≡ Some device
    → (MayFollow profile (legs ++ leg (write_address addr ∷ bytes)) event ↔ Follows device parts addr bytes)

module _ (profile : List DeviceParts) (bus : IsBus profile) (kept : KeptData) (written : Written)
    (parts : List PartData) (front : List Event) (at : IsLeg profile kept written parts front) where
  pub leg_law : (event : Event) (Follows : DeviceParts → List PartData → ℕ → List ℕ → Type 0)
      → BareLegLaw profile event Follows
      → (MayFollow profile front event ↔ Follows written.device parts written.device.address written.bytes)
  leg_law event Follows law =
      subst (λ (es : List Event). MayFollow profile es event
      ↔ Follows written.device parts written.device.address written.bytes) (sym at.spelled)
      (law parts at.legs written.device.address written.device written.bytes bus at.has.few at.has.distinct at.has.each
      at.another at.known)

  pub tail_law : (more events : List Event) (event : Event)
      (Follows : DeviceParts → List PartData → ℕ → List ℕ → Type 0) → LegLaw profile more event Follows
      → events ≡ front ++ more → (MayFollow profile events event
      ↔ Follows written.device parts written.device.address written.bytes)
  tail_law more events event Follows law is =
      subst (λ (es : List Event). MayFollow profile es event
      ↔ Follows written.device parts written.device.address written.bytes)
      (sym (is ∙ ap (λ (es : List Event). es ++ more) at.spelled))
      (law parts at.legs written.device.address written.device written.bytes bus at.has.few at.has.distinct at.has.each
      at.another at.known)

  -- after START, a byte
  pub restart_law : (events : List Event) (byte : ℕ)
      → LegLaw profile (Start ∷ []) (Byte byte)
      (λ device others addr bytes. IsNextAddress device others addr bytes byte)
      → events ≡ front ++ Start ∷ [] → (MayFollow profile events (Byte byte)
      ↔ IsNextAddress written.device parts written.device.address written.bytes byte)
  restart_law events byte law is = tail_law (Start ∷ []) events (Byte byte)
      (λ device others addr bytes. IsNextAddress device others addr bytes byte) law is

-- ---- the leg that is kept is one

pub same_leg : (u : PacketState) (a b : Written) → u.leg ≡ Some a → u.leg ≡ Some b → a ≡ b
same_leg u a b first second = cc (first, second)

pub kept_leg : (profile : List DeviceParts) (u : PacketState) (written : Written) (events : List Event)
    → u.leg ≡ Some written → InLeg profile u events
    → (parts : List PartData) × IsLeg profile u.kept written parts events
kept_leg profile u written events is at = (
  at.parts,
  subst (λ (w : Written). IsLeg profile u.kept w at.parts events) (same_leg u at.written written at.is is)
      at.leg,
)

-- after a byte
-- 258: the bytes of a body, at most
pub kept_byte : (profile : List DeviceParts) (u : PacketState) (written : Written) (byte : ℕ) (events : List Event)
    → u.leg ≡ Some written
    → (at : BehindByte profile u byte events)
    → (parts : List PartData) × (front : List Event) × IsLeg profile u.kept written parts front
    × IsInsideBody written.device parts written.bytes
    × (length written.bytes < 258) × (events ≡ front ++ Byte byte ∷ [])
kept_byte profile u written byte events is at =
    let same = same_leg u at.written written at.is is in (
      at.parts,
      at.front,
      subst (λ (w : Written). IsLeg profile u.kept w at.parts at.front) same at.leg,
      subst (λ (w : Written). IsInsideBody w.device at.parts w.bytes) same at.inside,
      subst (λ (w : Written). length w.bytes < 258) same at.room,
      at.spelled,
    )

pub byte_ends : (profile : List DeviceParts) (u : PacketState) (byte : ℕ) (events : List Event)
    → BehindByte profile u byte events → EndsWith events (Byte byte)
byte_ends profile u byte events at = record { front = at.front; split = at.spelled }

-- after START
pub kept_start : (profile : List DeviceParts) (u : PacketState) (written : Written) (events : List Event)
    → u.leg ≡ Some written
    → (at : BehindStart profile u events)
    → (parts : List PartData) × (front : List Event) × IsLeg profile u.kept written parts front
    × (events ≡ front ++ Start ∷ [])
kept_start profile u written events is at = (
  at.parts,
  at.front,
  subst (λ (w : Written). IsLeg profile u.kept w at.parts at.front) (same_leg u at.written written at.is is) at.leg,
  at.spelled,
)

pub start_ends : (profile : List DeviceParts) (u : PacketState) (events : List Event) → BehindStart profile u events
    → EndsWith events Start
start_ends profile u events at = record { front = at.front; split = at.spelled }

-- ---- what may follow an address

pub address_law : (profile : List DeviceParts) (bus : IsBus profile) (u : PacketState) (addr : ℕ) (events : List Event)
    → AtAddress profile u addr events
    → ((parts : List PartData) (legs : List Event) (addr : ℕ) → IsBus profile → length parts ≤ 15
    → IsDistinct nat_eq (addresses parts)
    → PartsEvents profile parts legs → IsNew addr (addresses parts)
    → (MayFollow profile (legs ++ Start ∷ Byte (write_address addr) ∷ []) Ack
    ↔ ((device : DeviceParts) × (device_with addr profile ≡ Some device))))
    → (MayFollow profile events Ack ↔ ((device : DeviceParts) × (device_with addr profile ≡ Some device)))
address_law profile bus u addr events at law =
    subst (λ (es : List Event). MayFollow profile es Ack
    ↔ ((device : DeviceParts) × (device_with addr profile ≡ Some device))) (sym at.spelled)
    (law at.parts at.legs addr bus at.has.few at.has.distinct at.has.each at.another)

-- ---- packets that end

module _ (profile : List DeviceParts) (bus : IsBus profile) (kept : KeptData) (written : Written)
    (parts : List PartData) (front : List Event) (at : IsLeg profile kept written parts front) where
  -- a write
  pub write_ends : ((parts : List PartData) (legs : List Event) (addr : ℕ) (device : DeviceParts) (code : ℕ)
      (content : List ℕ) (with_pec : Bool) (bytes : List ℕ)
      → IsBus profile → length parts ≤ 15 → IsDistinct nat_eq (addresses parts) → PartsEvents profile parts legs
      → IsNew addr (addresses parts)
      → device_with addr profile ≡ Some device → WriteBody device code content with_pec bytes
      → Packet profile (Write (parts ++ record { addr = addr; code = code; bytes = content; pec = with_pec } ∷ []))
      ((legs ++ leg (write_address addr ∷ bytes)) ++ Stop ∷ []))
      → (part : PartData) → part.addr ≡ written.device.address
      → WriteBody written.device part.code part.bytes part.pec written.bytes
      → Packet profile (Write (kept.parts ++ part ∷ [])) (front ++ Stop ∷ [])
  write_ends law part same body =
      let packet = law parts at.legs written.device.address written.device part.code part.bytes part.pec written.bytes
      bus at.has.few at.has.distinct at.has.each at.another at.known body in
      let named =
      subst (λ (a : ℕ). Packet profile (Write (parts
      ++ record { addr = a; code = part.code; bytes = part.bytes; pec = part.pec } ∷ []))
      ((at.legs ++ leg (write_address written.device.address ∷ written.bytes)) ++ Stop ∷ [])) (sym same) packet in
      let here = subst (λ (es : List Event). Packet profile (Write (parts ++ part ∷ [])) (es ++ Stop ∷ []))
      (sym at.spelled) named in
      subst (λ (ps : List PartData). Packet profile (Write (ps ++ part ∷ [])) (front ++ Stop ∷ []))
      (sym at.has.same) here

  -- a byte that was refused
  pub refused_byte_ends : (byte : ℕ) (events : List Event)
      → ((parts : List PartData) (legs : List Event) (addr : ℕ) (device : DeviceParts) (bytes : List ℕ) (byte : ℕ)
      → IsBus profile → length parts ≤ 15
      → IsDistinct nat_eq (addresses parts) → PartsEvents profile parts legs → IsNew addr (addresses parts)
      → device_with addr profile ≡ Some device
      → IsInsideBody device parts bytes → IsByte byte
      → Packet profile (Refused (record { parts = parts; addr = addr; sent = bytes ++ byte ∷ []; at_read = false }))
      ((((legs ++ leg (write_address addr ∷ bytes)) ++ Byte byte ∷ []) ++ Nack ∷ []) ++ Stop ∷ []))
      → IsInsideBody written.device parts written.bytes → IsByte byte → events ≡ front ++ Byte byte ∷ []
      → Packet profile (Refused (record {
        parts = kept.parts;
        addr = written.device.address;
        sent = written.bytes
            ++ byte ∷ [];
        at_read = false;
      }))
      ((events ++ Nack ∷ []) ++ Stop ∷ [])
  refused_byte_ends byte events law inside small is =
      -- the packet of the law, for the leg that is kept
      let packet = law parts at.legs written.device.address written.device written.bytes byte bus at.has.few
      at.has.distinct at.has.each at.another at.known inside small in
      let spelled : events ≡ (at.legs ++ leg (write_address written.device.address ∷ written.bytes)) ++ Byte byte ∷ [] =
      is ∙ ap (λ (es : List Event). es ++ Byte byte ∷ []) at.spelled in
      -- at the events as they are,
      let here =
      subst (λ (es : List Event). Packet profile
      (Refused (record {
        parts = parts;
        addr = written.device.address;
        sent = written.bytes ++ byte ∷ [];
        at_read =
            false;
      })) ((es ++ Nack ∷ []) ++ Stop ∷ [])) (sym spelled) packet in
      -- and with the parts that are kept
      subst (λ (ps : List PartData). Packet profile
      (Refused (record {
        parts = ps;
        addr = written.device.address;
        sent = written.bytes ++ byte ∷ [];
        at_read =
            false;
      })) ((events ++ Nack ∷ []) ++ Stop ∷ []))
      (sym at.has.same) here

-- an address that was refused
pub refused_address_ends : (profile : List DeviceParts) (bus : IsBus profile) (u : PacketState) (addr : ℕ)
    (events : List Event) → AtAddress profile u addr events
    → ((parts : List PartData) (legs : List Event) (addr : ℕ) → IsBus profile → length parts ≤ 15
    → IsDistinct nat_eq (addresses parts)
    → PartsEvents profile parts legs → IsNew addr (addresses parts) → addr < 128
    → Packet profile (Refused (record { parts = parts; addr = addr; sent = []; at_read = false }))
    (((legs ++ Start ∷ Byte (write_address addr) ∷ []) ++ Nack ∷ []) ++ Stop ∷ []))
    → Packet profile (Refused (record { parts = u.kept.parts; addr = addr; sent = []; at_read = false }))
    ((events ++ Nack ∷ []) ++ Stop ∷ [])
refused_address_ends profile bus u addr events at law =
    let packet = law at.parts at.legs addr bus at.has.few at.has.distinct at.has.each at.another at.seven in
    let here = subst (λ (es : List Event). Packet profile
    (Refused (record { parts = at.parts; addr = addr; sent = []; at_read = false }))
    ((es ++ Nack ∷ []) ++ Stop ∷ [])) (sym at.spelled) packet in
    subst (λ (ps : List PartData). Packet profile
    (Refused (record { parts = ps; addr = addr; sent = []; at_read = false })) ((events ++ Nack ∷ []) ++ Stop ∷ []))
    (sym at.has.same) here

pub address_refused_follows : (profile : List DeviceParts) (bus : IsBus profile) (u : PacketState) (addr : ℕ)
    (events : List Event) → AtAddress profile u addr events
    → ((parts : List PartData) (legs : List Event) (addr : ℕ) → IsBus profile → length parts ≤ 15
    → IsDistinct nat_eq (addresses parts)
    → PartsEvents profile parts legs → IsNew addr (addresses parts) → addr < 128
    → MayFollow profile (legs ++ Start ∷ Byte (write_address addr) ∷ []) Nack)
    → MayFollow profile events Nack
address_refused_follows profile bus u addr events at law =
    subst (λ (es : List Event). MayFollow profile es Nack) (sym at.spelled)
    (law at.parts at.legs addr bus at.has.few at.has.distinct at.has.each at.another at.seven)

-- ---- after a later START

abbrev part_of : ℕ → ℕ → List ℕ → Bool → PartData
part_of addr code bytes pec = record { addr = addr; code = code; bytes = bytes; pec = pec }

-- a number that is none of some, and not one more
new_among : (addr other : ℕ) (parts : List PartData) (code : ℕ) (bytes : List ℕ) (pec : Bool)
    → IsNew addr (other ∷ addresses parts)
    → IsNew addr (addresses (parts ++ part_of other code bytes pec ∷ []))
new_among addr other [] code bytes pec new = new
new_among addr other (p ∷ parts) code bytes pec new = new_step (nat_eq addr other) (nat_eq addr p.addr) _ _ new
    (new_among addr other parts code bytes pec) where
      new_step : (a b others all : Bool) → (a || (b || others)) ≡ false → ((a || others) ≡ false → all ≡ false)
          → (b || all) ≡ false
      new_step true b others all no_one later = absurd (cc no_one)
      new_step false true others all no_one later = absurd (cc no_one)
      new_step false false others all no_one later = later no_one

-- one part more, and a leg to another address
pub part_begins : (profile : List DeviceParts) (bus : IsBus profile) (u after : PacketState) (written : Written)
    (parts : List PartData) (front events : List Event) (addr : ℕ)
    → IsLeg profile u.kept written parts front → events ≡ front ++ Start ∷ [] → length parts < 15 → addr < 128
    → IsNew addr (written.device.address ∷ addresses u.kept.parts)
    → ((parts : List PartData) (legs : List Event) (addr : ℕ) (device : DeviceParts) (code : ℕ) (content : List ℕ)
    (with_pec : Bool) (bytes : List ℕ)
    → IsBus profile → length parts ≤ 15 → IsDistinct nat_eq (addresses parts) → PartsEvents profile parts legs
    → IsNew addr (addresses parts)
    → device_with addr profile ≡ Some device → WriteBody device code content with_pec bytes
    → (PartsEvents profile (parts ++ record { addr = addr; code = code; bytes = content; pec = with_pec } ∷ [])
    (legs ++ leg (write_address addr ∷ bytes)))
    × (IsDistinct nat_eq (addresses (parts ++ record { addr = addr; code = code; bytes = content; pec = with_pec }
    ∷ []))))
    → (part : PartData) → part.addr ≡ written.device.address
    → WriteBody written.device part.code part.bytes part.pec written.bytes
    → after.kept.parts ≡ u.kept.parts ++ part ∷ []
    → AtAddress profile after addr (events ++ Byte (2 * addr) ∷ [])
part_begins profile bus u after written parts front events addr at is few seven another law part same body pushed =
    -- the leg makes one more part, by the law
    let more = law parts at.legs written.device.address written.device part.code part.bytes part.pec written.bytes bus
    at.has.few at.has.distinct at.has.each at.another at.known body in
    -- which is the part that is kept
    let one : PartData = record {
      addr = written.device.address;
      code = part.code;
      bytes = part.bytes;
      pec =
          part.pec;
    } in
    let part_is : one ≡ part = ap (λ (a : ℕ). part_of a part.code part.bytes part.pec) (sym same) in
    let kept : after.kept.parts ≡ parts ++ one ∷ [] =
    pushed ∙ ap (λ (ps : List PartData). ps ++ part ∷ []) at.has.same ∙ ap (λ (p : PartData). parts ++ p ∷ [])
    -- so after START the address byte stands after these parts
    (sym part_is) in record {
      parts = parts ++ one ∷ [];
      legs = at.legs ++ leg (write_address written.device.address ∷ written.bytes);
      has = record {
        same = kept;
        few = rw (length-append parts (one ∷ [])) (omega arith);
        distinct = more.1;
        each = more.0;
      };
      seven = seven;
      another = new_among addr written.device.address parts part.code part.bytes part.pec
          (subst (λ (ps : List PartData). IsNew addr (written.device.address ∷ addresses ps)) at.has.same another);
      spelled = ap (λ (es : List Event). es ++ Byte (2 * addr) ∷ [])
          (is ∙ ap (λ (es : List Event). es ++ Start ∷ []) at.spelled)
          ∙ append_assoc (at.legs ++ leg (write_address written.device.address ∷ written.bytes)) (Start ∷ [])
          (Byte (2 * addr) ∷ []);
    }

-- what may follow a later START, where the byte addresses for writing
pub record NextPart (device : DeviceParts) (parts : List PartData) (addr : ℕ) (bytes : List ℕ) (next : ℕ) : Type 0 where
  pub body : IsWriteBody device bytes
  pub few : length parts < 15
  pub new : IsNew next (addr ∷ addresses parts)

pub is_next_part : (device : DeviceParts) (parts : List PartData) (addr : ℕ) (bytes : List ℕ) (next : ℕ)
    → IsNextAddress device parts addr bytes (2 * next)
    → NextPart device parts addr bytes next
is_next_part device parts addr bytes next (next_leg other body few seven new is) =
    let same : other ≡ next = omega (arith, is) in
    record { body = body; few = few; new = subst (λ (a : ℕ). IsNew a (addr ∷ addresses parts)) same new }
is_next_part device parts addr bytes next (reply_leg alone asked is) = absurd (omega (arith, is))

-- and where it addresses for reading
pub record AskedLeg (device : DeviceParts) (parts : List PartData) (addr : ℕ) (bytes : List ℕ) (read : ℕ) : Type 0 where
  -- no parts before it, and the address is that of the leg that asked
  pub alone : parts ≡ []
  pub request : IsRequest device bytes
  pub at : read ≡ addr

pub is_asked_leg : (device : DeviceParts) (parts : List PartData) (addr : ℕ) (bytes : List ℕ) (read : ℕ)
    → IsNextAddress device parts addr bytes (2 * read + 1)
    → AskedLeg device parts addr bytes read
is_asked_leg device parts addr bytes read (next_leg other body few seven new is) = absurd (omega (arith, is))
is_asked_leg device parts addr bytes read (reply_leg alone asked is) =
    record { alone = alone; request = asked; at = omega (arith, is) }

pub alone_in_packet : (parts : List PartData) (written : Written) → place_of parts ≡ written.place
    → written.place ≡ First → parts ≡ []
alone_in_packet [] written place first = refl
alone_in_packet (part ∷ parts) written place first = absurd (cc (place, first))

pub first_leg_asked : (parts : List PartData) (written : Written) → place_of parts ≡ written.place → parts ≡ []
    → written.place ≡ First
first_leg_asked parts written place alone = sym place ∙ ap place_of alone

no_events : (profile : List DeviceParts) (parts : List PartData) (legs : List Event) → parts ≡ []
    → PartsEvents profile parts legs → legs ≡ []
no_events profile [] legs alone each = each
no_events profile (part ∷ parts) legs alone each = absurd (cc alone)

pub reads_device : (profile : List DeviceParts) (u : PacketState) (place : PacketPlace) (written : Written)
    (parts : List PartData) (front events : List Event) (addr : ℕ)
    → u.leg ≡ Some written → IsLeg profile u.kept written parts front → events ≡ front ++ Start ∷ [] → parts ≡ []
    → (written.place ≡ First) × IsRequest written.device written.bytes → addr ≡ written.device.address
    → AtReadAddress profile (record u { place = place }) sources.Device (events ++ Byte (2 * addr + 1) ∷ [])
reads_device profile u place written parts front events addr is at sent alone asking same =
    let none : at.legs ≡ [] = no_events profile parts at.legs alone at.has.each in
    let front_is : front ≡ leg (write_address written.device.address ∷ written.bytes) =
    at.spelled ∙ ap (λ (es : List Event). es ++ leg (write_address written.device.address ∷ written.bytes)) none in
    record {
      front = front;
      addr = addr;
      asked = record {
        alone = at.has.same ∙ alone;
        written = written;
        is = is;
        known = at.known;
        first = asking.0;
        request = asking.1;
        at = same;
        spelled = front_is;
      };
      spelled = ap (λ (es : List Event). es ++ Byte (2 * addr + 1) ∷ []) sent
          ∙ append_assoc front (Start ∷ []) (Byte (2 * addr + 1) ∷ []);
    }

-- what a refused packet says
pub refused_said : (parts : List PartData) (addr other : ℕ) (taken bytes last : List ℕ) → addr ≡ other → taken ≡ bytes
    → Refused (record { parts = parts; addr = addr; sent = taken ++ last; at_read = false })
    ≡ Refused (record { parts = parts; addr = other; sent = bytes ++ last; at_read = false })
refused_said parts addr other taken bytes last same is = cc (same, is)
