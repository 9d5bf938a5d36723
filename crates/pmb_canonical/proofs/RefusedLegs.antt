-- A leg in which a device refused something, after parts of a group or without any: what its bytes
-- say, and its packet. For `keep_refused`, `keep_nacked` and `take_group`. What is refused is the
-- address byte, or a byte where a body goes on; the parts before matter by their addresses alone.
use Rattle.std.proofs.Common.{◌≡◌, ◌+◌, ◌*◌, ◌<◌, ℕ, Bool, true, false, inl, inr, List, [], ◌∷◌, ◌++◌, length, nat_eq}
use Rattle.std.proofs.Common.{refl, sym, ap, subst, ◌∙◌, arith, append_assoc, length-append}
use Rattle.std.specs.List.{list_any}
use Rattle.std.proofs.lemmas.List.{append-nil, length-map}
use Rattle.pmb_bus.specs.declared.event.Event.{Event}
use Rattle.pmb_bus.specs.declared.event.Event.TheVariants.{Stop}
use Rattle.pmb_bus.specs.Address.{write_address}
use Rattle.pmb_bus.specs.Event.{canonical_text}
use Rattle.pmb_command.specs.Parts.{DeviceParts, IsNew}
use Rattle.pmb_command.specs.Wire.{AreByteValues}
use Rattle.pmb_transaction.specs.Transaction.{PartData, TransactionData, Refused}
use Rattle.pmb_transaction.specs.Body.{IsInsideBody}
use Rattle.pmb_transaction.specs.Packet.{RefusedLeg, addresses}
use Rattle.pmb_canonical.specs.Canonical.{OneByteRefused, TakesPacket, nacked_leg}
use Rattle.pmb_canonical.specs.Front.{acked_text, end_text}
use Rattle.pmb_canonical.specs.Groups.{TakenParts}
use Rattle.pmb_canonical.specs.Nacked.{IsOfNacked, IsRefused, SaysNacked}
use Rattle.pmb_canonical.proofs.Beginnings.{start}
use Rattle.pmb_canonical.proofs.Ends.{nacked_text}
use Rattle.pmb_canonical.proofs.LegBytes.{length-nacked}
use Rattle.pmb_canonical.proofs.Texts.{text-append}

-- no byte with NACK stands at the front of a text, up to STOP
abbrev pub NoneNacked : List ℕ → Type 0
NoneNacked text = (last : ℕ) (rest : List ℕ) → last < 256 → text ≡ end_text last ++ rest → ⊥

-- ---- what such a leg says

-- after other parts, to the same devices, it says the same
inside_after : (device : DeviceParts) (parts others : List PartData) (front : List ℕ)
    → addresses parts ≡ addresses others → IsInsideBody device parts front
    → IsInsideBody device others front
inside_after device [] [] front same inside = inside
inside_after device [] (other ∷ others) front same inside = absurd (cc same)
inside_after device (part ∷ parts) [] front same inside = absurd (cc same)
inside_after device (part ∷ parts) (other ∷ others) front same inside = inside

refused_after : (profile : List DeviceParts) (parts others : List PartData) (address : ℕ) (bytes : List ℕ)
    → addresses parts ≡ addresses others
    → IsRefused profile parts address bytes → IsRefused profile others address bytes
refused_after profile parts others address bytes same (inl refused) = inl refused
refused_after profile parts others address bytes same (inr (sent, says)) =
    inr (
      sent,
      record {
        device = says.device;
        known = says.known;
        front = says.front;
        last = says.last;
        split = says.split;
        begins = inside_after says.device parts others says.front same says.begins;
        spelled = says.spelled;
      },
    )

pub says_after : (profile : List DeviceParts) (parts others : List PartData) (bytes : List ℕ)
    → addresses parts ≡ addresses others → SaysNacked profile parts bytes
    → SaysNacked profile others bytes
says_after profile parts others bytes same says = record {
  address = says.address;
  few = omega (
    arith,
    says.few,
    ap length same,
    length-map parts (λ (p : PartData). p.addr),
    length-map others (λ (p : PartData). p.addr),
  );
  another = subst (IsNew says.address) same says.another;
  refused = refused_after profile parts others says.address bytes same says.refused;
}

-- its first byte is its address
first_byte : (profile : List DeviceParts) (parts : List PartData) (address : ℕ) (bytes : List ℕ)
    → IsRefused profile parts address bytes
    → (more : List ℕ) × (bytes ≡ write_address address ∷ more)
first_byte profile parts address bytes (inl (seven, spelled)) = ([], spelled)
first_byte profile parts address bytes (inr (sent, says)) = (sent, says.spelled)

one_address : (a b : ℕ) (bytes more others : List ℕ) → bytes ≡ write_address a ∷ more → bytes ≡ write_address b ∷ others
    → a ≡ b
one_address a b bytes more others one other =
    let joined : write_address a ∷ more ≡ write_address b ∷ others = sym one ∙ other in
    let first : write_address a ≡ write_address b = cc joined in
    omega (arith, first)

-- that of another device than those of the parts
pub not_known : (profile : List DeviceParts) (parts : List PartData) (bytes : List ℕ) (address : ℕ) (more : List ℕ)
    → SaysNacked profile parts bytes
    → bytes ≡ write_address address ∷ more → list_any (nat_eq address) (addresses parts) ≡ true → ⊥
not_known profile parts bytes address more says spelled known =
    let first = first_byte profile parts says.address bytes says.refused in
    let same : says.address ≡ address = one_address says.address address bytes first.0 more first.1 spelled in
    let other : list_any (nat_eq address) (addresses parts) ≡ false =
    subst (λ (a : ℕ). IsNew a (addresses parts)) same says.another in
    cc (sym other ∙ known)

-- where no address is refused, a byte is
pub byte_says : (profile : List DeviceParts) (parts : List PartData) (address : ℕ) (bytes : List ℕ)
    → (bytes ≡ write_address address ∷ [] → ⊥) → IsRefused profile parts address bytes
    → (sent : List ℕ) × OneByteRefused profile address sent bytes parts
byte_says profile parts address bytes none (inl (seven, spelled)) = absurd (none spelled)
byte_says profile parts address bytes none (inr says) = says

-- ---- its events

pub address_leg : (profile : List DeviceParts) (parts : List PartData) (address : ℕ) (bytes : List ℕ) → address < 128
    → bytes ≡ write_address address ∷ []
    → RefusedLeg profile parts address [] false (nacked_leg bytes)
address_leg profile parts address bytes seven spelled =
    subst (λ (l : List ℕ). RefusedLeg profile parts address [] false (nacked_leg l)) (sym spelled)
    (record { seven = seven; spelled = refl })

pub byte_leg : (profile : List DeviceParts) (parts : List PartData) (address : ℕ) (sent bytes : List ℕ)
    → AreByteValues bytes
    → OneByteRefused profile address sent bytes parts → RefusedLeg profile parts address sent false (nacked_leg bytes)
byte_leg profile parts address [] bytes small says =
    absurd (omega (arith, ap length says.split, length-append says.front (says.last ∷ [])))
byte_leg profile parts address (first ∷ more) bytes small says =
    let all : AreByteValues (write_address address ∷ first ∷ more) = subst AreByteValues says.spelled small in
    subst (λ (l : List ℕ). RefusedLeg profile parts address (first ∷ more) false (nacked_leg l)) (sym says.spelled)
    (record {
      device = says.device;
      known = says.known;
      bytes = all.1;
      front = says.front;
      last = says.last;
      split = says.split;
      begins = says.begins;
      spelled = refl;
    })

-- what is kept of it, none of its bytes apart
pub refused_sent : (parts : List PartData) (address : ℕ) (sent : List ℕ) (at_read : Bool)
    → Refused (record { parts = parts; addr = address; sent = sent ++ []; at_read = at_read })
    ≡ Refused (record { parts = parts; addr = address; sent = sent; at_read = at_read })
refused_sent parts address sent at_read =
    ap (λ (l : List ℕ). Refused (record { parts = parts; addr = address; sent = l; at_read = at_read }))
    (append-nil sent)

-- ---- its packet

-- after the parts that were taken
pub takes_refused : (profile : List DeviceParts) (text : List ℕ) (parts : List PartData) (before : ℕ)
    (behind bytes rest : List ℕ) (t : TransactionData) (used count : ℕ)
    → TakenParts profile text parts before behind → IsOfNacked profile parts bytes t
    → behind ≡ canonical_text (nacked_leg bytes ++ Stop ∷ []) ++ rest
    → used + length rest ≡ length text → count ≡ before + 1 + 2 * length bytes → TakesPacket profile text used count t
takes_refused profile text parts before behind bytes rest t used count taken of_leg ends long many =
    -- the events are those of the parts, of this leg, and STOP
    let last = nacked_leg bytes in
    let events = taken.legs ++ last ++ Stop ∷ [] in
    -- and so is the text
    let split : text ≡ canonical_text events ++ rest =
    taken.split
    ∙ ap (λ (l : List ℕ). canonical_text taken.legs ++ l) ends
    ∙ sym (append_assoc (canonical_text taken.legs) (canonical_text (last ++ Stop ∷ [])) rest)
    ∙ ap (λ (l : List ℕ). l ++ rest) (sym (text-append taken.legs (last ++ Stop ∷ [])))
    ∙ ap (λ (l : List Event). canonical_text l ++ rest) (sym (append_assoc taken.legs last (Stop ∷ []))) in
    -- so they are a refused packet
    subst (TakesPacket profile text used count) (sym of_leg.is)
    (record {
      events = events;
      packet = record {
        few = of_leg.few;
        distinct = taken.distinct;
        another = of_leg.another;
        legs = taken.legs;
        each = taken.each;
        last = last;
        refused = of_leg.refused;
        spelled = refl;
      };
      rest = rest;
      split = split;
      bytes = omega (arith, long, ap length split, length-append (canonical_text events) rest);
      all = omega (
        arith,
        many,
        taken.counted,
        length-append (taken.legs ++ last) (Stop ∷ []),
        length-append taken.legs last,
        length-nacked bytes,
      );
    })

-- its text, by what was taken of it
pub nacked_stands : (text leg_bytes behind front : List ℕ) (last : ℕ) (rest : List ℕ) → text ≡ start ++ leg_bytes
    → leg_bytes ≡ acked_text front ++ behind
    → behind ≡ end_text last ++ rest → text ≡ canonical_text (nacked_leg (front ++ last ∷ []) ++ Stop ∷ []) ++ rest
nacked_stands text leg_bytes behind front last rest begins split ends =
    begins
    ∙ ap (λ (l : List ℕ). start ++ l) (split ∙ ap (λ (l : List ℕ). acked_text front ++ l) ends)
    ∙ sym (ap (λ (l : List ℕ). l ++ rest) (nacked_text front last)
    ∙ ap (λ (l : List ℕ). start ++ l) (append_assoc (acked_text front) (end_text last) rest))
