-- A device's own read address: what it keeps of its own leg says whether it is asked, and its
-- registers say what it answers. For `DevicePacket::be_read`, `reply` and `refuse`. It is asked
-- where the leg before was the packet's first and its own, no byte of it was refused, and its
-- bytes are a request; then it gives ACK and its reply, or NACK and notes why. Otherwise it is
-- silent.
use Rattle.std.proofs.Common.{◌≡◌, ℕ, inl, inr, Bool, true, false, Option, Some, None, Ok, Err, List, [], ◌∷◌, ◌++◌}
use Rattle.std.proofs.Common.{length, refl, sym, ap, subst, ◌∙◌, nat_eq}
use Rattle.pmb_command.specs.Parts.{DeviceParts}
use Rattle.pmb_command.specs.Bus.{IsDevice}
use Rattle.pmb_bus.specs.Address.{write_address, read_address}
use Rattle.pmb_transaction.specs.Reason.{Whether}
use Rattle.pmb_leg.specs.declared.place.LegPlace.TheVariants.{First}
use Rattle.pmb_leg.specs.Leg.{IsRequest, Written}
use Rattle.pmb_registers.specs.declared.cml_bit.CmlBit.{CmlBit}
use Rattle.pmb_registers.specs.State.{DeviceState}
use Rattle.pmb_registers.specs.Answer.{answer}
use Rattle.pmb_registers.specs.Apply.{bit_of_answer, bit_of_sent, with_noted}
use Rattle.pmb_device.specs.declared.device_packet.LegPhase.{LegPhase}
use Rattle.pmb_device.specs.declared.device_packet.LegPhase.TheVariants as phases
use Rattle.pmb_device.specs.declared.device_packet.DevicePacket.{DevicePacket}
use Rattle.pmb_device.specs.declared.device_packet.Heard.{Heard}
use Rattle.pmb_device.specs.declared.device_packet.Heard.TheVariants as heard
use Rattle.pmb_device.specs.declared.signal.HostSignal.TheVariants.{Byte}
use Rattle.pmb_device.specs.declared.signal.DeviceSignal.TheVariants as answered
use Rattle.pmb_device.specs.Legs.{Leg, Legs, Outside, Inside, is_to, leg_place, sent}
use Rattle.pmb_device.specs.Rules.{AnswersByte, GoesOn, IsRead, IsReplyTo, IsWritten, TakesAll, is_ended, others, read}
use Rattle.pmb_device.specs.Rules.{taken_or_not}
use Rattle.pmb_device.specs.machine.Standing.{AllTaken, AtStart, BytesAre, Counts, HasGiven, InDeaf, InLeg, InReply}
use Rattle.pmb_device.specs.machine.Standing.{IsAddressed, IsReplied, IsAskable, IsAskedIn, Kept, Notes, OwnIsIn}
use Rattle.pmb_device.specs.machine.Standing.{StandsIn, answers, ended, head_is_to, is_behind_own, kept, no_answer}
use Rattle.pmb_device.specs.machine.Standing.{no_reply, none, under_way}
use Rattle.pmb_device.specs.DevicePacket.{Hears}
use Rattle.pmb_device.proofs.Signals.{behind_first_byte, first_byte, is_to_first, is_to_none}
use Rattle.pmb_device.proofs.Taken.{taken_at}
use Rattle.pmb_device.proofs.Requests.{request_is_taken}
use Rattle.pmb_device.proofs.Owns.{is_some, same_byte, same_notes}
use Rattle.pmb_device.proofs.Asking.{no_address}
use Rattle.pmb_device.proofs.Addresses.{at_first, behind_own_some, deaf_address, read_behind_own, starting}

-- one leg alone
only_leg : (before : List Leg) (own : Leg) (mid : List Leg) (first : Leg) → before ++ own ∷ mid ≡ first ∷ []
    → (before ≡ []) × (own ≡ first) × (mid ≡ [])
only_leg [] own mid first is = (refl, cc is, cc is)
only_leg (b ∷ []) own mid first is = cc is
only_leg (b ∷ c ∷ before) own mid first is = cc is

alone : (device : DeviceParts) (before : List Leg) (own : Leg) (mid : List Leg)
    → is_behind_own device (before ++ own ∷ mid) ≡ true → (before ≡ []) × (mid ≡ [])
alone device [] own [] is = (refl, refl)
alone device [] own (m ∷ mid) is = cc is
alone device (b ∷ []) own mid is = cc is
alone device (b ∷ c ∷ before) own mid is = cc is

-- the device is asked one body
one_body : (device : DeviceParts) (earlier : List Leg) (address other : ℕ) (body more : List ℕ)
    → IsRead device earlier address body → IsRead device earlier other more → body ≡ more
one_body device earlier address other body more r s =
    let same : r.asked.first ≡ s.asked.first = cc (sym r.asked.alone ∙ s.asked.alone) in
    cc (sym r.asked.own ∙ ap sent same ∙ s.asked.own)

module _ (device : DeviceParts) (state : DeviceState) where
  -- ---- what is kept of its own leg

  by_refused : (r : Bool) (k : Kept) (before : List Leg) (bytes : List ℕ) (behind : List Leg)
      → BytesAre r device state k before bytes behind
      → TakesAll device (leg_place before) [] bytes → (r ≡ false) × AllTaken device state k before bytes behind
  by_refused false k before bytes behind all taken = (refl, all)
  by_refused true k before bytes behind w taken =
      absurd (w.refused (taken_at device (leg_place before) [] w.front w.byte w.rest
      (subst (TakesAll device (leg_place before) []) w.split taken)))

  pub none_before_read : (noted : Option CmlBit) (before : List Leg) (bytes : List ℕ) (behind : List Leg)
      → head_is_to (read_address device.address) behind ≡ false
      → Notes device state noted before bytes behind → noted ≡ None
  none_before_read noted before bytes behind other (answers has is) = cc (sym has.read ∙ other)
  none_before_read noted before bytes behind other (no_answer has is) = is

  -- what is kept where the device is read
  pub record KeepsRequest (k : Kept) : Type 0 where
    -- no byte of the leg was refused,
    pub not_refused : k.refused ≡ false
    -- it was the first leg of the packet,
    pub first : k.leg.place ≡ First
    -- and its bytes ask for a reply
    pub request : IsRequest k.leg.device k.leg.bytes

  request_kept : (k : Kept) (bytes : List ℕ) → k.refused ≡ false
      → k.leg ≡ record { device = device; place = First; bytes = bytes } → IsRequest device bytes → KeepsRequest k
  request_kept k bytes not_refused is request = record {
    not_refused = not_refused;
    first = ap (λ (w : Written). w.place) is;
    request = subst (λ (w : Written). IsRequest w.device w.bytes) (sym is) request;
  }

  -- the kept leg is a first one
  first_kept : (k : Kept) (before : List Leg) (bytes : List ℕ) → before ≡ []
      → k.leg ≡ record { device = device; place = leg_place before; bytes = bytes }
      → k.leg ≡ record { device = device; place = First; bytes = bytes }
  first_kept k before bytes first is =
      is ∙ ap (λ (legs : List Leg). let w : Written =
      record { device = device; place = leg_place legs; bytes = bytes } in w) first

  read_asks : IsDevice device → (k : Kept) (earlier : List Leg) (leg : Leg) → sent leg ≡ []
      → OwnIsIn device state k earlier leg
      → (address : ℕ) (body : List ℕ) → IsRead device earlier address body → KeepsRequest k
  read_asks accepted k earlier leg nothing (none own before is) address body r =
      cc (sym before ∙ behind_own_some device state earlier (read_behind_own device state earlier address body r))
  read_asks accepted k earlier leg nothing (under_way bytes o) address body r = cc (sym nothing ∙ o.bytes_are)
  read_asks accepted k earlier leg nothing (ended before own mid bytes split o) address body r =
      let only = only_leg before own mid r.asked.first (sym split ∙ r.asked.alone) in
      let same : body ≡ bytes = cc (sym r.asked.own ∙ ap sent (sym only.1) ∙ o.bytes_are) in
      let request : IsRequest device bytes = subst (IsRequest device) same r.asked.request in
      let taken : TakesAll device (leg_place before) [] bytes =
      subst (λ (legs : List Leg). TakesAll device (leg_place legs) [] bytes) (sym only.0)
      (request_is_taken device accepted bytes request) in
      let all = by_refused k.refused k before bytes (mid ++ leg ∷ []) o.body taken in
      request_kept k bytes all.0 (first_kept k before bytes only.0 all.1.leg_is) request

  -- ---- its registers are not asked

  notes_read : (noted : Option CmlBit) (before : List Leg) (bytes : List ℕ) (mid : List Leg) (leg longer : Leg)
      → is_to (read_address device.address) leg ≡ false
      → (before ≡ [] → mid ≡ [] → IsRequest device bytes → ⊥)
      → Notes device state noted before bytes (mid ++ leg ∷ [])
      → Notes device state noted before bytes (mid ++ longer ∷ [])
  notes_read noted before bytes [] leg longer other never notes =
      no_answer (λ has. never has.first refl has.request) (none_before_read noted before bytes (leg ∷ []) other notes)
  notes_read noted before bytes (m ∷ mid) leg longer other never notes = same_notes device state noted before bytes
      (m ∷ mid ++ leg ∷ []) (m ∷ mid ++ longer ∷ []) refl notes

  -- what is noted of a byte that was refused
  abbrev NotedAs : Option CmlBit → List Leg → List ℕ → ℕ → Type 0
  NotedAs noted before front byte =
      Whether (GoesOn device (leg_place before) front)
      (with_noted device noted state ≡ with_noted device (bit_of_sent (front ++ byte ∷ [])) state)
      (with_noted device noted state ≡ state)

  bytes_read : (r : Bool) (k after : Kept) (before : List Leg) (bytes : List ℕ) (mid : List Leg) (leg longer : Leg)
      → after.leg ≡ k.leg → after.noted ≡ k.noted
      → is_to (read_address device.address) leg ≡ false
      → (r ≡ false → k.leg ≡ record { device = device; place = leg_place before; bytes = bytes } → before ≡ []
      → mid ≡ [] → IsRequest device bytes → ⊥)
      → BytesAre r device state k before bytes (mid ++ leg ∷ [])
      → BytesAre r device state after before bytes (mid ++ longer ∷ [])
  bytes_read false k after before bytes mid leg longer leg_is noted other never all = record {
    leg_is = leg_is ∙ all.leg_is;
    taken = all.taken;
    notes = subst (λ (n : Option CmlBit). Notes device state n before bytes (mid ++ longer ∷ [])) (sym noted)
        (notes_read k.noted before bytes mid leg longer other (never refl all.leg_is) all.notes);
  }
  bytes_read true k after before bytes mid leg longer leg_is noted other never w = record {
    front = w.front;
    byte = w.byte;
    rest = w.rest;
    split = w.split;
    taken = w.taken;
    refused = w.refused;
    noted = subst (λ (n : Option CmlBit). NotedAs n before w.front w.byte) (sym noted) w.noted;
  }

  own_read : (k after : Kept) (behind_first : Bool) (earlier : List Leg) (leg : Leg) (byte : ℕ)
      → AtStart device state k behind_first earlier leg
      → k.own ≡ true → byte ≡ read_address device.address → (behind_first ≡ true → KeepsRequest k → ⊥)
      → after.own ≡ k.own → after.refused ≡ k.refused → after.read ≡ true → after.leg ≡ k.leg → after.noted ≡ k.noted
      → OwnIsIn device state k earlier leg
      → OwnIsIn device state after earlier (leg ++ Byte byte ∷ [])
  -- no leg was its own: this is not so here
  own_read k after behind_first earlier leg byte at own to_own never own_is refused_is read_is leg_is noted_is
      (none other before is) = cc (sym own ∙ other)
  -- its own leg would be this one, which had no byte
  own_read k after behind_first earlier leg byte at own to_own never own_is refused_is read_is leg_is noted_is
      (under_way bytes o) = cc (sym at.nothing ∙ o.bytes_are)
  -- its own leg ended before
  own_read k after behind_first earlier leg byte at own to_own never own_is refused_is read_is leg_is noted_is
      (ended before first mid bytes split o) =
      let ra = read_address device.address in
      let longer = leg ++ Byte byte ∷ [] in
      -- this leg is to its read address
      let here : is_to ra longer ≡ true = is_to_first ra byte [] longer (first_byte leg byte at.nothing)
      ∙ ap (λ (b : ℕ). nat_eq b ra) to_own ∙ same_byte ra in
      -- but its leg asked for nothing, or it is not right before this one
      let not_asked : k.refused ≡ false → k.leg ≡ record { device = device; place = leg_place before; bytes = bytes }
      → before ≡ [] → mid ≡ [] → IsRequest device bytes → ⊥ =
      λ not_refused is no_before no_mid request.
      let one : earlier ≡ first ∷ [] = split ∙ ap (λ (legs : List Leg). legs ++ first ∷ mid) no_before
      ∙ ap (λ (legs : List Leg). first ∷ legs) no_mid in
      let behind : behind_first ≡ true = at.behind_own ∙ ap (is_behind_own device) one
      ∙ is_to_first _ _ bytes first o.bytes_are ∙ same_byte (write_address device.address) in
      never behind (request_kept k bytes not_refused (first_kept k before bytes no_before is) request) in
      let body = bytes_read k.refused k after before bytes mid leg longer leg_is noted_is
      (is_to_none ra leg at.nothing) not_asked o.body in
      ended before first mid bytes split (record {
        kept_own = own_is ∙ o.kept_own;
        first = o.first;
        bytes_are = o.bytes_are;
        body = subst (λ (r : Bool). BytesAre r device state after before bytes (mid ++ longer ∷ []))
            (sym refused_is) body;
        read = read_is ∙ sym (is_some ra mid longer [] here);
        -- it is read now
      })

-- nothing is asked
pub hears_no_request : (x : DevicePacket) → x.phase ≡ phases.Start → x.own ≡ true → (IsAskable x → ⊥)
    → (device : DeviceParts) (state : DeviceState) (legs : Legs) → StandsIn x device state legs
    → Hears device state legs (read_address x.device.now.address) heard.Silent
    (record x { read = true; phase = phases.Deaf })
hears_no_request x phase own never device state Outside stands = cc (phase, stands.behind)
hears_no_request x phase own never device state (Inside earlier leg) stands =
    let at = starting x device state earlier leg phase stands in
    let byte = read_address x.device.now.address in
    -- its own read address
    let to_own : byte ≡ read_address device.address = ap (λ (d : DeviceParts). read_address d.address) stands.known in
    let y : DevicePacket = record x { read = true; phase = phases.Deaf } in
    -- nothing that is kept asks for a reply,
    let not_asked : x.behind_first ≡ true → KeepsRequest device state (kept x) → ⊥ =
    λ behind keeps. never (record {
      behind_first = behind;
      not_refused = keeps.not_refused;
      first =
          keeps.first;
      request = keeps.request;
    }) in
    -- so that this address begins no leg that the device answers
    let no_write : IsWritten device earlier byte → ⊥ = λ w. no_address device byte w.own to_own in
    let no_read : (body : List ℕ) → IsRead device earlier byte body → ⊥ =
    λ body r. not_asked (at.behind_own ∙ read_behind_own device state earlier byte body r)
    (read_asks device state stands.accepted (kept x) earlier leg at.nothing at.own byte body r) in
    -- what is kept stays, and that it was read
    let own_after = own_read device state (kept x) (kept y) x.behind_first earlier leg byte at own to_own not_asked refl
    -- the device is silent, and deaf to the leg
    refl refl refl refl at.own in (
      at_first device state earlier leg byte answered.Silent at.nothing (others no_write no_read refl),
      record {
        known = stands.known;
        accepted = stands.accepted;
        behind = (
          stands.behind.0,
          deaf_address device state (kept y) earlier leg byte at.nothing own_after no_write
              (λ body r reply ok. no_read body r),
        );
      },
    )

-- its registers have to be asked
module _ (device : DeviceParts) (state : DeviceState) where
  asked_in : (x y : DevicePacket) (earlier : List Leg) (leg : Leg) (byte : ℕ) → y.device.now ≡ device → IsDevice device
      → y.place ≡ leg_place earlier
      → AtStart device state (kept x) x.behind_first earlier leg
      → byte ≡ read_address device.address → IsAskable x → x.own ≡ true → y.own ≡ x.own → y.refused ≡ x.refused
      → y.read ≡ true → y.noted ≡ x.noted → y.leg ≡ x.leg
      → OwnIsIn device state (kept x) earlier leg
      → (body : List ℕ) × IsAskedIn y device state (Inside earlier leg) byte body
  -- as above: its own leg ended before
  asked_in x y earlier leg byte known accepted place at to_own askable own own_is refused_is read_is noted_is leg_is
      (none other before is) = cc (sym own ∙ other)
  asked_in x y earlier leg byte known accepted place at to_own askable own own_is refused_is read_is noted_is leg_is
      (under_way bytes o) = cc (sym at.nothing ∙ o.bytes_are)
  asked_in x y earlier leg byte known accepted place at to_own askable own own_is refused_is read_is noted_is leg_is
      (ended before first mid bytes split o) =
      let ra = read_address device.address in
      let k = kept x in
      -- the leg before is its own, and the packet's first
      let behind : is_behind_own device (before ++ first ∷ mid) ≡ true = ap (is_behind_own device) (sym split)
      ∙ sym at.behind_own ∙ askable.behind_first in
      let only = alone device before first mid behind in
      let one : earlier ≡ first ∷ [] = split ∙ ap (λ (legs : List Leg). legs ++ first ∷ mid) only.0
      ∙ ap (λ (legs : List Leg). first ∷ legs) only.1 in
      -- all its bytes were taken, and nothing was noted of them
      let all : AllTaken device state k before bytes (mid ++ leg ∷ []) =
      subst (λ (r : Bool). BytesAre r device state k before bytes (mid ++ leg ∷ [])) askable.not_refused o.body in
      let kept_is : x.leg ≡ record { device = device; place = First; bytes = bytes } =
      first_kept device state k before bytes only.0 all.leg_is in
      -- they ask for a reply
      let request : IsRequest device bytes = subst (λ (w : Written). IsRequest w.device w.bytes) kept_is
      askable.request in
      let other : head_is_to ra (mid ++ leg ∷ []) ≡ false =
      ap (λ (legs : List Leg). head_is_to ra (legs ++ leg ∷ [])) only.1 ∙ is_to_none ra leg at.nothing in (
        bytes,
        record {
          known = known;
          accepted = accepted;
          earlier = earlier;
          leg = leg;
          legs_are = refl;
          place = place;
          nothing = at.nothing;
          is_read = record {
            own = to_own;
            asked =
                record { first = first; alone = one; own = o.bytes_are; request = request };
          };
          own = own_is ∙ own;
          not_refused = refused_is ∙ askable.not_refused;
          read = read_is;
          not_noted = noted_is ∙ none_before_read device state k.noted before bytes (mid ++ leg ∷ []) other all.notes;
          leg_is = leg_is ∙ kept_is;
          taken = request_is_taken device accepted bytes request;
        },
      )

pub hears_request : (x : DevicePacket) → x.phase ≡ phases.Start → x.own ≡ true → IsAskable x
    → (device : DeviceParts) (state : DeviceState) (legs : Legs) → StandsIn x device state legs
    → Hears device state legs (read_address x.device.now.address) heard.Read
    (record x { read = true; phase = phases.Deaf })
hears_request x phase own askable device state Outside stands = cc (phase, stands.behind)
hears_request x phase own askable device state (Inside earlier leg) stands =
    let at = starting x device state earlier leg phase stands in
    let byte = read_address x.device.now.address in
    let to_own : byte ≡ read_address device.address = ap (λ (d : DeviceParts). read_address d.address) stands.known in
    let y : DevicePacket = record x { read = true; phase = phases.Deaf } in
    asked_in device state x y earlier leg byte stands.known stands.accepted stands.behind.0 at to_own askable own refl
    refl refl refl refl at.own

-- ---- what its registers answer

-- What was put in place of what an exchange that was asked had.
pub record IsAnswered (x after : DevicePacket) (noted : Option CmlBit) : Type 0 where
  -- the device and its packet are as before,
  pub device : after.device.now ≡ x.device.now
  pub place : after.place ≡ x.place
  -- and what it keeps of its own leg
  pub own : after.own ≡ x.own
  pub refused : after.refused ≡ x.refused
  pub read : after.read ≡ x.read
  pub leg : after.leg ≡ x.leg
  -- this is noted now
  pub noted_is : after.noted ≡ noted

module _ (x after : DevicePacket) (device : DeviceParts) (state : DeviceState) (legs : Legs) (byte : ℕ) (body : List ℕ)
    (asked : IsAskedIn x device state legs byte body) (noted : Option CmlBit) (same : IsAnswered x after noted) where
  answered_addressed : noted ≡ bit_of_answer (answer device state body)
      → IsAddressed device state (kept after) asked.earlier (asked.leg ++ Byte byte ∷ [])
  answered_addressed bit =
      let ra = read_address device.address in
      let leg = asked.leg ++ Byte byte ∷ [] in
      let k = kept after in
      let first = asked.is_read.asked.first in
      -- the leg has the read address alone
      let sent_is : sent leg ≡ byte ∷ [] = first_byte asked.leg byte asked.nothing in
      let here : is_to ra leg ≡ true = is_to_first ra byte [] leg sent_is
      ∙ ap (λ (b : ℕ). nat_eq b ra) asked.is_read.own ∙ same_byte ra in
      -- the own leg was taken whole, and is answered by the leg after it
      let all : AllTaken device state k [] body (leg ∷ []) = record {
        leg_is = same.leg ∙ asked.leg_is;
        taken = asked.taken;
        notes = answers (record { first = refl; request = asked.is_read.asked.request; read = here })
            (same.noted_is ∙ bit);
      } in
      record {
        address = byte;
        bytes = [];
        sent_is = sent_is;
        -- the own leg ended before this one
        own = ended [] first [] body asked.is_read.asked.alone (record {
          kept_own = same.own ∙ asked.own;
          first = refl;
          bytes_are = asked.is_read.asked.own;
          body = subst (λ (r : Bool). BytesAre r device state k [] body (leg ∷ []))
              (sym (same.refused ∙ asked.not_refused)) all;
          read = same.read ∙ asked.read ∙ sym (is_some ra [] leg [] here);
        });
        no_bytes = inr (λ w. no_address device byte w.own asked.is_read.own, tt);
      }

  answers_asked : AnswersByte device state asked.earlier (sent asked.leg) byte
      (taken_or_not device (answer device state body))
  answers_asked = at_first device state asked.earlier asked.leg byte _ asked.nothing (read body asked.is_read refl)

  abbrev HeardAs : Heard → Legs → Type 0
  HeardAs result behind = Hears device state behind byte result after

  -- with data
  pub hears_answer : (content : List ℕ) → answer device state body ≡ Ok content → noted ≡ None
      → IsReplyTo device body content after.reply.items
      → after.phase ≡ phases.Reply → after.given ≡ 0 → after.waits ≡ false
      → Hears device state legs byte heard.Ack after
  hears_answer content ok none_is spelled phase given waits =
      let leg = asked.leg ++ Byte byte ∷ [] in
      let sent_is : sent leg ≡ byte ∷ [] = first_byte asked.leg byte asked.nothing in
      -- no bit is noted of a reply
      let bit : noted ≡ bit_of_answer (answer device state body) = none_is ∙ ap bit_of_answer (sym ok) in
      let nothing = behind_first_byte asked.leg byte asked.nothing in
      -- no byte of it was given yet
      let counts : Counts device after.given after.waits [] = record { given_is = given; waits_is = waits } in
      -- the leg answers with the reply to the body
      let replied : IsReplied device state after.reply.items asked.earlier leg = record {
        address = byte;
        bytes = [];
        sent_is = sent_is;
        body = body;
        read = asked.is_read;
        content = content;
        answered = ok;
        spelled = spelled;
      } in
      let in_reply : InReply device state (kept after) after.reply.items after.given after.waits asked.earlier leg =
      record {
        addressed = answered_addressed bit;
        replied = replied;
        goes_on = ap (is_ended device) nothing;
        count = subst (HasGiven device (length after.reply.items) after.given after.waits) (sym nothing) (inl counts);
      } in
      -- ACK, and the reply is under way
      let here : HeardAs heard.Ack (Inside asked.earlier asked.leg) = (
        subst (AnswersByte device state asked.earlier (sent asked.leg) byte)
            (ap (taken_or_not device) ok) answers_asked,
        record {
          known = same.device ∙ asked.known;
          accepted = asked.accepted;
          behind = (
            same.place ∙ asked.place,
            subst (λ (p : LegPhase). InLeg p after device state asked.earlier leg)
                (sym phase) in_reply,
          );
        },
      ) in
      subst (HeardAs heard.Ack) (sym asked.legs_are) here

  -- by a refusal
  pub hears_refusal : (bit : CmlBit) → answer device state body ≡ Err bit → noted ≡ Some bit → after.phase ≡ phases.Deaf
      → Hears device state legs byte heard.Nack after
  hears_refusal bit err is phase =
      let leg = asked.leg ++ Byte byte ∷ [] in
      -- the reason of the refusal is noted
      let addressed = answered_addressed (is ∙ ap bit_of_answer (sym err)) in
      -- and the device gives no byte in this leg: it was asked this body alone, and refuses it
      let in_deaf : InDeaf device state (kept after) asked.earlier leg = record {
        addressed = addressed;
        mute = no_reply (λ address bytes sent_is more r reply ok.
            let one : body ≡ more = one_body device asked.earlier byte address body more asked.is_read r in
            cc (sym err ∙ ap (answer device state) one ∙ ok));
      } in
      let here : HeardAs heard.Nack (Inside asked.earlier asked.leg) = (
        subst (AnswersByte device state asked.earlier (sent asked.leg) byte)
            (ap (taken_or_not device) err) answers_asked,
        record {
          known = same.device ∙ asked.known;
          accepted = asked.accepted;
          behind = (
            same.place ∙ asked.place,
            subst (λ (p : LegPhase). InLeg p after device state asked.earlier leg)
                (sym phase) in_deaf,
          );
        },
      ) in
      subst (HeardAs heard.Nack) (sym asked.legs_are) here

-- the reply that was put together for what the kept leg asks is one to the body
pub reply_to_body : (x : DevicePacket) (device : DeviceParts) (state : DeviceState) (legs : Legs) (byte : ℕ)
    (body : List ℕ) → IsAskedIn x device state legs byte body
    → (content bytes : List ℕ)
    → (x.leg.device ≡ x.device.now → x.leg.place ≡ First → IsRequest x.device.now x.leg.bytes
    → IsReplyTo x.device.now x.leg.bytes content bytes)
    → IsReplyTo device body content bytes
reply_to_body x device state legs byte body asked content bytes reply =
    let P : DeviceParts → Written → Type 0 = λ d w. w.device ≡ d → w.place ≡ First → IsRequest d w.bytes
    → IsReplyTo d w.bytes content bytes in
    let kept_leg : Written = record { device = device; place = First; bytes = body } in
    let by_leg : P x.device.now kept_leg = subst (λ (w : Written). P x.device.now w) asked.leg_is reply in
    let by_device : P device kept_leg = subst (λ (d : DeviceParts). P d kept_leg) asked.known by_leg in
    by_device refl refl asked.is_read.asked.request
