-- What STOP does, by what was kept of the device's own leg: nothing, a status bit noted, or a
-- write that acts. For `DevicePacket::outcome`. What is kept (`OwnIsIn`) says where the own leg
-- stands among the legs of the packet and what was refused or read of it; so each of the four
-- cases of `IsOutcome` is what the definition of the packet's end asks for.
use Rattle.std.proofs.Common.{◌≡◌, ℕ, inl, inr, Bool, true, false, ◌||◌, Option, Some, None, List, [], ◌∷◌, ◌++◌, refl}
use Rattle.std.proofs.Common.{sym, ap, subst, ◌∙◌, append_assoc}
use Rattle.pmb_command.specs.Parts.{DeviceParts}
use Rattle.pmb_bus.specs.Address.{read_address}
use Rattle.pmb_transaction.specs.Body.{WriteBody, IsWriteBody}
use Rattle.pmb_leg.specs.Leg.{IsRequest, Written}
use Rattle.pmb_registers.specs.declared.cml_bit.CmlBit.{CmlBit}
use Rattle.pmb_registers.specs.State.{DeviceState}
use Rattle.pmb_registers.specs.Apply.{after_write, with_bit, with_noted}
use Rattle.pmb_device.specs.declared.device_packet.LegPhase.{LegPhase}
use Rattle.pmb_device.specs.declared.device_packet.LegPhase.TheVariants as phases
use Rattle.pmb_device.specs.declared.device_packet.DevicePacket.{DevicePacket}
use Rattle.pmb_device.specs.Legs.{Leg, Legs, Outside, Inside, is_to, leg_place, some_is_to}
use Rattle.pmb_device.specs.Rules.{TakesAll}
use Rattle.pmb_device.specs.Ends.{Acts, Ends, LegsEnd, NotesAnswer, OwnLegEnds, ReadOrActs, Refuses, asked, no_leg}
use Rattle.pmb_device.specs.Ends.{no_write, not_asked, own_leg, writes}
use Rattle.pmb_device.specs.machine.Standing.{AllTaken, BytesAre, HasToAnswer, InLeg, IsOwn, Kept, Notes, OwnIsIn}
use Rattle.pmb_device.specs.machine.Standing.{StandsIn, answers, ended, head_is_to, kept, no_answer, none, under_way}
use Rattle.pmb_device.proofs.Taken.{taken_at}
use Rattle.pmb_device.proofs.Owns.{head_is_some, own_is}
use Rattle.pmb_device.proofs.Acks.{own_in}

module _ (device : DeviceParts) (state : DeviceState) where
  -- ---- the own leg

  -- the first of some legs
  first_of : (behind : List Leg) → head_is_to (read_address device.address) behind ≡ true
      → (next : Leg) × (more : List Leg) × (behind ≡ next ∷ more)
  first_of [] is = cc is
  first_of (next ∷ more) is = (next, more, refl)

  or_false : (b c : Bool) → b ≡ true → (b || c) ≡ true
  or_false b c is = ap (λ (x : Bool). x || c) is

  only_one : (b : Bool) → (b || false) ≡ true → b ≡ true
  only_one true is = refl
  only_one false is = is

  has_to_answer : (before : List Leg) (bytes : List ℕ) (behind : List Leg) → before ≡ [] → IsRequest device bytes
      → (next : Leg) (more : List Leg) → behind ≡ next ∷ more
      → some_is_to (read_address device.address) (next ∷ []) ≡ true → HasToAnswer device before bytes behind
  has_to_answer before bytes behind first request next more split is = record {
    first = first;
    request = request;
    read = ap (head_is_to (read_address device.address)) split ∙ only_one (is_to (read_address device.address) next) is;
  }

  notes_answer : (noted : Option CmlBit) (before : List Leg) (bytes : List ℕ) (behind : List Leg) (after : DeviceState)
      → after ≡ with_noted device noted state
      → Notes device state noted before bytes behind → NotesAnswer device before bytes behind state after
  notes_answer noted before bytes behind after is (answers has bit) =
      let first = first_of behind has.read in
      let ra = read_address device.address in
      let here : is_to ra first.0 ≡ true = ap (head_is_to ra) (sym first.2) ∙ has.read in
      asked has.first has.request first.0 first.1 first.2 (or_false _ false here)
      (is ∙ ap (λ (n : Option CmlBit). with_noted device n state) bit)
  notes_answer noted before bytes behind after is (no_answer never nothing) =
      not_asked (λ first request next more split read. never
      (has_to_answer before bytes behind first request next more split read))
      (is ∙ ap (λ (n : Option CmlBit). with_noted device n state) nothing)

  -- all bytes were taken
  taken_ends : (k : Kept) (before : List Leg) (bytes : List ℕ) (behind : List Leg) (after : DeviceState) (read : Bool)
      → (read ≡ true → after ≡ with_noted device k.noted state) → (read ≡ false → Acts device bytes state after)
      → AllTaken device state k before bytes behind → ReadOrActs device read before bytes behind state after
  taken_ends k before bytes behind after true noted acts all = notes_answer k.noted before bytes behind after
      (noted refl) all.notes
  taken_ends k before bytes behind after false noted acts all = acts refl

  body_ends : (r : Bool) (k : Kept) (before : List Leg) (bytes : List ℕ) (behind : List Leg) (after : DeviceState)
      → (r ≡ true → after ≡ with_noted device k.noted state)
      → (r ≡ false → some_is_to (read_address device.address) behind ≡ true → after ≡ with_noted device k.noted state)
      → (r ≡ false → some_is_to (read_address device.address) behind ≡ false
      → AllTaken device state k before bytes behind → Acts device bytes state after)
      → BytesAre r device state k before bytes behind → OwnLegEnds device before bytes behind state after
  body_ends false k before bytes behind after refused read acts all =
      inl (
        all.taken,
        taken_ends k before bytes behind after (some_is_to (read_address device.address) behind)
            (read refl) (λ never. acts refl never all) all,
      )
  body_ends true k before bytes behind after refused read acts w =
      let never : TakesAll device (leg_place before) [] bytes → ⊥ =
      λ taken. w.refused (taken_at device (leg_place before) [] w.front w.byte w.rest
      (subst (TakesAll device (leg_place before) []) w.split taken)) in
      inr (never, subst (Refuses device (leg_place before) bytes state) (sym (refused refl)) w)

  -- what an outcome has to be
  pub record IsOutcome (k : Kept) (after : DeviceState) : Type 0 where
    -- no leg was its own: its state stays
    pub others : k.own ≡ false → after ≡ state
    -- a byte was refused: what is noted of it
    pub refuses : k.own ≡ true → k.refused ≡ true → after ≡ with_noted device k.noted state
    -- it was read: what is noted of the read
    pub reads : k.own ≡ true → k.refused ≡ false → k.read ≡ true → after ≡ with_noted device k.noted state
    -- all bytes were taken, and it was not read: the write acts
    pub acts : (bytes : List ℕ) → k.own ≡ true → k.refused ≡ false → k.read ≡ false → k.noted ≡ None
        → k.leg.device ≡ device → k.leg.bytes ≡ bytes → Acts device bytes state after

  pub none_noted_unread : (noted : Option CmlBit) (before : List Leg) (bytes : List ℕ) (behind : List Leg)
      → some_is_to (read_address device.address) behind ≡ false
      → Notes device state noted before bytes behind → noted ≡ None
  none_noted_unread noted before bytes behind unread (answers has is) = cc (sym unread ∙ head_is_some _ behind has.read)
  none_noted_unread noted before bytes behind unread (no_answer never is) = is

  own_ends : (k : Kept) (after : DeviceState) → IsOutcome k after
      → (before : List Leg) (own : Leg) (bytes : List ℕ) (behind : List Leg)
      → IsOwn device state k before own bytes behind
      → OwnLegEnds device before bytes behind state after
  own_ends k after outcome before own bytes behind o =
      body_ends k.refused k before bytes behind after
      (λ refused. outcome.refuses o.kept_own refused)
      (λ taken read. outcome.reads o.kept_own taken (o.read ∙ read))
      (λ taken unread all. outcome.acts bytes o.kept_own taken (o.read ∙ unread)
      (none_noted_unread k.noted before bytes behind unread all.notes)
      (ap (λ (w : Written). w.device) all.leg_is) (ap (λ (w : Written). w.bytes) all.leg_is))
      o.body

  legs_end : (k : Kept) (earlier : List Leg) (leg : Leg) (after : DeviceState) → IsOutcome k after
      → OwnIsIn device state k earlier leg → LegsEnd device (earlier ++ leg ∷ []) state after
  -- no leg was its own
  legs_end k earlier leg after outcome (none own before is) =
      let here : OwnIsIn device state k earlier leg = none own before is in
      no_leg (sym (own_is device state k earlier leg here) ∙ own) (outcome.others own)
  -- its own leg was the last one
  legs_end k earlier leg after outcome (under_way bytes o) =
      own_leg bytes (record {
        earlier = earlier;
        own = leg;
        behind = [];
        split = refl;
        first = o.first;
        bytes_are =
            o.bytes_are;
      })
      (own_ends k after outcome earlier leg bytes [] o)
  -- its own leg came earlier
  legs_end k earlier leg after outcome (ended before own mid bytes split o) =
      own_leg bytes
      (record {
        earlier = before;
        own = own;
        behind = mid ++ leg ∷ [];
        split = ap (λ (legs : List Leg). legs ++ leg ∷ []) split ∙ append_assoc before (own ∷ mid) (leg ∷ []);
        first = o.first;
        bytes_are = o.bytes_are;
      })
      (own_ends k after outcome before own bytes (mid ++ leg ∷ []) o)

-- ---- the exchange

pub ends_so : (x : DevicePacket) (device : DeviceParts) (state : DeviceState) (legs : Legs) (after : DeviceState)
    → StandsIn x device state legs
    → (x.phase ≡ phases.Outside → ⊥) → IsOutcome device state (kept x) after → Ends device legs state after
ends_so x device state Outside after stands inside outcome = absurd (inside stands.behind)
ends_so x device state (Inside earlier leg) after stands inside outcome =
    legs_end device state (kept x) earlier leg after outcome (own_in x.phase x device state earlier leg stands.behind.1)

-- outside of legs nothing happens
pub ends_outside : (x : DevicePacket) (device : DeviceParts) (state : DeviceState) (legs : Legs)
    → StandsIn x device state legs → x.phase ≡ phases.Outside → Ends device legs state state
ends_outside x device state Outside stands outside = refl
ends_outside x device state (Inside earlier leg) stands outside =
    absurd (subst (λ (p : LegPhase). InLeg p x device state earlier leg) outside stands.behind.1)

module _ (x : DevicePacket) (device : DeviceParts) (state : DeviceState) where
  -- no own leg
  pub no_own_outcome : x.own ≡ false → IsOutcome device state (kept x) state
  -- each case but the first would have an own leg
  no_own_outcome own = record {
    others = λ is. refl;
    refuses = λ is. cc (sym is ∙ own);
    reads = λ is. cc (sym is ∙ own);
    acts = λ bytes is. cc (sym is ∙ own);
  }

  -- something is noted
  pub noted_outcome : (bit : CmlBit) → x.own ≡ true → x.noted ≡ Some bit
      → IsOutcome device state (kept x) (with_bit device bit state)
  noted_outcome bit own noted =
      let same : with_bit device bit state ≡ with_noted device x.noted state =
      ap (λ (n : Option CmlBit). with_noted device n state) (sym noted) in
      record {
        others = λ is. cc (sym is ∙ own);
        refuses = λ is refused. same;
        reads = λ is taken read. same;
        acts = λ bytes is taken read nothing. cc (sym noted ∙ nothing);
      }

  -- nothing is
  pub silent_outcome : x.noted ≡ None → (x.refused ≡ false → x.read ≡ false → ⊥) → IsOutcome device state (kept x) state
  silent_outcome noted some =
      let same : state ≡ with_noted device x.noted state = ap (λ (n : Option CmlBit). with_noted device n state)
      (sym noted) in
      record {
        others = λ is. refl;
        refuses = λ is refused. same;
        reads = λ is taken read. same;
        acts = λ bytes is taken read. absurd (some taken read);
      }

  -- a write, or no write
  pub write_outcome : (code : ℕ) (content : List ℕ) (with_pec : Bool) → x.own ≡ true → x.refused ≡ false
      → x.read ≡ false
      → WriteBody x.leg.device code content with_pec x.leg.bytes
      → IsOutcome device state (kept x) (after_write device code content state)
  write_outcome code content with_pec own refused read body = record {
    others = λ is. cc (sym is ∙ own);
    refuses = λ is is_refused. cc (sym is_refused ∙ refused);
    reads = λ is taken is_read. cc (sym is_read ∙ read);
    acts = λ bytes is taken unread nothing device_is bytes_are.
        let here = subst (λ (d : DeviceParts). WriteBody d code content with_pec x.leg.bytes) device_is body in
        writes code content with_pec (subst (WriteBody device code content with_pec) bytes_are here) refl;
  }

  pub no_write_outcome : x.own ≡ true → x.refused ≡ false → x.read ≡ false → (IsWriteBody x.leg.device x.leg.bytes → ⊥)
      → IsOutcome device state (kept x) state
  no_write_outcome own refused read never = record {
    others = λ is. refl;
    refuses = λ is is_refused. cc (sym is_refused ∙ refused);
    reads = λ is taken is_read. cc (sym is_read ∙ read);
    acts = λ bytes is taken unread nothing device_is bytes_are.
        no_write
        (λ body. never
        (subst (λ (d : DeviceParts). IsWriteBody d x.leg.bytes) (sym device_is)
        (subst (IsWriteBody device) (sym bytes_are) body)))
        refl;
  }
