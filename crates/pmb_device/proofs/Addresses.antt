-- The first byte of a leg, which is an address. For `DevicePacket::address`, `begin_own`,
-- `be_read`, `reply` and `refuse`. A leg is written to the device at its first write address in
-- the packet, and is read from it right after that leg; any other address makes it deaf for the
-- leg.
use Rattle.std.proofs.Common.{◌≡◌, ℕ, inr, Bool, true, false, ◌||◌, None, Ok, List, [], ◌∷◌, ◌++◌, refl, sym, ap, subst}
use Rattle.std.proofs.Common.{◌∙◌, nat_eq}
use Rattle.std.proofs.lemmas.Bool.{eqb-true}
use Rattle.pmb_command.specs.Parts.{DeviceParts}
use Rattle.pmb_bus.specs.Address.{write_address, read_address}
use Rattle.pmb_leg.specs.declared.place.LegPlace.{LegPlace}
use Rattle.pmb_leg.specs.Leg.{Written}
use Rattle.pmb_registers.specs.State.{DeviceState}
use Rattle.pmb_registers.specs.Answer.{answer}
use Rattle.pmb_device.specs.declared.device_packet.LegPhase.{LegPhase}
use Rattle.pmb_device.specs.declared.device_packet.LegPhase.TheVariants as phases
use Rattle.pmb_device.specs.declared.device_packet.DevicePacket.{DevicePacket}
use Rattle.pmb_device.specs.declared.device_packet.Heard.TheVariants as heard
use Rattle.pmb_device.specs.declared.signal.HostSignal.TheVariants.{Byte}
use Rattle.pmb_device.specs.declared.signal.DeviceSignal.{DeviceSignal}
use Rattle.pmb_device.specs.declared.signal.DeviceSignal.TheVariants as answered
use Rattle.pmb_device.specs.Legs.{Leg, Legs, Outside, Inside, is_to, leg_place, sent, some_is_to}
use Rattle.pmb_device.specs.Rules.{AnswersAddress, AnswersByte, IsRead, IsWritten, others, written}
use Rattle.pmb_device.specs.machine.Standing.{AtStart, InDeaf, InLeg, Kept, OwnIsIn, StandsIn, ended, is_behind_own}
use Rattle.pmb_device.specs.machine.Standing.{kept, no_answer, no_reply, none, under_way}
use Rattle.pmb_device.specs.DevicePacket.{Hears}
use Rattle.pmb_device.proofs.Signals.{first_byte, is_to_first, is_to_none}
use Rattle.pmb_device.proofs.Owns.{is_some, same_byte, same_own, same_head, same_some}

module _ (device : DeviceParts) (state : DeviceState) where
  -- ---- where the own leg is, after START

  pub own_here : (k : Kept) (earlier : List Leg) (leg : Leg) → sent leg ≡ [] → OwnIsIn device state k earlier leg
      → k.own ≡ some_is_to (write_address device.address) earlier
  own_here k earlier leg nothing (none own before is) = own ∙ sym before
  own_here k earlier leg nothing (under_way bytes o) = cc (sym nothing ∙ o.bytes_are)
  own_here k earlier leg nothing (ended before own mid bytes split o) =
      o.kept_own ∙ sym (ap (some_is_to (write_address device.address)) split
      ∙ is_some _ before own mid (is_to_first _ _ bytes own o.bytes_are ∙ same_byte (write_address device.address)))

  -- a leg that is read stands after one that is the device's own
  pub read_behind_own : (earlier : List Leg) (address : ℕ) (body : List ℕ) → IsRead device earlier address body
      → is_behind_own device earlier ≡ true
  read_behind_own earlier address body r =
      ap (is_behind_own device) r.asked.alone ∙ is_to_first _ _ body r.asked.first r.asked.own
      ∙ same_byte (write_address device.address)

  pub behind_own_some : (earlier : List Leg) → is_behind_own device earlier ≡ true
      → some_is_to (write_address device.address) earlier ≡ true
  behind_own_some [] is = cc is
  behind_own_some (first ∷ []) is = ap (λ (b : Bool). b || false) is
  behind_own_some (first ∷ second ∷ more) is = cc is

  -- ---- a byte of others

  not_written : (k : Kept) (earlier : List Leg) (leg : Leg) (byte : ℕ) → sent leg ≡ []
      → OwnIsIn device state k earlier leg
      → (byte ≡ write_address device.address → k.own ≡ true) → IsWritten device earlier byte → ⊥
  not_written k earlier leg byte nothing own writes w =
      let is = own_here k earlier leg nothing own in
      cc (sym (writes w.own) ∙ is ∙ w.once)

  not_read_here : (k : Kept) (earlier : List Leg) (leg : Leg) (byte : ℕ) → sent leg ≡ []
      → OwnIsIn device state k earlier leg
      → (byte ≡ read_address device.address → k.own ≡ false) → (body : List ℕ) → IsRead device earlier byte body → ⊥
  not_read_here k earlier leg byte nothing own reads body r =
      let is = own_here k earlier leg nothing own in
      let some = behind_own_some earlier (read_behind_own earlier byte body r) in
      cc (sym (reads r.own) ∙ is ∙ some)

  differs : (a b : ℕ) (c : Bool) → nat_eq a b ≡ c → (a ≡ b → ⊥) → nat_eq a b ≡ false
  differs a b true is other = absurd (other (eqb-true a b is))
  differs a b false is other = is

  -- the own leg stays where it is
  own_of_others : (k : Kept) (earlier : List Leg) (leg : Leg) (byte : ℕ) → sent leg ≡ []
      → (byte ≡ write_address device.address → k.own ≡ true)
      → (byte ≡ read_address device.address → k.own ≡ false) → OwnIsIn device state k earlier leg
      → OwnIsIn device state k earlier (leg ++ Byte byte ∷ [])
  own_of_others k earlier leg byte nothing writes reads (none own before is) =
      let other : byte ≡ write_address device.address → ⊥ = λ same. cc (sym (writes same) ∙ own) in
      none own before (is_to_first _ byte [] (leg ++ Byte byte ∷ []) (first_byte leg byte nothing)
      ∙ differs byte _ _ refl other)
  own_of_others k earlier leg byte nothing writes reads (under_way bytes o) = cc (sym nothing ∙ o.bytes_are)
  own_of_others k earlier leg byte nothing writes reads (ended before own mid bytes split o) =
      let other : byte ≡ read_address device.address → ⊥ = λ same. cc (sym (reads same) ∙ o.kept_own) in
      let ra = read_address device.address in
      let same : is_to ra leg ≡ is_to ra (leg ++ Byte byte ∷ []) =
      is_to_none ra leg nothing ∙ sym (is_to_first ra byte [] (leg ++ Byte byte ∷ []) (first_byte leg byte nothing)
      ∙ differs byte ra _ refl other) in
      ended before own mid bytes split (same_own device state k before own bytes (mid ++ leg ∷ []) _
      (same_head ra mid leg _ same) (same_some ra mid leg _ same) o)

  -- the device has no part in a leg that begins so
  pub deaf_address : (k : Kept) (earlier : List Leg) (leg : Leg) (byte : ℕ) → sent leg ≡ []
      → OwnIsIn device state k earlier (leg ++ Byte byte ∷ [])
      → (IsWritten device earlier byte → ⊥) → ((body : List ℕ) → IsRead device earlier byte body → (reply : List ℕ)
      → answer device state body ≡ Ok reply → ⊥)
      → InDeaf device state k earlier (leg ++ Byte byte ∷ [])
  deaf_address k earlier leg byte nothing own writes reads = record {
    addressed = record {
      address = byte;
      bytes = [];
      sent_is = first_byte leg byte nothing;
      own = own;
      no_bytes =
          inr (writes, tt);
    };
    mute = no_reply (λ address bytes is body r reply ok.
        let same : address ≡ byte = cc (sym is ∙ first_byte leg byte nothing) in
        reads body (subst (λ (a : ℕ). IsRead device earlier a body) same r) reply ok);
  }

  pub at_first : (earlier : List Leg) (leg : Leg) (byte : ℕ) (result : DeviceSignal) → sent leg ≡ []
      → AnswersAddress device state earlier byte result
      → AnswersByte device state earlier (sent leg) byte result
  at_first earlier leg byte result nothing is =
      subst (λ (bytes : List ℕ). AnswersByte device state earlier bytes byte result) (sym nothing) is

-- ---- the exchange

pub starting : (x : DevicePacket) (device : DeviceParts) (state : DeviceState) (earlier : List Leg) (leg : Leg)
    → x.phase ≡ phases.Start → StandsIn x device state (Inside earlier leg)
    → AtStart device state (kept x) x.behind_first earlier leg
starting x device state earlier leg phase stands =
    subst (λ (p : LegPhase). InLeg p x device state earlier leg) phase stands.behind.1

-- a byte of others
pub hears_others : (x : DevicePacket) (byte : ℕ) → x.phase ≡ phases.Start
    → (byte ≡ write_address x.device.now.address → x.own ≡ true)
    → (byte ≡ read_address x.device.now.address → x.own ≡ false)
    → (device : DeviceParts) (state : DeviceState) (legs : Legs) → StandsIn x device state legs
    → Hears device state legs byte heard.Silent (record x { phase = phases.Deaf })
hears_others x byte phase writes reads device state Outside stands = cc (phase, stands.behind)
hears_others x byte phase writes reads device state (Inside earlier leg) stands =
    let at = starting x device state earlier leg phase stands in
    -- the address begins neither a leg that is written to the device nor one that is read from it,
    let to_write : byte ≡ write_address device.address
    → x.own ≡ true = λ is. writes (is ∙ ap (λ (d : DeviceParts). write_address d.address) (sym stands.known)) in
    let to_read : byte ≡ read_address device.address
    → x.own ≡ false = λ is. reads (is ∙ ap (λ (d : DeviceParts). read_address d.address) (sym stands.known)) in
    -- so the bus hears nothing of the device,
    let no_write = not_written device state (kept x) earlier leg byte at.nothing at.own to_write in
    let no_read = not_read_here device state (kept x) earlier leg byte at.nothing at.own to_read in (
      at_first device state earlier leg byte answered.Silent at.nothing (others no_write no_read refl),
      record {
        known = stands.known;
        accepted = stands.accepted;
        behind = (
          stands.behind.0,
          deaf_address device state (kept x) earlier leg byte at.nothing
              (own_of_others device state (kept x) earlier leg byte at.nothing to_write to_read at.own)
              no_write (λ body r reply ok. no_read body r),
        );
      },
    )

-- its own leg begins
-- and the device has no part in the leg
pub hears_own : (x : DevicePacket) (leg_after : Written) → x.phase ≡ phases.Start → x.own ≡ false
    → leg_after ≡ record { device = x.device.now; place = x.place; bytes = [] }
    → (device : DeviceParts) (state : DeviceState) (legs : Legs) → StandsIn x device state legs
    → Hears device state legs (write_address x.device.now.address) heard.Ack
    (record x { own = true; refused = false; read = false; noted = None; leg = leg_after; phase = phases.Written })
hears_own x leg_after phase own leg_is device state Outside stands = cc (phase, stands.behind)
hears_own x leg_after phase own leg_is device state (Inside earlier leg) stands =
    let at = starting x device state earlier leg phase stands in
    let byte = write_address x.device.now.address in
    -- the byte is its write address, and the first one in the packet
    let to_own : byte ≡ write_address device.address = ap (λ (d : DeviceParts). write_address d.address) stands.known in
    let once : some_is_to (write_address device.address) earlier ≡ false =
    sym (own_here device state (kept x) earlier leg at.nothing at.own) ∙ own in
    -- of the leg nothing was taken yet
    let fresh : Written = record { device = device; place = leg_place earlier; bytes = [] } in
    let is : leg_after ≡ fresh =
    leg_is ∙ ap (λ (d : DeviceParts). let l : Written = record { device = d; place = x.place; bytes = [] } in
    l) stands.known
    -- the device answers ACK,
    ∙ ap (λ (p : LegPlace). let l : Written = record { device = device; place = p; bytes = [] } in l) stands.behind.0 in (
      at_first device state earlier leg byte answered.Ack at.nothing
          (written (record { own = to_own; once = once }) refl),
      record {
        known = stands.known;
        accepted = stands.accepted;
        behind = (
          stands.behind.0,
          record {
            bytes = [];
            own = record {
              kept_own = refl;
              first = once;
              bytes_are = first_byte leg byte at.nothing ∙ ap (λ (b : ℕ). b ∷ []) to_own;
              body = record { leg_is = is; taken = tt; notes = no_answer (λ has. cc has.read) refl };
              read = refl;
            };
            not_refused = refl;
          },
        );
        -- and its own leg has begun, with no byte refused and nothing noted
      },
    )
