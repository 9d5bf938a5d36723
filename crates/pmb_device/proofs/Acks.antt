-- START, ACK and NACK, which a device doesn't answer, by the phase that it is in. For
-- `DevicePacket::ack`, `nack`, `begin_packet`, `begin_later` and `outcome`. ACK ends the wait for
-- the byte that was given, NACK ends a reply, START begins a leg after those before it; what the
-- device keeps of its own leg (`OwnIsIn`) stays as it is.
use Rattle.std.proofs.Common.{◌≡◌, ◌≢◌, Bool, false, refl, subst, sym, ap, ◌∙◌, List, [], ◌∷◌, ◌++◌}
use Rattle.pmb_command.specs.Parts.{DeviceParts}
use Rattle.pmb_registers.specs.State.{DeviceState}
use Rattle.pmb_device.specs.declared.device_packet.LegPhase.{LegPhase}
use Rattle.pmb_device.specs.declared.device_packet.LegPhase.TheVariants as phases
use Rattle.pmb_device.specs.declared.device_packet.DevicePacket.{DevicePacket}
use Rattle.pmb_device.specs.declared.signal.HostSignal.TheVariants.{Ack, Nack}
use Rattle.pmb_leg.specs.declared.place.LegPlace.{LegPlace}
use Rattle.pmb_leg.specs.declared.place.LegPlace.TheVariants.{First, Later}
use Rattle.pmb_bus.specs.Address.{write_address}
use Rattle.pmb_device.specs.Legs.{Leg, Legs, Outside, Inside, is_to, leg_place, with_other, with_start}
use Rattle.pmb_device.specs.machine.Standing.{InLeg, Kept, OwnIsIn, StandsIn, is_behind_own, is_own_first, kept, none}
use Rattle.pmb_device.specs.machine.Standing.{under_way}
use Rattle.pmb_device.proofs.Owns.{or_nothing, own_at_start, own_is}
use Rattle.pmb_device.proofs.Signals.{sent_same}
use Rattle.pmb_device.proofs.Phases.{deaf_at_nack, deaf_stays, reply_at_ack, start_stays, written_stays}

-- ---- ACK

ack_in : (phase : LegPhase) (x : DevicePacket) (device : DeviceParts) (state : DeviceState) (earlier : List Leg)
    (leg : Leg) → InLeg phase x device state earlier leg
    → InLeg phase (record x { waits = false }) device state earlier (leg ++ Ack ∷ [])
ack_in phases.Outside x device state earlier leg is = is
ack_in phases.Deaf x device state earlier leg is = deaf_stays device state _ earlier leg Ack (sent_same leg Ack refl) is
ack_in phases.Reply x device state earlier leg is = reply_at_ack device state _ _ _ x.waits earlier leg is
ack_in phases.Start x device state earlier leg is = start_stays device state _ _ earlier leg _
    (sent_same leg Ack refl) is
ack_in phases.Written x device state earlier leg is = written_stays device state _ earlier leg _
    (sent_same leg Ack refl) is

pub behind_ack : (x : DevicePacket) (device : DeviceParts) (state : DeviceState) (legs : Legs)
    → StandsIn x device state legs
    → StandsIn (record x { waits = false }) device state (with_other legs Ack)
behind_ack x device state Outside stands =
    record { known = stands.known; accepted = stands.accepted; behind = stands.behind }
behind_ack x device state (Inside earlier leg) stands =
    record {
      known = stands.known;
      accepted = stands.accepted;
      behind =
          (stands.behind.0, ack_in x.phase x device state earlier leg stands.behind.1);
    }

-- ---- NACK

-- NACK in no reply
nack_in : (phase : LegPhase) (x : DevicePacket) (device : DeviceParts) (state : DeviceState) (earlier : List Leg)
    (leg : Leg) → phase ≢ phases.Reply
    → InLeg phase x device state earlier leg → InLeg phase x device state earlier (leg ++ Nack ∷ [])
nack_in phases.Outside x device state earlier leg other is = is
nack_in phases.Deaf x device state earlier leg other is = deaf_stays device state _ earlier leg Nack
    (sent_same leg Nack refl) is
nack_in phases.Reply x device state earlier leg other is = absurd (other refl)
nack_in phases.Start x device state earlier leg other is = start_stays device state _ _ earlier leg _
    (sent_same leg Nack refl) is
nack_in phases.Written x device state earlier leg other is = written_stays device state _ earlier leg _
    (sent_same leg Nack refl) is

pub behind_nack : (x : DevicePacket) (device : DeviceParts) (state : DeviceState) (legs : Legs) → x.phase ≢ phases.Reply
    → StandsIn x device state legs
    → StandsIn x device state (with_other legs Nack)
behind_nack x device state Outside other stands = stands
behind_nack x device state (Inside earlier leg) other stands =
    record {
      known = stands.known;
      accepted = stands.accepted;
      behind =
          (stands.behind.0, nack_in x.phase x device state earlier leg other stands.behind.1);
    }

-- NACK in a reply
pub behind_last : (x : DevicePacket) (device : DeviceParts) (state : DeviceState) (legs : Legs) → x.phase ≡ phases.Reply
    → StandsIn x device state legs
    → StandsIn (record x { phase = phases.Deaf }) device state (with_other legs Nack)
behind_last x device state Outside reply stands = cc (reply, stands.behind)
behind_last x device state (Inside earlier leg) reply stands =
    let here = subst (λ (p : LegPhase). InLeg p x device state earlier leg) reply stands.behind.1 in
    record {
      known = stands.known;
      accepted = stands.accepted;
      behind =
          (stands.behind.0, deaf_at_nack device state _ _ _ _ earlier leg here);
    }

-- ---- START

pub behind_first_start : (x : DevicePacket) (device : DeviceParts) (state : DeviceState) (legs : Legs)
    → x.phase ≡ phases.Outside → StandsIn x device state legs
    → StandsIn (record x { place = First; behind_first = false; own = false; phase = phases.Start }) device state
    (with_start legs)
behind_first_start x device state Outside outside stands = record {
  known = stands.known;
  accepted = stands.accepted;
  behind = (refl, record { nothing = refl; behind_own = refl; own = none refl refl refl });
}
behind_first_start x device state (Inside earlier leg) outside stands =
    absurd (subst (λ (p : LegPhase). InLeg p x device state earlier leg) outside stands.behind.1)

-- where the own leg is, by the phase
pub own_in : (phase : LegPhase) (x : DevicePacket) (device : DeviceParts) (state : DeviceState) (earlier : List Leg)
    (leg : Leg) → InLeg phase x device state earlier leg
    → OwnIsIn device state (kept x) earlier leg
own_in phases.Outside x device state earlier leg is = absurd is
own_in phases.Deaf x device state earlier leg is = is.addressed.own
own_in phases.Reply x device state earlier leg is = is.addressed.own
own_in phases.Start x device state earlier leg is = is.own
own_in phases.Written x device state earlier leg is = under_way is.bytes is.own

-- whether the first leg is its own
own_first : (device : DeviceParts) (state : DeviceState) (k : Kept) (earlier : List Leg) (leg : Leg)
    → OwnIsIn device state k earlier leg
    → is_own_first (leg_place earlier) k.own ≡ is_behind_own device (earlier ++ leg ∷ [])
own_first device state k [] leg own = own_is device state k [] leg own
    ∙ sym (or_nothing (is_to (write_address device.address) leg))
own_first device state k (first ∷ []) leg own = refl
own_first device state k (first ∷ second ∷ earlier) leg own = refl

later_behind : (earlier : List Leg) (leg : Leg) → Later ≡ leg_place (earlier ++ leg ∷ [])
later_behind [] leg = refl
later_behind (first ∷ earlier) leg = refl

pub behind_later_start : (x : DevicePacket) (device : DeviceParts) (state : DeviceState) (legs : Legs)
    (behind_first : Bool) → x.phase ≢ phases.Outside
    → behind_first ≡ is_own_first x.place x.own → StandsIn x device state legs
    → StandsIn (record x { behind_first = behind_first; place = Later; phase = phases.Start }) device state
    (with_start legs)
behind_later_start x device state Outside behind_first inside is stands = absurd (inside stands.behind)
behind_later_start x device state (Inside earlier leg) behind_first inside is stands =
    let own = own_in x.phase x device state earlier leg stands.behind.1 in
    let first : behind_first ≡ is_behind_own device (earlier ++ leg ∷ []) =
    is ∙ ap (λ (p : LegPlace). is_own_first p x.own) stands.behind.0
    ∙ own_first device state (kept x) earlier leg own in
    record {
      known = stands.known;
      accepted = stands.accepted;
      behind = (
        later_behind earlier leg,
        record {
          nothing = refl;
          behind_own = first;
          own =
              own_at_start device state (kept x) earlier leg own;
        },
      );
    }
