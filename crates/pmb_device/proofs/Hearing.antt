-- A byte of which a device takes nothing: outside of its own legs, in a leg that is not its own,
-- and in a leg that it answers. For `DevicePacket::byte`. It is silent, and what it keeps of its
-- own leg stays, since a byte after the address changes no address of the leg.
use Rattle.std.proofs.Common.{◌≡◌, ℕ, ◌⊎◌, inl, inr, Bool, false, List, [], ◌∷◌, ◌++◌, length, refl, sym, subst, ◌∙◌}
use Rattle.std.proofs.Common.{arith}
use Rattle.pmb_command.specs.Parts.{DeviceParts}
use Rattle.pmb_transaction.specs.Reason.{Whether}
use Rattle.pmb_registers.specs.State.{DeviceState}
use Rattle.pmb_device.specs.declared.device_packet.LegPhase.{LegPhase}
use Rattle.pmb_device.specs.declared.device_packet.LegPhase.TheVariants as phases
use Rattle.pmb_device.specs.declared.device_packet.DevicePacket.{DevicePacket}
use Rattle.pmb_device.specs.declared.device_packet.Heard.TheVariants as heard
use Rattle.pmb_device.specs.declared.signal.HostSignal.TheVariants.{Byte}
use Rattle.pmb_device.specs.declared.signal.DeviceSignal.TheVariants as answered
use Rattle.pmb_device.specs.Legs.{Leg, Legs, Outside, Inside, behind_address, leg_place, sent}
use Rattle.pmb_device.specs.Rules.{AnswersByte, IsRead, IsWritten, TakesAll}
use Rattle.pmb_device.specs.machine.Standing.{HasGiven, InDeaf, InLeg, InReply, IsAddressed, IsMute, IsReplied, Kept}
use Rattle.pmb_device.specs.machine.Standing.{StandsIn, no_reply, reply_ended}
use Rattle.pmb_device.specs.DevicePacket.{Hears}
use Rattle.pmb_device.proofs.Signals.{behind_more, given_both, next_byte, waits_both}
use Rattle.pmb_device.proofs.Taken.{front_taken}
use Rattle.pmb_device.proofs.Owns.{own_passes}
use Rattle.pmb_device.proofs.Phases.{ended_stays, going_stays}

module _ (device : DeviceParts) (state : DeviceState) where
  -- ---- a byte of which nothing is taken

  -- the leg is written to the device, and not all bytes were taken
  abbrev Unheard : List Leg → ℕ → List ℕ → Type 0
  Unheard earlier address bytes = Whether (IsWritten device earlier address)
      (TakesAll device (leg_place earlier) [] bytes → ⊥) (Unit {0})

  unheard_more : (earlier : List Leg) (address : ℕ) (bytes : List ℕ) (byte : ℕ) → Unheard earlier address bytes
      → Unheard earlier address (bytes ++ byte ∷ [])
  unheard_more earlier address bytes byte (inl w) =
      inl (w.0, λ all. w.1 (front_taken device (leg_place earlier) [] bytes (byte ∷ []) all))
  unheard_more earlier address bytes byte (inr w) = inr w

  not_taken : (earlier : List Leg) (address : ℕ) (bytes : List ℕ) → Unheard earlier address bytes
      → IsWritten device earlier address
      → TakesAll device (leg_place earlier) [] bytes → ⊥
  not_taken earlier address bytes (inl w) is = w.1
  not_taken earlier address bytes (inr w) is = absurd (w.0 is)

  unheard_answer : (earlier : List Leg) (address : ℕ) (bytes : List ℕ) (byte : ℕ) → Unheard earlier address bytes
      → AnswersByte device state earlier (address ∷ bytes) byte answered.Silent
  unheard_answer earlier address bytes byte (inl w) = inl (w.0, inr (w.1, refl))
  unheard_answer earlier address bytes byte (inr w) = inr (w.0, refl)

  unheard_answers : (k : Kept) (earlier : List Leg) (leg : Leg) (byte : ℕ) → IsAddressed device state k earlier leg
      → AnswersByte device state earlier (sent leg) byte answered.Silent
  unheard_answers k earlier leg byte a =
      subst (λ (bytes : List ℕ). AnswersByte device state earlier bytes byte answered.Silent) (sym a.sent_is)
      (unheard_answer earlier a.address a.bytes byte a.no_bytes)

  addressed_more : (k : Kept) (earlier : List Leg) (leg : Leg) (byte : ℕ) → IsAddressed device state k earlier leg
      → IsAddressed device state k earlier (leg ++ Byte byte ∷ [])
  addressed_more k earlier leg byte a =
      let more = next_byte leg a.address a.bytes byte a.sent_is in record {
        address = a.address;
        bytes = a.bytes ++ byte ∷ [];
        sent_is = more;
        own = own_passes device state k earlier leg (leg ++ Byte byte ∷ []) a.address a.bytes byte a.sent_is more
            (not_taken earlier a.address a.bytes a.no_bytes) a.own;
        no_bytes = unheard_more earlier a.address a.bytes byte a.no_bytes;
      }

  replied_more : (reply : List ℕ) (earlier : List Leg) (leg : Leg) (byte : ℕ) → IsReplied device state reply earlier leg
      → IsReplied device state reply earlier (leg ++ Byte byte ∷ [])
  replied_more reply earlier leg byte r = record {
    address = r.address;
    bytes = r.bytes ++ byte ∷ [];
    sent_is = next_byte leg r.address r.bytes byte r.sent_is;
    body = r.body;
    read = r.read;
    content = r.content;
    answered = r.answered;
    spelled = r.spelled;
  }

  mute_more : (earlier : List Leg) (leg : Leg) (byte : ℕ) (address : ℕ) (bytes : List ℕ) → sent leg ≡ address ∷ bytes
      → IsMute device state earlier leg
      → IsMute device state earlier (leg ++ Byte byte ∷ [])
  mute_more earlier leg byte address bytes here (no_reply never) =
      no_reply
      (λ other more is body read reply ok.
      let same : other ≡ address = cc (sym is ∙ next_byte leg address bytes byte here) in
      never address bytes here body (subst (λ (a : ℕ). IsRead device earlier a body) same read) reply ok)
  mute_more earlier leg byte address bytes here (reply_ended reply replied over) =
      reply_ended reply (replied_more reply earlier leg byte replied)
      (ended_stays device state leg address bytes (Byte byte ∷ []) here over)

  count_byte : (most given : ℕ) (waits : Bool) (byte : ℕ) (signals : Leg) → HasGiven device most given waits signals
      → HasGiven device most given waits (signals ++ Byte byte ∷ [])
  count_byte most given waits byte signals (inl counts) =
      let same = given_both device false signals (Byte byte ∷ []) in
      inl (record {
        given_is = omega (arith, counts.given_is, same);
        waits_is = counts.waits_is
            ∙ sym (waits_both device false signals (Byte byte ∷ []));
      })
  count_byte most given waits byte signals (inr all) =
      let same = given_both device false signals (Byte byte ∷ []) in
      inr (all.0, omega (arith, all.1, same))

  deaf_more : (k : Kept) (earlier : List Leg) (leg : Leg) (byte : ℕ) → InDeaf device state k earlier leg
      → InDeaf device state k earlier (leg ++ Byte byte ∷ [])
  deaf_more k earlier leg byte d = record {
    addressed = addressed_more k earlier leg byte d.addressed;
    mute = mute_more earlier leg byte d.addressed.address d.addressed.bytes d.addressed.sent_is d.mute;
  }

  reply_more : (k : Kept) (reply : List ℕ) (given : ℕ) (waits : Bool) (earlier : List Leg) (leg : Leg) (byte : ℕ)
      → InReply device state k reply given waits earlier leg
      → InReply device state k reply given waits earlier (leg ++ Byte byte ∷ [])
  reply_more k reply given waits earlier leg byte r =
      let here = behind_more leg r.addressed.address r.addressed.bytes (Byte byte ∷ []) r.addressed.sent_is in record {
        addressed = addressed_more k earlier leg byte r.addressed;
        replied = replied_more reply earlier leg byte r.replied;
        goes_on = going_stays device state leg r.addressed.address r.addressed.bytes
            (Byte byte ∷ []) r.addressed.sent_is refl r.goes_on;
        count = subst (HasGiven device (length reply) given waits) (sym here)
            (count_byte (length reply) given waits byte (behind_address leg) r.count);
      }

-- ---- by the phase

silent_in : (phase : LegPhase) (x : DevicePacket) (device : DeviceParts) (state : DeviceState) (earlier : List Leg)
    (leg : Leg) (byte : ℕ)
    → (phase ≡ phases.Outside) ⊎ ((phase ≡ phases.Deaf) ⊎ (phase ≡ phases.Reply))
    → InLeg phase x device state earlier leg
    → AnswersByte device state earlier (sent leg) byte answered.Silent × InLeg phase x device state earlier
    (leg ++ Byte byte ∷ [])
silent_in phases.Outside x device state earlier leg byte some is = absurd is
silent_in phases.Deaf x device state earlier leg byte some is =
    (unheard_answers device state _ earlier leg byte is.addressed, deaf_more device state _ earlier leg byte is)
silent_in phases.Reply x device state earlier leg byte some is =
    (unheard_answers device state _ earlier leg byte is.addressed, reply_more device state _ _ _ _ earlier leg byte is)
silent_in phases.Start x device state earlier leg byte (inl same) is = cc same
silent_in phases.Start x device state earlier leg byte (inr (inl same)) is = cc same
silent_in phases.Start x device state earlier leg byte (inr (inr same)) is = cc same
silent_in phases.Written x device state earlier leg byte (inl same) is = cc same
silent_in phases.Written x device state earlier leg byte (inr (inl same)) is = cc same
silent_in phases.Written x device state earlier leg byte (inr (inr same)) is = cc same

pub hears_nothing : (x : DevicePacket) (byte : ℕ)
    → (x.phase ≡ phases.Outside) ⊎ ((x.phase ≡ phases.Deaf) ⊎ (x.phase ≡ phases.Reply))
    → (device : DeviceParts) (state : DeviceState) (legs : Legs) → StandsIn x device state legs
    → Hears device state legs byte heard.Silent x
hears_nothing x byte some device state Outside stands = (refl, stands)
hears_nothing x byte some device state (Inside earlier leg) stands =
    let here = silent_in x.phase x device state earlier leg byte some stands.behind.1 in
    (here.0, record { known = stands.known; accepted = stands.accepted; behind = (stands.behind.0, here.1) })
