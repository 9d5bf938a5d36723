-- Signals in turn, and more signals after them.
use Rattle.std.proofs.Common.{◌≡◌, ◌∙◌, ℕ, refl, sym, subst, ap, List, [], ◌∷◌, ◌++◌, append_assoc}
use Rattle.std.proofs.lemmas.List.{append-nil}
use Rattle.pmb_bus.specs.declared.event.Event.{Event}
use Rattle.pmb_bus.specs.declared.event.Event.TheVariants as event
use Rattle.pmb_device.specs.declared.signal.HostSignal.{HostSignal}
use Rattle.pmb_device.specs.declared.signal.HostSignal.TheVariants.{Start, Byte, Ask, Ack, Nack, Stop}
use Rattle.pmb_device.specs.declared.signal.DeviceSignal.{DeviceSignal}
use Rattle.pmb_devices.specs.declared.bus.Bus.{Bus}
use Rattle.pmb_devices.specs.Bus.{AnsweredSignal, recorded}
use Rattle.pmb_devices.specs.Signal.{BusStanding, BusStandsAt, BusTakes}
use Rattle.pmb_i2c.specs.Signals.{Gives, TakesInTurn}
use Rattle.pmb_i2c.specs.Wire.{byte_read, on_wire, wire_events}

-- the signals that a bus takes after those that it took
pub takes_both : (xs ys : List AnsweredSignal) (standing : BusStanding) (middle new : Bus)
    → TakesInTurn standing xs middle
    → ((next : BusStanding) → BusStandsAt middle next → TakesInTurn next ys new) → TakesInTurn standing (xs ++ ys) new
takes_both [] ys standing middle new stands more = more standing stands
takes_both (x ∷ xs) ys standing middle new took more =
    (took.0, took.1, λ next stands. takes_both xs ys next middle new (took.2 next stands) more)

-- the events of both
pub wire_both : (xs ys : List AnsweredSignal) → wire_events (xs ++ ys) ≡ wire_events xs ++ wire_events ys
wire_both [] ys = refl
wire_both (x ∷ xs) ys =
    ap (λ (es : List Event). on_wire x.signal x.result ++ es) (wire_both xs ys)
    ∙ sym (append_assoc (on_wire x.signal x.result) (wire_events xs) (wire_events ys))

-- ---- one signal on the wire

-- a byte that is asked for
pub asked_on_wire : (signal : HostSignal) (answer : DeviceSignal) (byte : ℕ) → signal ≡ Ask → byte ≡ byte_read answer
    → event.Byte byte ∷ [] ≡ on_wire signal answer
asked_on_wire signal answer byte is_ask is_byte =
    ap (λ (b : ℕ). event.Byte b ∷ []) is_byte ∙ ap (λ (s : HostSignal). on_wire s answer) (sym is_ask)

-- any other signal
pub other_on_wire : (signal : HostSignal) (answer : DeviceSignal) → (signal ≡ Ask → ⊥)
    → recorded signal answer ≡ on_wire signal answer
other_on_wire Start answer other = refl
other_on_wire (Byte b) answer other = refl
other_on_wire Ask answer other = absurd (other refl)
other_on_wire Ack answer other = refl
other_on_wire Nack answer other = refl
other_on_wire Stop answer other = refl

-- ---- signals

-- two lists that are known
pub both_are : (xs ys us vs : List AnsweredSignal) → xs ≡ us → ys ≡ vs → xs ++ ys ≡ us ++ vs
both_are xs ys us vs x y =
    ap (λ (l : List AnsweredSignal). l ++ ys) x ∙ ap (λ (l : List AnsweredSignal). us ++ l) y

-- no signals
pub gives_none : (bus : Bus) (Told : List Event → Type 0) → Gives (λ heard. heard ≡ []) bus bus Told Told
gives_none bus Told = record {
  heard = [];
  such = refl;
  takes = λ standing stands. stands;
  told = λ earlier told. subst Told (sym (append-nil earlier)) told;
}

-- one signal
pub gives_one : (one : AnsweredSignal) (old new : Bus) (events : List Event) (Before After : List Event → Type 0)
    → events ≡ on_wire one.signal one.result
    → ((standing : BusStanding) → BusStandsAt old standing → BusTakes standing one.signal one.result new)
    → ((earlier : List Event) → Before earlier → After (earlier ++ events))
    → Gives (λ heard. heard ≡ one ∷ []) old new Before After
gives_one one old new events Before After events_are takes told = record {
  heard = one ∷ [];
  such = refl;
  takes = λ standing stands. (new, takes standing stands, λ next there. there);
  told = λ earlier before.
      subst (λ (es : List Event). After (earlier ++ es)) (events_are ∙ sym (append-nil (on_wire one.signal one.result)))
      (told earlier before);
}

-- signals, and more after them
pub gives_both : {Such Then Both : List AnsweredSignal → Type 0} {old middle new : Bus}
    {Before Between After : List Event → Type 0} → Gives Such old middle Before Between
    → Gives Then middle new Between After
    → ((xs ys : List AnsweredSignal) → Such xs → Then ys → Both (xs ++ ys)) → Gives Both old new Before After
gives_both {middle = middle} {new = new} {After = After} first more joined = record {
  heard = first.heard ++ more.heard;
  such = joined first.heard more.heard first.such more.such;
  takes = λ standing stands.
      takes_both first.heard more.heard standing middle new (first.takes standing stands) more.takes;
  told = λ earlier told.
      subst After
      (append_assoc earlier (wire_events first.heard) (wire_events more.heard)
      ∙ ap (λ (es : List Event). earlier ++ es) (sym (wire_both first.heard more.heard)))
      (more.told (earlier ++ wire_events first.heard) (first.told earlier told));
}

-- the same signals, of which something else is said
pub gives_as : {Such Else : List AnsweredSignal → Type 0} {old new : Bus} {Before After : List Event → Type 0}
    → Gives Such old new Before After → ((heard : List AnsweredSignal) → Such heard → Else heard)
    → Gives Else old new Before After
gives_as gives other = record {
  heard = gives.heard;
  such = other gives.heard gives.such;
  takes = gives.takes;
  told = gives.told;
}

-- two signals
pub gives_two : (one other : AnsweredSignal) {old middle new : Bus} {Before Between After : List Event → Type 0}
    → Gives (λ heard. heard ≡ one ∷ []) old middle Before Between
    → Gives (λ heard. heard ≡ other ∷ []) middle new Between After
    → Gives (λ heard. heard ≡ one ∷ other ∷ []) old new Before After
gives_two one other first more =
    gives_both first more (λ xs ys x y. both_are xs ys (one ∷ []) (other ∷ []) x y)
