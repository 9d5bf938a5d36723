-- What the bus answered at one place in a list of signals. For `Exchange::new`, `Exchange::next`
-- and the law `runs_are_exchanges`. The legs at a place depend on the signals before it alone
-- (`legs_by`): so whole legs and some bytes of the next one give the legs there, and a list of
-- answered signals is cut wherever its signals are (`Cut`, `SignalPlace`).
use Rattle.std.proofs.Common.{◌≡◌, ℕ, List, [], ◌∷◌, ◌++◌, map, flat_map, refl, sym, ap, ◌∙◌, append_assoc}
use Rattle.std.proofs.lemmas.List.{append-nil}
use Rattle.pmb_registers.specs.State.{InState}
use Rattle.pmb_device.specs.declared.signal.HostSignal.{HostSignal}
use Rattle.pmb_device.specs.declared.signal.HostSignal.TheVariants.{Byte}
use Rattle.pmb_device.specs.Legs.{Leg, Legs, Outside, Inside, with_signal}
use Rattle.pmb_devices.specs.Bus.{AreAnswered, AnsweredSignal, BusAnswers, legs_after}
use Rattle.pmb_devices.proofs.OwnLegs.{byte_leg}
use Rattle.pmb_devices.proofs.Parsing.{closed}
use Rattle.pmb_host.specs.Signals.{leg_signals}
use Rattle.pmb_host.specs.Steps.{GoWell, sent_signals}

-- ---- legs

-- the legs that signals make, after others
abbrev pub legs_by : Legs → List HostSignal → Legs
legs_by legs [] = legs
legs_by legs (signal ∷ more) = legs_by (with_signal legs signal) more

-- the legs of answered signals are those of the signals
pub legs_by_signals : (legs : Legs) (heard : List AnsweredSignal)
    → legs_after legs heard ≡ legs_by legs (sent_signals heard)
legs_by_signals legs [] = refl
legs_by_signals legs (one ∷ heard) = legs_by_signals (with_signal legs one.signal) heard

-- bytes stand in their leg
pub legs_by_bytes : (earlier : List Leg) (leg : Leg) (bytes : List ℕ) (more : List HostSignal)
    → legs_by (Inside earlier leg) (map Byte bytes ++ more) ≡ legs_by (Inside earlier (leg ++ byte_leg bytes)) more
legs_by_bytes earlier leg [] more = ap (λ (l : Leg). legs_by (Inside earlier l) more) (sym (append-nil leg))
legs_by_bytes earlier leg (b ∷ bytes) more =
    legs_by_bytes earlier (leg ++ Byte b ∷ []) bytes more
    ∙ ap (λ (l : Leg). legs_by (Inside earlier l) more) (append_assoc leg (Byte b ∷ []) (byte_leg bytes))

-- START ends the leg before it
pub legs_by_leg : (legs : Legs) (bytes : List ℕ) (more : List HostSignal)
    → legs_by legs (leg_signals bytes ++ more) ≡ legs_by (Inside (closed legs) (byte_leg bytes)) more
legs_by_leg Outside bytes more = legs_by_bytes [] [] bytes more
legs_by_leg (Inside earlier leg) bytes more = legs_by_bytes (earlier ++ leg ∷ []) [] bytes more

-- legs of bytes, after others
abbrev pub behind_legs : Legs → List (List ℕ) → Legs
behind_legs legs [] = legs
behind_legs legs (bytes ∷ more) = behind_legs (Inside (closed legs) (byte_leg bytes)) more

pub legs_by_legs : (legs : Legs) (all : List (List ℕ)) (more : List HostSignal)
    → legs_by legs (flat_map leg_signals all ++ more) ≡ legs_by (behind_legs legs all) more
legs_by_legs legs [] more = refl
legs_by_legs legs (bytes ∷ all) more =
    ap (legs_by legs) (append_assoc (leg_signals bytes) (flat_map leg_signals all) more)
    ∙ legs_by_leg legs bytes (flat_map leg_signals all ++ more)
    ∙ legs_by_legs (Inside (closed legs) (byte_leg bytes)) all more

-- those that ended where one more begins
pub closed_legs : (legs : Legs) (all : List (List ℕ)) → closed (behind_legs legs all) ≡ closed legs ++ map byte_leg all
closed_legs legs [] = sym (append-nil (closed legs))
closed_legs legs (bytes ∷ all) =
    closed_legs (Inside (closed legs) (byte_leg bytes)) all ∙ append_assoc (closed legs) (byte_leg bytes ∷ [])
    (map byte_leg all)

-- After whole legs and some bytes of the next one.
pub legs_at : (all : List (List ℕ)) (bytes : List ℕ)
    → legs_by Outside (flat_map leg_signals all ++ leg_signals bytes) ≡ Inside (map byte_leg all) (byte_leg bytes)
legs_at all bytes =
    legs_by_legs Outside all (leg_signals bytes)
    ∙ ap (legs_by (behind_legs Outside all)) (sym (append-nil (leg_signals bytes)))
    ∙ legs_by_leg (behind_legs Outside all) bytes []
    ∙ ap (λ (ls : List Leg). Inside ls (byte_leg bytes)) (closed_legs Outside all)

-- ---- places

module _ (members : List InState) where
  -- the answer at a place
  pub answer_at : (legs : Legs) (before : List AnsweredSignal) (one : AnsweredSignal) (behind : List AnsweredSignal)
      → AreAnswered members legs (before ++ one ∷ behind)
      → BusAnswers members (legs_by legs (sent_signals before)) one.signal one.result
  answer_at legs [] one behind answered = answered.1
  answer_at legs (first ∷ before) one behind answered =
      answer_at (with_signal legs first.signal) before one behind answered.2

  -- what was answered after some signals
  pub answered_behind : (legs : Legs) (before behind : List AnsweredSignal)
      → AreAnswered members legs (before ++ behind)
      → AreAnswered members (legs_by legs (sent_signals before)) behind
  answered_behind legs [] behind answered = answered
  answered_behind legs (first ∷ before) behind answered =
      answered_behind (with_signal legs first.signal) before behind answered.2

-- A list of answered signals is cut where its signals are.
pub record Cut (heard : List AnsweredSignal) (front back : List HostSignal) : Type 0 where
  -- the answered signals before the cut
  pub first : List AnsweredSignal
  -- and after it
  pub second : List AnsweredSignal
  pub split : heard ≡ first ++ second
  pub first_are : sent_signals first ≡ front
  pub second_are : sent_signals second ≡ back

pub cut : (heard : List AnsweredSignal) (front back : List HostSignal) → sent_signals heard ≡ front ++ back
    → Cut heard front back
cut heard [] back is = record { first = []; second = heard; split = refl; first_are = refl; second_are = is }
cut [] (signal ∷ front) back is = absurd (cc is)
cut (one ∷ heard) (signal ∷ front) back is =
    let rest : sent_signals heard ≡ front ++ back = cc is in
    let here : one.signal ≡ signal = cc is in
    let more = cut heard front back rest in
    let split : heard ≡ more.first ++ more.second = more.split in
    let first_are : sent_signals more.first ≡ front = more.first_are in
    record {
      first = one ∷ more.first;
      second = more.second;
      split = ap (λ (h : List AnsweredSignal). one ∷ h) split;
      first_are = cc;
      second_are = more.second_are;
    }

-- One signal with signals on both sides.
pub record SignalPlace (heard : List AnsweredSignal) (front : List HostSignal) (signal : HostSignal)
    (back : List HostSignal) : Type 0 where
  -- the answered signals before it
  pub before : List AnsweredSignal
  -- the signal, with what was answered
  pub one : AnsweredSignal
  -- the answered signals after it
  pub behind : List AnsweredSignal
  pub split : heard ≡ before ++ one ∷ behind
  pub before_are : sent_signals before ≡ front
  pub signal_is : one.signal ≡ signal
  pub behind_are : sent_signals behind ≡ back

place_in : (heard first second : List AnsweredSignal) (front : List HostSignal) (signal : HostSignal)
    (back : List HostSignal) → heard ≡ first ++ second
    → sent_signals first ≡ front → sent_signals second ≡ signal ∷ back → SignalPlace heard front signal back
place_in heard first [] front signal back split are is = absurd (cc is)
place_in heard first (one ∷ second) front signal back split are is = record {
  before = first;
  one = one;
  behind = second;
  split = split;
  before_are = are;
  signal_is = cc is;
  behind_are = cc is;
}

pub place : (heard : List AnsweredSignal) (front : List HostSignal) (signal : HostSignal) (back : List HostSignal)
    → sent_signals heard ≡ front ++ signal ∷ back → SignalPlace heard front signal back
place heard front signal back is =
    let parts = cut heard front (signal ∷ back) is in
    place_in heard parts.first parts.second front signal back parts.split parts.first_are parts.second_are

-- ---- signals that went well

pub well_parts : (before behind : List AnsweredSignal) → GoWell (before ++ behind) → GoWell before × GoWell behind
well_parts [] behind well = (tt, well)
well_parts (one ∷ before) behind well =
    let more = well_parts before behind well.1 in
    ((well.0, more.0), more.1)
