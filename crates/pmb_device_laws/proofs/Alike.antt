-- Calls on two devices, or two buses, that stand alike go alike, where one call does. For the laws
-- `devices_go_alike` and `buses_go_alike`.
use Rattle.std.proofs.Common.{◌≡◌, List, [], ◌∷◌, refl, subst}
use Rattle.pmb_device.specs.declared.signal.HostSignal.{HostSignal}
use Rattle.pmb_device.specs.declared.signal.DeviceSignal.{DeviceSignal}
use Rattle.pmb_device_laws.specs.Calls.{AreCalls, Call, GoAlike, StandAlike, results, signals}

module _ {X Standing : Type 0} (StandsAt : X → Standing → Type 0)
    (Moves : Standing → HostSignal → DeviceSignal → X → Type 0) where
  -- Two moves from one place by one signal have one answer, and lead to one place.
  pub record MoveAlike (result other : DeviceSignal) (one second : X) : Type 0 where
    pub answer : result ≡ other
    pub stand : StandAlike StandsAt one second

  module _ (one_move : (before : X) (standing : Standing) (signal : HostSignal) (result other : DeviceSignal)
      (one second : X) → StandsAt before standing → Moves standing signal result one
      → Moves standing signal other second
      → MoveAlike result other one second) where
    -- Calls by the same signals, from one place, go alike.
    pub go_alike : (one other : X) (calls others : List (Call X)) → StandAlike StandsAt one other
        → AreCalls StandsAt Moves one calls → AreCalls StandsAt Moves other others → signals calls ≡ signals others
        → GoAlike StandsAt one other calls others
    go_alike one other [] [] alike a b same = record { answers = refl; stand = alike }
    go_alike one other [] (call ∷ others) alike a b same = absurd (cc same)
    go_alike one other (call ∷ calls) [] alike a b same = absurd (cc same)
    go_alike one other (call ∷ calls) (second ∷ others) alike a b same =
        let signal_is : second.signal ≡ call.signal = cc same in
        let rest : signals calls ≡ signals others = cc same in
        let here =
        one_move one alike.standing call.signal call.result second.result call.after second.after alike.here
        (a.0 alike.standing alike.here)
        (subst (λ (signal : HostSignal). Moves alike.standing signal second.result second.after) signal_is
        (b.0 alike.standing alike.there)) in
        let later = go_alike call.after second.after calls others here.stand a.1 b.1 rest in
        let answer_is : call.result ≡ second.result = here.answer in
        let others_are : results calls ≡ results others = later.answers in
        record { answers = cc (answer_is, others_are); stand = later.stand }
