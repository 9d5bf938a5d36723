-- Whatever a bus went through since it was made, its devices stay, and their states fit them. For
-- the laws `states_fit` and `replies_are_answers`. The first states fit, and STOP keeps that,
-- stretch by stretch.
use Rattle.std.proofs.Common.{◌≡◌, ℕ, zero, suc, ◌<◌, List, [], ◌∷◌, length, map, get_or, refl, sym, ap, subst, ◌∙◌}
use Rattle.std.proofs.Common.{arith}
use Rattle.std.specs.List.{AllByRecursion, Contains}
use Rattle.pmb_command.specs.Bus.{IsBus, IsDevice}
use Rattle.pmb_command.specs.Parts.{DeviceParts}
use Rattle.pmb_registers.specs.State.{InState}
use Rattle.pmb_device.specs.Legs.{Legs, Outside}
use Rattle.pmb_devices.specs.Bus.{AnsweredSignal, legs_after}
use Rattle.pmb_devices.specs.Replies.{IsState}
use Rattle.pmb_devices.specs.Runs.{Runs, first_members}
use Rattle.pmb_devices.specs.Stops.{EachEnds}
use Rattle.pmb_devices.proofs.FirstStates.{first_fits}
use Rattle.pmb_devices.proofs.FittingStates.{ends_fit}
use Rattle.pmb_devices.proofs.Runs.{first_devices}

-- a device, and a state that fits it
record IsMember (member : InState) : Type 0 where
  device : IsDevice member.device
  state : IsState member.device member.state

first_members_fit : (profile : List DeviceParts) → AllByRecursion IsDevice profile
    → AllByRecursion IsMember (first_members profile)
first_members_fit [] all = tt
first_members_fit (device ∷ profile) all =
    (record { device = all.0; state = first_fits device all.0 }, first_members_fit profile all.1)

-- STOP
end_members : (bus : List DeviceParts) (legs : Legs) (olds news : List InState) → EachEnds bus legs olds news
    → AllByRecursion IsMember olds → AllByRecursion IsMember news
end_members bus legs [] [] ends all = tt
end_members bus legs [] (new ∷ news) ends all = absurd ends
end_members bus legs (old ∷ olds) [] ends all = absurd ends
end_members bus legs (old ∷ olds) (new ∷ news) ends all = (
  record {
    device = subst IsDevice (sym ends.0) all.0.device;
    state = subst (λ (d : DeviceParts). IsState d new.state) (sym ends.0)
        (ends_fit bus old.device legs old.state new.state all.0.device all.0.state ends.1);
  },
  end_members bus legs olds news ends.2 all.1,
)

pub end_devices : (bus : List DeviceParts) (legs : Legs) (olds news : List InState) → EachEnds bus legs olds news
    → map (λ m. m.device) news ≡ map (λ m. m.device) olds
end_devices bus legs [] [] ends = refl
end_devices bus legs [] (new ∷ news) ends = absurd ends
end_devices bus legs (old ∷ olds) [] ends = absurd ends
end_devices bus legs (old ∷ olds) (new ∷ news) ends =
    ap (λ (d : DeviceParts). d ∷ map (λ (m : InState). m.device) news) ends.0
    ∙ ap (λ (ds : List DeviceParts). old.device ∷ ds) (end_devices bus legs olds news ends.2)

run_members : (stretches : List (List AnsweredSignal)) (members now : List InState) → Runs members stretches now
    → AllByRecursion IsMember members
    → AllByRecursion IsMember now
run_members [] members now runs all = subst (AllByRecursion IsMember) (sym runs) all
run_members (stretch ∷ more) members now runs all =
    run_members more runs.1.0 now runs.1.2
    (end_members (map (λ m. m.device) members) (legs_after Outside stretch) members runs.1.0 runs.1.1 all)

run_devices : (stretches : List (List AnsweredSignal)) (members now : List InState) → Runs members stretches now
    → map (λ m. m.device) now ≡ map (λ m. m.device) members
run_devices [] members now runs = ap (map (λ (m : InState). m.device)) runs
run_devices (stretch ∷ more) members now runs =
    run_devices more runs.1.0 now runs.1.2
    ∙ end_devices (map (λ m. m.device) members) (legs_after Outside stretch) members runs.1.0 runs.1.1

one_of : (members : List InState) (k : ℕ) (member : InState) → AllByRecursion IsMember members → k < length members
    → get_or members k member ≡ member → IsMember member
one_of [] k member all inside is = absurd (omega (arith, inside))
one_of (m ∷ members) zero member all inside is = subst IsMember is all.0
one_of (m ∷ members) (suc k) member all inside is = one_of members k member all.1 (omega (arith, inside)) is

-- The devices are those of the profile.
pub devices_stay : (profile : List DeviceParts) (stretches : List (List AnsweredSignal)) (now : List InState)
    → Runs (first_members profile) stretches now
    → map (λ m. m.device) now ≡ profile
devices_stay profile stretches now runs = run_devices stretches (first_members profile) now runs ∙ first_devices profile

-- Each state fits its device.
pub states_fit : (profile : List DeviceParts) (stretches : List (List AnsweredSignal)) (now : List InState)
    (member : InState) → IsBus profile
    → Runs (first_members profile) stretches now → Contains now member → IsState member.device member.state
states_fit profile stretches now member bus runs inside =
    let is = one_of now inside.0 member (run_members stretches (first_members profile) now runs
    (first_members_fit profile bus.devices)) inside.1 inside.2 in
    is.state
