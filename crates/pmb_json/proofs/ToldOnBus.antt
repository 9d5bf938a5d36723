-- What is known late agrees with what is known where the states are shown that the bus may have brought the devices to.
-- For the law `what_is_told_late_holds_on_the_bus`.
use Rattle.std.proofs.Common.{◌≡◌, ℕ, Bool, cond, Option, Some, None, List, inr, refl, sym, ap, ◌∙◌, subst}
use Rattle.std.specs.Option.{is_some, option_and_then, option_map}
use Rattle.std.proofs.lemmas.Option.{none-some}
use Rattle.pmb_command.specs.Parts.{DeviceParts, device_with}
use Rattle.pmb_note.specs.Paging.{selected_mode}
use Rattle.pmb_unknown_start.specs.declared.mode.KnownMode.{KnownMode}
use Rattle.pmb_unknown_start.specs.declared.mode.KnownMode.TheVariants.{Known, Unknown, NoPage}
use Rattle.pmb_unknown_start.specs.declared.start.Start.TheVariants.{AllKnown, Late}
use Rattle.pmb_unknown_start.specs.Certain.{StaysKnown, known_as}
use Rattle.pmb_unknown_start.specs.Known.{known, mode, mode_of, page, page_of}
use Rattle.pmb_unknown_start.specs.Past.{PastData}
use Rattle.pmb_unknown_start.specs.Phase.{last_phase, phase, phase_of, told_since}
use Rattle.pmb_unknown_start.specs.Taken.{as_taken}
use Rattle.pmb_json.specs.OnBus.{ShowsState, StateData}
use Rattle.pmb_json.specs.Pieces.{SameTimes, TellsNoMore}
use Rattle.pmb_json.proofs.PieceMembers.{Tells}
use Rattle.pmb_json.proofs.Pieces.{Agree}

-- a time is itself
same_time : (time : Option (List ℕ)) → TellsNoMore time time
same_time None = tt
same_time (Some time) = refl

pub its_own : (time : Option (List ℕ)) → Tells SameTimes time time
its_own time = inr (same_time time)

-- what is known after `x` of the device at an address holds in a state, which is shown by `y`
pub record Holds (profile : List DeviceParts) (x y : List PastData) (addr : ℕ) (device : DeviceParts)
    (s : StateData) : Type 0 where
  pub page_holds : (number : ℕ) → page Late profile x addr ≡ Some number → s.paging.page ≡ number
  pub mode_holds : (number : ℕ) → mode Late profile x addr ≡ Known number → selected_mode s.paging ≡ Some number
  pub none_holds : mode Late profile x addr ≡ NoPage → selected_mode s.paging ≡ None
  pub phase_holds : (number : ℕ) → phase profile x addr ≡ Some number → s.phase ≡ number
  pub shown : ShowsState profile y addr device s

module _ (profile : List DeviceParts) (x y : List PastData) (states : DeviceParts → StateData)
    (holds : (addr : ℕ) (device : DeviceParts) → device_with addr profile ≡ Some device
    → Holds profile x y addr device (states device)) where
  pages_agree : (addr number : ℕ) (found : Option DeviceParts) → device_with addr profile ≡ found
      → page Late profile x addr ≡ Some number → page AllKnown profile y addr ≡ Some number
  pages_agree addr number None none is =
      absurd (none-some number (sym (ap (page_of (λ device. known Late device x)) none) ∙ is))
  pages_agree addr number (Some device) found is =
      let here = holds addr device found in
      here.shown.page_shown ∙ ap Some (here.page_holds number is)

  modes_agree : (addr : ℕ) (found : Option DeviceParts) → device_with addr profile ≡ found
      → StaysKnown (mode Late profile x addr) (mode AllKnown profile y addr)
  modes_agree addr None none =
      subst (λ (found : Option DeviceParts). StaysKnown (mode_of (λ device. known Late device x) found)
      (mode_of (λ device. known AllKnown device y) found)) (sym none) refl
  modes_agree addr (Some device) found = by (mode Late profile x addr) refl
    where
      here : Holds profile x y addr device (states device)
      here = holds addr device found

      by : (m : KnownMode) → mode Late profile x addr ≡ m → StaysKnown m (mode AllKnown profile y addr)
      by (Known number) is = here.shown.mode_shown ∙ ap known_as (here.mode_holds number is)
      by Unknown is = tt
      by NoPage is = here.shown.mode_shown ∙ ap known_as (here.none_holds is)

  phases_agree : (addr number : ℕ) (found : Option DeviceParts) → device_with addr profile ≡ found
      → phase profile x addr ≡ Some number → phase profile y addr ≡ Some number
  phases_agree addr number None none is =
      absurd (none-some number (sym (ap (option_and_then (phase_of addr x)) none) ∙ is))
  phases_agree addr number (Some device) found is = by device.phases refl
    where
      here : Holds profile x y addr device (states device)
      here = holds addr device found

      last : Option ℕ
      last = last_phase addr (told_since (as_taken device x))

      by : (phases : Option ℕ) → device.phases ≡ phases → phase profile y addr ≡ Some number
      by None none = absurd (none-some number
          (sym (ap (option_and_then (phase_of addr x)) found
          ∙ ap (λ (phases : Option ℕ). cond (is_some phases) last None) none) ∙ is))
      by (Some count) some = here.shown.phase_shown
          ∙ ap (option_map (λ (phases : ℕ). (states device).phase)) some ∙ ap Some (here.phase_holds number is)

  pub all_agree : Agree profile Late AllKnown x y
  all_agree = record {
    pages = λ addr number is. pages_agree addr number (device_with addr profile) refl is;
    phases = λ addr number is. phases_agree addr number (device_with addr profile) refl is;
    modes = λ addr. modes_agree addr (device_with addr profile) refl;
  }
