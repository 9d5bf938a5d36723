-- What would be known, had the capture begun in the middle, is known from the beginning, and where VOUT_MODE is
-- fixed: it stays so after all that went before (Under). For the law
-- `what_is_not_assumed_is_so_from_each_start`.
use Rattle.std.proofs.Common.{◌≡◌, ℕ, Option, Some, None, List, map, inl, refl, ◌∙◌, arith}
use Rattle.std.proofs.lemmas.List.{length-map}
use Rattle.std.proofs.lemmas.Option.{none-some}
use Rattle.pmb_command.specs.Bus.{IsDevice}
use Rattle.pmb_command.specs.Parts.{DeviceParts}
use Rattle.pmb_unknown_start.specs.declared.start.Start.{Start}
use Rattle.pmb_unknown_start.specs.declared.start.Start.TheVariants.{AllKnown, Late, LateFixedMode}
use Rattle.pmb_unknown_start.specs.Past.{PastData}
use Rattle.pmb_unknown_start.specs.Known.{first_known, known, known_by, known_mode, mode_of, page_of}
use Rattle.pmb_unknown_start.specs.Taken.{as_taken}
use Rattle.pmb_unknown_start.specs.Certain.{StaysKnown}
use Rattle.pmb_unknown_start.proofs.Under.{Under, after, late_all, late_fixed, page_after, read_of, same_stays}
use Rattle.pmb_unknown_start.proofs.Under.{within_none}

module _ (device : DeviceParts) (is : IsDevice device) (past : List PastData) where
  first_all : Under (first_known Late device) (first_known AllKnown device)
  first_all = record {
    page = inl (omega (arith, length-map device.modes Some, is.mode_of_each, is.some_page));
    modes = within_none device.pages (map Some device.modes) (length-map device.modes Some ∙ is.mode_of_each);
  }

  first_fixed : Under (first_known Late device) (first_known LateFixedMode device)
  first_fixed = record {
    page = tt;
    modes = within_none device.pages (map Some device.modes) (length-map device.modes Some ∙ is.mode_of_each);
  }

  late_stays : (start : Start) → StaysKnown (known_mode (known_by Late device past)) (known_mode (known_by start device past))
  late_stays AllKnown = read_of (known_by Late device past) (known_by AllKnown device past)
      (after device Late AllKnown late_all past (first_known Late device) (first_known AllKnown device) first_all)
  late_stays Late = same_stays (known_mode (known_by Late device past)) (known_mode (known_by Late device past)) refl
  late_stays LateFixedMode = read_of (known_by Late device past) (known_by LateFixedMode device past)
      (after device Late LateFixedMode late_fixed past (first_known Late device) (first_known LateFixedMode device)
      first_fixed)

pub mode_stays : (start : Start) (past : List PastData) (found : Option DeviceParts)
    → ((device : DeviceParts) → found ≡ Some device → IsDevice device)
    → StaysKnown (mode_of (λ device. known Late device past) found) (mode_of (λ device. known start device past) found)
mode_stays start past None accepted = refl
mode_stays start past (Some device) accepted = late_stays device (accepted device refl) (as_taken device past) start

page_stays : (start : Start) (device : DeviceParts) (past : List PastData) (page : ℕ)
    → (known_by Late device past).page ≡ Some page → (known_by start device past).page ≡ Some page
page_stays AllKnown device past = page_after device Late AllKnown late_all (λ is. absurd (cc is)) past (first_known Late device)
    (first_known AllKnown device) (λ page told. absurd (none-some page told))
page_stays Late device past = λ page told. told
page_stays LateFixedMode device past = page_after device Late LateFixedMode late_fixed (λ is. absurd (cc is)) past (first_known Late device)
    (first_known LateFixedMode device) (λ page told. absurd (none-some page told))

pub page_known : (start : Start) (past : List PastData) (number : ℕ) (found : Option DeviceParts)
    → page_of (λ device. known Late device past) found ≡ Some number
    → page_of (λ device. known start device past) found ≡ Some number
page_known start past number None told = absurd (none-some number told)
page_known start past number (Some device) told = page_stays start device (as_taken device past) number told
