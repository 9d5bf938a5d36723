-- What wrote a recording, with all that its reader is told.
use Rattle.std.specs.Prelude.{◌≡◌, ℕ, ◌&&◌, ◌||◌, not, true, false, Bool, Option, Some, None, is_some, option_copied}
use Rattle.std.specs.Prelude.{option_map, if◌then◌else◌, List}
use Rattle.pmb_sigrok_line.specs.Shown.{hertz_of}
use Rattle.pmb_sigrok_line.specs.Time.{rate_of}
use Rattle.pmb_sigrok_line.specs.declared.address_form.AddressForm.{AddressForm}
use Rattle.pmb_sigrok_line.specs.declared.address_form.AddressForm.TheVariants.{Shifted, Unshifted}
use Rattle.pmb_sigrok_line.specs.declared.rate.Rate.{Rate}
use Rattle.pmb_recorder.specs.declared.fault.RecorderFault.{RecorderFault}
use Rattle.pmb_recorder.specs.declared.fault.RecorderFault.TheVariants.{BadRate, SigrokOnly, NoBus}
use Rattle.pmb_recorder.specs.declared.recorder.Recorder.{Recorder}
use Rattle.pmb_recorder.specs.declared.recorder.Recorder.TheVariants as code
use Rattle.pmb_recorder.specs.declared.source.Source.{Source}
use Rattle.pmb_recorder.specs.declared.source.Source.TheVariants.{Sigrok, Saleae, Beagle, Kernel, Smbus}

-- What wrote a recording, the bus that is read where it is named, and of sigrok the rate where it is known and how
-- addresses are written.
pub data Recorded : Type 0 where
  OfSigrok : (bus : Option (List ℕ)) → (rate : Option Rate) → (form : AddressForm) → Recorded
  OfSaleae : (bus : Option (List ℕ)) → Recorded
  OfBeagle : Recorded
  OfKernel : (bus : Option (List ℕ)) → Recorded
  OfSmbus : (bus : Option (List ℕ)) → Recorded

-- the same as it is kept
abbrev pub recorded_of : Recorder → Recorded
recorded_of (code.Sigrok bus rate form) = OfSigrok (option_copied bus) rate form
recorded_of (code.Saleae bus) = OfSaleae (option_copied bus)
recorded_of code.Beagle = OfBeagle
recorded_of (code.Kernel bus) = OfKernel (option_copied bus)
recorded_of (code.Smbus bus) = OfSmbus (option_copied bus)

-- These parts make it: for another source than sigrok there is no rate, and addresses have seven bits.
abbrev pub Makes : Source → Option (List ℕ) → Option ℕ → AddressForm → Recorded → Type 0
Makes source bus hertz form (OfSigrok name rate written) =
    (source ≡ Sigrok) × (name ≡ bus) × (option_map hertz_of rate ≡ hertz) × (written ≡ form)
Makes source bus hertz form (OfSaleae name) = (source ≡ Saleae) × (name ≡ bus) × (hertz ≡ None) × (form ≡ Shifted)
Makes source bus hertz form OfBeagle = (source ≡ Beagle) × (bus ≡ None) × (hertz ≡ None) × (form ≡ Shifted)
Makes source bus hertz form (OfKernel name) = (source ≡ Kernel) × (name ≡ bus) × (hertz ≡ None) × (form ≡ Shifted)
Makes source bus hertz form (OfSmbus name) = (source ≡ Smbus) × (name ≡ bus) × (hertz ≡ None) × (form ≡ Shifted)

-- ---- the first fault of the parts

abbrev pub is_bad_rate : Option ℕ → Bool
is_bad_rate (Some hertz) = not (is_some (rate_of hertz))
is_bad_rate None = false

abbrev pub is_sigrok : Source → Bool
is_sigrok Sigrok = true
is_sigrok Saleae = false
is_sigrok Beagle = false
is_sigrok Kernel = false
is_sigrok Smbus = false

abbrev pub is_beagle : Source → Bool
is_beagle Sigrok = false
is_beagle Saleae = false
is_beagle Beagle = true
is_beagle Kernel = false
is_beagle Smbus = false

abbrev pub is_unshifted : AddressForm → Bool
is_unshifted Shifted = false
is_unshifted Unshifted = true

abbrev pub fault_of : Source → Option (List ℕ) → Option ℕ → AddressForm → Option RecorderFault
fault_of source bus hertz form =
    if is_bad_rate hertz then Some BadRate else
    if not (is_sigrok source) && (is_some hertz || is_unshifted form) then Some SigrokOnly else
    if is_beagle source && is_some bus then Some NoBus else
    None
