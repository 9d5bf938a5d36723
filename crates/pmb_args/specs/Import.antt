-- What the words of `import` ask for: SOURCE, NAME of `--bus`, HZ of `--rate` and the flag `--unshifted`.
use Rattle.std.specs.Prelude.{◌≡◌, ℕ, Option, Some, None, List, [], codes, unwrap_or, option_map, if◌then◌else◌}
use Rattle.std.specs.Str.{bytes_eq}
use Rattle.clap.specs.Words.{Row, Text, first_of}
use Rattle.pmb_words.specs.Numbers.{decimal_of}
use Rattle.pmb_sigrok_line.specs.declared.address_form.AddressForm.{AddressForm}
use Rattle.pmb_sigrok_line.specs.declared.address_form.AddressForm.TheVariants.{Shifted, Unshifted}
use Rattle.pmb_recorder.specs.Recorded.{Makes, Recorded, OfSigrok, OfSaleae, OfBeagle, OfKernel, OfSmbus, fault_of}
use Rattle.pmb_recorder.specs.declared.source.Source.{Source}
use Rattle.pmb_recorder.specs.declared.source.Source.TheVariants.{Sigrok, Saleae, Beagle, Kernel, Smbus}
use Rattle.pmb_args.specs.declared.import_fault.ImportFault.{ImportFault}
use Rattle.pmb_args.specs.declared.import_fault.ImportFault.TheVariants.{BadSource, Recorder}
use Rattle.pmb_args.specs.Flags.{has_flag}

-- ---- SOURCE and HZ

-- the word of a source
abbrev pub source_word : Source → Text
source_word Sigrok = codes "sigrok"
source_word Saleae = codes "saleae"
source_word Beagle = codes "beagle"
source_word Kernel = codes "kernel"
source_word Smbus = codes "smbus"

-- SOURCE: the source whose word it is
abbrev pub source_of : Text → Option Source
source_of word =
    if bytes_eq word (source_word Sigrok) then Some Sigrok else
    if bytes_eq word (source_word Saleae) then Some Saleae else
    if bytes_eq word (source_word Beagle) then Some Beagle else
    if bytes_eq word (source_word Kernel) then Some Kernel else
    if bytes_eq word (source_word Smbus) then Some Smbus else
    None

-- HZ: a word that is no number counts as 0, which is no rate
abbrev pub hertz_of_word : Text → ℕ
hertz_of_word word = unwrap_or (decimal_of word) 0

-- ---- what is among the matches

-- SOURCE, and no text where there is none
abbrev pub source_in : List Row → Text
source_in rows = unwrap_or (first_of (codes "SOURCE") rows) []

-- NAME, if any
abbrev pub bus_in : List Row → Option Text
bus_in rows = first_of (codes "bus") rows

-- HZ, if any
abbrev pub hertz_in : List Row → Option ℕ
hertz_in rows = option_map hertz_of_word (first_of (codes "rate") rows)

-- addresses are whole bytes with `--unshifted`
abbrev pub form_in : List Row → AddressForm
form_in rows = if has_flag (codes "unshifted") rows then Unshifted else Shifted

-- The matches ask for what wrote the recording to be this.
abbrev pub ImportAsks : List Row → Recorded → Type 0
ImportAsks rows recorded = (source : Source) × (source_of (source_in rows) ≡ Some source)
    × Makes source (bus_in rows) (hertz_in rows) (form_in rows) recorded

-- the first fault of matches that ask for nothing
abbrev pub fault_by : Option Source → List Row → Option ImportFault
fault_by None rows = Some BadSource
fault_by (Some source) rows = option_map Recorder (fault_of source (bus_in rows) (hertz_in rows) (form_in rows))

abbrev pub import_fault_in : List Row → Option ImportFault
import_fault_in rows = fault_by (source_of (source_in rows)) rows

-- ---- SOURCE alone

-- what a source is where no more is said
abbrev pub recorded_by : Source → Recorded
recorded_by Sigrok = OfSigrok None None Shifted
recorded_by Saleae = OfSaleae None
recorded_by Beagle = OfBeagle
recorded_by Kernel = OfKernel None
recorded_by Smbus = OfSmbus None
