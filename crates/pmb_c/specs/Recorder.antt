-- What C says of a recording, and what is done with it.
use Rattle.std.specs.Prelude.{◌≡◌, ℕ, ◌==◌, if◌then◌else◌, Option, Some, None, option_map, Result, List, length}
use Rattle.pmb_c.specs.Result.{result_of}
use Rattle.pmb_c.specs.Whole.{Stays}
use Rattle.pmb_c.specs.declared.recorder.PmbRecorder.{PmbRecorder}
use Rattle.pmb_c.specs.declared.result.PmbResult.{PmbResult}
use Rattle.pmb_firmware.specs.declared.call_status.CallStatus.{CallStatus}
use Rattle.pmb_firmware.specs.declared.call_status.CallStatus.TheVariants as status
use Rattle.pmb_import.specs.Importing.{importing_of}
use Rattle.pmb_in_memory.specs.Put.{PutsUnder}
use Rattle.pmb_in_memory.specs.declared.fault.WholeFault.{WholeFault}
use Rattle.pmb_in_memory.specs.declared.put.Put.{Put}
use Rattle.pmb_recorder.specs.Recorded.{Makes, Recorded, fault_of}
use Rattle.pmb_recorder.specs.declared.fault.RecorderFault.{RecorderFault}
use Rattle.pmb_recorder.specs.declared.fault.RecorderFault.TheVariants as fault
use Rattle.pmb_recorder.specs.declared.source.Source.{Source}
use Rattle.pmb_recorder.specs.declared.source.Source.TheVariants.{Sigrok, Saleae, Beagle, Kernel, Smbus}
use Rattle.pmb_sigrok_line.specs.declared.address_form.AddressForm.{AddressForm}
use Rattle.pmb_sigrok_line.specs.declared.address_form.AddressForm.TheVariants.{Shifted, Unshifted}

-- the numbers of what wrote a recording
abbrev pub source_of : ℕ → Option Source
source_of number =
    if number == 0 then Some Sigrok else (
    if number == 1 then Some Saleae else (
    if number == 2 then Some Beagle else (
    if number == 3 then Some Kernel else (
    if number == 4 then Some Smbus else None))))

abbrev pub form_of : ℕ → Option AddressForm
form_of number =
    if number == 0 then Some Shifted else (
    if number == 1 then Some Unshifted else None)

-- the bus that is read, if it is named, or nothing where the number says neither
abbrev pub bus_of : ℕ → List ℕ → Option (Option (List ℕ))
bus_of number name =
    if number == 0 then Some None else (
    if number == 1 then Some (Some name) else None)

-- 0 where the rate is not known
abbrev pub hertz_of : ℕ → Option ℕ
hertz_of rate = if rate == 0 then None else Some rate

-- Each number says something, and together they make what wrote the recording.
pub record Names (recorder : PmbRecorder) (name : List ℕ) (recorded : Recorded) : Type 0 where
  pub source : Source
  pub form : AddressForm
  pub bus : Option (List ℕ)
  pub source_is : source_of recorder.source ≡ Some source
  pub form_is : form_of recorder.unshifted ≡ Some form
  pub bus_is : bus_of recorder.names_bus name ≡ Some bus
  pub makes : Makes source bus (hertz_of recorder.rate) form recorded

-- the status of a fault of what they say together
abbrev pub status_of : RecorderFault → CallStatus
status_of fault.BadRate = status.BadRate
status_of fault.SigrokOnly = status.SigrokOnly
status_of fault.NoBus = status.NoBus

abbrev pub refused_by : Option Source → Option AddressForm → Option (Option (List ℕ)) → Option ℕ → Option CallStatus
refused_by (Some source) (Some form) (Some bus) hertz = option_map status_of (fault_of source bus hertz form)
refused_by (Some source) (Some form) None hertz = Some status.BadChoice
refused_by (Some source) None bus hertz = Some status.BadChoice
refused_by None form bus hertz = Some status.BadSource

-- The first fault: no recorder has that number, another number says nothing in its field, or what they say together is
-- none of a recording.
abbrev pub refused : PmbRecorder → List ℕ → Option CallStatus
refused recorder name =
    refused_by (source_of recorder.source) (form_of recorder.unshifted) (bus_of recorder.names_bus name) (hertz_of recorder.rate)

-- No recording is read so, and this is why.
pub record Refused (recorder : PmbRecorder) (name : List ℕ) (why : CallStatus) : Type 0 where
  pub names_none : (recorded : Recorded) → ¬ (Names recorder name recorded)
  pub first : refused recorder name ≡ Some why

-- The capture of the recording stands in the room, or there was no memory, and what is told says which; or no recording
-- is read so, and nothing was done.
pub data ImportsInto (recorder : PmbRecorder) (name recording before after : List ℕ) (told : PmbResult) : Type 0 where
  Imports : (recorded : Recorded) (outcome : Result Put WholeFault) → Names recorder name recorded
      → PutsUnder (importing_of recorded) recording before after outcome → told ≡ result_of (length before) outcome
      → ImportsInto recorder name recording before after told
  Refuses : (why : CallStatus) → Refused recorder name why → Stays why before after told
      → ImportsInto recorder name recording before after told
