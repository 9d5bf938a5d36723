-- What is to be written for a recording, by what wrote it: the texts of its lines in turn, and that of its end.
use Rattle.pmb_io.specs.Runs.{Job}
use Rattle.pmb_io.specs.declared.tally.Tally.{Tally}
use Rattle.pmb_recorder.specs.Recorded.{Recorded, OfSigrok, OfSaleae, OfBeagle, OfKernel, OfSmbus}
use Rattle.pmb_recording.specs.Runs.{importing}
use Rattle.pmb_beagle.specs.Packets as beagle
use Rattle.pmb_kernel.specs.Transfers as kernel
use Rattle.pmb_saleae.specs.Packets as saleae
use Rattle.pmb_sigrok.specs.Packets as sigrok
use Rattle.pmb_smbus.specs.Transfers as smbus

abbrev pub importing_of : Recorded → Job Tally
importing_of (OfSigrok bus rate form) =
    importing sigrok.take_line sigrok.take_end (λ s. s.recording) (sigrok.start bus rate form)
importing_of (OfSaleae bus) = importing saleae.take_line saleae.take_end (λ s. s.recording) (saleae.start bus)
importing_of OfBeagle = importing beagle.take_line beagle.take_end (λ b. b.recording) beagle.start
importing_of (OfKernel bus) = importing kernel.take_line kernel.take_end (λ k. k.recording) (kernel.start bus)
importing_of (OfSmbus bus) = importing smbus.take_line smbus.take_end (λ s. s.recording) (smbus.start bus)
