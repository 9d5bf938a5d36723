-- What is asked of a reader that may be missing.
use Rattle.std.specs.Prelude.{◌≡◌, Option, Some, None}
use Rattle.pmb_capture_reader.specs.Work.{Acts}
use Rattle.pmb_capture_reader.specs.declared.reader.CaptureReader.{CaptureReader}
use Rattle.pmb_capture_reader.specs.declared.work.Work.{Work}

-- The reader did what was asked; or there is none, and nothing is answered.
abbrev pub ActsIn : Option CaptureReader → Option CaptureReader → Work → Work → Type 0
ActsIn (Some old) (Some new) work done = Acts old new work done
ActsIn (Some old) None work done = ⊥
ActsIn None new work done = (new ≡ None) × (done ≡ record work { answer = None })
