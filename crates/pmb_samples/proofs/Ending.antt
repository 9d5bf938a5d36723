-- The end of the lines, unless the writer fails: for `end` of the `LineTask`.
use Rattle.std.proofs.Common.{◌≡◌, ℕ, Option, Result, Ok, Err, OnOk, List, ◌++◌, refl}
use Rattle.pmb_io.specs.Engines.{PutsOut}
use Rattle.pmb_io.specs.Lines.{TextLine}
use Rattle.pmb_io.specs.Outgoing.{PutsText}
use Rattle.pmb_recording.specs.Runs.{Ends, Stands}
use Rattle.pmb_recording.proofs.Runs.{ends_with}
use Rattle.pmb_samples.specs.Lines.{recording_of, take_end, take_line}
use Rattle.pmb_samples.specs.declared.samples.Samples.{Samples}

pub ends_on_ok : {T F : Type 0} (r : Result T F) (start old new : Samples) (lines : List TextLine) (text : List ℕ)
    (h0 h1 : Option (List ℕ)) (w0 w1 : List ℕ) → Stands take_line take_end recording_of start old lines text
    → OnOk r (new ≡ (take_end old).now) → OnOk r (PutsText h0 w0 h1 w1 (take_end old).text)
    → OnOk r (PutsOut (λ more. Ends take_line take_end recording_of start new lines (text ++ more)) h0 w0 h1 w1)
ends_on_ok (Ok x) start old new lines text h0 h1 w0 w1 stands now puts = record {
  text = (take_end old).text;
  writes = puts;
  holds = ends_with take_line take_end recording_of start old new lines text (take_end old).text stands now refl;
}
ends_on_ok (Err e) start old new lines text h0 h1 w0 w1 stands now puts = tt
