-- One line more: for the `LineTask`, whose transfers stand inside of it.
use Rattle.std.proofs.Common.{◌≡◌, ◌∙◌, ℕ, Option, Result, OnOk, List, [], ◌∷◌, ◌++◌, ap}
use Rattle.std.proofs.lemmas.Result.{on_ok_weaker}
use Rattle.pmb_io.specs.Engines.{PutsOut}
use Rattle.pmb_io.specs.Lines.{TextLine}
use Rattle.pmb_io.specs.Outgoing.{PutsText}
use Rattle.pmb_recording.specs.Runs.{Stands}
use Rattle.pmb_recording.proofs.Runs.{stands_more}
use Rattle.pmb_smbus.specs.Transfers.{take_end, take_line}
use Rattle.pmb_smbus.specs.declared.transfers.Transfers.{Transfers}

pub line_more : (start old inside new : Transfers) (lines : List TextLine) (line : TextLine) (text : List ℕ)
    → {T F : Type 0} (result : Result T F) (h0 h1 : Option (List ℕ)) (w0 w1 : List ℕ)
    → Stands take_line take_end (λ (s : Transfers). s.recording) start old lines text → inside ≡ old
    → new ≡ (take_line inside line).now → OnOk result (PutsText h0 w0 h1 w1 (take_line inside line).text)
    → OnOk result (PutsOut (λ (more : List ℕ). Stands take_line take_end (λ (s : Transfers). s.recording) start new
    (lines ++ line ∷ []) (text ++ more)) h0 w0 h1 w1)
line_more start old inside new lines line text {T} {F} result h0 h1 w0 w1 stands same now puts =
    on_ok_weaker result (λ (puts : PutsText h0 w0 h1 w1 (take_line inside line).text). record {
      text = (take_line inside line).text;
      writes = puts;
      holds = stands_more take_line take_end (λ (s : Transfers). s.recording) start old new lines line text
          (take_line inside line).text stands (now ∙ ap (λ (s : Transfers). (take_line s line).now) same)
          (ap (λ (s : Transfers). (take_line s line).text) same);
    }) puts
