-- Lines in turn, for the `LineTask` of each source: a machine that stands where some lines brought it
-- stands where one more brings it, and its text for all lines and their end is what is to be written.
use Rattle.std.proofs.Common.{◌≡◌, ℕ, Option, Result, Ok, Err, OnOk, List, [], ◌∷◌, ◌++◌, refl, sym, ◌∙◌, ap}
use Rattle.std.proofs.Common.{append_assoc, append-nil}
use Rattle.pmb_io.specs.Engines.{PutsOut}
use Rattle.pmb_io.specs.Lines.{TextLine, lines_of}
use Rattle.pmb_io.specs.Outgoing.{PutsText}
use Rattle.pmb_recording.specs.Content.{most_line}
use Rattle.pmb_recording.specs.Recording.{Step}
use Rattle.pmb_recording.specs.Runs as runs
use Rattle.pmb_recording.specs.declared.recording.Recording.{Recording}

module _ {S : Type 0} (take : S → TextLine → Step S) (end : S → Step S) (recording : S → Recording) where
  -- one line more
  pub run-push : (start : S) (lines : List TextLine) (line : TextLine)
      → runs.run take end recording start (lines ++ line ∷ [])
      ≡ runs.told_before take end recording (runs.run take end recording start lines).text
      (take (runs.run take end recording start lines).now line)
  run-push start [] line = ap (λ (text : List ℕ). record { now = (take start line).now; text = text })
      (append-nil (take start line).text)
  run-push start (first ∷ lines) line =
      let step = take start first in
      ap (runs.told_before take end recording step.text) (run-push step.now lines line)
      ∙ ap (λ (text : List ℕ). record {
        now = (take (runs.run take end recording step.now lines).now line).now;
        text = text;
      }) (sym (append_assoc step.text (runs.run take end recording step.now lines).text
      (take (runs.run take end recording step.now lines).now line).text))

  -- nothing came
  pub stands_fresh : (start : S) → runs.Stands take end recording start start [] []
  stands_fresh start = record { state = refl; told = refl }

  -- a line is taken
  pub stands_more : (start old new : S) (lines : List TextLine) (line : TextLine) (text more : List ℕ)
      → runs.Stands take end recording start old lines text → new ≡ (take old line).now → more ≡ (take old line).text
      → runs.Stands take end recording start new (lines ++ line ∷ []) (text ++ more)
  stands_more start old new lines line text more stands now told =
      let pushed = run-push start lines line in record {
        state = now ∙ ap (λ (s : S). (take s line).now) stands.state ∙ sym (ap (λ (s : Step S). s.now) pushed);
        told = ap (λ (t : List ℕ). text ++ t) (told ∙ ap (λ (s : S). (take s line).text) stands.state)
            ∙ ap (λ (t : List ℕ). t ++ (take (runs.run take end recording start lines).now line).text) stands.told
            ∙ sym (ap (λ (s : Step S). s.text) pushed);
      }

  -- the end is taken
  pub ends_with : (start old new : S) (lines : List TextLine) (text more : List ℕ)
      → runs.Stands take end recording start old lines text → new ≡ (end old).now → more ≡ (end old).text
      → runs.Ends take end recording start new lines (text ++ more)
  ends_with start old new lines text more stands now told = record {
    state = now ∙ ap (λ (s : S). (end s).now) stands.state;
    told = ap (λ (t : List ℕ). text ++ t) (told ∙ ap (λ (s : S). (end s).text) stands.state)
        ∙ ap (λ (t : List ℕ). t ++ (end (runs.run take end recording start lines).now).text) stands.told;
  }

  -- the text for all lines is what is to be written
  pub imports_all : (start now : S) (bytes text : List ℕ)
      → runs.Ends take end recording start now (lines_of most_line bytes) text
      → runs.Imports take end recording start (runs.tally_of take end recording now) bytes text
  imports_all start now bytes text ends = record {
    text_is = ends.told;
    tally_is = ap (runs.tally_of take end recording) ends.state;
  }

  -- A line is taken by a step, unless the writer fails: the answer to `take_line` of a `LineTask`.
  pub takes_on_ok : {T F : Type 0} (r : Result T F) (start old new : S) (lines : List TextLine) (line : TextLine)
      (text : List ℕ) (h0 h1 : Option (List ℕ)) (w0 w1 : List ℕ)
      → runs.Stands take end recording start old lines text → OnOk r (new ≡ (take old line).now)
      → OnOk r (PutsText h0 w0 h1 w1 (take old line).text)
      → OnOk r (PutsOut (λ more. runs.Stands take end recording start new (lines ++ line ∷ []) (text ++ more)) h0 w0 h1
      w1)
  takes_on_ok (Ok x) start old new lines line text h0 h1 w0 w1 stands now puts = record {
    text = (take old line).text;
    writes = puts;
    holds = stands_more start old new lines line text (take old line).text stands now refl;
  }
  takes_on_ok (Err e) start old new lines line text h0 h1 w0 w1 stands now puts = tt

  -- The same where the state is known also if it fails.
  pub takes : {T F : Type 0} (r : Result T F) (start old new : S) (lines : List TextLine) (line : TextLine)
      (text : List ℕ) (h0 h1 : Option (List ℕ)) (w0 w1 : List ℕ)
      → runs.Stands take end recording start old lines text → new ≡ (take old line).now
      → OnOk r (PutsText h0 w0 h1 w1 (take old line).text)
      → OnOk r (PutsOut (λ more. runs.Stands take end recording start new (lines ++ line ∷ []) (text ++ more)) h0 w0 h1
      w1)
  takes {F = F} (Ok x) start old new lines line text h0 h1 w0 w1 stands now puts =
      takes_on_ok {F = F} (Ok x) start old new lines line text h0 h1 w0 w1 stands now puts
  takes (Err e) start old new lines line text h0 h1 w0 w1 stands now puts = tt
