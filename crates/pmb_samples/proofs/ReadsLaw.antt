-- The text of samples is the capture of their moments and faults: the law `tells_its_reads`.
use Rattle.std.proofs.Common.{◌≡◌, ◌≢◌, ◌∙◌, ℕ, false, List, ◌++◌, ap, refl, sym}
use Rattle.pmb_io.specs.Lines.{TextLine}
use Rattle.pmb_recording.specs.Runs.{run, whole}
use Rattle.pmb_recording.specs.Told.{no_packets_line}
use Rattle.pmb_samples.specs.Lines.{end_at, ended, headless, origin, recording_of, take_end, take_line}
use Rattle.pmb_samples.specs.Reads.{TellsItsReads, begun, behind_lines, capture_at, lines_reads, no_heading_line}
use Rattle.pmb_samples.specs.declared.lines.Place.{Place}
use Rattle.pmb_samples.specs.declared.lines.Place.TheVariants as at
use Rattle.pmb_samples.specs.declared.lines.SampleLines.{SampleLines}
use Rattle.pmb_samples.specs.declared.samples.Samples.{Samples}
use Rattle.pmb_samples.proofs.FedLaw.{fed_all, lines_fed, run_fed, samples_at}
use Rattle.pmb_samples.proofs.HeadlessLaw.{count_of_fails, fails_end, fails_text, lines_in, told_of_fails}
use Rattle.pmb_samples.proofs.RisesLaw.{all_rise}
use Rattle.pmb_wire_packets.specs.Packets.{Told, Outside, packets_in, told, told_texts}
use Rattle.pmb_wire_packets.specs.Pieces.{EachRises, Read, capture_of, items}
use Rattle.pmb_wire_packets.specs.declared.wire_reader.WireReader.{WireReader}
use Rattle.pmb_wire_packets.specs.machine.Wired as wired

-- the law of a reader of wires
abbrev pub ReadsPieces : Type 0
ReadsPieces = (glitch timeout origin : ℕ) (reads : List Read) → EachRises reads
    → wired.run_text (wired.fresh glitch timeout origin) reads ≡ capture_of glitch timeout origin reads

-- lines, and then their end
abbrev whole_text : SampleLines → WireReader → List TextLine → List ℕ
whole_text v r lines = (whole take_line take_end recording_of (samples_at v r) lines).text

whole_is : (v : SampleLines) (r : WireReader) (lines : List TextLine)
    → whole_text v r lines ≡ (fed_all r (lines_reads v lines)).text
    ++ (take_end (samples_at (behind_lines v lines) (fed_all r (lines_reads v lines)).now)).text
whole_is v r lines =
    let fed = lines_fed v r lines in
    ap (λ (t : List ℕ). t ++ (take_end (run take_line take_end recording_of (samples_at v r) lines).now).text) fed.text
    ∙ ap (λ (w : Samples). (fed_all r (lines_reads v lines)).text ++ (take_end w).text) fed.now

-- the end of a recording that has a heading, or needs none
ends_at : (place : Place) (v : SampleLines) (r : WireReader) → place ≢ at.Head
    → (end_at place (samples_at v r)).text ≡ (wired.end r).text
ends_at at.Head v r headed = absurd (headed refl)
ends_at at.Rows v r headed = refl
ends_at at.Over v r headed = refl

run_is : (v : SampleLines) (r : WireReader) (lines : List TextLine) → (behind_lines v lines).place ≢ at.Head
    → whole_text v r lines ≡ wired.run_text r (lines_reads v lines)
run_is v r lines headed =
    let now = behind_lines v lines in
    let a = lines_reads v lines in
    whole_is v r lines
    ∙ ap (λ (t : List ℕ). (fed_all r a).text ++ t) (ends_at now.place now (fed_all r a).now headed)
    ∙ sym (run_fed r a)

-- ---- by where the lines end

abbrev told_of : ℕ → ℕ → List Read → List Told
told_of glitch timeout reads = told timeout Outside (items glitch reads)

headed_is : ReadsPieces → (v : SampleLines) (glitch timeout : ℕ) (lines : List TextLine)
    → (behind_lines v lines).place ≢ at.Head
    → whole_text v (wired.fresh glitch timeout origin) lines ≡ capture_of glitch timeout origin (lines_reads v lines)
headed_is reads_pieces v glitch timeout lines headed =
    run_is v (wired.fresh glitch timeout origin) lines headed
    ∙ reads_pieces glitch timeout origin (lines_reads v lines) (all_rise v lines)

headless_is : (v : SampleLines) (glitch timeout : ℕ) (lines : List TextLine) → (behind_lines v lines).place ≡ at.Head
    → whole_text v (wired.fresh glitch timeout origin) lines
    ≡ capture_at at.Head (told_of glitch timeout (lines_reads v lines))
headless_is v glitch timeout lines is =
    let r = wired.fresh glitch timeout origin in
    let now = behind_lines v lines in
    let reads = lines_reads v lines in
    let fail = (lines_in v lines is).fail in
    let q = (fed_all r reads).now in
    let front : (fed_all r reads).text ≡ told_texts origin (told_of glitch timeout reads) =
    fails_text glitch timeout 0 0 false reads fail ∙ sym (told_of_fails glitch timeout reads fail) in
    let back : (ended (headless (samples_at now q)).now).text ≡ no_packets_line (packets_in (told_of glitch timeout reads)) =
    fails_end glitch timeout 0 0 false now reads fail
    ∙ ap no_packets_line (sym (count_of_fails glitch timeout reads fail)) in
    whole_is v r lines
    ∙ ap (λ (p : Place). (fed_all r reads).text ++ (end_at p (samples_at now q)).text) is
    ∙ ap (λ (t : List ℕ). t ++ (no_heading_line at.Head ++ (ended (headless (samples_at now q)).now).text)) front
    ∙ ap (λ (t : List ℕ). told_texts origin (told_of glitch timeout reads) ++ (no_heading_line at.Head ++ t)) back

by_place : ReadsPieces → (v : SampleLines) (glitch timeout : ℕ) (lines : List TextLine) (place : Place)
    → (behind_lines v lines).place ≡ place
    → whole_text v (wired.fresh glitch timeout origin) lines
    ≡ capture_at place (told_of glitch timeout (lines_reads v lines))
by_place reads_pieces v glitch timeout lines at.Head is = headless_is v glitch timeout lines is
by_place reads_pieces v glitch timeout lines at.Rows is =
    headed_is reads_pieces v glitch timeout lines (λ head. (cc (head, is)))
by_place reads_pieces v glitch timeout lines at.Over is =
    headed_is reads_pieces v glitch timeout lines (λ head. (cc (head, is)))

pub tells_reads : ReadsPieces → TellsItsReads
tells_reads reads_pieces options glitch timeout lines =
    by_place reads_pieces (begun options) glitch timeout lines (behind_lines (begun options) lines).place refl
