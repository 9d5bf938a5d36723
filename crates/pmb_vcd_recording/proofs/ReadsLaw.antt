-- The text of a VCD is the capture of its moments and faults: the law `tells_its_reads`.
use Rattle.std.proofs.Common.{◌≡◌, ◌≢◌, ◌∙◌, ℕ, false, Bool, Option, List, ◌++◌, ap, refl, sym, append-nil}
use Rattle.pmb_io.specs.Lines.{TextLine}
use Rattle.pmb_recording.specs.Runs.{run, whole}
use Rattle.pmb_recording.specs.Told.{no_packets_line}
use Rattle.pmb_vcd_recording.specs.Lines.{end_at, ended, headless, recording_of, take_end, take_line}
use Rattle.pmb_vcd_recording.specs.Reads.{TellsItsReads, all_reads, behind_lines, capture_at, lines_reads, no_head, step_reads}
use Rattle.pmb_vcd_recording.specs.Source as source
use Rattle.pmb_vcd_recording.specs.declared.lines.Place.{Place}
use Rattle.pmb_vcd_recording.specs.declared.lines.Place.TheVariants as at
use Rattle.pmb_vcd_recording.specs.declared.lines.VcdLines.{VcdLines}
use Rattle.pmb_vcd_recording.specs.declared.vcd.Vcd.{Vcd}
use Rattle.pmb_vcd_recording.proofs.FedLaw.{end_fed, fed_all, lines_fed, run_then, vcd_at}
use Rattle.pmb_vcd_recording.proofs.HeadlessLaw.{count_of_fails, fails_end, fails_text, lines_in, told_of_fails}
use Rattle.pmb_vcd_recording.proofs.RisesLaw.{all_rise}
use Rattle.pmb_wire_packets.specs.Packets.{Told, Outside, packets_in, told, told_texts}
use Rattle.pmb_wire_packets.specs.Pieces.{EachRises, Read, capture_of, items}
use Rattle.pmb_wire_packets.specs.declared.wire_reader.WireReader.{WireReader}
use Rattle.pmb_wire_packets.specs.machine.Wired as wired

-- the law of a reader of wires
abbrev pub ReadsPieces : Type 0
ReadsPieces = (glitch timeout origin : ℕ) (reads : List Read) → EachRises reads
    → wired.run_text (wired.fresh glitch timeout origin) reads ≡ capture_of glitch timeout origin reads

-- the end of a recording whose head has ended
ends_at : (place : Place) (v : VcdLines) (r : WireReader) → v.place ≡ place → place ≢ at.Head
    → (end_at place (vcd_at v r)).text ≡ wired.run_text r (step_reads (source.end_at place v))
ends_at at.Head v r is headed = absurd (headed refl)
ends_at at.Body v r is headed = end_fed v r
ends_at at.Over v r is headed = refl

-- lines, and then their end
abbrev whole_text : VcdLines → WireReader → List TextLine → List ℕ
whole_text v r lines = (whole take_line take_end recording_of (vcd_at v r) lines).text

whole_is : (v : VcdLines) (r : WireReader) (lines : List TextLine)
    → whole_text v r lines ≡ (fed_all r (lines_reads v lines)).text
    ++ (take_end (vcd_at (behind_lines v lines) (fed_all r (lines_reads v lines)).now)).text
whole_is v r lines =
    let fed = lines_fed v r lines in
    ap (λ (t : List ℕ). t ++ (take_end (run take_line take_end recording_of (vcd_at v r) lines).now).text) fed.text
    ∙ ap (λ (w : Vcd). (fed_all r (lines_reads v lines)).text ++ (take_end w).text) fed.now

run_is : (v : VcdLines) (r : WireReader) (lines : List TextLine) → (behind_lines v lines).place ≢ at.Head
    → whole_text v r lines ≡ wired.run_text r (all_reads v lines)
run_is v r lines headed =
    let now = behind_lines v lines in
    let a = lines_reads v lines in
    whole_is v r lines
    ∙ ap (λ (t : List ℕ). (fed_all r a).text ++ t) (ends_at now.place now (fed_all r a).now refl headed)
    ∙ sym (run_then r a (step_reads (source.take_end now)))

-- ---- by where the lines end

abbrev told_of : ℕ → ℕ → List Read → List Told
told_of glitch timeout reads = told timeout Outside (items glitch reads)

headed_is : ReadsPieces → (scl sda : Option (List ℕ)) (glitch timeout : ℕ) (is_simulated : Bool)
    (lines : List TextLine) → (behind_lines (source.fresh scl sda is_simulated) lines).place ≢ at.Head
    → whole_text (source.fresh scl sda is_simulated) (wired.fresh glitch timeout 0) lines
    ≡ capture_of glitch timeout 0 (all_reads (source.fresh scl sda is_simulated) lines)
headed_is reads_pieces scl sda glitch timeout is_simulated lines headed =
    let v = source.fresh scl sda is_simulated in
    run_is v (wired.fresh glitch timeout 0) lines headed
    ∙ reads_pieces glitch timeout 0 (all_reads v lines) (all_rise v lines tt)

-- nothing is read at the end of a head
no_last : (v : VcdLines) (lines : List TextLine) → (behind_lines v lines).place ≡ at.Head
    → all_reads v lines ≡ lines_reads v lines
no_last v lines is =
    let now = behind_lines v lines in
    ap (λ (p : Place). lines_reads v lines ++ step_reads (source.end_at p now)) is ∙ append-nil (lines_reads v lines)

headless_is : (v : VcdLines) (glitch timeout : ℕ) (lines : List TextLine) → (behind_lines v lines).place ≡ at.Head
    → whole_text v (wired.fresh glitch timeout 0) lines
    ≡ capture_at at.Head (told_of glitch timeout (all_reads v lines))
headless_is v glitch timeout lines is =
    let r = wired.fresh glitch timeout 0 in
    let now = behind_lines v lines in
    let reads = lines_reads v lines in
    let fail = (lines_in v lines is).fail in
    let q = (fed_all r reads).now in
    let front : (fed_all r reads).text ≡ told_texts 0 (told_of glitch timeout reads) =
    fails_text glitch timeout 0 0 false reads fail ∙ sym (told_of_fails glitch timeout reads fail) in
    let back : (ended (headless (vcd_at now q)).now).text ≡ no_packets_line (packets_in (told_of glitch timeout reads)) =
    fails_end glitch timeout 0 0 false now reads fail
    ∙ ap no_packets_line (sym (count_of_fails glitch timeout reads fail)) in
    whole_is v r lines
    ∙ ap (λ (p : Place). (fed_all r reads).text ++ (end_at p (vcd_at now q)).text) is
    ∙ ap (λ (t : List ℕ). t ++ (no_head at.Head ++ (ended (headless (vcd_at now q)).now).text)) front
    ∙ ap (λ (t : List ℕ). told_texts 0 (told_of glitch timeout reads) ++ (no_head at.Head ++ t)) back
    ∙ ap (λ (l : List Read). capture_at at.Head (told_of glitch timeout l)) (sym (no_last v lines is))

by_place : ReadsPieces → (scl sda : Option (List ℕ)) (glitch timeout : ℕ) (is_simulated : Bool) (lines : List TextLine)
    (place : Place) → (behind_lines (source.fresh scl sda is_simulated) lines).place ≡ place
    → whole_text (source.fresh scl sda is_simulated) (wired.fresh glitch timeout 0) lines
    ≡ capture_at place (told_of glitch timeout (all_reads (source.fresh scl sda is_simulated) lines))
by_place reads_pieces scl sda glitch timeout is_simulated lines at.Head is =
    headless_is (source.fresh scl sda is_simulated) glitch timeout lines is
by_place reads_pieces scl sda glitch timeout is_simulated lines at.Body is =
    headed_is reads_pieces scl sda glitch timeout is_simulated lines (λ head. (cc (head, is)))
by_place reads_pieces scl sda glitch timeout is_simulated lines at.Over is =
    headed_is reads_pieces scl sda glitch timeout is_simulated lines (λ head. (cc (head, is)))

pub tells_reads : ReadsPieces → TellsItsReads
tells_reads reads_pieces scl sda glitch timeout is_simulated lines =
    by_place reads_pieces scl sda glitch timeout is_simulated lines
    (behind_lines (source.fresh scl sda is_simulated) lines).place refl
