-- A recording takes what its lines give, one read after the other: so its text is that of a reader of wires.
use Rattle.std.proofs.Common.{◌≡◌, ◌∙◌, ℕ, ◌==◌, true, false, Bool, Option, Some, None, List, [], ◌∷◌, ◌++◌, if◌then◌else◌}
use Rattle.std.proofs.Common.{ap, refl, sym, append-nil, append_assoc}
use Rattle.pmb_io.specs.Lines.{TextLine}
use Rattle.pmb_recording.specs.Content.{content}
use Rattle.pmb_recording.specs.Recording.{Step as StepOf, quietly}
use Rattle.pmb_recording.specs.Runs.{run}
use Rattle.pmb_vcd.specs.Words.{words}
use Rattle.pmb_vcd_recording.specs.Lines.{both, ended, fed, given, last_given, recording_of, take_content, take_end, take_line, take_words, with_lines}
use Rattle.pmb_vcd_recording.specs.Reads.{behind_content, behind_line, behind_lines, behind_words, content_reads, fault_reads, line_reads, lines_reads, moment_reads}
use Rattle.pmb_vcd_recording.specs.Reads.{step_reads, words_reads}
use Rattle.pmb_vcd_recording.specs.Source as source
use Rattle.pmb_vcd_recording.specs.declared.lines.Place.TheVariants as at
use Rattle.pmb_vcd_recording.specs.declared.lines.VcdLines.{VcdLines}
use Rattle.pmb_vcd_recording.specs.declared.vcd.Vcd.{Vcd}
use Rattle.pmb_wire_packets.specs.Pieces.{Read}
use Rattle.pmb_wire_packets.specs.declared.wire_reader.WireReader.{WireReader}
use Rattle.pmb_wire_packets.specs.machine.Wired as wired
use Rattle.pmb_wires.specs.declared.moment.Moment.{Moment}

-- ---- reads that are taken one after the other

abbrev pub fed_all : WireReader → List Read → StepOf WireReader
fed_all r [] = quietly r
fed_all r (read ∷ reads) = record {
  now = (fed_all (wired.take_read r read).now reads).now;
  text = (wired.take_read r read).text ++ (fed_all (wired.take_read r read).now reads).text;
}

fed_text : (r : WireReader) (a b : List Read)
    → (fed_all r (a ++ b)).text ≡ (fed_all r a).text ++ (fed_all (fed_all r a).now b).text
fed_text r [] b = refl
fed_text r (read ∷ a) b =
    let s = wired.take_read r read in
    ap (λ (t : List ℕ). s.text ++ t) (fed_text s.now a b)
    ∙ sym (append_assoc s.text (fed_all s.now a).text (fed_all (fed_all s.now a).now b).text)

fed_now : (r : WireReader) (a b : List Read) → (fed_all r (a ++ b)).now ≡ (fed_all (fed_all r a).now b).now
fed_now r [] b = refl
fed_now r (read ∷ a) b = fed_now (wired.take_read r read).now a b

-- and then the end
pub run_fed : (r : WireReader) (reads : List Read)
    → wired.run_text r reads ≡ (fed_all r reads).text ++ (wired.end (fed_all r reads).now).text
run_fed r [] = refl
run_fed r (read ∷ reads) =
    let s = wired.take_read r read in
    ap (λ (t : List ℕ). s.text ++ t) (run_fed s.now reads)
    ∙ sym (append_assoc s.text (fed_all s.now reads).text (wired.end (fed_all s.now reads).now).text)

-- ---- what a step gives

abbrev pub vcd_at : VcdLines → WireReader → Vcd
vcd_at lines reader = record { lines = lines; reader = reader }

-- a recording that has taken some reads, which brought its lines here
pub record Fed (r : WireReader) (s : StepOf Vcd) (lines : VcdLines) (reads : List Read) : Type 0 where
  pub now : s.now ≡ vcd_at lines (fed_all r reads).now
  pub text : s.text ≡ (fed_all r reads).text

both_fed : (v : Vcd) (moment : Option Moment) (fault : Option (List ℕ))
    → Fed v.reader (both v moment fault) v.lines (moment_reads moment (fault_reads v.lines.line fault))
both_fed v None None = record { now = refl; text = refl }
both_fed v None (Some why) = record { now = refl; text = sym (append-nil (wired.break_off v.reader v.lines.line why).text) }
both_fed v (Some m) None = record { now = refl; text = refl }
both_fed v (Some m) (Some why) =
    let first = wired.take v.reader m in
    let second = wired.break_off first.now v.lines.line why in
    record { now = refl; text = ap (λ (t : List ℕ). first.text ++ t) (sym (append-nil second.text)) }

step_fed : (v : Vcd) (s : source.Step) → Fed v.reader (fed v s) s.now (step_reads s)
step_fed v s = both_fed (with_lines v s.now) s.moment s.fault

-- ---- a step behind another

abbrev Follows : WireReader → StepOf Vcd → StepOf Vcd → VcdLines → List Read → Type 0
Follows r first second lines reads = Fed r (record { now = second.now; text = first.text ++ second.text }) lines reads

then_fed : (r : WireReader) (first second : StepOf Vcd) (here there : VcdLines) (a b : List Read) → Fed r first here a
    → Fed (fed_all r a).now second there b → Follows r first second there (a ++ b)
then_fed r first second here there a b one other = record {
  now = other.now ∙ ap (vcd_at there) (sym (fed_now r a b));
  text = ap (λ (t : List ℕ). t ++ second.text) one.text
      ∙ ap (λ (t : List ℕ). (fed_all r a).text ++ t) other.text
      ∙ sym (fed_text r a b);
}

-- ---- words

quiet_fed : (v : Vcd) → Fed v.reader (quietly v) v.lines []
quiet_fed v = record { now = refl; text = refl }

abbrev rest : Bool → Vcd → List (List ℕ) → StepOf Vcd
rest b v others = if b then take_words v others else quietly v

rest_fed : (b : Bool) (v : Vcd) (others : List (List ℕ))
    → Fed v.reader (take_words v others) (behind_words v.lines others) (words_reads v.lines others)
    → Fed v.reader (rest b v others) (if b then behind_words v.lines others else v.lines)
    (if b then words_reads v.lines others else [])
rest_fed true v others is = is
rest_fed false v others is = quiet_fed v

words_fed : (v : VcdLines) (r : WireReader) (ws : List (List ℕ))
    → Fed r (take_words (vcd_at v r) ws) (behind_words v ws) (words_reads v ws)
words_fed v r [] = quiet_fed (vcd_at v r)
words_fed v r (word ∷ others) =
    let s = source.take_word v word in
    let first = step_fed (vcd_at v r) s in
    let next = (fed_all r (step_reads s)).now in
    let second = rest_fed s.reads_on (vcd_at s.now next) others (words_fed s.now next others) in
    then_fed r (fed (vcd_at v r) s) (rest s.reads_on (fed (vcd_at v r) s).now others) s.now
    (if s.reads_on then behind_words s.now others else s.now) (step_reads s)
    (if s.reads_on then words_reads s.now others else []) first
    (rw first.now second)

-- ---- lines

content_fed : (v : VcdLines) (r : WireReader) (text : Option (List ℕ))
    → Fed r (take_content (vcd_at v r) text) (behind_content v text) (content_reads v text)
content_fed v r (Some text) = words_fed v r (words text)
content_fed v r None = step_fed (vcd_at v r) (source.unread v)

line_fed : (v : VcdLines) (r : WireReader) (line : TextLine)
    → Fed r (take_line (vcd_at v r) line) (behind_line v line) (line_reads v line)
line_fed v r line = content_fed (source.next_line v) r (content (v.line == 0) line)

pub lines_fed : (v : VcdLines) (r : WireReader) (lines : List TextLine)
    → Fed r (run take_line take_end recording_of (vcd_at v r) lines) (behind_lines v lines) (lines_reads v lines)
lines_fed v r [] = quiet_fed (vcd_at v r)
lines_fed v r (line ∷ lines) =
    let first = line_fed v r line in
    let here = behind_line v line in
    let next = (fed_all r (line_reads v line)).now in
    let second = lines_fed here next lines in
    then_fed r (take_line (vcd_at v r) line)
    (run take_line take_end recording_of (take_line (vcd_at v r) line).now lines) here (behind_lines here lines)
    (line_reads v line) (lines_reads here lines) first
    (rw first.now second)

-- ---- the end

-- the end of a recording whose head has ended
given_fed : (v : Vcd) (moment : Option Moment) → Fed v.reader (given v moment) v.lines (moment_reads moment [])
given_fed v None = record { now = refl; text = refl }
given_fed v (Some m) = record { now = refl; text = sym (append-nil (wired.take v.reader m).text) }

pub end_fed : (v : VcdLines) (r : WireReader)
    → (last_given (vcd_at v r)).text ++ (ended (last_given (vcd_at v r)).now).text
    ≡ wired.run_text r (step_reads (source.end_at at.Body v))
end_fed v r =
    let s = source.end_at at.Body v in
    let first = given_fed (vcd_at s.now r) s.moment in
    ap (λ (t : List ℕ). t ++ (ended (last_given (vcd_at v r)).now).text) first.text
    ∙ ap (λ (q : Vcd). (fed_all r (step_reads s)).text ++ (ended q).text) first.now
    ∙ sym (run_fed r (step_reads s))

pub run_then : (r : WireReader) (a b : List Read)
    → wired.run_text r (a ++ b) ≡ (fed_all r a).text ++ wired.run_text (fed_all r a).now b
run_then r [] b = refl
run_then r (read ∷ a) b =
    let s = wired.take_read r read in
    ap (λ (t : List ℕ). s.text ++ t) (run_then s.now a b)
    ∙ sym (append_assoc s.text (fed_all s.now a).text (wired.run_text (fed_all s.now a).now b))
