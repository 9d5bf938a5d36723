-- A recording takes what its lines give, one read after the other: so its text is that of a reader of wires.
use Rattle.std.proofs.Common.{◌≡◌, ◌∙◌, ℕ, ◌==◌, true, false, Bool, Option, Some, None, List, [], ◌∷◌, ◌++◌, if◌then◌else◌}
use Rattle.std.proofs.Common.{ap, refl, sym, append-nil, append_assoc}
use Rattle.pmb_io.specs.Lines.{TextLine}
use Rattle.pmb_recording.specs.Content.{content}
use Rattle.pmb_recording.specs.Recording.{Step as StepOf, quietly}
use Rattle.pmb_recording.specs.Runs.{run}
use Rattle.pmb_samples.specs.Lines.{faulted, heard_by, recording_of, said, take_content, take_end, take_line, text_at, unread_at}
use Rattle.pmb_samples.specs.Reads.{behind_lines, content_gives, fault_reads, heard_reads, line_gives, lines_reads, said_gives, text_gives, unread_gives}
use Rattle.pmb_samples.specs.Reads.{quiet}
use Rattle.pmb_samples.specs.Reads as reads
use Rattle.pmb_samples.specs.Rows as rows
use Rattle.pmb_samples.specs.Source as source
use Rattle.pmb_samples.specs.declared.lines.Place.{Place}
use Rattle.pmb_samples.specs.declared.lines.Place.TheVariants as at
use Rattle.pmb_samples.specs.declared.lines.SampleLines.{SampleLines}
use Rattle.pmb_samples.specs.declared.row.Heard.{Heard}
use Rattle.pmb_samples.specs.declared.row.Heard.TheVariants as heard
use Rattle.pmb_samples.specs.declared.row.Why.TheVariants as why
use Rattle.pmb_samples.specs.declared.samples.Samples.{Samples}
use Rattle.pmb_samples.specs.Lines.{why_text}
use Rattle.pmb_wire_packets.specs.Pieces.{Read}
use Rattle.pmb_wire_packets.specs.declared.wire_reader.WireReader.{WireReader}
use Rattle.pmb_wire_packets.specs.machine.Wired as wired

-- ---- reads that are taken one after the other

abbrev pub fed_all : WireReader → List Read → StepOf WireReader
fed_all r [] = quietly r
fed_all r (read ∷ reads) = record {
  now = (fed_all (wired.take_read r read).now reads).now;
  text = (wired.take_read r read).text ++ (fed_all (wired.take_read r read).now reads).text;
}

fed_text : (r : WireReader) (a b : List Read)
    → (fed_all r (a ++ b)).text ≡ (fed_all r a).text ++ (fed_all (fed_all r a).now b).text
fed_text r [] b = refl
fed_text r (read ∷ a) b =
    let s = wired.take_read r read in
    ap (λ (t : List ℕ). s.text ++ t) (fed_text s.now a b)
    ∙ sym (append_assoc s.text (fed_all s.now a).text (fed_all (fed_all s.now a).now b).text)

fed_now : (r : WireReader) (a b : List Read) → (fed_all r (a ++ b)).now ≡ (fed_all (fed_all r a).now b).now
fed_now r [] b = refl
fed_now r (read ∷ a) b = fed_now (wired.take_read r read).now a b

-- and then the end
pub run_fed : (r : WireReader) (reads : List Read)
    → wired.run_text r reads ≡ (fed_all r reads).text ++ (wired.end (fed_all r reads).now).text
run_fed r [] = refl
run_fed r (read ∷ reads) =
    let s = wired.take_read r read in
    ap (λ (t : List ℕ). s.text ++ t) (run_fed s.now reads)
    ∙ sym (append_assoc s.text (fed_all s.now reads).text (wired.end (fed_all s.now reads).now).text)

-- ---- what a line gives

abbrev pub samples_at : SampleLines → WireReader → Samples
samples_at lines reader = record { lines = lines; reader = reader }

-- a recording that has taken some reads, which brought its lines here
pub record Fed (r : WireReader) (s : StepOf Samples) (lines : SampleLines) (given : List Read) : Type 0 where
  pub now : s.now ≡ samples_at lines (fed_all r given).now
  pub text : s.text ≡ (fed_all r given).text

abbrev FedBy : WireReader → StepOf Samples → reads.Step → Type 0
FedBy r s step = Fed r s step.now step.reads

quiet_fed : (v : SampleLines) (r : WireReader) → Fed r (quietly (samples_at v r)) v []
quiet_fed v r = record { now = refl; text = refl }

fault_fed : (v : SampleLines) (r : WireReader) (fault : Option (List ℕ))
    → Fed r (faulted (samples_at v r) fault) v (fault_reads v.line fault)
fault_fed v r None = record { now = refl; text = refl }
fault_fed v r (Some why) = record { now = refl; text = sym (append-nil (wired.break_off r v.line why).text) }

heard_fed : (v : SampleLines) (r : WireReader) (given : Heard)
    → Fed r (heard_by (samples_at v r) given) v (heard_reads v.line given)
heard_fed v r heard.Nothing = record { now = refl; text = refl }
heard_fed v r (heard.Moment m) = record { now = refl; text = sym (append-nil (wired.take r m).text) }
heard_fed v r (heard.Fault w) = record { now = refl; text = sym (append-nil (wired.break_off r v.line (why_text w)).text) }

text_fed : (place : Place) (v : SampleLines) (r : WireReader) (text : List ℕ)
    → FedBy r (text_at place (samples_at v r) text) (text_gives place v text)
text_fed at.Head v r text =
    let step = source.head_line v text in
    fault_fed step.now r step.fault
text_fed at.Rows v r text =
    let step = rows.hear v.rows v.line text in
    heard_fed (source.with_rows v step.now) r step.heard
text_fed at.Over v r text = quiet_fed v r

unread_fed : (place : Place) (v : SampleLines) (r : WireReader)
    → FedBy r (unread_at place (samples_at v r)) (unread_gives place v)
unread_fed at.Head v r = fault_fed v r (Some (why_text why.MakesNoSense))
unread_fed at.Rows v r =
    let step = rows.failed v.rows why.MakesNoSense in
    heard_fed (source.with_rows v step.now) r step.heard
unread_fed at.Over v r = quiet_fed v r

said_fed : (says_nothing : Bool) (v : SampleLines) (r : WireReader) (text : List ℕ)
    → FedBy r (if says_nothing then quietly (samples_at v r) else said (samples_at v r) text)
    (if says_nothing then quiet v else text_gives v.place v text)
said_fed true v r text = quiet_fed v r
said_fed false v r text = text_fed v.place v r text

content_fed : (v : SampleLines) (r : WireReader) (text : Option (List ℕ))
    → FedBy r (take_content (samples_at v r) text) (content_gives v text)
content_fed v r (Some text) = said_fed (source.says_nothing text) (source.noticed v text) r text
content_fed v r None = unread_fed v.place v r

line_fed : (v : SampleLines) (r : WireReader) (line : TextLine)
    → FedBy r (take_line (samples_at v r) line) (line_gives v line)
line_fed v r line = content_fed (source.next_line v) r (content (v.line == 0) line)

-- ---- lines

abbrev Follows : WireReader → StepOf Samples → StepOf Samples → SampleLines → List Read → Type 0
Follows r first second lines given = Fed r (record { now = second.now; text = first.text ++ second.text }) lines given

then_fed : (r : WireReader) (first second : StepOf Samples) (here there : SampleLines) (a b : List Read)
    → Fed r first here a → Fed (fed_all r a).now second there b → Follows r first second there (a ++ b)
then_fed r first second here there a b one other = record {
  now = other.now ∙ ap (samples_at there) (sym (fed_now r a b));
  text = ap (λ (t : List ℕ). t ++ second.text) one.text
      ∙ ap (λ (t : List ℕ). (fed_all r a).text ++ t) other.text
      ∙ sym (fed_text r a b);
}

pub lines_fed : (v : SampleLines) (r : WireReader) (lines : List TextLine)
    → Fed r (run take_line take_end recording_of (samples_at v r) lines) (behind_lines v lines) (lines_reads v lines)
lines_fed v r [] = quiet_fed v r
lines_fed v r (line ∷ lines) =
    let first = line_fed v r line in
    let step = line_gives v line in
    let next = (fed_all r step.reads).now in
    let second = lines_fed step.now next lines in
    then_fed r (take_line (samples_at v r) line)
    (run take_line take_end recording_of (take_line (samples_at v r) line).now lines) step.now
    (behind_lines step.now lines) step.reads (lines_reads step.now lines) first
    (rw first.now second)
