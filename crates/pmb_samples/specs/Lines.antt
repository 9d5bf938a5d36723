-- What becomes of a recording of samples at each line, and what is told.
use Rattle.std.specs.Prelude.{ℕ, ◌==◌, Option, Some, None, if◌then◌else◌, List, ◌++◌, codes, decimal}
use Rattle.pmb_io.specs.Lines.{TextLine}
use Rattle.pmb_recording.specs.Content.{content}
use Rattle.pmb_recording.specs.Recording.{Step as StepOf, quietly, with_trouble}
use Rattle.pmb_recording.specs.Told.{comment}
use Rattle.pmb_recording.specs.declared.recording.Recording.{Recording}
use Rattle.pmb_samples.specs.Rows as rows
use Rattle.pmb_samples.specs.Source as source
use Rattle.pmb_samples.specs.declared.lines.Options.{Options}
use Rattle.pmb_samples.specs.declared.lines.Place.{Place}
use Rattle.pmb_samples.specs.declared.lines.Place.TheVariants as at
use Rattle.pmb_samples.specs.declared.lines.SampleLines.{SampleLines}
use Rattle.pmb_samples.specs.declared.row.Heard.{Heard}
use Rattle.pmb_samples.specs.declared.row.Heard.TheVariants as heard
use Rattle.pmb_samples.specs.declared.row.Why.{Why}
use Rattle.pmb_samples.specs.declared.row.Why.TheVariants as why
use Rattle.pmb_samples.specs.declared.samples.Samples.{Samples}
use Rattle.pmb_wire_packets.specs.declared.wire_reader.WireReader.{WireReader}
use Rattle.pmb_wire_packets.specs.machine.Wired as wired

-- Times are counted from 10 ^ 9 s in front of 0 on, in femtoseconds.
abbrev pub origin : ℕ
origin = 1000000000000000000000000

-- nothing came yet
abbrev pub start : Options → ℕ → ℕ → Samples
start options glitch timeout = record {
  lines = source.begun_by_numbers (source.fresh options);
  reader = wired.fresh glitch timeout origin;
}

abbrev pub recording_of : Samples → Recording
recording_of s = s.reader.packets.recording

-- ---- what a line gives

abbrev pub on : Samples → StepOf WireReader → StepOf Samples
on s step = record { now = record s { reader = step.now }; text = step.text }

abbrev pub in_turn : StepOf Samples → StepOf Samples → StepOf Samples
in_turn first second = record { now = second.now; text = first.text ++ second.text }

abbrev pub with_lines : Samples → SampleLines → Samples
with_lines s lines = record s { lines = lines }

-- a fault in words
abbrev pub why_text : Why → List ℕ
why_text why.MakesNoSense = codes "makes no sense"
why_text why.DoesNotFollow = codes "does not follow"
why_text (why.HasColumns count most) =
    codes "has " ++ (decimal count ++ (codes " columns, not " ++ decimal most))

abbrev pub faulted : Samples → Option (List ℕ) → StepOf Samples
faulted s (Some why) = on s (wired.break_off s.reader s.lines.line why)
faulted s None = quietly s

abbrev pub heard_by : Samples → Heard → StepOf Samples
heard_by s heard.Nothing = quietly s
heard_by s (heard.Moment m) = on s (wired.take s.reader m)
heard_by s (heard.Fault w) = on s (wired.break_off s.reader s.lines.line (why_text w))

-- ---- lines

abbrev pub head_given : Samples → source.HeadStep → StepOf Samples
head_given s step = faulted (with_lines s step.now) step.fault

abbrev pub row_given : Samples → rows.Step → StepOf Samples
row_given s step = heard_by (with_lines s (source.with_rows s.lines step.now)) step.heard

abbrev pub text_at : Place → Samples → List ℕ → StepOf Samples
text_at at.Head s text = head_given s (source.head_line s.lines text)
text_at at.Rows s text = row_given s (rows.hear s.lines.rows s.lines.line text)
text_at at.Over s text = quietly s

abbrev pub said : Samples → List ℕ → StepOf Samples
said s text = text_at s.lines.place s text

abbrev pub take_text : Samples → List ℕ → StepOf Samples
take_text s text =
    if source.says_nothing text then quietly (with_lines s (source.noticed s.lines text)) else
    said (with_lines s (source.noticed s.lines text)) text

-- A line that is too long, or has no LF, can't be read.
abbrev pub unread_at : Place → Samples → StepOf Samples
unread_at at.Head s = faulted s (Some (why_text why.MakesNoSense))
unread_at at.Rows s = row_given s (rows.failed s.lines.rows why.MakesNoSense)
unread_at at.Over s = quietly s

abbrev pub unread : Samples → StepOf Samples
unread s = unread_at s.lines.place s

abbrev pub take_content : Samples → Option (List ℕ) → StepOf Samples
take_content s (Some text) = take_text s text
take_content s None = unread s

-- the next line of the recording
abbrev pub take_line : Samples → TextLine → StepOf Samples
take_line s given = take_content (with_lines s (source.next_line s.lines)) (content (s.lines.line == 0) given)

-- ---- the end

abbrev pub ended : Samples → StepOf Samples
ended s = on s (wired.end s.reader)

-- No line was a heading: no line has that fault.
abbrev pub with_fault : Samples → Samples
with_fault s = record s {
  reader = record s.reader {
    packets = record s.reader.packets { recording = with_trouble s.reader.packets.recording };
  };
}

abbrev pub headless : Samples → StepOf Samples
headless s = record { now = with_fault s; text = comment (codes "no line names SCL and SDA") }

abbrev pub end_at : Place → Samples → StepOf Samples
end_at at.Head s = in_turn (headless s) (ended (headless s).now)
end_at at.Rows s = ended s
end_at at.Over s = ended s

abbrev pub take_end : Samples → StepOf Samples
take_end s = end_at s.lines.place s
