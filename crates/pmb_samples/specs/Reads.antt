-- All that the lines of samples give, in a list: moments of both wires, and faults between them.
use Rattle.std.specs.Prelude.{◌≡◌, ℕ, ◌==◌, Option, Some, None, if◌then◌else◌, List, [], ◌∷◌, ◌++◌, codes}
use Rattle.pmb_io.specs.Lines.{TextLine}
use Rattle.pmb_recording.specs.Content.{content}
use Rattle.pmb_recording.specs.Runs.{whole}
use Rattle.pmb_recording.specs.Told.{comment, no_packets_line}
use Rattle.pmb_samples.specs.Lines.{origin, recording_of, start, take_end as end_step, take_line, why_text}
use Rattle.pmb_samples.specs.Rows as rows
use Rattle.pmb_samples.specs.Source as source
use Rattle.pmb_samples.specs.declared.lines.Options.{Options}
use Rattle.pmb_samples.specs.declared.lines.Place.{Place}
use Rattle.pmb_samples.specs.declared.lines.Place.TheVariants as at
use Rattle.pmb_samples.specs.declared.lines.SampleLines.{SampleLines}
use Rattle.pmb_samples.specs.declared.row.Heard.{Heard}
use Rattle.pmb_samples.specs.declared.row.Heard.TheVariants as heard
use Rattle.pmb_samples.specs.declared.row.Why.TheVariants as why
use Rattle.pmb_wire_packets.specs.Packets.{Told, Outside, packets_in, told, told_texts}
use Rattle.pmb_wire_packets.specs.Pieces.{Read, Gives, Fails, items}

-- ---- of a line and all lines

-- what becomes of the lines, and what one gives
pub record Step : Type 0 where
  pub now : SampleLines
  pub reads : List Read

abbrev pub quiet : SampleLines → Step
quiet v = record { now = v; reads = [] }

abbrev pub fault_reads : ℕ → Option (List ℕ) → List Read
fault_reads line (Some why) = Fails line why ∷ []
fault_reads line None = []

abbrev pub heard_reads : ℕ → Heard → List Read
heard_reads line heard.Nothing = []
heard_reads line (heard.Moment m) = Gives m ∷ []
heard_reads line (heard.Fault w) = Fails line (why_text w) ∷ []

abbrev pub head_gives : source.HeadStep → Step
head_gives step = record { now = step.now; reads = fault_reads step.now.line step.fault }

abbrev pub row_gives : SampleLines → rows.Step → Step
row_gives v step = record { now = source.with_rows v step.now; reads = heard_reads v.line step.heard }

abbrev pub text_gives : Place → SampleLines → List ℕ → Step
text_gives at.Head v text = head_gives (source.head_line v text)
text_gives at.Rows v text = row_gives v (rows.hear v.rows v.line text)
text_gives at.Over v text = quiet v

abbrev pub said_gives : SampleLines → List ℕ → Step
said_gives v text = if source.says_nothing text then quiet v else text_gives v.place v text

abbrev pub unread_gives : Place → SampleLines → Step
unread_gives at.Head v = record { now = v; reads = Fails v.line (why_text why.MakesNoSense) ∷ [] }
unread_gives at.Rows v = row_gives v (rows.failed v.rows why.MakesNoSense)
unread_gives at.Over v = quiet v

abbrev pub content_gives : SampleLines → Option (List ℕ) → Step
content_gives v (Some text) = said_gives (source.noticed v text) text
content_gives v None = unread_gives v.place v

abbrev pub line_gives : SampleLines → TextLine → Step
line_gives v given = content_gives (source.next_line v) (content (v.line == 0) given)

abbrev pub lines_reads : SampleLines → List TextLine → List Read
lines_reads v [] = []
lines_reads v (line ∷ lines) = (line_gives v line).reads ++ lines_reads (line_gives v line).now lines

abbrev pub behind_lines : SampleLines → List TextLine → SampleLines
behind_lines v [] = v
behind_lines v (line ∷ lines) = behind_lines (line_gives v line).now lines

-- ---- what is told of them

-- no line was a heading
abbrev pub no_heading_line : Place → List ℕ
no_heading_line at.Head = comment (codes "no line names SCL and SDA")
no_heading_line at.Rows = []
no_heading_line at.Over = []

-- the lines that are told, and at the end that there is no heading, or no packet
abbrev pub capture_at : Place → List Told → List ℕ
capture_at place lines = told_texts origin lines ++ (no_heading_line place ++ no_packets_line (packets_in lines))

-- nothing came yet
abbrev pub begun : Options → SampleLines
begun options = source.begun_by_numbers (source.fresh options)

-- The text of samples is the capture of their moments and faults. `glitch` and `timeout` are those of a reader of wires.
abbrev pub TellsItsReads : Type 0
TellsItsReads = (options : Options) (glitch timeout : ℕ) (lines : List TextLine)
    → (whole take_line end_step recording_of (start options glitch timeout) lines).text
    ≡ capture_at (behind_lines (begun options) lines).place
    (told timeout Outside (items glitch (lines_reads (begun options) lines)))
