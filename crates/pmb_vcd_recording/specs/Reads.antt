-- All that the lines of a VCD give, in a list: moments of both wires, and faults between them.
use Rattle.std.specs.Prelude.{◌≡◌, ℕ, ◌==◌, Bool, Option, Some, None, if◌then◌else◌, List, [], ◌∷◌, ◌++◌, codes}
use Rattle.pmb_io.specs.Lines.{TextLine}
use Rattle.pmb_recording.specs.Content.{content}
use Rattle.pmb_recording.specs.Runs.{whole}
use Rattle.pmb_recording.specs.Told.{comment, no_packets_line}
use Rattle.pmb_vcd.specs.Words.{words}
use Rattle.pmb_vcd_recording.specs.Lines.{recording_of, start, take_end as end_step, take_line}
use Rattle.pmb_vcd_recording.specs.Source.{Step, fresh, next_line, take_end, take_word, unread}
use Rattle.pmb_vcd_recording.specs.declared.lines.Place.{Place}
use Rattle.pmb_vcd_recording.specs.declared.lines.Place.TheVariants as at
use Rattle.pmb_vcd_recording.specs.declared.lines.VcdLines.{VcdLines}
use Rattle.pmb_wire_packets.specs.Packets.{Told, Outside, packets_in, told, told_texts}
use Rattle.pmb_wire_packets.specs.Pieces.{Read, Gives, Fails, items}
use Rattle.pmb_wires.specs.declared.moment.Moment.{Moment}

-- ---- of a word, a line and all lines

abbrev pub fault_reads : ℕ → Option (List ℕ) → List Read
fault_reads line (Some why) = Fails line why ∷ []
fault_reads line None = []

abbrev pub moment_reads : Option Moment → List Read → List Read
moment_reads (Some m) reads = Gives m ∷ reads
moment_reads None reads = reads

abbrev pub step_reads : Step → List Read
step_reads s = moment_reads s.moment (fault_reads s.now.line s.fault)

abbrev pub words_reads : VcdLines → List (List ℕ) → List Read
words_reads v [] = []
words_reads v (word ∷ others) =
    step_reads (take_word v word)
    ++ (if (take_word v word).reads_on then words_reads (take_word v word).now others else [])

abbrev pub behind_words : VcdLines → List (List ℕ) → VcdLines
behind_words v [] = v
behind_words v (word ∷ others) =
    if (take_word v word).reads_on then behind_words (take_word v word).now others else (take_word v word).now

abbrev pub content_reads : VcdLines → Option (List ℕ) → List Read
content_reads v (Some text) = words_reads v (words text)
content_reads v None = step_reads (unread v)

abbrev pub behind_content : VcdLines → Option (List ℕ) → VcdLines
behind_content v (Some text) = behind_words v (words text)
behind_content v None = (unread v).now

abbrev pub line_reads : VcdLines → TextLine → List Read
line_reads v given = content_reads (next_line v) (content (v.line == 0) given)

abbrev pub behind_line : VcdLines → TextLine → VcdLines
behind_line v given = behind_content (next_line v) (content (v.line == 0) given)

abbrev pub lines_reads : VcdLines → List TextLine → List Read
lines_reads v [] = []
lines_reads v (line ∷ lines) = line_reads v line ++ lines_reads (behind_line v line) lines

abbrev pub behind_lines : VcdLines → List TextLine → VcdLines
behind_lines v [] = v
behind_lines v (line ∷ lines) = behind_lines (behind_line v line) lines

-- of all lines and their end
abbrev pub all_reads : VcdLines → List TextLine → List Read
all_reads v lines = lines_reads v lines ++ step_reads (take_end (behind_lines v lines))

-- ---- what is told of them

-- a head that has not ended
abbrev pub no_head : Place → List ℕ
no_head at.Head = comment (codes "no $enddefinitions")
no_head at.Body = []
no_head at.Over = []

-- the lines that are told, and at the end that there is no head, or no packet
abbrev pub capture_at : Place → List Told → List ℕ
capture_at place lines = told_texts 0 lines ++ (no_head place ++ no_packets_line (packets_in lines))

-- The text of a VCD is the capture of its moments and faults. `glitch` and `timeout` are those of a reader of wires.
abbrev pub TellsItsReads : Type 0
TellsItsReads = (scl sda : Option (List ℕ)) (glitch timeout : ℕ) (is_simulated : Bool) (lines : List TextLine)
    → (whole take_line end_step recording_of (start scl sda glitch timeout is_simulated) lines).text
    ≡ capture_at (behind_lines (fresh scl sda is_simulated) lines).place
    (told timeout Outside (items glitch (all_reads (fresh scl sda is_simulated) lines)))
