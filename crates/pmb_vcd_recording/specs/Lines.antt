-- What becomes of a recording in a VCD at each line, and what is told.
use Rattle.std.specs.Prelude.{ℕ, ◌==◌, Bool, Option, Some, None, if◌then◌else◌, List, [], ◌∷◌, ◌++◌, codes}
use Rattle.pmb_io.specs.Lines.{TextLine}
use Rattle.pmb_recording.specs.Content.{content}
use Rattle.pmb_recording.specs.Recording.{Step as StepOf, quietly, with_trouble}
use Rattle.pmb_recording.specs.Told.{comment}
use Rattle.pmb_recording.specs.declared.recording.Recording.{Recording}
use Rattle.pmb_vcd.specs.Words.{words}
use Rattle.pmb_vcd_recording.specs.Source as source
use Rattle.pmb_vcd_recording.specs.declared.lines.Place.{Place}
use Rattle.pmb_vcd_recording.specs.declared.lines.Place.TheVariants as at
use Rattle.pmb_vcd_recording.specs.declared.lines.VcdLines.{VcdLines}
use Rattle.pmb_vcd_recording.specs.declared.vcd.Vcd.{Vcd}
use Rattle.pmb_wire_packets.specs.declared.wire_reader.WireReader.{WireReader}
use Rattle.pmb_wire_packets.specs.machine.Wired as wired
use Rattle.pmb_wires.specs.declared.moment.Moment.{Moment}

-- nothing came yet
abbrev pub start : Option (List ℕ) → Option (List ℕ) → ℕ → ℕ → Bool → Vcd
start scl sda glitch timeout is_simulated = record {
  lines = source.fresh scl sda is_simulated;
  reader = wired.fresh glitch timeout 0;
}

abbrev pub recording_of : Vcd → Recording
recording_of v = v.reader.packets.recording

-- ---- what a word or a line gives

abbrev pub on : Vcd → StepOf WireReader → StepOf Vcd
on v step = record { now = record v { reader = step.now }; text = step.text }

-- a step behind another
abbrev pub in_turn : StepOf Vcd → StepOf Vcd → StepOf Vcd
in_turn first second = record { now = second.now; text = first.text ++ second.text }

abbrev pub with_lines : Vcd → VcdLines → Vcd
with_lines v lines = record v { lines = lines }

abbrev pub given : Vcd → Option Moment → StepOf Vcd
given v (Some m) = on v (wired.take v.reader m)
given v None = quietly v

abbrev pub faulted : Vcd → Option (List ℕ) → StepOf Vcd
faulted v (Some why) = on v (wired.break_off v.reader v.lines.line why)
faulted v None = quietly v

abbrev pub both : Vcd → Option Moment → Option (List ℕ) → StepOf Vcd
both v moment fault = in_turn (given v moment) (faulted (given v moment).now fault)

abbrev pub fed : Vcd → source.Step → StepOf Vcd
fed v step = both (with_lines v step.now) step.moment step.fault

-- ---- lines

abbrev pub take_word : Vcd → List ℕ → StepOf Vcd
take_word v word = fed v (source.take_word v.lines word)

abbrev pub take_words : Vcd → List (List ℕ) → StepOf Vcd
take_words v [] = quietly v
take_words v (word ∷ others) =
    in_turn (take_word v word)
    (if (source.take_word v.lines word).reads_on then take_words (take_word v word).now others else
    quietly (take_word v word).now)

-- what a line holds: too long, or without its LF, it can't be read
abbrev pub take_content : Vcd → Option (List ℕ) → StepOf Vcd
take_content v (Some text) = take_words v (words text)
take_content v None = fed v (source.unread v.lines)

-- the next line of the recording
abbrev pub take_line : Vcd → TextLine → StepOf Vcd
take_line v given = take_content (with_lines v (source.next_line v.lines)) (content (v.lines.line == 0) given)

-- ---- the end

abbrev pub ended : Vcd → StepOf Vcd
ended v = on v (wired.end v.reader)

-- The head has not ended: no line has that fault.
abbrev pub with_fault : Vcd → Vcd
with_fault v = record v {
  reader = record v.reader {
    packets = record v.reader.packets { recording = with_trouble v.reader.packets.recording };
  };
}

abbrev pub headless : Vcd → StepOf Vcd
headless v = record { now = with_fault v; text = comment (codes "no $enddefinitions") }

-- What the wires got at the last time.
abbrev pub last_given : Vcd → StepOf Vcd
last_given v =
    given (with_lines v (source.end_at at.Body v.lines).now) (source.end_at at.Body v.lines).moment

abbrev pub end_at : Place → Vcd → StepOf Vcd
end_at at.Head v = in_turn (headless v) (ended (headless v).now)
end_at at.Body v = in_turn (last_given v) (ended (last_given v).now)
end_at at.Over v = ended v

abbrev pub take_end : Vcd → StepOf Vcd
take_end v = end_at v.lines.place v
