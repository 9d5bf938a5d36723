-- What becomes of a reader of wires at each time, and what is told.
use Rattle.std.specs.Prelude.{ℕ, Option, Some, None, List, [], ◌∷◌, ◌++◌}
use Rattle.pmb_recording.specs.Recording.{Step as StepOf, quietly}
use Rattle.pmb_wire_packets.specs.Pieces.{Read, Gives, Fails}
use Rattle.pmb_wire_packets.specs.declared.wire_packets.WirePackets.{WirePackets}
use Rattle.pmb_wire_packets.specs.declared.wire_reader.WireReader.{WireReader}
use Rattle.pmb_wire_packets.specs.machine.Steps as steps
use Rattle.pmb_wires.specs.declared.moment.Moment.{Moment}
use Rattle.pmb_wires.specs.declared.moment.Moments.{Moments}
use Rattle.pmb_wires.specs.declared.signal.Signal.{Signal}
use Rattle.pmb_wires.specs.machine.Tracker as trackers
use Rattle.pmb_wires.specs.machine.Waiting as filters

abbrev pub fresh : ℕ → ℕ → ℕ → WireReader
fresh glitch timeout origin = record {
  packets = steps.start timeout origin;
  filter = filters.fresh glitch;
  tracker = trackers.unknown_yet;
}

-- a step of the packets is one of the reader
abbrev pub on : WireReader → StepOf WirePackets → StepOf WireReader
on r step = record { now = record r { packets = step.now }; text = step.text }

-- a step behind another
abbrev pub in_turn : StepOf WireReader → StepOf WireReader → StepOf WireReader
in_turn first second = record { now = second.now; text = first.text ++ second.text }

-- ---- changes

abbrev pub told_signal : WireReader → Option Signal → StepOf WireReader
told_signal r (Some signal) = on r (steps.take r.packets signal)
told_signal r None = quietly r

abbrev pub tracked : WireReader → trackers.Told → StepOf WireReader
tracked r told = told_signal (record r { tracker = told.now }) told.told

abbrev pub change : WireReader → Option Moment → StepOf WireReader
change r (Some m) = tracked r (trackers.take r.tracker m)
change r None = quietly r

abbrev pub changes_of : WireReader → Moments → StepOf WireReader
changes_of r ms = in_turn (change r ms.first) (change (change r ms.first).now ms.second)

-- ---- what is read

abbrev pub given : WireReader → filters.Given → StepOf WireReader
given r moments = changes_of (record r { filter = moments.now }) moments.given

abbrev pub take : WireReader → Moment → StepOf WireReader
take r m = given r (filters.take r.filter m)

abbrev pub without_levels : StepOf WireReader → StepOf WireReader
without_levels step = record { now = record step.now { tracker = trackers.unknown_yet }; text = step.text }

abbrev pub piece_ends : WireReader → StepOf WireReader
piece_ends r = without_levels (given r (filters.end r.filter))

abbrev pub break_off : WireReader → ℕ → List ℕ → StepOf WireReader
break_off r line why = in_turn (piece_ends r) (on (piece_ends r).now (steps.broken (piece_ends r).now.packets line why))

abbrev pub end : WireReader → StepOf WireReader
end r = in_turn (piece_ends r) (on (piece_ends r).now (steps.end (piece_ends r).now.packets))

abbrev pub take_read : WireReader → Read → StepOf WireReader
take_read r (Gives m) = take r m
take_read r (Fails line why) = break_off r line why

-- what is told of all that is read, and of the end
abbrev pub run_text : WireReader → List Read → List ℕ
run_text r [] = (end r).text
run_text r (read ∷ reads) = (take_read r read).text ++ run_text (take_read r read).now reads
