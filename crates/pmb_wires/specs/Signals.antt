-- What the changes of both wires say on the bus.
use Rattle.std.specs.Prelude.{ℕ, ◌&&◌, ◌||◌, not, false, Bool, Option, Some, None, if◌then◌else◌, List, [], ◌∷◌}
use Rattle.pmb_wires.specs.Changes.{after, nothing, same}
use Rattle.pmb_wires.specs.Kinds.{kind, pair_of}
use Rattle.pmb_wires.specs.Spikes.{filtered}
use Rattle.pmb_wires.specs.declared.level.Level.TheVariants as level
use Rattle.pmb_wires.specs.declared.level.Levels.{Levels}
use Rattle.pmb_wires.specs.declared.moment.Edge.{Edge}
use Rattle.pmb_wires.specs.declared.moment.Moment.{Moment}
use Rattle.pmb_wires.specs.declared.signal.Kind.{Kind}
use Rattle.pmb_wires.specs.declared.signal.Kind.TheVariants as kinds
use Rattle.pmb_wires.specs.declared.signal.Pair.{Pair}
use Rattle.pmb_wires.specs.declared.signal.Place.{Place}
use Rattle.pmb_wires.specs.declared.signal.Signal.{Signal}
use Rattle.pmb_wires.specs.declared.signal.Signal.TheVariants.{Start, Stop, Rise, Fall, Unknown}
use Rattle.pmb_wires.specs.declared.signal.Wire.TheVariants.{Scl, Sda}

-- ---- places

-- the line of a wire's edge; if it has none, of the other's
abbrev pub line_by : Option Edge → Option Edge → ℕ
line_by (Some edge) other = edge.line
line_by None (Some other) = other.line
line_by None None = 0

abbrev pub place_by : ℕ → Option Edge → Option Edge → Place
place_by time edge other = record { line = line_by edge other; time = time }

-- where SCL changes, and SDA
abbrev pub at_scl : Moment → Place
at_scl m = place_by m.time m.scl m.sda

abbrev pub at_sda : Moment → Place
at_sda m = place_by m.time m.sda m.scl

-- ---- signals

-- whether both wires are 0 or 1
abbrev pub known_in : Levels → Bool
known_in levels = not (same (pair_of levels).scl level.Unknown) && not (same (pair_of levels).sda level.Unknown)

-- SDA rises with SCL: a START there may be a repeated one, or one behind a STOP that is lost
abbrev pub both_rise : Pair → Pair → Bool
both_rise before after =
    (same before.scl level.Low && same before.sda level.Low) && same after.sda level.High

abbrev pub signal_by : Kind → Bool → Pair → Pair → Moment → Option Signal
signal_by kinds.Start known before after m = Some (Start (at_sda m))
signal_by kinds.Stop known before after m = Some (Stop (at_sda m))
signal_by kinds.Rise known before after m = Some (Rise (record {
  place = at_scl m;
  is_one = same after.sda level.High;
  with_sda = both_rise before after;
}))
signal_by kinds.Fall known before after m = Some (Fall (at_scl m))
signal_by kinds.SclUnknown known before after m = if known then Some (Unknown Scl (at_scl m)) else None
signal_by kinds.SdaUnknown known before after m = if known then Some (Unknown Sda (at_sda m)) else None
signal_by kinds.Nothing known before after m = None

-- what a change says, between some levels and others: x only where both wires were known before
abbrev pub signal_of : Bool → Levels → Levels → Moment → Option Signal
signal_of known before after m =
    signal_by (kind (pair_of before) (pair_of after)) known (pair_of before) (pair_of after) m

abbrev pub put_signal : Option Signal → List Signal → List Signal
put_signal (Some signal) rest = signal ∷ rest
put_signal None rest = rest

-- what changes say behind some levels, and whether both wires were known once
abbrev pub signals : Levels → Bool → List Moment → List Signal
signals now known [] = []
signals now known (m ∷ ms) =
    put_signal (signal_of known now (after now m) m) (signals (after now m) (known || known_in (after now m)) ms)

-- the signals of a piece of a recording: of what the wires are given, moment by moment, without spikes
abbrev pub signals_of_piece : ℕ → List Moment → List Signal
signals_of_piece glitch ms = signals nothing false (filtered glitch ms)
