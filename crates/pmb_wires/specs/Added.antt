-- Spikes that are added to what the wires are given.
use Rattle.std.specs.Prelude.{◌≡◌, ◌<◌, ◌≤◌, ◌+◌, ℕ, ◌&&◌, true, false, Bool, Option, Some, None, is_none}
use Rattle.std.specs.Prelude.{List, [], ◌∷◌, ◌++◌}
use Rattle.pmb_wires.specs.Changes.{after, changes, nothing, same}
use Rattle.pmb_wires.specs.Spikes.{next_sda}
use Rattle.pmb_wires.specs.declared.level.Levels.{Levels}
use Rattle.pmb_wires.specs.declared.moment.Edge.{Edge}
use Rattle.pmb_wires.specs.declared.moment.Moment.{Moment}

-- the levels behind some moments
abbrev pub levels_behind : Levels → List Moment → Levels
levels_behind now [] = now
levels_behind now (m ∷ ms) = levels_behind (after now m) ms

-- a moment without its edge of SDA, and with one
abbrev pub calm : Moment → Moment
calm m = record { time = m.time; scl = m.scl; sda = None }

abbrev pub with_sda : Moment → Edge → Moment
with_sda m edge = record { time = m.time; scl = m.scl; sda = Some edge }

-- whether SDA has no edge at any of these
abbrev pub is_calm : List Moment → Bool
is_calm [] = true
is_calm (m ∷ ms) = is_none m.sda && is_calm ms

-- When SDA changes last: at a moment with no change behind it.
abbrev pub time_if : Option Edge → ℕ → Option ℕ
time_if (Some edge) time = Some time
time_if None time = None

abbrev pub last_by : Option ℕ → Option ℕ → Moment → Option ℕ
last_by (Some next) last m = last
last_by None last m = time_if m.sda m.time

abbrev pub last_sda : List Moment → Option ℕ
last_sda [] = None
last_sda (m ∷ ms) = last_by (next_sda ms) (last_sda ms) m

-- so far from each other that no run between them is a spike, where both are there
abbrev pub IsFar : ℕ → Option ℕ → Option ℕ → Type 0
IsFar glitch (Some from) (Some to) = from + glitch ≤ to
IsFar glitch (Some from) None = Unit {0}
IsFar glitch None to = Unit {0}

-- Moments with a spike on SDA, and without it: at `up` SDA leaves its level, and at `down` it gets that again. SCL may
-- change at both, and between them.
abbrev pub with_spike : List Moment → Moment → Edge → List Moment → Moment → Edge → List Moment → List Moment
with_spike front up leaves mid down returns back =
    front ++ (with_sda up leaves ∷ mid ++ with_sda down returns ∷ back)

abbrev pub without_spike : List Moment → Moment → List Moment → Moment → List Moment → List Moment
without_spike front up mid down back = front ++ (calm up ∷ mid ++ calm down ∷ back)

-- It is a spike inside a run: shorter than `glitch`, and `glitch` or more from each other change of SDA.
pub record IsSpike (glitch : ℕ) (front : List Moment) (up : Moment) (leaves : Edge) (mid : List Moment) (down : Moment)
    (returns : Edge) (back : List Moment) : Type 0 where
  pub run : (levels_behind nothing front).sda ≡ Some returns.level
  pub other : same returns.level leaves.level ≡ false
  pub alone : is_calm mid ≡ true
  pub rises : up.time < down.time
  pub short : down.time < up.time + glitch
  pub behind_last : IsFar glitch (last_sda (changes nothing front)) (Some up.time)
  pub before_next : IsFar glitch (Some down.time)
      (next_sda (changes (levels_behind nothing (without_spike front up mid down [])) back))

-- ---- the other wire

-- a moment with the two wires exchanged
abbrev pub exchanged : Moment → Moment
exchanged m = record { time = m.time; scl = m.sda; sda = m.scl }

abbrev pub all_exchanged : List Moment → List Moment
all_exchanged [] = []
all_exchanged (m ∷ ms) = exchanged m ∷ all_exchanged ms
