-- Spikes: runs of one level that are too short. A wire keeps through a spike the level of its last run before that is
-- none.
use Rattle.std.specs.Prelude.{ℕ, ◌-◌, nat_lt, Option, Some, None, is_some, if◌then◌else◌, List, [], ◌∷◌}
use Rattle.pmb_wires.specs.Changes.{changes, nothing, put}
use Rattle.pmb_wires.specs.declared.moment.Edge.{Edge}
use Rattle.pmb_wires.specs.declared.moment.Moment.{Moment}

-- when SCL, and SDA, changes next: a run ends there
abbrev pub next_scl : List Moment → Option ℕ
next_scl [] = None
next_scl (m ∷ ms) = if is_some m.scl then Some m.time else next_scl ms

abbrev pub next_sda : List Moment → Option ℕ
next_sda [] = None
next_sda (m ∷ ms) = if is_some m.sda then Some m.time else next_sda ms

-- An edge at a time begins a spike where its run ends before `glitch` is over. The last run of a wire is none.
abbrev pub unless_spike : ℕ → ℕ → Option ℕ → Option Edge → Option Edge
unless_spike glitch time (Some next) edge = if nat_lt (next - time) glitch then None else edge
unless_spike glitch time None edge = edge

abbrev pub without : ℕ → Moment → List Moment → Moment
without glitch m ms = record {
  time = m.time;
  scl = unless_spike glitch m.time (next_scl ms) m.scl;
  sda = unless_spike glitch m.time (next_sda ms) m.sda;
}

-- the changes that begin no spike
abbrev pub kept : ℕ → List Moment → List Moment
kept glitch [] = []
kept glitch (m ∷ ms) = put (without glitch m ms) (kept glitch ms)

-- The levels at the first moment are never spikes.
abbrev pub behind_first : ℕ → List Moment → List Moment
behind_first glitch [] = []
behind_first glitch (m ∷ ms) = m ∷ kept glitch ms

-- The changes of both wires without the spikes. Behind a spike a wire may have its level still: that is no change.
abbrev pub filtered : ℕ → List Moment → List Moment
filtered glitch ms = changes nothing (behind_first glitch (changes nothing ms))
