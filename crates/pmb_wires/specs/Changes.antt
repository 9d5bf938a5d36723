-- What changes on the two wires, moment by moment. A wire keeps its level from an edge of it to the next one: that is a
-- run of one level.
use Rattle.std.specs.Prelude.{◌<◌, ◌&&◌, ℕ, true, false, Bool, Option, Some, None, is_none, if◌then◌else◌}
use Rattle.std.specs.Prelude.{List, [], ◌∷◌}
use Rattle.pmb_wires.specs.declared.level.Level.{Level}
use Rattle.pmb_wires.specs.declared.level.Level.TheVariants.{Low, High, Unknown}
use Rattle.pmb_wires.specs.declared.level.Levels.{Levels}
use Rattle.pmb_wires.specs.declared.moment.Edge.{Edge}
use Rattle.pmb_wires.specs.declared.moment.Moment.{Moment}

-- ---- levels

abbrev pub same : Level → Level → Bool
same Low Low = true
same Low High = false
same Low Unknown = false
same High Low = false
same High High = true
same High Unknown = false
same Unknown Low = false
same Unknown High = false
same Unknown Unknown = true

-- whether a wire has a level already
abbrev pub has : Option Level → Level → Bool
has (Some level) other = same level other
has None other = false

-- no wire was written
abbrev pub nothing : Levels
nothing = record { scl = None; sda = None }

-- the level of a wire behind an edge, and behind none
abbrev pub level_after : Option Level → Option Edge → Option Level
level_after now (Some edge) = Some edge.level
level_after now None = now

-- the levels behind a moment
abbrev pub after : Levels → Moment → Levels
after now m = record { scl = level_after now.scl m.scl; sda = level_after now.sda m.sda }

-- ---- changes

-- A level that the wire has already is no change.
abbrev pub change : Option Level → Option Edge → Option Edge
change now (Some edge) = if has now edge.level then None else Some edge
change now None = None

abbrev pub changed : Levels → Moment → Moment
changed now m = record { time = m.time; scl = change now.scl m.scl; sda = change now.sda m.sda }

-- A moment at which nothing changes is dropped.
abbrev pub is_blank : Moment → Bool
is_blank m = is_none m.scl && is_none m.sda

abbrev pub put : Moment → List Moment → List Moment
put m ms = if is_blank m then ms else m ∷ ms

-- the changes of what the wires are given, moment by moment, behind some levels
abbrev pub changes : Levels → List Moment → List Moment
changes now [] = []
changes now (m ∷ ms) = put (changed now m) (changes (after now m) ms)

-- ---- times

-- Times rise from moment to moment, and the first is behind this one.
abbrev pub RisesFrom : ℕ → List Moment → Type 0
RisesFrom time [] = Unit {0}
RisesFrom time (m ∷ ms) = (time < m.time) × RisesFrom m.time ms

abbrev pub Rises : List Moment → Type 0
Rises [] = Unit {0}
Rises (m ∷ ms) = RisesFrom m.time ms
