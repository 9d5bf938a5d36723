-- Rows, worked by hand: an edge at a time of SDA is told by its level, and SCL stays 1. The glitch is 50.
use Rattle.std.specs.Prelude.{◌≡◌, ℕ, Some, None, [], ◌∷◌, refl}
use Rattle.pmb_wires.specs.Spikes.{filtered}
use Rattle.pmb_wires.specs.declared.level.Level.{Level}
use Rattle.pmb_wires.specs.declared.level.Level.TheVariants.{Low, High}
use Rattle.pmb_wires.specs.declared.moment.Edge.{Edge}
use Rattle.pmb_wires.specs.declared.moment.Moment.{Moment}

abbrev edge : ℕ → Level → Edge
edge line level = record { line = line; level = level }

abbrev start : Level → Moment
start level = record { time = 0; scl = Some (edge 1 High); sda = Some (edge 1 level) }

abbrev sda : ℕ → ℕ → Level → Moment
sda time line level = record { time = time; scl = None; sda = Some (edge line level) }

abbrev scl : ℕ → ℕ → Level → Moment
scl time line level = record { time = time; scl = Some (edge line level); sda = None }

abbrev both : ℕ → ℕ → Level → Level → Moment
both time line c d = record { time = time; scl = Some (edge line c); sda = Some (edge line d) }

pub a_spike_of_49 : filtered 50 (start High ∷ sda 100 2 Low ∷ sda 149 3 High ∷ []) ≡ start High ∷ []
a_spike_of_49 = refl

pub a_run_of_50 :
    filtered 50 (start High ∷ sda 100 2 Low ∷ sda 150 3 High ∷ []) ≡ start High ∷ sda 100 2 Low ∷ sda 150 3 High ∷ []
a_run_of_50 = refl

-- The first run may be short, and the last one.
pub the_first_run : filtered 50 (start High ∷ sda 10 2 Low ∷ []) ≡ start High ∷ sda 10 2 Low ∷ []
the_first_run = refl

-- Two spikes behind one another: the level is the last one's before them, and the next edge's time is its own.
pub an_edge_with_spikes :
    filtered 50 (start High ∷ sda 100 2 Low ∷ sda 120 3 High ∷ sda 140 4 Low ∷ sda 900 5 High ∷ [])
    ≡ start High ∷ sda 140 4 Low ∷ sda 900 5 High ∷ []
an_edge_with_spikes = refl

-- A level that is written again neither ends a run nor begins one.
pub a_level_again :
    filtered 50 (start High ∷ sda 100 2 Low ∷ sda 120 3 Low ∷ sda 160 4 High ∷ [])
    ≡ start High ∷ sda 100 2 Low ∷ sda 160 4 High ∷ []
a_level_again = refl

-- A spike on one wire at the edge of the other: that edge stays.
pub beside_an_edge :
    filtered 50 (start High ∷ both 100 2 Low Low ∷ sda 130 3 High ∷ []) ≡ start High ∷ scl 100 2 Low ∷ []
beside_an_edge = refl

-- Without a least time nothing is dropped.
pub no_glitch : filtered 0 (start High ∷ sda 1 2 Low ∷ sda 2 3 High ∷ []) ≡ start High ∷ sda 1 2 Low ∷ sda 2 3 High ∷ []
no_glitch = refl
