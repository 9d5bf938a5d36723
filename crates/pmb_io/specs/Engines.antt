-- What an engine says after a piece of its input.
use Rattle.std.specs.Prelude.{ℕ, Option, List}
use Rattle.std.specs.Io.KnownBytes.{Appends}
use Rattle.pmb_io.specs.Outgoing.{PutsText}
use Rattle.pmb_io.specs.Runs.{Job}
use Rattle.pmb_io.specs.declared.engine.Flow.{Flow}
use Rattle.pmb_io.specs.declared.engine.Flow.TheVariants.{More, Stop}

-- one fact where it wants more, another where it doesn't
abbrev pub Either : Type 0 → Type 0 → Flow → Type 0
Either Goes Stops More = Goes
Either Goes Stops Stop = Stops

-- A text was put out: some of it is written, and the rest waits.
pub record PutsOut (Holds : List ℕ → Type 0) (held_old : Option (List ℕ)) (waiting_old : List ℕ)
    (held_new : Option (List ℕ)) (waiting_new : List ℕ) : Type 0 where
  pub text : List ℕ
  pub writes : PutsText held_old waiting_old held_new waiting_new text
  pub holds : Holds text

-- A text was written.
pub record WritesOut (Holds : List ℕ → Type 0) (held_old held_new : Option (List ℕ)) : Type 0 where
  pub text : List ℕ
  pub appended : Appends held_old held_new text
  pub holds : Holds text

-- What an engine is to write, by its own words, where it was `start` before the run and is `now` after it.
abbrev pub engine_job : {E : Type 0} → (E → E → List ℕ → List ℕ → Type 0) → (E → E → List ℕ → List ℕ → Type 0)
    → (E → E → List ℕ → List ℕ → Type 0) → E → E → Job (Unit {0})
engine_job {E} Stands Stops Ends start now = record {
  Whole = λ done. Ends start now;
  Stops = λ done. Stops start now;
  Front = Stands start now;
  IsOpen = λ bytes. (middle : E) × (text : List ℕ) × Stands start middle bytes text;
}
