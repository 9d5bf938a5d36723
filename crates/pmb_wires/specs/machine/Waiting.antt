-- What waits in a filter, and what it gives.
use Rattle.std.specs.Prelude.{ℕ, ◌-◌, ◌&&◌, nat_lt, Bool, Option, Some, None, is_none, if◌then◌else◌, List, [], ◌∷◌, ◌++◌}
use Rattle.pmb_wires.specs.Changes.{after, changed, is_blank, nothing}
use Rattle.pmb_wires.specs.declared.filter.Filter.{Filter}
use Rattle.pmb_wires.specs.declared.filter.Run.{Run}
use Rattle.pmb_wires.specs.declared.level.Levels.{Levels}
use Rattle.pmb_wires.specs.declared.moment.Edge.{Edge}
use Rattle.pmb_wires.specs.declared.moment.Moment.{Moment}
use Rattle.pmb_wires.specs.declared.moment.Moments.{Moments}

-- ---- up to two moments

abbrev pub none : Moments
none = record { first = None; second = None }

abbrev pub alone : Moment → Moments
alone m = record { first = Some m; second = None }

-- a moment, unless it is blank
abbrev pub later : Moment → Moments
later m = if is_blank m then none else alone m

abbrev pub option_list : Option Moment → List Moment
option_list (Some m) = m ∷ []
option_list None = []

abbrev pub listed : Moments → List Moment
listed ms = option_list ms.first ++ option_list ms.second

-- ---- edges that wait

abbrev pub scl_at : Run → Moment
scl_at run = record { time = run.time; scl = Some run.edge; sda = None }

abbrev pub sda_at : Run → Moment
sda_at run = record { time = run.time; scl = None; sda = Some run.edge }

abbrev pub both_at : Run → Run → Moment
both_at scl sda = record { time = scl.time; scl = Some scl.edge; sda = Some sda.edge }

abbrev pub ordered : Run → Run → Moments
ordered scl sda =
    if nat_lt scl.time sda.time then record { first = Some (scl_at scl); second = Some (sda_at sda) } else
    if nat_lt sda.time scl.time then record { first = Some (sda_at sda); second = Some (scl_at scl) } else
    alone (both_at scl sda)

-- as moments, in order
abbrev pub waiting : Option Run → Option Run → Moments
waiting (Some scl) (Some sda) = ordered scl sda
waiting (Some scl) None = alone (scl_at scl)
waiting None (Some sda) = alone (sda_at sda)
waiting None None = none

-- an edge that is known to stay at a time, and one that isn't
abbrev pub due : ℕ → ℕ → Option Run → Option Run
due glitch time (Some run) = if nat_lt (time - run.time) glitch then None else Some run
due glitch time None = None

abbrev pub left : ℕ → ℕ → Option Run → Option Run
left glitch time (Some run) = if nat_lt (time - run.time) glitch then Some run else None
left glitch time None = None

-- a new edge, or the one that waits
abbrev pub written : ℕ → Option Edge → Option Run → Option Run
written time (Some edge) run = Some (record { time = time; edge = edge })
written time None run = run

-- ---- the filter

-- what a filter has become, and the moments that it gave
pub record Given : Type 0 where
  pub now : Filter
  pub given : Moments

abbrev pub fresh : ℕ → Filter
fresh glitch = record { glitch = glitch; given = nothing; scl = None; sda = None }

-- whether nothing was given
abbrev pub is_fresh : Levels → Bool
is_fresh now = is_none now.scl && is_none now.sda

-- the next moment behind the first
abbrev pub go_on : Filter → Moment → Moment → Given
go_on f m news = record {
  now = record {
    glitch = f.glitch;
    given = after f.given m;
    scl = written m.time news.scl (left f.glitch m.time f.scl);
    sda = written m.time news.sda (left f.glitch m.time f.sda);
  };
  given = waiting (due f.glitch m.time f.scl) (due f.glitch m.time f.sda);
}

-- the first moment, and the next one
abbrev pub take : Filter → Moment → Given
take f m =
    if is_fresh f.given then
    record { now = record f { given = after f.given m }; given = later (changed f.given m) }
    else go_on f m (changed f.given m)

-- the end of what is read
abbrev pub end : Filter → Given
end f = record {
  now = record { glitch = f.glitch; given = nothing; scl = None; sda = None };
  given = waiting f.scl f.sda;
}

-- ---- runs of the filter

-- what it gives for some moments, and at the end
abbrev pub given_for : Filter → List Moment → List Moment
given_for f [] = listed (end f).given
given_for f (m ∷ ms) = listed (take f m).given ++ given_for (take f m).now ms
