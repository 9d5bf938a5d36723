-- How facts may be told.
use Rattle.std.specs.Prelude.{◌≤◌, ⊤}
use Rattle.std.specs.Coded.{×_prop, Unit-prop, le_prop}
use Rattle.pmb_fact_stream.specs.declared.telling.Telling.{Telling}
use Rattle.pmb_fact_stream.specs.declared.telling.Telling.TheVariants.{Objects, Lines, Items, Nothing}

-- the columns of lines are no wider than names and pages are
abbrev pub Fits : Telling → Type 0
Fits Objects = ⊤
Fits (Lines layout) = (layout.name ≤ 32) × ((layout.page ≤ 2) × (layout.command ≤ 32))
Fits Items = ⊤
Fits Nothing = ⊤

-- this has one proof at most, as a field of a struct has to
pub fits_once : (telling : Telling) → IsProp (Fits telling)
fits_once Objects = Unit-prop
fits_once (Lines layout) = ×_prop le_prop (×_prop le_prop le_prop)
fits_once Items = Unit-prop
fits_once Nothing = Unit-prop
