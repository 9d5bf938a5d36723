-- What holds by nature of that which the objects are made of.
use Rattle.std.specs.Prelude.{List}
use Rattle.std.specs.List.{AllByRecursion}
use Rattle.pmb_json_objects.specs.Laws.{IsJsonObject, IsTime}
use Rattle.pmb_json_objects.specs.Object.{Object}
use Rattle.pmb_mean.specs.Numbers.{FitsKind}
use Rattle.pmb_observed.specs.Observed.{NumberAt, Observation, ReadAt}

-- the time of a read is bytes, and a value fits its kind
abbrev pub IsObserved : Observation → Type 0
IsObserved (ReadAt spot read) = IsTime read.time
IsObserved (NumberAt spot number) = FitsKind number

abbrev pub AreObserved : List Observation → Type 0
AreObserved told = AllByRecursion IsObserved told

-- each object is JSON with distinct keys
abbrev pub AreJsonObjects : List Object → Type 0
AreJsonObjects objects = AllByRecursion (λ object. IsJsonObject object.members) objects
