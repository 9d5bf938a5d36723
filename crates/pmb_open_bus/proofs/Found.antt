-- An option of which `MatchOption` refuses `None` has a value.
use Rattle.std.proofs.Common.{◌≡◌, refl}
use Rattle.std.specs.Option.{MatchOption}
use Rattle.std.specs.declared.option.Option.{Option}
use Rattle.std.specs.declared.option.Option.TheVariants.{None, Some}

pub some_of : {X : Type 0} {P : X → Type 0} (o : Option X) → MatchOption o ⊥ P → (w : X) × (o ≡ Some w) × P w
some_of None never = absurd never
some_of (Some w) p = (w, refl, p)
