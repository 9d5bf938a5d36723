-- Lists without what stands in them a second time.
use Rattle.std.specs.Prelude.{Bool, not, List, [], ◌∷◌, filter}

-- each item once, in the order in which they come first; `same` tells which two are one
abbrev pub each_once : {A : Type 0} → (same : A → A → Bool) → List A → List A
each_once same [] = []
each_once same (x ∷ xs) = x ∷ filter (λ y. not (same y x)) (each_once same xs)
