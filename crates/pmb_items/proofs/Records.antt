-- Fields of a record that are put after each other: for `append` and the functions that it calls.
use Rattle.std.proofs.Common.{◌≡◌, ◌∙◌, ℕ, List, ◌++◌, ap, append_assoc}

-- one field, and then all that follow it
pub joined : (old field rest out new : List ℕ) → out ≡ old ++ field → new ≡ out ++ rest
    → new ≡ old ++ (field ++ rest)
joined old field rest out new first others = others ∙ ap (λ l. l ++ rest) first ∙ append_assoc old field rest
