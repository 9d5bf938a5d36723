-- The codes that earlier tables of a device have: no two are one, so there are at most 256, and
-- room for each new one. For `read_next` and the functions of a `CommandMap`.
use Rattle.std.proofs.Common.{◌≡◌, ℕ, ◌<◌, ◌≤◌, List, [], ◌∷◌, ◌++◌, length, true, nat_eq, ⊎_elim, arith}
use Rattle.std.specs.List.{AllByRecursion, list_any}
use Rattle.std.proofs.lemmas.Bool.{eqb-true, false≢true, or_cases}
use Rattle.std.proofs.lemmas.Cmp.{nat_eq_equiv}
use Rattle.std.proofs.lemmas.List.{length_push}
use Rattle.std.proofs.lemmas.Map.Keys.{IsDistinct-push}
use Rattle.std.proofs.lemmas.Map.Steps.{length-le_from_distinct_below}
use Rattle.pmb_table.specs.machine.CommandMap.{AreTaken}
use Rattle.pmb_command.specs.Parts.{IsNew}
use Rattle.pmb_table.proofs.Accepted.{All-push}

-- each code that is taken is a byte
below : (codes : List ℕ) → AllByRecursion (λ code. code < 256) codes → (q : ℕ) → list_any (nat_eq q) codes ≡ true
    → q < 256
below [] all q any = absurd (false≢true any)
below (c ∷ codes) all q any =
    let first : c < 256 = all.0 in
    let by_first = λ (same : nat_eq q c ≡ true). let e : q ≡ c = eqb-true q c same in
    let small : q < 256 = omega arith in small in
    ⊎_elim by_first (below codes all.1 q) (or_cases (nat_eq q c) (list_any (nat_eq q) codes) any)

-- one more code
pub AreTaken-push : (codes : List ℕ) (c : ℕ) → AreTaken codes → IsNew c codes → c < 256 → AreTaken (codes ++ c ∷ [])
AreTaken-push codes c taken free small =
    (IsDistinct-push nat_eq_equiv codes c taken.0 free, All-push (λ code. code < 256) codes c taken.1 small)

-- there are no more than a byte can be
pub at_most_all : (codes : List ℕ) → AreTaken codes → length codes ≤ 256
at_most_all codes taken = length-le_from_distinct_below codes 256 taken.0 (below codes taken.1)

-- so there is room for one more
pub room : (codes : List ℕ) (c : ℕ) → AreTaken codes → IsNew c codes → c < 256 → length codes < 256
room codes c taken free small =
    let after : AreTaken (codes ++ c ∷ []) = AreTaken-push codes c taken free small in
    let all : length (codes ++ c ∷ []) ≤ 256 = at_most_all (codes ++ c ∷ []) after in
    omega (arith, length_push codes c)
