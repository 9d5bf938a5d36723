use Rattle.std.proofs.Common.{ℕ, ◌<◌, List, [], ◌∷◌, Fits, w8, arith, suc, zero}
use Rattle.std.specs.Prelude.{slice_index_or}
use Rattle.std.specs.List.{AllByRecursion}
use Rattle.pmb_table.proofs.modes.are_bytes.Goals as goal

-- what is told of each place holds of all
all_bytes : (xs : List ℕ) → ((i : ℕ) → Fits w8 (slice_index_or xs i 0)) → AllByRecursion (λ x. x < 256) xs
all_bytes [] at = tt
all_bytes (x ∷ xs) at =
    let here : Fits w8 x = at zero in
    (omega arith, all_bytes xs (λ i. at (suc i)))

pub returns : goal.returns
returns c = all_bytes c.args.modes.now c.type_inv.modes
