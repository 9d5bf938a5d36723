-- What a table that has a flag for each address of 7 bits says.
use Rattle.std.specs.Prelude.{◌≡◌, ℕ, Bool, true, false, List, [], ◌∷◌, filter, nat_eq, slice_index_or, slice_set}
use Rattle.std.specs.List.{AllByRecursion, list_any, range_with_len}

-- the numbers below one that a table marks, ascending
abbrev pub marked_below : ℕ → List Bool → List ℕ
marked_below most table = filter (λ address. slice_index_or table address false) (range_with_len 0 most)

-- the addresses that a table marks, ascending
unfoldable pub marked : List Bool → List ℕ
marked table = marked_below 128 table

-- a table that marks further ones
abbrev pub marking : List Bool → List ℕ → List Bool
marking table [] = table
marking table (address ∷ addresses) = marking (slice_set table address true) addresses

-- each of these addresses is one of some
abbrev pub AreAmong : List ℕ → List ℕ → Type 0
AreAmong some addresses = AllByRecursion (λ address. list_any (nat_eq address) some ≡ true) addresses
