-- What the words of the command line ask for.
use Rattle.std.specs.Prelude.{ℕ, Bool, false, List, [], ◌∷◌, codes}
use Rattle.std.specs.Str.{bytes_eq}

-- the word after the program's own name is `explain`
abbrev pub asks_to_explain : List (List ℕ) → Bool
asks_to_explain [] = false
asks_to_explain (name ∷ []) = false
asks_to_explain (name ∷ (subcommand ∷ rest)) = bytes_eq subcommand (codes "explain")
