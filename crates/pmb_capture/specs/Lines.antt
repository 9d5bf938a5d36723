-- The lines that go out.
use Rattle.std.specs.Prelude.{ℕ, List, [], ◌∷◌, ◌++◌, codes, decimal}
use Rattle.pmb_io.specs.declared.tally.Tally.{Tally}
use Rattle.pmb_transaction.specs.Names.{kind_names, reason_name}
use Rattle.pmb_transaction.specs.Reading.{RefusalData}

-- ---- refusals

-- names with a mark before the first, and ` or ` before each other
abbrev pub joined_names : List ℕ → List (List ℕ) → List ℕ
joined_names mark [] = []
joined_names mark (name ∷ names) = mark ++ name ++ joined_names (codes " or ") names

-- the place is the event's, counted from 0
abbrev pub refusal_line : RefusalData → List ℕ
refusal_line refusal =
    codes "# refusal at " ++ decimal refusal.at ++ codes ": " ++ reason_name refusal.reason ++ codes ", expected "
    ++ joined_names [] (kind_names refusal.expected) ++ codes "\n"

-- ---- the end

-- the place is that of the word's first byte, counted from 0
abbrev pub bad_token_line : ℕ → List ℕ
bad_token_line at = codes "# bad token at byte " ++ decimal at ++ codes "\n"

abbrev pub tally_line : Tally → List ℕ
tally_line tally = codes "packets " ++ decimal tally.packets ++ codes " refusals " ++ decimal tally.refusals
    ++ codes "\n"
