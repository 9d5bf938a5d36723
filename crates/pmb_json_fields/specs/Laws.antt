-- The keys of the members that are said of data.
use Rattle.std.specs.Prelude.{ℕ, List, [], ◌∷◌, codes, map}
use Rattle.pmb_json_text.specs.Member.{Member}

abbrev pub keys : List Member → List (List ℕ)
keys members = map (λ m. m.key) members

-- all that there are, in the order in which some of them stand
abbrev pub data_keys : List (List ℕ)
data_keys =
    codes "value" ∷ codes "number" ∷ codes "ratio" ∷ codes "mode" ∷ codes "unit" ∷ codes "raw" ∷ codes "bits"
    ∷ codes "clears" ∷ codes "text" ∷ []
