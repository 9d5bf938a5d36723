-- The object of a word that is no token.
use Rattle.std.specs.Prelude.{ℕ, List, [], ◌∷◌, ◌++◌, codes, take}
use Rattle.pmb_json_text.specs.Json.{string}
use Rattle.pmb_json_text.specs.Member.{named}
use Rattle.pmb_json_objects.specs.Head.{Head}
use Rattle.pmb_json_objects.specs.Members.{head_members}
use Rattle.pmb_json_objects.specs.Object.{Object, of_none}

-- at most its first 32 bytes
abbrev pub bad_token_object : Head → List ℕ → Object
bad_token_object head word = of_none
    (head_members head (codes "bad_token") ++ named (codes "word") (string (take 32 word)) ∷ [])
