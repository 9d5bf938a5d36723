-- What is so of all fields, and of what they are said by.
use Rattle.std.specs.Prelude.{◌≡◌, ℕ, ⊤, List, [], ◌∷◌, codes, map}
use Rattle.pmb_json_text.specs.Json.{HasDistinctKeys, IsJsonText}
use Rattle.pmb_json_text.specs.Member.{Member}
use Rattle.pmb_json_text.specs.Spelling.{IsWritable, spelled}
use Rattle.pmb_meaning.specs.Field.{SaidField}

abbrev pub keys : List SaidField → List (List ℕ)
keys fields = map (λ f. f.key) fields

-- A member `says`, whose value can be written, is JSON, and has no object with a key twice.
pub record IsSays (m : Member) : Type 0 where
  pub key : m.key ≡ codes "says"
  pub writable : IsWritable m.value
  pub json : IsJsonText (spelled m.value) m.value
  pub distinct : HasDistinctKeys m.value

-- no member, or one that is such a member
abbrev pub IsSaysOrNone : List Member → Type 0
IsSaysOrNone [] = ⊤
IsSaysOrNone (m ∷ []) = IsSays m
IsSaysOrNone (m ∷ other ∷ more) = ⊥
