-- Members whose keys are some of a list, in its order (`HaveKeys`). For the law `objects_are_json`:
-- all keys of an object are some of `object_keys`, which are distinct. For members that are known
-- it is a test that computes.
use Rattle.std.proofs.Common.{◌≡◌, Bool, true, false, if◌then◌else◌, List, [], ◌∷◌, ◌++◌, ℕ, refl, sym, ap, subst, inl}
use Rattle.std.proofs.Common.{inr}
use Rattle.std.specs.Str.{bytes_eq}
use Rattle.std.proofs.lemmas.Bool.{cases_Bool}
use Rattle.std.proofs.lemmas.List.{append-nil, map-append}
use Rattle.std.proofs.lemmas.Slice.Eq.{bytes_eq-Decides}
use Rattle.pmb_json_fields.specs.Laws.{keys}
use Rattle.pmb_json_text.specs.Json.{keys as keys_of}
use Rattle.pmb_json_text.specs.Member.{IsPart, Member, members_of}
use Rattle.pmb_json_text.proofs.Distinct.{none_is_part, parts_in_a_row}

-- The keys of members are some of these, in their order.
pub record HaveKeys (members : List Member) (all : List (List ℕ)) : Type 0 where
  pub part : IsPart (keys members) all

pub same_keys : (members : List Member) → keys_of (members_of members) ≡ keys members
same_keys [] = refl
same_keys (m ∷ members) = ap (λ (ks : List (List ℕ)). m.key ∷ ks) (same_keys members)

-- some members, and others after them
pub followed : (front back : List Member) (all more : List (List ℕ)) → HaveKeys front all → HaveKeys back more
    → HaveKeys (front ++ back) (all ++ more)
followed front back all more first second = record {
  part = subst (λ (ks : List (List ℕ)). IsPart ks (all ++ more)) (sym (map-append (λ (m : Member). m.key) front back))
      (parts_in_a_row (keys front) all (keys back) more first.part second.part);
}

-- .. which are some of more keys too
pub within : (before all after : List (List ℕ)) (members : List Member) → HaveKeys members all
    → HaveKeys members (before ++ all ++ after)
within before all after members have =
    subst (λ (ms : List Member). HaveKeys ms (before ++ all ++ after)) (append-nil members)
    (followed members [] (before ++ all) after
    (followed [] members before all (record { part = none_is_part before }) have)
    (record { part = none_is_part after }))

-- ---- a test of keys that are known

abbrev pub are_part : List (List ℕ) → List (List ℕ) → Bool
are_part [] all = true
are_part (key ∷ some) [] = false
are_part (key ∷ some) (other ∷ all) = if bytes_eq key other then are_part some all else are_part (key ∷ some) all

tested_part : (some all : List (List ℕ)) → are_part some all ≡ true → IsPart some all
tested_part [] all test = none_is_part all
tested_part (key ∷ some) [] test = absurd (cc test)
tested_part (key ∷ some) (other ∷ all) test =
    elim (cases_Bool (bytes_eq key other)) [
      | inl same ↦
          let rest : are_part some all ≡ true = simp same at test in
          inr (some, ap (λ (k : List ℕ). k ∷ some) ((bytes_eq-Decides key other).0 same), tested_part some all rest)
      | inr differ ↦
          let rest : are_part (key ∷ some) all ≡ true = simp differ at test in
          inl (tested_part (key ∷ some) all rest)
    ]

-- members whose keys are known
pub tested : (members : List Member) (all : List (List ℕ)) → are_part (keys members) all ≡ true → HaveKeys members all
tested members all test = record { part = tested_part (keys members) all test }

-- those of a value that a test takes
pub keys_of_either : (b : Bool) (x y : List Member) (all : List (List ℕ)) → HaveKeys x all → HaveKeys y all
    → HaveKeys (if b then x else y) all
keys_of_either true x y all one other = one
keys_of_either false x y all one other = other
