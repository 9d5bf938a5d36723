-- Keys that stay distinct where some are left out, and a test that tells distinct keys by
-- computing. For the laws `fewer_keys_are_distinct` and `tested_keys_are_distinct`, and for the
-- objects of `pmb_json_objects`. By induction over the keys.
use Rattle.std.proofs.Common.{◌≡◌, ◌≢◌, ℕ, true, not, List, [], ◌∷◌, ◌++◌, refl, sym, ap, subst, inl, inr}
use Rattle.std.proofs.lemmas.Bool.{and_parts, both_ways, not-true}
use Rattle.std.proofs.lemmas.Slice.Eq.{bytes_eq-Decides}
use Rattle.std.specs.List.{AllByRecursion}
use Rattle.std.specs.Str.{bytes_eq}
use Rattle.pmb_json_text.specs.Json.{keys, AreDistinct}
use Rattle.pmb_json_text.specs.Member.{Member, members_of, IsPart, is_absent, are_distinct}

each_of_part : (P : List ℕ → Type 0) (some all : List (List ℕ)) → IsPart some all → AllByRecursion P all
    → AllByRecursion P some
each_of_part P some [] part each = subst (λ (ks : List (List ℕ)). AllByRecursion P ks) (sym part) tt
each_of_part P some (key ∷ all) (inl part) each = each_of_part P some all part each.1
each_of_part P some (key ∷ all) (inr kept) each =
    subst (λ (ks : List (List ℕ)). AllByRecursion P ks) (sym kept.1) (each.0, each_of_part P kept.0 all kept.2 each.1)

pub part_is_distinct : (some all : List (List ℕ)) → IsPart some all → AreDistinct all → AreDistinct some
part_is_distinct some [] part distinct = subst AreDistinct (sym part) tt
part_is_distinct some (key ∷ all) (inl part) distinct = part_is_distinct some all part distinct.1
part_is_distinct some (key ∷ all) (inr kept) distinct =
    subst AreDistinct (sym kept.1) (
      each_of_part (λ other. key ≢ other) kept.0 all kept.2 distinct.0,
      part_is_distinct kept.0 all kept.2 distinct.1,
    )

pub none_is_part : (all : List (List ℕ)) → IsPart [] all
none_is_part [] = refl
none_is_part (key ∷ all) = inl (none_is_part all)

pub whole_is_part : (all : List (List ℕ)) → IsPart all all
whole_is_part [] = refl
whole_is_part (key ∷ all) = inr (all, refl, whole_is_part all)

pub parts_in_a_row : (a all b more : List (List ℕ)) → IsPart a all → IsPart b more → IsPart (a ++ b) (all ++ more)
parts_in_a_row a [] b more first second = subst (λ (ks : List (List ℕ)). IsPart (ks ++ b) more) (sym first) second
parts_in_a_row a (key ∷ all) b more (inl first) second = inl (parts_in_a_row a all b more first second)
parts_in_a_row a (key ∷ all) b more (inr kept) second =
    inr (kept.0 ++ b, ap (λ (ks : List (List ℕ)). ks ++ b) kept.1, parts_in_a_row kept.0 all b more kept.2 second)

pub keys_in_a_row : (front back : List Member) → keys (members_of (front ++ back)) ≡ keys (members_of front)
    ++ keys (members_of back)
keys_in_a_row [] back = refl
keys_in_a_row (m ∷ more) back = ap (λ (ks : List (List ℕ)). m.key ∷ ks) (keys_in_a_row more back)

absent : (key : List ℕ) (more : List (List ℕ)) → is_absent key more ≡ true → AllByRecursion (λ other. key ≢ other) more
absent key [] all = tt
absent key (other ∷ more) all =
    let here = and_parts (not (bytes_eq key other)) (is_absent key more) all in (
      (λ same. both_ways (bytes_eq key other) (not-true (bytes_eq key other) here.0)
          ((bytes_eq-Decides key other).1 same)),
      absent key more here.1,
    )

pub distinct_by_test : (all : List (List ℕ)) → are_distinct all ≡ true → AreDistinct all
distinct_by_test [] test = tt
distinct_by_test (key ∷ more) test =
    let here = and_parts (is_absent key more) (are_distinct more) test in
    (absent key more here.0, distinct_by_test more here.1)
