-- What holds of each element of a list holds of each one that is taken of it: filtered, found, at
-- an index, in a part, among the first. For the law `each_line_is_json`, by JsonLines and Fitting, which go from a
-- profile's devices and a capture's packets to their objects. By induction over the list.
use Rattle.std.proofs.Common.{ℕ, zero, suc, Bool, true, false, if◌then◌else◌, Option, Some, None, List, [], ◌∷◌, ◌++◌}
use Rattle.std.proofs.Common.{filter, slice_index_or, take}
use Rattle.std.specs.Prelude.{IfSome}
use Rattle.std.specs.List.{AllByRecursion, find}

-- what holds of two values holds of the one that a test takes
pub of_either : {A : Type 0} (P : A → Type 0) (b : Bool) (x y : A) → P x → P y → P (if b then x else y)
of_either P true x y one other = one
of_either P false x y one other = other

module _ {A : Type 0} (P : A → Type 0) where
  pub each_of_both : (xs ys : List A) → AllByRecursion P xs → AllByRecursion P ys → AllByRecursion P (xs ++ ys)
  each_of_both [] ys these those = those
  each_of_both (x ∷ xs) ys these those = (these.0, each_of_both xs ys these.1 those)

  pub each_of_first : (xs ys : List A) → AllByRecursion P (xs ++ ys) → AllByRecursion P xs
  each_of_first [] ys all = tt
  each_of_first (x ∷ xs) ys all = (all.0, each_of_first xs ys all.1)

  pub each_of_second : (xs ys : List A) → AllByRecursion P (xs ++ ys) → AllByRecursion P ys
  each_of_second [] ys all = all
  each_of_second (x ∷ xs) ys all = each_of_second xs ys all.1

  pub each_taken : (n : ℕ) (xs : List A) → AllByRecursion P xs → AllByRecursion P (take n xs)
  each_taken zero xs all = tt
  each_taken (suc n) [] all = tt
  each_taken (suc n) (x ∷ xs) all = (all.0, each_taken n xs all.1)

  pub each_filtered : (test : A → Bool) (xs : List A) → AllByRecursion P xs → AllByRecursion P (filter test xs)
  each_filtered test [] all = tt
  each_filtered test (x ∷ xs) all =
      let rest = each_filtered test xs all.1 in
      of_either (λ (l : List A). AllByRecursion P l) (test x) (x ∷ filter test xs) (filter test xs) (all.0, rest) rest

  pub the_found : (test : A → Bool) (xs : List A) → AllByRecursion P xs → IfSome (find test xs) P
  the_found test [] all = tt
  the_found test (x ∷ xs) all = of_either (λ (o : Option A). IfSome o P) (test x) (Some x) (find test xs) all.0
      (the_found test xs all.1)

  -- the one at an index, or another one
  pub the_one_at : (xs : List A) (k : ℕ) (other : A) → AllByRecursion P xs → P other → P (slice_index_or xs k other)
  the_one_at [] k other all is = is
  the_one_at (x ∷ xs) zero other all is = all.0
  the_one_at (x ∷ xs) (suc k) other all is = the_one_at xs k other all.1 is

-- what holds of any value holds of one that may be missing
pub of_any : {A : Type 0} (P : A → Type 0) (o : Option A) → ((x : A) → P x) → IfSome o P
of_any P None all = tt
of_any P (Some x) all = all x
