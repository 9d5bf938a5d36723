-- Sums over lists, and sums of what facts weigh: for the law `counts_are_those_of_json`.
use Rattle.std.proofs.Common.{◌≡◌, ℕ, ◌+◌, Bool, true, false, cond, List, [], ◌∷◌, ◌++◌, filter, arith}
use Rattle.std.proofs.Common.{ap, inl, inr, refl}
use Rattle.std.proofs.lemmas.Bool.{cases_Bool}
use Rattle.std.proofs.lemmas.List.Sums.{sum_by-append, sum_by-cons}
use Rattle.std.specs.List.{count_by, sum_by}
use Rattle.pmb_facts.specs.Fact.{FactData, WhatData}
use Rattle.pmb_stats_counts.specs.Counts.{count_of, is_address, is_of, is_sort, names}
use Rattle.pmb_stats_counts.specs.Sort.{sort_of}
use Rattle.pmb_stats_counts.specs.declared.sort.Sort.{Sort}
use Rattle.pmb_facts.specs.Fact.{fact_device}

sum_none : {X : Type 0} (xs : List X) → sum_by (λ (x : X). 0) xs ≡ 0
sum_none [] = refl
sum_none {X} (x ∷ xs) = omega (arith, sum_by-cons (λ (y : X). 0) x xs, sum_none xs)

pub sum_both : {X : Type 0} (f g : X → ℕ) (xs : List X) → sum_by (λ x. f x + g x) xs ≡ sum_by f xs + sum_by g xs
sum_both f g [] = refl
sum_both f g (x ∷ xs) =
    omega (arith, sum_by-cons (λ y. f y + g y) x xs, sum_by-cons f x xs, sum_by-cons g x xs, sum_both f g xs)

pub sum_same : {X : Type 0} (f g : X → ℕ) → ((x : X) → f x ≡ g x) → (xs : List X) → sum_by f xs ≡ sum_by g xs
sum_same f g same [] = refl
sum_same f g same (x ∷ xs) = omega (arith, sum_by-cons f x xs, sum_by-cons g x xs, same x, sum_same f g same xs)

-- ---- what facts weigh, by what each says

abbrev pub weigh : (WhatData → ℕ) → List FactData → ℕ
weigh weight facts = sum_by (λ (fact : FactData). weight fact.what) facts

module _ (weight : WhatData → ℕ) where
  pub weigh_more : (fact : FactData) (facts : List FactData)
      → weigh weight (fact ∷ facts) ≡ weight fact.what + weigh weight facts
  weigh_more fact facts = sum_by-cons (λ (f : FactData). weight f.what) fact facts

  pub weigh_one : (fact : FactData) → weigh weight (fact ∷ []) ≡ weight fact.what
  weigh_one fact = omega (arith, weigh_more fact [])

  pub weigh_both : (a b : List FactData) → weigh weight (a ++ b) ≡ weigh weight a + weigh weight b
  weigh_both a b = sum_by-append (λ (f : FactData). weight f.what) a b

-- sums of weights are the weights of sums
pub weigh_each : {X : Type 0} (weight : X → WhatData → ℕ) (xs : List X) (facts : List FactData)
    → sum_by (λ x. weigh (weight x) facts) xs ≡ weigh (λ what. sum_by (λ x. weight x what) xs) facts
weigh_each weight xs [] = sum_none xs
weigh_each {X} weight xs (fact ∷ facts) =
    omega (
      arith,
      sum_same (λ (x : X). weigh (weight x) (fact ∷ facts)) (λ x. weight x fact.what + weigh (weight x) facts)
          (λ x. weigh_more (weight x) fact facts) xs,
      sum_both (λ (x : X). weight x fact.what) (λ x. weigh (weight x) facts) xs,
      weigh_each weight xs facts,
      weigh_more (λ what. sum_by (λ x. weight x what) xs) fact facts,
    )

-- ---- counts as weights

-- one where a fact counts as of a sort
abbrev pub of_sort : Sort → WhatData → ℕ → ℕ
of_sort sort what one = cond (is_sort sort (sort_of what)) one 0

-- one where it names an address
abbrev pub named : ℕ → WhatData → ℕ
named addr what = cond (is_address addr (fact_device what)) 1 0

abbrev pub of_device : ℕ → Sort → WhatData → ℕ
of_device addr sort what = of_sort sort what (named addr what)

none_either : (b : Bool) → cond {A = ℕ} b 0 0 ≡ 0
none_either true = refl
none_either false = refl

pub device_weighs : (addr : ℕ) (sort : Sort) (facts : List FactData)
    → count_of addr sort facts ≡ weigh (of_device addr sort) facts
device_weighs addr sort [] = refl
device_weighs addr sort (fact ∷ facts) =
    let more = filter (names addr) facts in
    let weight = λ (named : Bool). cond {A = ℕ} (is_of sort fact) (cond {A = ℕ} named 1 0) 0 in
    let all = weigh_more (of_device addr sort) fact facts in
    elim (cases_Bool (names addr fact)) [
      | inl is ↦
          let here : count_of addr sort (fact ∷ facts) ≡ count_by (is_of sort) (fact ∷ more)
          = ap (λ (b : Bool). count_by (is_of sort) (cond b (fact ∷ more) more)) is in
          omega (
            arith,
            here,
            sum_by-cons (λ (f : FactData). cond {A = ℕ} (is_of sort f) 1 0) fact more,
            ap weight is,
            all,
            device_weighs addr sort facts,
          )
      | inr is ↦
          let here : count_of addr sort (fact ∷ facts) ≡ count_by (is_of sort) more
          = ap (λ (b : Bool). count_by (is_of sort) (cond b (fact ∷ more) more)) is in
          omega (
            arith,
            here,
            ap weight is,
            none_either (is_of sort fact),
            all,
            device_weighs addr sort facts,
          )
    ]
