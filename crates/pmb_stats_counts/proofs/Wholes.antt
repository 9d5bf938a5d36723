-- The counts of a whole are the sums of those of the devices: a fact is counted at the one address that it
-- names, or among those that name none.
use Rattle.std.proofs.Common.{◌≡◌, ℕ, zero, suc, ◌+◌, ◌<◌, ◌≤◌, Bool, cond, Option, Some, None, List, []}
use Rattle.std.proofs.Common.{◌∷◌, ap, arith, nat_eq, refl, sym, ◌∙◌, inl, inr}
use Rattle.std.proofs.lemmas.Bool.{cases_Bool, cases_eq, eq-eqb, ne_eqb}
use Rattle.std.proofs.lemmas.List.Sums.{sum_by-cons}
use Rattle.std.specs.List.{AllByRecursion, count_by, filter}
use Rattle.std.specs.Option.{ForSome}
use Rattle.pmb_facts.specs.Fact.{FactData, fact_device}
use Rattle.pmb_stats_counts.specs.declared.sort.Sort.{Sort}
use Rattle.pmb_stats_counts.specs.Counts.{count_in_all, count_of, count_of_none, is_absent, is_address}
use Rattle.pmb_stats_counts.specs.Counts.{is_of, names, names_none}
use Rattle.pmb_stats_counts.specs.Sums.{sum_below}

-- ---- sums

sum_same : (f g : ℕ → ℕ) → ((a : ℕ) → f a ≡ g a) → (n : ℕ) → sum_below f n ≡ sum_below g n
unfolding sum_below
sum_same f g same zero = refl
sum_same f g same (suc n) = omega (arith, sum_same f g same n, same n)

sum_added : (f g : ℕ → ℕ) (n : ℕ) → sum_below (λ a. f a + g a) n ≡ sum_below f n + sum_below g n
unfolding sum_below
sum_added f g zero = refl
sum_added f g (suc n) = omega (arith, sum_added f g n)

sum_none : (n : ℕ) → sum_below (λ a. 0) n ≡ 0
unfolding sum_below
sum_none zero = refl
sum_none (suc n) = omega (arith, sum_none n)

-- one address alone has a weight
sum_past : (addr weight n : ℕ) → n ≤ addr → sum_below (λ a. cond (nat_eq addr a) weight 0) n ≡ 0
unfolding sum_below
sum_past addr weight zero past = refl
sum_past addr weight (suc n) past =
    let here : cond (nat_eq addr n) weight 0 ≡ 0
    = ap (λ (b : Bool). cond b weight 0) (ne_eqb addr n (λ e. omega arith)) in
    omega (arith, sum_past addr weight n (omega arith), here)

sum_at : (addr weight n : ℕ) → addr < n → sum_below (λ a. cond (nat_eq addr a) weight 0) n ≡ weight
unfolding sum_below
sum_at addr weight zero below = absurd (omega arith)
sum_at addr weight (suc n) below =
    elim (cases_eq addr n) [
      | inl same ↦
          let here : cond (nat_eq addr n) weight 0 ≡ weight
          = ap (λ (b : Bool). cond b weight 0) (eq-eqb addr n same) in
          omega (arith, sum_past addr weight n (omega arith), here)
      | inr other ↦
          let here : cond (nat_eq addr n) weight 0 ≡ 0
          = ap (λ (b : Bool). cond b weight 0) (ne_eqb addr n other) in
          omega (arith, sum_at addr weight n (omega arith), here)
    ]

-- ---- one fact

-- a weight is that at the address which is named, or, where none is, beside the addresses
weight_of : (named : Option ℕ) (weight n : ℕ) → ForSome named (λ addr. addr < n)
    → weight ≡ sum_below (λ a. cond (is_address a named) weight 0) n + cond (is_absent named) weight 0
weight_of None weight n within = omega (arith, sum_none n)
weight_of (Some addr) weight n within = omega (arith, sum_at addr weight n (within addr refl))

-- what a fact adds to a count of those that pass a test
counted_one : (test which : FactData → Bool) (fact : FactData) (facts : List FactData)
    → count_by test (filter which (fact ∷ facts))
    ≡ cond (which fact) (cond (test fact) 1 0) 0 + count_by test (filter which facts)
counted_one test which fact facts =
    elim (cases_Bool (which fact)) [
      | inl is ↦
          ap (λ (b : Bool). count_by test (cond b (fact ∷ filter which facts) (filter which facts))) is
          ∙ (sum_by-cons (λ f. cond (test f) 1 0) fact (filter which facts)
          ∙ sym (ap (λ (b : Bool). cond b (cond (test fact) 1 0) 0 + count_by test (filter which facts)) is))
      | inr is ↦
          ap (λ (b : Bool). count_by test (cond b (fact ∷ filter which facts) (filter which facts))) is
          ∙ (let e : count_by test (filter which facts) ≡ 0 + count_by test (filter which facts) = omega arith in e
          ∙ sym (ap (λ (b : Bool). cond b (cond (test fact) 1 0) 0 + count_by test (filter which facts)) is))
    ]

-- ---- all facts

pub whole : (sort : Sort) (n : ℕ) (facts : List FactData)
    → AllByRecursion (λ fact. ForSome (fact_device fact.what) (λ addr. addr < n)) facts
    → count_in_all sort facts ≡ sum_below (λ addr. count_of addr sort facts) n + count_of_none sort facts
whole sort n [] addressed = omega (arith, sum_none n)
whole sort n (fact ∷ facts) addressed =
    let weight = cond (is_of sort fact) 1 0 in
    let all = sum_by-cons (λ f. cond (is_of sort f) 1 0) fact facts in
    let rest = whole sort n facts addressed.1 in
    let each = sum_same (λ addr. count_of addr sort (fact ∷ facts))
    (λ addr. cond (names addr fact) weight 0 + count_of addr sort facts)
    (λ addr. counted_one (is_of sort) (names addr) fact facts) n
    ∙ sum_added (λ addr. cond (names addr fact) weight 0) (λ addr. count_of addr sort facts) n in
    let none = counted_one (is_of sort) names_none fact facts in
    let here = weight_of (fact_device fact.what) weight n addressed.0 in
    all ∙ omega (arith, rest, each, none, here)
