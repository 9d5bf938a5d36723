-- Counts are all 0 exactly where no fact counts: each count is that of a sort, and each fact that counts is
-- of a sort.
use Rattle.std.proofs.Common.{◌≡◌, ℕ, suc, ◌+◌, ◌<◌, Bool, true, false, not, ◌||◌, cond, Option, Some, None}
use Rattle.std.proofs.Common.{List, [], ◌∷◌, ap, arith, get_or, length, nat_eq, refl, subst, sym, ◌∙◌, inl, inr}
use Rattle.std.proofs.lemmas.Bool.{agree_below_at, and_from, cases_Bool, cases_lt, eq-eqb, eqb-true, ne_eqb}
use Rattle.std.proofs.lemmas.List.{get_or_past}
use Rattle.std.proofs.lemmas.List.Folds.{list_all_at}
use Rattle.std.proofs.lemmas.List.Sums.{sum_by-cons}
use Rattle.std.specs.List.{list_all, list_any}
use Rattle.std.specs.Option.{is_some}
use Rattle.pmb_facts.specs.Fact.{FactData, WhatData, Write, Read, Call, Refused, Alert, NoAlert, Other}
use Rattle.pmb_facts.specs.Fact.{Refusal, BadToken}
use Rattle.pmb_facts.specs.Fact.{fact_device}
use Rattle.pmb_io.specs.Count.{capped}
use Rattle.pmb_stats_counts.specs.declared.sort.NackPlace.TheVariants.{Address, Code, Byte, ReadAddress}
use Rattle.pmb_stats_counts.specs.declared.sort.Sort.{Sort}
use Rattle.pmb_stats_counts.specs.declared.sort.Sort.TheVariants.{Writes, Reads, Calls, Alerts, Nacks}
use Rattle.pmb_stats_counts.specs.declared.sort.Sort.TheVariants.{Refusals, Others}
use Rattle.pmb_stats_counts.specs.Counts.{count_in_all, has_come, has_sort, is_address, is_of, is_sort}
use Rattle.pmb_stats_counts.specs.Counts.{names, of_device}
use Rattle.pmb_stats_counts.specs.Sort.{place, sort_of}
use Rattle.pmb_transaction.specs.declared.reason.Reason.TheVariants.{ReadFirst, BadRestart, BadPec, UnknownDevice}
use Rattle.pmb_transaction.specs.declared.reason.Reason.TheVariants.{UnknownCommand, TooLong, TooShort, WrongEvent}
use Rattle.pmb_transaction.specs.declared.reason.Reason.TheVariants.{Truncated}

-- ---- the sort at a place

abbrev sorts : List Sort
sorts = Writes ∷ Reads ∷ Calls ∷ Alerts ∷ Nacks Address ∷ Nacks Code ∷ Nacks Byte ∷ Nacks ReadAddress
    ∷ Refusals ReadFirst ∷ Refusals BadRestart ∷ Refusals BadPec ∷ Refusals UnknownDevice ∷ Refusals UnknownCommand
    ∷ Refusals TooLong ∷ Refusals TooShort ∷ Refusals WrongEvent ∷ Refusals Truncated ∷ Others ∷ []

at_place : (n : ℕ) → n < 18 → place (get_or sorts n Writes) ≡ n
at_place n below = eqb-true (place (get_or sorts n Writes)) n
    (agree_below_at (λ k. nat_eq (place (get_or sorts k Writes)) k) (λ k. true) 18 n refl below)

-- ---- where no fact counts

no_weight : (sort : Sort) (its : Option Sort) → is_some its ≡ false → is_sort sort its ≡ false
no_weight sort None none = refl
no_weight sort (Some its) none = cc

none_of : (sort : Sort) (facts : List FactData) → list_any has_sort facts ≡ false → count_in_all sort facts ≡ 0
none_of sort [] none = refl
none_of sort (fact ∷ facts) none =
    let sum : count_in_all sort (fact ∷ facts) ≡ cond (is_of sort fact) 1 0 + count_in_all sort facts
    = sum_by-cons (λ f. cond (is_of sort f) 1 0) fact facts in
    elim (cases_Bool (has_sort fact)) [
      | inl is ↦
          absurd (let e : true ≡ false = sym (ap (λ (b : Bool). b || list_any has_sort facts) is) ∙ none in cc)
      | inr is ↦
          let rest : list_any has_sort facts ≡ false
          = sym (ap (λ (b : Bool). b || list_any has_sort facts) is) ∙ none in
          let here : cond {A = ℕ} (is_of sort fact) 1 0 ≡ 0
          = ap {B = ℕ} (λ (b : Bool). cond b 1 0) (no_weight sort (sort_of fact.what) is) in
          omega (arith, none_of sort facts rest)
    ]

-- ---- where some fact does

its_sort : (its : Option Sort) → is_some its ≡ true → (sort : Sort) × (is_sort sort its ≡ true)
its_sort None some = cc
its_sort (Some sort) some = (sort, eq-eqb (place sort) (place sort) refl)

some_of : (facts : List FactData) → list_any has_sort facts ≡ true → (sort : Sort) × (0 < count_in_all sort facts)
some_of [] some = cc
some_of (fact ∷ facts) some =
    elim (cases_Bool (has_sort fact)) [
      | inl is ↦
          let its = its_sort (sort_of fact.what) is in
          let sum : count_in_all its.0 (fact ∷ facts) ≡ cond (is_of its.0 fact) 1 0 + count_in_all its.0 facts
          = sum_by-cons (λ f. cond (is_of its.0 f) 1 0) fact facts in
          let here : cond {A = ℕ} (is_of its.0 fact) 1 0 ≡ 1 = ap {B = ℕ} (λ (b : Bool). cond b 1 0) its.1 in
          (its.0, omega arith)
      | inr is ↦
          let rest = some_of facts (sym (ap (λ (b : Bool). b || list_any has_sort facts) is) ∙ some) in
          let sum : count_in_all rest.0 (fact ∷ facts) ≡ cond (is_of rest.0 fact) 1 0 + count_in_all rest.0 facts
          = sum_by-cons (λ f. cond (is_of rest.0 f) 1 0) fact facts in
          (rest.0, omega (arith, rest.1))
    ]

-- where some fact of one list counts, but none of the other, a count differs
unlike : (facts others : List FactData)
    → ((sort : Sort) → capped (count_in_all sort facts) ≡ capped (count_in_all sort others))
    → list_any has_sort facts ≡ true → list_any has_sort others ≡ false → ⊥
unlike facts others each some none =
    let its = some_of facts some in
    omega (arith, each its.0, its.1, none_of its.0 others none)

pub any_alike : (facts others : List FactData)
    → ((sort : Sort) → capped (count_in_all sort facts) ≡ capped (count_in_all sort others))
    → list_any has_sort facts ≡ list_any has_sort others
any_alike facts others each =
    elim (cases_Bool (list_any has_sort facts)) [
      | inl some ↦
          elim (cases_Bool (list_any has_sort others)) [
            | inl same ↦ some ∙ sym same
            | inr none ↦ absurd (unlike facts others each some none)
          ]
      | inr none ↦
          elim (cases_Bool (list_any has_sort others)) [
            | inl some ↦ absurd (unlike others facts (λ sort. sym (each sort)) some none)
            | inr same ↦ none ∙ sym same
          ]
    ]

-- ---- all counts

all_zero : (counts : List ℕ) → ((n : ℕ) → n < length counts → get_or counts n 0 ≡ 0)
    → list_all (λ count. nat_eq count 0) counts ≡ true
all_zero [] each = refl
all_zero (count ∷ counts) each =
    and_from (nat_eq count 0) (list_all (λ c. nat_eq c 0) counts) (eq-eqb count 0 (each 0 (omega arith)))
    (all_zero counts (λ n below. each (suc n) (omega arith)))

pub empty_is : (counts : List ℕ) (facts : List FactData) → length counts ≡ 18
    → ((sort : Sort) → get_or counts (place sort) 0 ≡ capped (count_in_all sort facts))
    → list_all (λ count. nat_eq count 0) counts ≡ not (list_any has_sort facts)
empty_is counts facts long each =
    elim (cases_Bool (list_any has_sort facts)) [
      | inl some ↦
          let its = some_of facts some in
          let more : (get_or counts (place its.0) 0 ≡ 0 → ⊥)
          = λ (e : get_or counts (place its.0) 0 ≡ 0). omega (arith, each its.0, its.1, e) in
          elim (cases_lt (place its.0) (length counts)) [
            | inl within ↦ list_all_at (λ count. nat_eq count 0) counts (place its.0) 0 within
                (ne_eqb (get_or counts (place its.0) 0) 0 more) ∙ sym (ap not some)
            | inr past ↦ absurd (more (get_or_past counts (place its.0) 0 past))
          ]
      | inr none ↦
          all_zero counts (λ n below.
          let at : place (get_or sorts n Writes) ≡ n = at_place n (omega arith) in
          let e : get_or counts (place (get_or sorts n Writes)) 0 ≡ 0
          = omega (arith, each (get_or sorts n Writes), none_of (get_or sorts n Writes) facts none) in
          subst (λ k. get_or counts k 0 ≡ 0) at e) ∙ sym (ap not none)
    ]

-- ---- devices

-- what names a device counts
named_counts : (addr : ℕ) (what : WhatData) → is_address addr (fact_device what) ≡ true
    → is_some (sort_of what) ≡ true
named_counts addr (Write part parts p) named = refl
named_counts addr (Read t) named = refl
named_counts addr (Call t) named = refl
named_counts addr (Refused parts at sent at_read) named = refl
named_counts addr (Alert t) named = refl
named_counts addr NoAlert named = cc
named_counts addr (Other at) named = refl
named_counts addr (Refusal front event reason expected) named = refl
named_counts addr (BadToken word) named = cc

pub come_is : (addr : ℕ) (facts : List FactData) → list_any has_sort (of_device addr facts) ≡ has_come addr facts
come_is addr [] = refl
come_is addr (fact ∷ facts) =
    elim (cases_Bool (names addr fact)) [
      | inl is ↦
          ap (λ (b : Bool). list_any has_sort (cond b (fact ∷ of_device addr facts) (of_device addr facts))) is
          ∙ (ap (λ (b : Bool). b || list_any has_sort (of_device addr facts)) (named_counts addr fact.what is)
          ∙ sym (ap (λ (b : Bool). b || has_come addr facts) is))
      | inr is ↦
          ap (λ (b : Bool). list_any has_sort (cond b (fact ∷ of_device addr facts) (of_device addr facts))) is
          ∙ (come_is addr facts ∙ sym (ap (λ (b : Bool). b || has_come addr facts) is))
    ]
