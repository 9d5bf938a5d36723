-- What is counted of facts is counted of what they say: for the law `counts_are_of_what_is_said`.
use Rattle.std.proofs.Common.{◌≡◌, ℕ, ◌+◌, Bool, true, false, cond, List, [], ◌∷◌, ◌++◌, filter, arith}
use Rattle.std.proofs.Common.{refl, sym, ap, ◌∙◌}
use Rattle.std.specs.List.{count_by}
use Rattle.std.proofs.lemmas.List.Elements.{filter-append}
use Rattle.std.proofs.lemmas.List.Sums.{sum_by-append, sum_by-cons}
use Rattle.pmb_facts.specs.Fact.{FactData, WhatData}
use Rattle.pmb_json.specs.Cut.{said_in}

-- a test of what a fact says
abbrev pub of_fact : (WhatData → Bool) → FactData → Bool
of_fact test fact = test fact.what

counted_as_said : (test : WhatData → Bool) (facts : List FactData)
    → count_by (of_fact test) facts ≡ count_by test (said_in facts)
counted_as_said test [] = refl
counted_as_said test (fact ∷ facts) = omega (
  arith,
  sum_by-cons (λ (f : FactData). cond {A = ℕ} (test f.what) 1 0) fact facts,
  sum_by-cons (λ (what : WhatData). cond {A = ℕ} (test what) 1 0) fact.what (said_in facts),
  counted_as_said test facts,
)

said_if : (passes : Bool) (fact : FactData) (facts : List FactData)
    → said_in (cond passes (fact ∷ facts) facts) ≡ cond passes (fact.what ∷ said_in facts) (said_in facts)
said_if true fact facts = refl
said_if false fact facts = refl

said_of_some : (test : WhatData → Bool) (facts : List FactData)
    → said_in (filter (of_fact test) facts) ≡ filter test (said_in facts)
said_of_some test [] = refl
said_of_some test (fact ∷ facts) =
    said_if (test fact.what) fact (filter (of_fact test) facts)
    ∙ ap (λ (l : List WhatData). cond (test fact.what) (fact.what ∷ l) l) (said_of_some test facts)

module _ (test : WhatData → Bool) (firsts others whole : List FactData)
    (same : said_in whole ≡ said_in firsts ++ said_in others) where
  -- those that pass a test say what those of both say
  pub some_say_the_same : said_in (filter (of_fact test) whole)
      ≡ said_in (filter (of_fact test) firsts) ++ said_in (filter (of_fact test) others)
  some_say_the_same =
      said_of_some test whole
      ∙ ap (filter test) same
      ∙ filter-append test (said_in firsts) (said_in others)
      ∙ ap (λ (l : List WhatData). l ++ filter test (said_in others)) (sym (said_of_some test firsts))
      ∙ ap (λ (l : List WhatData). said_in (filter (of_fact test) firsts) ++ l) (sym (said_of_some test others))

  -- and there are as many as in both
  pub as_many : count_by (of_fact test) whole ≡ count_by (of_fact test) firsts + count_by (of_fact test) others
  as_many = omega (
    arith,
    counted_as_said test whole,
    ap (count_by test) same,
    sum_by-append (λ (what : WhatData). cond {A = ℕ} (test what) 1 0) (said_in firsts) (said_in others),
    counted_as_said test firsts,
    counted_as_said test others,
  )
