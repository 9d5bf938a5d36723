-- WHAT of `--fail-on`, as it is cut at its commas: for `read_fails`, and for the laws `stats_words_ask`
-- and `one_asking`. No word has a comma, so the parts of what is spelled are the words themselves; each
-- word names one thing, by its third letter.
use Rattle.std.proofs.Common.{◌≡◌, ◌≢◌, ℕ, ◌<◌, ◌≤◌, ◌==◌, if◌then◌else◌, Bool, true, false, not, cond, List, []}
use Rattle.std.proofs.Common.{◌∷◌, ◌++◌, length, map, get_or, refl, sym, ap, ◌∙◌, arith, eq-eqb, eqb, length-append}
use Rattle.std.specs.List.{All, join_with_byte, list_all, slice_split}
use Rattle.std.proofs.lemmas.Bool.{eqb-true}
use Rattle.std.proofs.lemmas.List.{get_or-map, length-map}
use Rattle.std.proofs.lemmas.List.Splits.{join_with_byte-slice_split, length-slice_split, slice_split_at}
use Rattle.std.proofs.lemmas.List.Splits.{slice_split_none}
use Rattle.std.proofs.lemmas.List.Sums.{AllPass-from_list_all}
use Rattle.std.proofs.lemmas.Slice.Eq.{bytes_eq-Decides}
use Rattle.clap.specs.Words.{Text}
use Rattle.pmb_stats_counts.specs.declared.fail.Fail.{Fail}
use Rattle.pmb_stats_counts.specs.declared.fail.Fail.TheVariants.{Refusals, BadTokens, Nacks, Alerts}
use Rattle.pmb_stats_counts.specs.declared.fail.Fail.TheVariants.{Faults, NoneRead}
use Rattle.pmb_args.specs.Fails.{SpellsFails, fail_word, same_fail, spelled}
use Rattle.pmb_args.specs.Once.{each_once}
use Rattle.pmb_args.proofs.EachOnce.{Below, each_once_more, has, numbers_once, once_few}

-- ---- words

-- what a third letter tells
abbrev fail_at : ℕ → Fail
fail_at letter = if letter == 102 then Refusals else if letter == 100 then BadTokens else if letter == 99 then Nacks
    else if letter == 101 then Alerts else if letter == 117 then Faults else NoneRead

has_letter : (fail : Fail) → fail_at (get_or (fail_word fail) 2 0) ≡ fail
has_letter Refusals = refl
has_letter BadTokens = refl
has_letter Nacks = refl
has_letter Alerts = refl
has_letter Faults = refl
has_letter NoneRead = refl

-- a word names one thing
pub one_fail : (a b : Fail) → fail_word a ≡ fail_word b → a ≡ b
one_fail a b same = sym (has_letter a) ∙ ap (λ (word : Text). fail_at (get_or word 2 0)) same ∙ has_letter b

same_words : (named other : List Fail) → map fail_word named ≡ map fail_word other → named ≡ other
same_words [] [] same = refl
same_words [] (b ∷ bs) same = cc
same_words (a ∷ more) [] same = cc
same_words (a ∷ more) (b ∷ bs) same =
    let first : fail_word a ≡ fail_word b = cc in
    let rest : map fail_word more ≡ map fail_word bs = cc in
    ap (λ (f : Fail). f ∷ more) (one_fail a b first) ∙ ap (λ (fs : List Fail). b ∷ fs) (same_words more bs rest)

-- ---- each of them once

abbrev number : Fail → ℕ
number Refusals = 0
number BadTokens = 1
number Nacks = 2
number Alerts = 3
number Faults = 4
number NoneRead = 5

abbrev numbered : ℕ → Fail
numbered n = if n == 0 then Refusals else if n == 1 then BadTokens else if n == 2 then Nacks
    else if n == 3 then Alerts else if n == 4 then Faults else NoneRead

has_number : (fail : Fail) → numbered (number fail) ≡ fail
has_number Refusals = refl
has_number BadTokens = refl
has_number Nacks = refl
has_number Alerts = refl
has_number Faults = refl
has_number NoneRead = refl

tells : (a b : Fail) → same_fail a b ≡ (number a == number b)
tells a b = by (same_fail a b) (number a == number b) refl refl
  where
    by : (s t : Bool) → same_fail a b ≡ s → (number a == number b) ≡ t → s ≡ t
    by true true same is = refl
    by false false apart is = refl
    by true false same other =
        let one : a ≡ b = one_fail a b ((bytes_eq-Decides (fail_word a) (fail_word b)).0 same) in
        let clash : true ≡ false = sym (eq-eqb (number a) (number b) (ap number one)) ∙ other in
        cc
    by false true apart is =
        let one : a ≡ b = sym (has_number a) ∙ ap numbered (eqb-true (number a) (number b) is) ∙ has_number b in
        let clash : true ≡ false = sym ((bytes_eq-Decides (fail_word a) (fail_word b)).1 (ap fail_word one)) ∙ apart in
        cc

few : (fail : Fail) → number fail < 6
few Refusals = omega arith
few BadTokens = omega arith
few Nacks = omega arith
few Alerts = omega arith
few Faults = omega arith
few NoneRead = omega arith

below : (fails : List Fail) → Below 6 (map number fails)
below [] = tt
below (fail ∷ fails) = (few fail, below fails)

-- six places are enough
once_at_most : (named : List Fail) → length (each_once same_fail named) ≤ 6
once_at_most named =
    omega (
      arith,
      length-map (each_once same_fail named) number,
      ap length (numbers_once same_fail number tells named),
      once_few 6 (map number named) (below named),
    )

module _ (named fails : List Fail) (once : fails ≡ each_once same_fail named) (fail : Fail) where
  one_more : (known : Bool) → has same_fail fail fails ≡ known
      → cond known fails (fails ++ fail ∷ []) ≡ each_once same_fail (named ++ fail ∷ [])
  one_more known is =
      sym (ap (λ (h : Bool). cond h fails (fails ++ fail ∷ [])) is)
      ∙ ap (λ (fs : List Fail). cond (has same_fail fail fs) fs (fs ++ fail ∷ [])) once
      ∙ sym (each_once_more same_fail number tells named fail)

  -- one that is there
  pub known_more : has same_fail fail fails ≡ true → fails ≡ each_once same_fail (named ++ fail ∷ [])
  known_more is = one_more true is

  -- one that is new
  pub new_more : has same_fail fail fails ≡ false → fails ++ fail ∷ [] ≡ each_once same_fail (named ++ fail ∷ [])
  new_more is = one_more false is

  -- there is room for it
  pub room_for : has same_fail fail fails ≡ false → length fails < 6
  room_for is = omega (
    arith,
    length-append fails (fail ∷ []),
    ap length (new_more is),
    once_at_most (named ++ fail ∷ []),
  )

-- ---- the parts of WHAT

-- what lies between its commas
abbrev pub parts : Text → List Text
parts = slice_split (λ (b : ℕ). eqb b 44)

without_comma : (fail : Fail) → list_all (λ (b : ℕ). not (eqb b 44)) (fail_word fail) ≡ true
without_comma Refusals = refl
without_comma BadTokens = refl
without_comma Nacks = refl
without_comma Alerts = refl
without_comma Faults = refl
without_comma NoneRead = refl

not_true : (t : Bool) → not t ≡ true → t ≡ false
not_true true is = cc
not_true false is = refl

lacks_comma : (fail : Fail) → All (λ (b : ℕ). eqb b 44 ≡ false) (fail_word fail)
lacks_comma fail = λ k d inside. not_true _
    (AllPass-from_list_all (λ (b : ℕ). not (eqb b 44)) (fail_word fail) (without_comma fail) k d inside)

-- of what is spelled they are the words
parts_spelled : (named : List Fail) → named ≢ [] → parts (spelled named) ≡ map fail_word named
parts_spelled [] some = absurd (some refl)
parts_spelled (a ∷ []) some = slice_split_none (λ (b : ℕ). eqb b 44) (fail_word a) (lacks_comma a)
parts_spelled (a ∷ next ∷ more) some =
    slice_split_at (λ (b : ℕ). eqb b 44) (fail_word a) 44 (spelled (next ∷ more)) (lacks_comma a) refl
    ∙ ap (λ (words : List Text). fail_word a ∷ words)
    (parts_spelled (next ∷ more) (λ none. let clash : next ∷ more ≡ [] = none in cc))

pub parts_are_words : (WHAT : Text) (fails : List Fail) (spells : SpellsFails WHAT fails)
    → parts WHAT ≡ map fail_word spells.named
parts_are_words WHAT fails spells = ap parts spells.spell ∙ parts_spelled spells.named spells.some

-- and what has words for parts is spelled so
pub words_spell : (WHAT : Text) (named fails : List Fail) → parts WHAT ≡ map fail_word named
    → fails ≡ each_once same_fail named → SpellsFails WHAT fails
words_spell WHAT named fails are once = record {
  named = named;
  some = λ none. let empty : parts WHAT ≡ [] = are ∙ ap (map fail_word) none in
      absurd (omega (arith, ap length empty, length-slice_split (λ (b : ℕ). eqb b 44) WHAT));
  spell = sym (join_with_byte-slice_split 44 WHAT) ∙ ap (join_with_byte 44) are;
  once = once;
}

-- a part that is no word
pub no_word : (WHAT : Text) (k : ℕ) (word : Text) → k < length (parts WHAT) → word ≡ get_or (parts WHAT) k word
    → ((fail : Fail) → word ≢ fail_word fail) → (fails : List Fail) → ¬ (SpellsFails WHAT fails)
no_word WHAT k word inside is none fails spells =
    let words = parts_are_words WHAT fails spells in
    let within : k < length spells.named = omega (arith, inside, ap length words, length-map spells.named fail_word) in
    none (get_or spells.named k Refusals)
    (is ∙ ap (λ (ws : List Text). get_or ws k word) words ∙ get_or-map fail_word spells.named k Refusals word within)

-- WHAT spells one list
pub one_list_of_fails : (WHAT : Text) (a b : List Fail) → SpellsFails WHAT a → SpellsFails WHAT b → a ≡ b
one_list_of_fails WHAT a b left right =
    left.once ∙ ap (each_once same_fail) (same_words left.named right.named
    (sym (parts_are_words WHAT a left) ∙ parts_are_words WHAT b right)) ∙ sym right.once
