use Rattle.std.proofs.Common.{◌≡◌, ◌≢◌, ◌++◌, ◌∙◌, ℕ, true, false, List, codes, sym, subst}
use Rattle.std.specs.Option.{MatchOption}
use Rattle.std.proofs.lemmas.Bool.Decides.{Decides-eqb}
use Rattle.std.proofs.lemmas.List.{append_cancel_right}
use Rattle.std.proofs.lemmas.Slice.Eq.{strip_suffix_is}
use Rattle.pmb_preamble.specs.Front.{StartsLine}
use Rattle.pmb_preamble.proofs.Marks.{found, stripped, within_line}
use Rattle.pmb_preamble.proofs.front_reader.mark_start.Goals as goal

pub returns-in_default-clause-none : goal.returns-in_default-clause-none
returns-in_default-clause-none c before mark has =
    let line = c.without_return-line.result.now in
    let told = strip_suffix_is Decides-eqb line (codes "%%") c.strip_suffix.result c.strip_suffix.ensures.cases in
    let none = subst (λ r. MatchOption r ((front : List ℕ) → line ≢ front ++ codes "%%")
    (λ x. line ≡ x.now ++ codes "%%")) c.in_default.is told in
    none before (stripped c.args.text.now line before mark c.without_return-line.ensures has)

pub returns-then-starts_line-clause-within : goal.returns-then-starts_line-clause-within
returns-then-starts_line-clause-within c =
    let line = c.without_return-line.result.now in
    let told = strip_suffix_is Decides-eqb line (codes "%%") c.strip_suffix.result c.strip_suffix.ensures.cases in
    let ends = subst (λ r. MatchOption r ((front : List ℕ) → line ≢ front ++ codes "%%")
    (λ x. line ≡ x.now ++ codes "%%")) c.in-Some.is told in
    within_line c.args.text.now line c.in-Some.before.now (codes "%%") c.without_return-line.ensures ends

pub returns-then-starts_line-clause-found : goal.returns-then-starts_line-clause-found
returns-then-starts_line-clause-found c =
    let line = c.without_return-line.result.now in
    let told = strip_suffix_is Decides-eqb line (codes "%%") c.strip_suffix.result c.strip_suffix.ensures.cases in
    let ends = subst (λ r. MatchOption r ((front : List ℕ) → line ≢ front ++ codes "%%")
    (λ x. line ≡ x.now ++ codes "%%")) c.in-Some.is told in
    found c.args.text.now line c.in-Some.before.now c.without_return-line.ensures ends
    (c.starts_line.ensures.0 c.if-starts_line.true)

pub returns-else-starts_line-clause-none : goal.returns-else-starts_line-clause-none
returns-else-starts_line-clause-none c other mark has =
    let line = c.without_return-line.result.now in
    let before = c.in-Some.before.now in
    let told = strip_suffix_is Decides-eqb line (codes "%%") c.strip_suffix.result c.strip_suffix.ensures.cases in
    let ends = subst (λ r. MatchOption r ((front : List ℕ) → line ≢ front ++ codes "%%")
    (λ x. line ≡ x.now ++ codes "%%")) c.in-Some.is told in
    let same : other ≡ before = append_cancel_right other before (codes "%%")
    (sym (stripped c.args.text.now line other mark c.without_return-line.ensures has) ∙ ends) in
    let yes = c.starts_line.ensures.1 (subst StartsLine same has.starts) in
    let contrary : true ≡ false = sym yes ∙ c.if-starts_line.false in
    absurd (cc)
