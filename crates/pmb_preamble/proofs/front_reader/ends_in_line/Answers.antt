use Rattle.std.proofs.Common.{◌≡◌, ◌≢◌, ◌++◌, ℕ, List, subst}
use Rattle.std.specs.Option.{MatchOption}
use Rattle.std.proofs.lemmas.Bool.Decides.{Decides-eqb}
use Rattle.std.proofs.lemmas.Slice.Eq.{strip_suffix_is}
use Rattle.pmb_preamble.proofs.Limits.{in_line}
use Rattle.pmb_preamble.proofs.front_reader.ends_in_line.Goals as goal

pub returns-then-before-le-MOST_PROFILE : goal.returns-then-before-le-MOST_PROFILE
returns-then-before-le-MOST_PROFILE c =
    let text = c.args.text.now in
    let tail = c.args.tail.now in
    let told = strip_suffix_is Decides-eqb text tail c.strip_suffix.result c.strip_suffix.ensures.cases in
    let ends = subst (λ r. MatchOption r ((front : List ℕ) → text ≢ front ++ tail) (λ x. text ≡ x.now ++ tail))
    c.in-Some.is told in
    in_line text tail c.in-Some.before.now c.starts_line.result ends c.if-before-le-MOST_PROFILE.true
    c.starts_line.ensures

pub returns-in-None : goal.returns-in-None
returns-in-None c =
    let text = c.args.text.now in
    let tail = c.args.tail.now in
    let told = strip_suffix_is Decides-eqb text tail c.strip_suffix.result c.strip_suffix.ensures.cases in
    let none = subst (λ r. MatchOption r ((front : List ℕ) → text ≢ front ++ tail) (λ x. text ≡ x.now ++ tail))
    c.in-None.is told in
    ((λ never. absurd (cc)), λ line. absurd (none line.before line.whole))
