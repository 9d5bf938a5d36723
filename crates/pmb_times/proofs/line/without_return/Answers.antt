use Rattle.std.proofs.Common.{◌≡◌, ◌++◌, ◌≢◌, ◌∙◌, List, ℕ, ap, codes, sym, subst}
use Rattle.std.specs.Option.{MatchOption}
use Rattle.std.proofs.lemmas.Bool.Decides.{Decides-eqb}
use Rattle.std.proofs.lemmas.Slice.Eq.{strip_suffix_is}
use Rattle.pmb_times.specs.Line.{without_return}
use Rattle.pmb_times.proofs.Lines.{no_return_kept, return_dropped}
use Rattle.pmb_times.proofs.line.without_return.Goals as goal

pub returns-in-Some : goal.returns-in-Some
returns-in-Some c =
    let told = strip_suffix_is Decides-eqb c.args.line.now
    (codes "\r") c.strip_suffix.result c.strip_suffix.ensures.cases in
    let split = subst (λ r. MatchOption r ((front : List ℕ) → c.args.line.now ≢ front ++ codes "\r")
    (λ line. c.args.line.now ≡ line.now ++ codes "\r")) c.in-Some.is told in
    sym (ap without_return split ∙ return_dropped c.in-Some.before.now)

pub returns-in-None : goal.returns-in-None
returns-in-None c =
    let told = strip_suffix_is Decides-eqb c.args.line.now
    (codes "\r") c.strip_suffix.result c.strip_suffix.ensures.cases in
    sym (no_return_kept c.args.line.now (subst
    (λ r. MatchOption r ((front : List ℕ) → c.args.line.now ≢ front ++ codes "\r")
    (λ line. c.args.line.now ≡ line.now ++ codes "\r")) c.in-None.is told))
