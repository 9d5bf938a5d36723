use Rattle.std.proofs.Common.{IsSome, Option, ◌++◌, ◌∙◌, ap, subst}
use Rattle.pmb_quantity.specs.Fraction.{Fraction}
use Rattle.pmb_json_text.specs.Json.{IsNumber}
use Rattle.pmb_mean.specs.MeanText.{some_text}
use Rattle.pmb_mean.proofs.Standing.{mean_held}
use Rattle.pmb_mean.proofs.history.NumberHistory.append_mean.Goals as goal

pub returns-clause-text : goal.returns-clause-text
returns-clause-text g c numbers stands =
    c.append_mean_of.ensures.text
    ∙ ap (λ q. c.args.out.now.items ++ some_text c.args.digits q) (mean_held c.args.self.now numbers stands)

pub returns-clause-number : goal.returns-clause-number
returns-clause-number g c numbers stands =
    subst (λ (q : Option Fraction). IsSome q → IsNumber (some_text c.args.digits q))
    (mean_held c.args.self.now numbers stands) c.append_mean_of.ensures.number
