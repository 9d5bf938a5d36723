use Rattle.std.proofs.Common.{◌≡◌, ◌≢◌, ◌++◌, ◌∙◌, Option, Some, None, List, ℕ, ap, codes, sym, Bor}
use Rattle.std.specs.Option.{MatchOption, option_map}
use Rattle.std.proofs.lemmas.Bool.Decides.{Decides-eqb}
use Rattle.std.proofs.lemmas.Slice.Eq.{strip_suffix_is}
use Rattle.pmb_times.specs.Line.{before_unit}
use Rattle.pmb_times.proofs.Lines.{no_unit, unit_dropped}
use Rattle.pmb_times.proofs.line.before_unit.Goals as goal

of_option : (text : List ℕ) (found : Option (Bor (List ℕ)))
    → MatchOption found ((front : List ℕ) → text ≢ front ++ codes " s") (λ front. text ≡ front.now ++ codes " s")
    → option_map (λ (front : Bor (List ℕ)). front.now) found ≡ before_unit text
of_option text (Some front) is = sym (ap before_unit is ∙ unit_dropped front.now)
of_option text None none = sym (no_unit text none)

pub returns : goal.returns
returns c =
    of_option c.args.text.now c.strip_suffix.result
    (strip_suffix_is Decides-eqb c.args.text.now (codes " s") c.strip_suffix.result c.strip_suffix.ensures.cases)
