use Rattle.std.proofs.Common.{List, Option, ap, option_map, sym, ◌∙◌, Bor}
use Rattle.pmb_stats_counts.specs.declared.fail.Fail.{Fail}
use Rattle.pmb_stats_counts.specs.Fails.{fails}
use Rattle.pmb_stats_counts.proofs.Found.{given}
use Rattle.pmb_stats_counts.proofs.fail.Signs.fails.Goals as goal

pub returns-in-Some : goal.returns-in-Some
returns-in-Some c profile facts stands =
    c.any_holds.ensures ∙ (given c.args.self.now profile facts stands c.in-Some.words.now
    ∙ ap (λ (words : Option (Bor (List Fail))). fails profile (option_map (λ w. w.now) words) facts)
    (sym c.in-Some.is))
