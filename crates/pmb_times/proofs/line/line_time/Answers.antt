use Rattle.std.proofs.Common.{◌≡◌, ◌∙◌, Bor, IfSome, List, None, Option, Some, subst, sym, ap, ℕ}
use Rattle.std.specs.Option.{option_map}
use Rattle.pmb_times.specs.Line.{IsTime, line_time, marked_time}
use Rattle.pmb_times.proofs.Lines.{line_is}
use Rattle.pmb_times.proofs.line.line_time.Goals as goal

of_option : (told : Option (Bor (List ℕ))) (time : Option (List ℕ))
    → option_map (λ (t : Bor (List ℕ)). t.now) told ≡ time
    → IfSome time IsTime → IfSome told (λ t. IsTime t.now)
of_option (Some t) time is fact = subst (λ (o : Option (List ℕ)). IfSome o IsTime) (sym is) fact
of_option None time is fact = tt

pub returns-clause-is : goal.returns-clause-is
returns-clause-is c =
    of_option c.marked_time.result (line_time c.args.line.now)
    (c.marked_time.ensures ∙ ap marked_time c.without_return.ensures) (line_is c.args.line.now)
