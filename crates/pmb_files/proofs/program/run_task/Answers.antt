use Rattle.std.proofs.Common.{◌==◌, ◌∙◌, ℕ, ap, sym}
use Rattle.pmb_files.proofs.Lists.{mapped_some}
use Rattle.pmb_files.proofs.program.run_task.Goals as goal

-- There are values.
pub run_over_values-requires-clause-some : goal.run_over_values-requires-clause-some
run_over_values-requires-clause-some g c =
    let values = c.args.said.now.values in
    mapped_some (λ word. word.now) values.items
    (sym (ap (λ (n : ℕ). n == 0) values.ok.0) ∙ (sym c.is_empty.ensures ∙ c.if-is_empty.false))
