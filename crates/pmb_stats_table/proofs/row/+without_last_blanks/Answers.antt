use Rattle.std.proofs.Common.{ℕ, ◌++◌, ◌∷◌, [], ap, sym, ◌∙◌}
use Rattle.pmb_stats_table.specs.Row.{without_last_blanks}
use Rattle.pmb_stats_table.proofs.Blanks.{blank_goes, nothing_left, other_stays}
use Rattle.pmb_stats_table.proofs.row.+without_last_blanks.Goals as goal

pub returns-in_default-clause-text : goal.returns-in_default-clause-text
returns-in_default-clause-text t c = nothing_left c.args.text.now c.in_default.ensures

pub returns-then-last-eq32-clause-text : goal.returns-then-last-eq32-clause-text
returns-then-last-eq32-clause-text t c =
    c.without_last_blanks.ensures.text ∙ sym (blank_goes c.in-Some.front.now)
    ∙ ap (λ (last : ℕ). without_last_blanks (c.in-Some.front.now ++ last ∷ [])) (sym c.if-last-eq32.true)
    ∙ ap without_last_blanks (sym c.in-Some.ensures)

pub returns-else-last-eq32-clause-text : goal.returns-else-last-eq32-clause-text
returns-else-last-eq32-clause-text t c =
    c.in-Some.ensures ∙ sym (other_stays c.in-Some.front.now c.in-Some.last c.if-last-eq32.false)
    ∙ ap without_last_blanks (sym c.in-Some.ensures)
