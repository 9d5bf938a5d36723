use Rattle.std.proofs.Common.{ap, sym, subst, ◌∙◌}
use Rattle.pmb_facts.specs.Fact.{fact_command}
use Rattle.pmb_facts.specs.Stands.{Stands, IsRefusal}
use Rattle.pmb_facts.proofs.fact.What.command.Goals as goal

pub returns-in-Refusal : goal.returns-in-Refusal
returns-in-Refusal c = λ known stands.
    let refusal : IsRefusal c.in-Refusal.said.now c.in-Refusal.event c.in-Refusal.reason c.in-Refusal.expected known =
    subst (λ what. Stands what known) c.in-Refusal.is stands in
    c.written_command.ensures refusal.profile refusal.front refusal.viable refusal.given
    ∙ ap fact_command (sym refusal.is)
