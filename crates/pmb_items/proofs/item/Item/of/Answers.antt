-- The item of a refusal is that of the events which its partial packet was given.
use Rattle.std.proofs.Common.{ap, sym, subst, ◌∙◌}
use Rattle.pmb_json_objects.specs.Head.{head_of}
use Rattle.pmb_facts.specs.Stands.{IsRefusal, Stands}
use Rattle.pmb_items.specs.Item.{item_of}
use Rattle.pmb_items.proofs.item.Item.of.Goals as goal

pub returns-in-Refusal : goal.returns-in-Refusal
returns-in-Refusal c = λ known what sees stands.
    let refusal : IsRefusal c.in-Refusal.said.now c.in-Refusal.event c.in-Refusal.reason c.in-Refusal.expected what =
    subst (λ w. Stands w what) c.in-Refusal.is stands in
    c.refusal_item.ensures known refusal.profile refusal.front sees refusal.viable refusal.given
    ∙ ap (item_of known (head_of c.args.fact.head)) (sym refusal.is)
