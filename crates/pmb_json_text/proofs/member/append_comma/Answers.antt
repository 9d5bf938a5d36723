-- Nothing comes before the first.
use Rattle.std.proofs.Common.{List, ℕ, ◌++◌, sym, ap, ◌∙◌}
use Rattle.std.proofs.lemmas.List.{append-nil}
use Rattle.pmb_json_text.specs.declared.item_order.ItemOrder.{ItemOrder}
use Rattle.pmb_json_text.specs.Spelling.{comma}
use Rattle.pmb_json_text.proofs.member.append_comma.Goals as goal

pub returns-in-First-clause-text : goal.returns-in-First-clause-text
returns-in-First-clause-text g c =
    let old : List ℕ = c.args.out.now.items in
    sym (append-nil old) ∙ ap (λ (place : ItemOrder). old ++ comma place) (sym c.in-First.is)
