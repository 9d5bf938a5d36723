-- A name that is there goes before the others.
use Rattle.std.proofs.Common.{map, ◌++◌, sym, ap, ◌∙◌}
use Rattle.pmb_json_text.specs.Json.{string}
use Rattle.pmb_json_text.specs.Member.{items_text}
use Rattle.pmb_transaction.specs.Names.{with_name}
use Rattle.pmb_json_objects.proofs.Lists.{item_before}
use Rattle.pmb_json_objects.proofs.names.append_kind.Goals as goal

pub returns-clause-items : goal.returns-clause-items
returns-clause-items g c = λ rest.
    let holds = sym c.contains.ensures ∙ c.if-not-contains.false in
    item_before c.args.place c.args.name.now rest c.args.out.now.items c.text_item.ensures.item
    ∙ ap (λ h. c.args.out.now.items ++ items_text c.args.place (map string (with_name h c.args.name.now rest)))
    (sym holds)
