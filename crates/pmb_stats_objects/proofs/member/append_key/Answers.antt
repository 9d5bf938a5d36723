use Rattle.std.proofs.Common.{◌++◌, ◌∙◌, List, ℕ, ap, append_assoc, codes, refl, sym}
use Rattle.pmb_json_text.specs.declared.item_order.ItemOrder.TheVariants.{Later}
use Rattle.pmb_json_text.proofs.Pieces.{key_appended}
use Rattle.pmb_stats_objects.proofs.member.append_key.Goals as goal

pub returns-clause-key : goal.returns-clause-key
returns-clause-key g c =
    let old = c.args.out.now.items in
    key_appended Later c.args.key.now old {first = old ++ codes ","} c.requires.key refl
    (c.append.ensures ∙ sym (append_assoc old (codes ",") (codes "\"")))
    (c.append-2.ensures ∙ ap (λ (t : List ℕ). c.append.new.out.items ++ t) c.as_bytes.ensures.value) c.append-3.ensures
