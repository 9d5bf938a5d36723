-- Each name goes before those of the kinds after it.
use Rattle.std.proofs.Common.{[], ◌++◌, sym, ap, ◌∙◌, append-nil}
use Rattle.pmb_json_objects.proofs.Lists.{array_appended, no_items}
use Rattle.pmb_json_objects.proofs.names.append_kinds.Goals as goal

pub returns-clause-member : goal.returns-clause-member
returns-clause-member g c =
    let listed = c.append_kind.new.out.items in
    array_appended c.args.out.now.items _ _ c.begin_array.ensures.begun
    (sym (ap (λ t. listed ++ t) (no_items c.append_kind.result) ∙ append-nil listed)
    ∙ (c.append_kind.ensures.items []
    ∙ (c.append_kind-place-4.ensures.items _
    ∙ (c.append_kind-place-3.ensures.items _
    ∙ (c.append_kind-place-2.ensures.items _ ∙ c.append_kind-place.ensures.items _)))))
    c.end_array.ensures.ended
