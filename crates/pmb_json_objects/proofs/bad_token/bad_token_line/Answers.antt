-- The head, the word, and the end.
use Rattle.std.proofs.Common.{[], ◌∷◌, ◌++◌, codes, ap, ◌∙◌}
use Rattle.pmb_json_text.specs.declared.item_order.ItemOrder.TheVariants.{Later}
use Rattle.pmb_json_text.specs.Json.{string}
use Rattle.pmb_json_text.specs.Member.{members_text, named}
use Rattle.pmb_json_objects.proofs.Lists.{ended, joined_to_begun}
use Rattle.pmb_json_objects.proofs.bad_token.bad_token_line.Goals as goal

pub returns-clause-line : goal.returns-clause-line
returns-clause-line g c =
    let word = c.text_member.ensures.member ∙ ap
    (λ t. c.begin_object.new.out.items ++ members_text Later (named (codes "word") (string t) ∷ []))
    c.told.ensures.text in
    ended c.args.out.now.items _ (joined_to_begun c.args.out.now.items _ _ _ c.begin_object.ensures.begun word)
    c.end.ensures.ended
