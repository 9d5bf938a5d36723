-- Nothing was sent.
use Rattle.std.proofs.Common.{◌≡◌, ℕ, ◌<◌, List, [], ◌∷◌, ◌++◌, length, refl, sym, ap, ◌∙◌, arith}
use Rattle.pmb_json_text.specs.declared.item_order.ItemOrder.TheVariants.{Later}
use Rattle.pmb_json_text.specs.Member.{members_text}
use Rattle.pmb_json_objects.specs.Members.{sent_command}
use Rattle.pmb_json_objects.specs.Seen.{SeenData}
use Rattle.pmb_json_objects.proofs.Lists.{nothing}
use Rattle.pmb_json_objects.proofs.members.append_sent_command.Goals as goal

no_command : (known : SeenData) (addr : ℕ) (sent : List ℕ) → length sent < 1 → sent_command known addr sent ≡ []
no_command known addr [] few = refl
no_command known addr (code ∷ bytes) few = grind (arith, few)

pub returns-in_default-clause-members : goal.returns-in_default-clause-members
returns-in_default-clause-members g c = λ known sees.
    nothing c.args.out.now.items
    ∙ ap (λ ms. c.args.out.now.items ++ members_text Later ms)
    (sym (no_command known c.args.addr c.args.sent.now c.in_default.len_below))
