-- Two members, one, or none.
use Rattle.std.proofs.Common.{[], ◌∷◌, ◌++◌, codes, sym, ap, ◌∙◌}
use Rattle.pmb_json_text.specs.declared.item_order.ItemOrder.TheVariants.{Later}
use Rattle.pmb_json_text.specs.Member.{members_text, named}
use Rattle.pmb_json_objects.specs.Members.{page_members, page_mode_member, selected_value}
use Rattle.pmb_json_objects.specs.Seen.{page_at, page_basis_at}
use Rattle.pmb_json_objects.proofs.Lists.{joined, nothing}
use Rattle.pmb_json_objects.proofs.members.append_page.Goals as goal

pub returns-then-paged-clause-members : goal.returns-then-paged-clause-members
returns-then-paged-clause-members g c = λ known sees.
    let addr = c.args.addr in
    let page = c.append_selected.ensures.member
    ∙ ap (λ page. c.args.out.now.items ++ members_text Later (named (codes "page") (selected_value page) ∷ []))
    (c.page-page.ensures known sees) in
    let mode = c.append_page_mode.ensures.members
    ∙ ap (λ page. c.append_selected.new.out.items
    ++ members_text Later (page_mode_member page c.page_basis.result c.pages.result)) (c.page-page.ensures known sees)
    ∙ ap (λ basis. c.append_selected.new.out.items
    ++ members_text Later (page_mode_member (page_at known addr) basis c.pages.result)) (c.page_basis.ensures known sees)
    ∙ ap (λ pages. c.append_selected.new.out.items
    ++ members_text Later (page_mode_member (page_at known addr) (page_basis_at known addr) pages)) c.pages.ensures in
    joined c.args.out.now.items _ _ page mode
    ∙ ap (λ paged. c.args.out.now.items
    ++ members_text Later (page_members paged (page_at known addr) (page_basis_at known addr) c.args.device.now.pages))
    (sym c.if-paged.true)

pub returns-else-paged-clause-members : goal.returns-else-paged-clause-members
returns-else-paged-clause-members g c = λ known sees.
    nothing c.args.out.now.items
    ∙ ap (λ paged. c.args.out.now.items
    ++ members_text Later (page_members paged (page_at known c.args.addr) (page_basis_at known c.args.addr) c.args.device.now.pages))
    (sym c.if-paged.false)
