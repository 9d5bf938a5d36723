use Rattle.std.proofs.Common.{◌∙◌, ap, codes, sym}
use Rattle.pmb_json_text.specs.declared.item_order.ItemOrder.TheVariants.{Later}
use Rattle.pmb_observed.specs.Observing.{observations}
use Rattle.pmb_stats_objects.specs.Members.{list_member}
use Rattle.pmb_stats_objects.specs.Pages.{page_items}
use Rattle.pmb_stats_objects.proofs.Lists.{none_at_all}
use Rattle.pmb_stats_objects.proofs.Putting.{no_ok}
use Rattle.pmb_stats_objects.proofs.Putting.{called_members, list_put, no_members_put, on_ok}
use Rattle.pmb_stats_objects.proofs.pages.DevicePages.put_pages.Goals as goal

pub returns-then-not-has_pages-clause-puts : goal.returns-then-not-has_pages-clause-puts
returns-then-not-has_pages-clause-puts g c = λ setting facts stands.
    let items = page_items c.args.self.now.digits setting.profile (observations setting facts) c.args.self.now.addr in
    let none = none_at_all items (sym (c.has_pages.ensures setting facts stands) ∙ c.if-not-has_pages.true) in
    (called_members (sym (ap (list_member (codes "pages")) none))
    (no_members_put Later (c.texts_add_up.ensures.nothing _ _))).text

pub returns-in_err-begin_list-clause-puts : goal.returns-in_err-begin_list-clause-puts
returns-in_err-begin_list-clause-puts g c = λ setting facts stands. no_ok _ c.from_residual.result
    c.from_residual.ensures.0

pub returns-in_err-put_each_page-clause-puts : goal.returns-in_err-put_each_page-clause-puts
returns-in_err-put_each_page-clause-puts g c = λ setting facts stands. no_ok _
    c.from_residual-in_err-put_each_page.result c.from_residual-in_err-put_each_page.ensures.0

pub returns-clause-puts : goal.returns-clause-puts
returns-clause-puts g c = λ setting facts stands.
    let items = page_items c.args.self.now.digits setting.profile (observations setting facts) c.args.self.now.addr in
    let some = sym (c.has_pages.ensures setting facts stands) ∙ c.if-not-has_pages.false in
    on_ok c.put.result (λ ended.
    (list_put c.texts_add_up.ensures.both Later (codes "pages") items some
    c.in_ok-begin_list.ensures.puts
    (c.in_ok-put_each_page.ensures.puts setting facts stands) ended).text) c.put.ensures.ok
