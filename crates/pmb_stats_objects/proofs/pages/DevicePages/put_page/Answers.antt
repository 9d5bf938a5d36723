use Rattle.std.proofs.Common.{◌∙◌, ◌++◌, codes, sym}
use Rattle.pmb_json_text.specs.declared.item_order.ItemOrder.TheVariants.{First}
use Rattle.pmb_json_text.specs.Member.{members_text}
use Rattle.pmb_json_text.specs.Spelling.{comma}
use Rattle.pmb_observed.specs.Observing.{observations}
use Rattle.pmb_observed.specs.Told.{page_bits, page_numbers}
use Rattle.pmb_stats_objects.specs.Pages.{found_members, page_item, page_member}
use Rattle.pmb_stats_objects.proofs.Lists.{none_at_all}
use Rattle.pmb_stats_objects.proofs.Putting.{no_ok}
use Rattle.pmb_stats_objects.proofs.Putting.{any_of_page, appended, both_members_put, called_items, none_put, on_ok}
use Rattle.pmb_stats_objects.proofs.Putting.{page_put}
use Rattle.pmb_stats_objects.proofs.pages.DevicePages.put_page.Goals as goal

pub returns-then-not-has_page-clause-puts : goal.returns-then-not-has_page-clause-puts
returns-then-not-has_page-clause-puts g c = λ setting facts stands.
    let items = page_item c.args.self.now.digits setting.profile (observations setting facts) c.args.self.now.addr
    c.args.page in
    called_items (sym (none_at_all items (sym (c.has_page.ensures setting facts stands) ∙ c.if-not-has_page.true)))
    (none_put c.args.place.now (c.texts_add_up.ensures.nothing _ _))

pub returns-in_err-make_room-clause-puts : goal.returns-in_err-make_room-clause-puts
returns-in_err-make_room-clause-puts g c = λ setting facts stands. no_ok _ c.from_residual.result
    c.from_residual.ensures.0

pub returns-in_err-put_bits_list-clause-puts : goal.returns-in_err-put_bits_list-clause-puts
returns-in_err-put_bits_list-clause-puts g c = λ setting facts stands. no_ok _
    c.from_residual-in_err-put_bits_list.result c.from_residual-in_err-put_bits_list.ensures.0

pub returns-in_err-put_numbers_list-clause-puts : goal.returns-in_err-put_numbers_list-clause-puts
returns-in_err-put_numbers_list-clause-puts g c = λ setting facts stands. no_ok _
    c.from_residual-in_err-put_numbers_list.result c.from_residual-in_err-put_numbers_list.ensures.0

pub returns-clause-puts : goal.returns-clause-puts
returns-clause-puts g c = λ setting facts stands.
    let add = c.texts_add_up.ensures.both in
    let told = observations setting facts in
    let self = c.args.self.now in
    let page = c.args.page in
    let members = found_members self.digits (page_bits setting.profile told self.addr page)
    (page_numbers setting.profile told self.addr page) in
    let some = sym (any_of_page page members) ∙ sym (c.has_page.ensures setting facts stands)
    ∙ c.if-not-has_page.false in
    let begun = appended add c.texts_add_up.ensures.waits
    (comma c.args.place.now ++ (codes "{" ++ members_text First (page_member page))) c.in_ok-make_room.ensures.ok
    c.begin_page-list.ensures.begun in
    let lists = both_members_put add (c.in_ok-put_bits_list.ensures.puts setting facts stands)
    (c.in_ok-put_numbers_list.ensures.puts setting facts stands) in
    on_ok c.put.result (λ ended.
    page_put add c.args.place.now page members some begun c.begin_page-list.ensures.place lists ended) c.put.ensures.ok
