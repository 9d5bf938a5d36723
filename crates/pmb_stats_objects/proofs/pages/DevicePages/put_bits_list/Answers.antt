use Rattle.std.proofs.Common.{◌∙◌, List, ap, codes, map, sym}
use Rattle.pmb_observed.specs.Observing.{observations}
use Rattle.pmb_observed.specs.Told.{BitData, page_bits}
use Rattle.pmb_stats_objects.specs.Members.{list_member}
use Rattle.pmb_stats_objects.specs.Pages.{bit_item}
use Rattle.pmb_stats_objects.proofs.Lists.{any_of_map, none_at_all}
use Rattle.pmb_stats_objects.proofs.Putting.{no_ok}
use Rattle.pmb_stats_objects.proofs.Putting.{called_members, list_put, no_members_put, on_ok}
use Rattle.pmb_stats_objects.proofs.pages.DevicePages.put_bits_list.Goals as goal

pub returns-then-not-has_bits-clause-puts : goal.returns-then-not-has_bits-clause-puts
returns-then-not-has_bits-clause-puts g c = λ setting facts stands.
    let found = page_bits setting.profile (observations setting facts) c.args.self.now.addr c.args.page in
    let none = none_at_all found (sym (c.has_bits.ensures setting facts stands) ∙ c.if-not-has_bits.true) in
    called_members (sym (ap (λ (these : List BitData). list_member (codes "bits") (map bit_item these)) none))
    (no_members_put c.args.place.now (c.texts_add_up.ensures.nothing _ _))

pub returns-in_err-begin_list-clause-puts : goal.returns-in_err-begin_list-clause-puts
returns-in_err-begin_list-clause-puts g c = λ setting facts stands. no_ok _ c.from_residual.result
    c.from_residual.ensures.0

pub returns-in_err-put_page_bits-clause-puts : goal.returns-in_err-put_page_bits-clause-puts
returns-in_err-put_page_bits-clause-puts g c = λ setting facts stands. no_ok _
    c.from_residual-in_err-put_page_bits.result c.from_residual-in_err-put_page_bits.ensures.0

pub returns-clause-puts : goal.returns-clause-puts
returns-clause-puts g c = λ setting facts stands.
    let found = page_bits setting.profile (observations setting facts) c.args.self.now.addr c.args.page in
    let some = any_of_map bit_item found ∙ sym (c.has_bits.ensures setting facts stands) ∙ c.if-not-has_bits.false in
    on_ok c.put.result (λ ended.
    list_put c.texts_add_up.ensures.both c.args.place.now (codes "bits") (map bit_item found) some
    c.in_ok-begin_list.ensures.puts (c.in_ok-put_page_bits.ensures.puts setting facts stands) ended) c.put.ensures.ok
