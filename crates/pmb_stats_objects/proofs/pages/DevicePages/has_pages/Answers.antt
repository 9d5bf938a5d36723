use Rattle.std.proofs.Common.{◌∙◌, ◌≤◌, ◌||◌, Bool, List, ap, arith, length, refl, sym, take, take_all}
use Rattle.std.specs.List.{flat_map}
use Rattle.pmb_observed.specs.declared.spot.PageKey.{PageKey}
use Rattle.pmb_observed.specs.Observing.{observations}
use Rattle.pmb_observed.specs.Spot.{page_keys}
use Rattle.pmb_observed.specs.Told.{pages_of}
use Rattle.pmb_stats_objects.specs.Pages.{page_item}
use Rattle.pmb_stats_objects.specs.machine.Written.{has_any}
use Rattle.pmb_stats_objects.proofs.Lists.{any_in, any_of_both, one_more_at}
use Rattle.pmb_stats_objects.proofs.PageKeys.{page_count}
use Rattle.pmb_stats_objects.proofs.pages.DevicePages.has_pages.Goals as goal

pub loop-index-init : goal.loop-index-init
loop-index-init c = record { none = λ setting facts stands. refl }

pub returns-then-has_page : goal.returns-then-has_page
returns-then-has_page c = λ setting facts stands.
    let digits = c.args.self.now.digits in
    let item = page_item digits setting.profile (observations setting facts) c.args.self.now.addr in
    let some = any_in item (page_keys c.pages-pages.result) c.loop-index.index c.page_at.result c.page_at.ensures
    (sym (c.has_page.ensures setting facts stands) ∙ c.if-has_page.true) in
    sym (ap (λ (pages : List PageKey). has_any (flat_map item pages))
    (ap pages_of stands.device ∙ sym (ap page_keys c.pages-pages.ensures)) ∙ some)

pub loop-index-preserved : goal.loop-index-preserved
loop-index-preserved c = record {
  none = λ setting facts stands.
      let item = page_item c.args.self.now.digits setting.profile (observations setting facts) c.args.self.now.addr in
      let pages = page_keys c.pages-pages.result in
      let i = c.loop-index.index in
      let page = c.page_at.result in
      sym (ap has_any (one_more_at item pages i page c.page_at.ensures))
      ∙ any_of_both (flat_map item (take i pages)) (item page)
      ∙ ap (λ (any : Bool). any || has_any (item page)) (c.loop-index.invariant.none setting facts stands)
      ∙ sym (c.has_page.ensures setting facts stands) ∙ c.if-has_page.false;
}

pub returns : goal.returns
returns c = λ setting facts stands.
    let item = page_item c.args.self.now.digits setting.profile (observations setting facts) c.args.self.now.addr in
    let pages = page_keys c.pages-pages.result in
    let past : length pages ≤ c.loop-index.index = omega (
      arith,
      page_count c.pages-pages.result,
      c.loop-index-test.false,
    ) in
    sym (ap (λ (all : List PageKey). has_any (flat_map item all))
    (ap pages_of stands.device ∙ sym (ap page_keys c.pages-pages.ensures)
    ∙ sym (take_all c.loop-index.index pages past))
    ∙ c.loop-index.invariant.none setting facts stands)
