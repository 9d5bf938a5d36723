use Rattle.std.proofs.Common.{◌∙◌, ◌≤◌, ap, arith, length, refl, sym, take_all}
use Rattle.std.specs.List.{flat_map}
use Rattle.pmb_observed.specs.Observing.{observations}
use Rattle.pmb_observed.specs.Spot.{page_keys}
use Rattle.pmb_observed.specs.Told.{pages_of}
use Rattle.pmb_stats_objects.specs.Pages.{page_item}
use Rattle.pmb_stats_objects.proofs.Lists.{one_more_at}
use Rattle.pmb_stats_objects.proofs.PageKeys.{page_count}
use Rattle.pmb_stats_objects.proofs.Putting.{no_ok}
use Rattle.pmb_stats_objects.proofs.Putting.{both_put, called_items, none_put}
use Rattle.pmb_stats_objects.proofs.pages.DevicePages.put_each_page.Goals as goal

pub loop-index-init : goal.loop-index-init
loop-index-init g c = record {
  put = λ setting facts stands. none_put c.args.place.now (c.texts_add_up.ensures.nothing _ _);
  failures = refl;
}

pub returns-in_err-put_page-clause-puts : goal.returns-in_err-put_page-clause-puts
returns-in_err-put_page-clause-puts g c = λ setting facts stands. no_ok _ c.from_residual.result
    c.from_residual.ensures.0

pub loop-index-preserved : goal.loop-index-preserved
loop-index-preserved g c = record {
  put = λ setting facts stands.
      let item = page_item c.args.self.now.digits setting.profile (observations setting facts) c.args.self.now.addr in
      called_items (one_more_at item (page_keys c.pages-pages.result) c.loop-index.index c.page_at.result
      c.page_at.ensures)
      (both_put c.texts_add_up.ensures.both (c.loop-index.invariant.put setting facts stands)
      (c.in_ok-put_page.ensures.puts setting facts stands));
  failures = c.in_ok-put_page.ensures.failed ∙ c.loop-index.invariant.failures;
}

pub returns-clause-puts : goal.returns-clause-puts
returns-clause-puts g c = λ setting facts stands.
    let item = page_item c.args.self.now.digits setting.profile (observations setting facts) c.args.self.now.addr in
    let pages = page_keys c.pages-pages.result in
    let past : length pages ≤ c.loop-index.index = omega (
      arith,
      page_count c.pages-pages.result,
      c.loop-index-test.false,
    ) in
    called_items (ap (flat_map item) (take_all c.loop-index.index pages past ∙ ap page_keys c.pages-pages.ensures
    ∙ sym (ap pages_of stands.device))) (c.loop-index.invariant.put setting facts stands)
