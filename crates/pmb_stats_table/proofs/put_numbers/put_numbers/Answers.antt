use Rattle.std.proofs.Common.{◌≡◌, ◌≤◌, List, Some, slice_get, take, length, ap, subst, ◌∙◌, arith}
use Rattle.std.specs.List.{flat_map}
use Rattle.pmb_command.specs.Parts.{DeviceParts}
use Rattle.pmb_observed.specs.Observing.{observations}
use Rattle.pmb_observed.specs.Told.{device_pages, page_numbers}
use Rattle.pmb_stats_table.specs.Rows.{number_heading, number_row}
use Rattle.pmb_stats_table.proofs.Headed.{puts_both, puts_lines_of}
use Rattle.pmb_stats_table.proofs.Texts.{all_elements, elements_more}
use Rattle.pmb_stats_table.proofs.put_numbers.put_numbers.Goals as goal

-- the numbers of one page more
pub loop-index-preserved : goal.loop-index-preserved
loop-index-preserved g c = record {
  lines = λ setting facts stands.
      let heading = number_heading c.args.widths in
      let row = number_row c.args.widths c.args.digits in
      let index = c.loop-index.index in
      let page = c.page_of-page.result in
      let pages = device_pages setting.profile c.args.addr in
      let numbers = page_numbers setting.profile (observations setting facts) c.args.addr in
      let here : slice_get pages index ≡ Some page =
      subst (λ (profile : List DeviceParts). slice_get (device_pages profile c.args.addr) index ≡ Some page)
      (c.profile-profile.ensures setting facts stands) c.page_of-page.ensures in
      puts_lines_of heading row (elements_more numbers pages index page here)
      (puts_both heading row (flat_map numbers (take index pages)) (numbers page)
      (c.loop-index.invariant.lines setting facts stands) (c.in_ok-place.ensures.lines setting facts stands));
  failures = c.in_ok-place.ensures.failed ∙ c.loop-index.invariant.failures;
}

pub returns-clause-puts : goal.returns-clause-puts
returns-clause-puts g c = λ setting facts stands.
    let pages = device_pages setting.profile c.args.addr in
    let numbers = page_numbers setting.profile (observations setting facts) c.args.addr in
    let count = ap (λ (profile : List DeviceParts). length (device_pages profile c.args.addr))
    (c.profile-profile.ensures setting facts stands) in
    let past : length pages ≤ c.loop-index.index =
    omega (arith, count, c.loop-index-test.false, c.page_count-index-end.ensures.count) in
    (puts_lines_of (number_heading c.args.widths) (number_row c.args.widths c.args.digits)
    (all_elements numbers pages c.loop-index.index past)
    (c.loop-index.invariant.lines setting facts stands)).puts
