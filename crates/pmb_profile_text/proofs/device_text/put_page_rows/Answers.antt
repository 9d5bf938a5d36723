use Rattle.std.proofs.Common.{◌≡◌, ◌∙◌, ℕ, ap, refl, arith}
use Rattle.std.specs.List.{flat_map, range_with_len}
use Rattle.pmb_profile_text.specs.Table.{page_row}
use Rattle.pmb_profile_text.proofs.Texts.{page_more, puts_as}
use Rattle.pmb_profile_text.proofs.device_text.put_page_rows.Goals as goal

pub loop-page-init : goal.loop-page-init
loop-page-init g c = record { put = λ command is same. c.texts_add_up.ensures.nothing _ _; failures = refl }

pub loop-page-preserved : goal.loop-page-preserved
loop-page-preserved g c = record {
  put = λ command is same.
      let row = page_row c.args.device.now command in
      let page = c.loop-page.page in
      let here = puts_as _ _ _ _ _ (row page) (c.as_slice.ensures.value ∙ c.page_row.ensures command is same)
      c.in_ok-put.ensures.ok in
      puts_as _ _ _ _ _ _ (page_more row page)
      (c.texts_add_up.ensures.both (g.W.Sink.told c.args.writer.now).held (g.W.Sink.told c.loop-page.writer).held
      (g.W.Sink.told c.put.new.writer).held c.args.waiting.now.items c.loop-page.waiting.items
      c.put.new.waiting.items (flat_map row (range_with_len 0 page)) (row page)
      (c.loop-page.invariant.put command is same) here);
  failures = c.in_ok-put.ensures.failed ∙ c.loop-page.invariant.failures;
}

pub returns-clause-puts : goal.returns-clause-puts
returns-clause-puts g c = λ command is same.
    let all : c.loop-page.page ≡ c.args.device.now.pages =
    omega (arith, c.loop-page-test.false, c.loop-page.auto.page-end, c.pages-page-end.ensures) in
    puts_as _ _ _ _ _ _
    (ap (λ (pages : ℕ). flat_map (page_row c.args.device.now command) (range_with_len 0 pages)) all)
    (c.loop-page.invariant.put command is same)
