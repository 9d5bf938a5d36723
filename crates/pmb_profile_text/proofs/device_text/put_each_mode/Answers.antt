use Rattle.std.proofs.Common.{◌≡◌, ◌∙◌, ℕ, ap, refl, arith}
use Rattle.std.specs.List.{flat_map, range_with_len}
use Rattle.pmb_profile_text.specs.Table.{mode_line}
use Rattle.pmb_profile_text.proofs.Texts.{page_more, puts_as}
use Rattle.pmb_profile_text.proofs.device_text.put_each_mode.Goals as goal

pub loop-page-init : goal.loop-page-init
loop-page-init g c = record { put = c.texts_add_up.ensures.nothing _ _; failures = refl }

pub loop-page-preserved : goal.loop-page-preserved
loop-page-preserved g c =
    let line = mode_line c.args.device.now in
    let page = c.loop-page.page in
    let here = puts_as _ _ _ _ _ (line page) (c.as_slice.ensures.value ∙ c.mode_line.ensures) c.in_ok-put.ensures.ok in
    record {
      put = puts_as _ _ _ _ _ _ (page_more line page)
          (c.texts_add_up.ensures.both (g.W.Sink.told c.args.writer.now).held (g.W.Sink.told c.loop-page.writer).held
          (g.W.Sink.told c.put.new.writer).held c.args.waiting.now.items c.loop-page.waiting.items
          c.put.new.waiting.items (flat_map line (range_with_len 0 page)) (line page) c.loop-page.invariant.put here);
      failures = c.in_ok-put.ensures.failed ∙ c.loop-page.invariant.failures;
    }

pub returns-clause-puts : goal.returns-clause-puts
returns-clause-puts g c =
    let all : c.loop-page.page ≡ c.args.device.now.pages =
    omega (arith, c.loop-page-test.false, c.loop-page.auto.page-end, c.pages-page-end.ensures) in
    puts_as _ _ _ _ _ _ (ap (λ (pages : ℕ). flat_map (mode_line c.args.device.now) (range_with_len 0 pages)) all)
    c.loop-page.invariant.put
