use Rattle.std.proofs.Common.{◌≡◌, ◌∙◌, ℕ, ap, arith, map, refl, sym}
use Rattle.std.specs.List.{flat_map, range_with_len}
use Rattle.std.proofs.lemmas.List.{map-append}
use Rattle.pmb_observed.specs.Observing.{observations}
use Rattle.pmb_observed.specs.Told.{code_bits}
use Rattle.pmb_stats_objects.specs.Pages.{bit_item}
use Rattle.pmb_stats_objects.proofs.Lists.{next_number}
use Rattle.pmb_stats_objects.proofs.Putting.{no_ok}
use Rattle.pmb_stats_objects.proofs.Putting.{both_put, called_items, none_put}
use Rattle.pmb_stats_objects.proofs.pages.DevicePages.put_page_bits.Goals as goal

pub loop-code-init : goal.loop-code-init
loop-code-init g c = record {
  put = λ setting facts stands. none_put c.args.place.now (c.texts_add_up.ensures.nothing _ _);
  failures = refl;
}

pub returns-in_err-put_code_bits-clause-puts : goal.returns-in_err-put_code_bits-clause-puts
returns-in_err-put_code_bits-clause-puts g c = λ setting facts stands. no_ok _ c.from_residual.result
    c.from_residual.ensures.0

pub loop-code-preserved : goal.loop-code-preserved
loop-code-preserved g c = record {
  put = λ setting facts stands.
      let found = code_bits setting.profile (observations setting facts) c.args.self.now.addr c.args.page in
      let code = c.loop-code.code in
      called_items (sym (map-append bit_item (flat_map found (range_with_len 0 code)) (found code))
      ∙ ap (map bit_item) (next_number found code))
      (both_put c.texts_add_up.ensures.both (c.loop-code.invariant.put setting facts stands)
      (c.in_ok-put_code_bits.ensures.puts setting facts stands));
  failures = c.in_ok-put_code_bits.ensures.failed ∙ c.loop-code.invariant.failures;
}

pub returns-clause-puts : goal.returns-clause-puts
returns-clause-puts g c = λ setting facts stands.
    let all : c.loop-code.code ≡ 256 = omega (arith, c.loop-code-test.false, c.loop-code.auto.code-end) in
    called_items (ap (λ (n : ℕ). map bit_item (flat_map (code_bits setting.profile (observations setting facts)
    c.args.self.now.addr c.args.page) (range_with_len 0 n))) all) (c.loop-code.invariant.put setting facts stands)
