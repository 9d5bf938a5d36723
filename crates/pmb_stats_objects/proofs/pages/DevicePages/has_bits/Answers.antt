use Rattle.std.proofs.Common.{◌≡◌, ◌∙◌, ◌||◌, Bool, ℕ, ap, arith, refl, sym}
use Rattle.std.specs.List.{flat_map, range_with_len}
use Rattle.pmb_observed.specs.Observing.{observations}
use Rattle.pmb_observed.specs.Told.{code_bits}
use Rattle.pmb_stats_objects.specs.machine.Written.{has_any}
use Rattle.pmb_stats_objects.proofs.Lists.{any_at, any_of_both, next_number}
use Rattle.pmb_stats_objects.proofs.pages.DevicePages.has_bits.Goals as goal

pub loop-code-init : goal.loop-code-init
loop-code-init c = record { none = λ setting facts stands. refl }

pub returns-then-has_code_bits : goal.returns-then-has_code_bits
returns-then-has_code_bits c = λ setting facts stands.
    let found = code_bits setting.profile (observations setting facts) c.args.self.now.addr c.args.page in
    sym (any_at found 0 256 c.loop-code.code (omega arith) (omega (arith, c.loop-code-test.true))
    (sym (c.has_code_bits.ensures setting facts stands) ∙ c.if-has_code_bits.true))

pub loop-code-preserved : goal.loop-code-preserved
loop-code-preserved c = record {
  none = λ setting facts stands.
      let found = code_bits setting.profile (observations setting facts) c.args.self.now.addr c.args.page in
      let code = c.loop-code.code in
      let before = flat_map found (range_with_len 0 code) in
      sym (ap has_any (next_number found code)) ∙ any_of_both before (found code)
      ∙ ap (λ (any : Bool). any || has_any (found code)) (c.loop-code.invariant.none setting facts stands)
      ∙ sym (c.has_code_bits.ensures setting facts stands) ∙ c.if-has_code_bits.false;
}

pub returns : goal.returns
returns c = λ setting facts stands.
    let all : c.loop-code.code ≡ 256 = omega (arith, c.loop-code-test.false, c.loop-code.auto.code-end) in
    sym (c.loop-code.invariant.none setting facts stands)
    ∙ ap (λ (n : ℕ). has_any (flat_map (code_bits setting.profile (observations setting facts) c.args.self.now.addr
    c.args.page) (range_with_len 0 n))) all
