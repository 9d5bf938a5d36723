use Rattle.std.proofs.Common.{◌≡◌, ℕ, ap, ◌∙◌, arith}
use Rattle.std.specs.List.{flat_map, range_with_len}
use Rattle.pmb_observed.specs.Observing.{observations}
use Rattle.pmb_observed.specs.Told.{code_bits}
use Rattle.pmb_stats_table.specs.Rows.{bit_heading, bit_row}
use Rattle.pmb_stats_table.proofs.Headed.{puts_both, puts_lines_of}
use Rattle.pmb_stats_table.proofs.Texts.{numbers_more}
use Rattle.pmb_stats_table.proofs.put_bits.put_page_bits.Goals as goal

-- the bits of one code more
pub loop-code-preserved : goal.loop-code-preserved
loop-code-preserved g c = record {
  lines = λ setting facts stands.
      let heading = bit_heading c.args.widths in
      let row = bit_row c.args.widths in
      let bits = code_bits setting.profile (observations setting facts) c.args.addr c.args.page in
      puts_lines_of heading row (numbers_more bits c.loop-code.code)
      (puts_both heading row (flat_map bits (range_with_len 0 c.loop-code.code)) (bits c.loop-code.code)
      (c.loop-code.invariant.lines setting facts stands) (c.in_ok-place.ensures.lines setting facts stands));
  failures = c.in_ok-place.ensures.failed ∙ c.loop-code.invariant.failures;
}

pub returns-clause-lines : goal.returns-clause-lines
returns-clause-lines g c = λ setting facts stands.
    let bits = code_bits setting.profile (observations setting facts) c.args.addr c.args.page in
    let all : c.loop-code.code ≡ 256 = omega (arith, c.loop-code-test.false, c.loop-code.auto.code-end) in
    puts_lines_of (bit_heading c.args.widths) (bit_row c.args.widths)
    (ap (λ (n : ℕ). flat_map bits (range_with_len 0 n)) all) (c.loop-code.invariant.lines setting facts stands)
