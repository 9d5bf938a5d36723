use Rattle.std.proofs.Common.{◌≡◌, ℕ, ap, ◌∙◌, arith}
use Rattle.std.specs.List.{flat_map, range_with_len}
use Rattle.pmb_observed.specs.Observing.{observations}
use Rattle.pmb_observed.specs.Told.{code_numbers}
use Rattle.pmb_stats_table.specs.Rows.{number_heading, number_row}
use Rattle.pmb_stats_table.proofs.Headed.{puts_both, puts_lines_of}
use Rattle.pmb_stats_table.proofs.Texts.{numbers_more}
use Rattle.pmb_stats_table.proofs.put_numbers.put_page_numbers.Goals as goal

-- the numbers of one code more
pub loop-code-preserved : goal.loop-code-preserved
loop-code-preserved g c = record {
  lines = λ setting facts stands.
      let heading = number_heading c.args.widths in
      let row = number_row c.args.widths c.args.digits in
      let numbers = code_numbers setting.profile (observations setting facts) c.args.addr c.args.page in
      puts_lines_of heading row (numbers_more numbers c.loop-code.code)
      (puts_both heading row (flat_map numbers (range_with_len 0 c.loop-code.code)) (numbers c.loop-code.code)
      (c.loop-code.invariant.lines setting facts stands) (c.in_ok-place.ensures.lines setting facts stands));
  failures = c.in_ok-place.ensures.failed ∙ c.loop-code.invariant.failures;
}

pub returns-clause-lines : goal.returns-clause-lines
returns-clause-lines g c = λ setting facts stands.
    let numbers = code_numbers setting.profile (observations setting facts) c.args.addr c.args.page in
    let all : c.loop-code.code ≡ 256 = omega (arith, c.loop-code-test.false, c.loop-code.auto.code-end) in
    puts_lines_of (number_heading c.args.widths) (number_row c.args.widths c.args.digits)
    (ap (λ (n : ℕ). flat_map numbers (range_with_len 0 n)) all) (c.loop-code.invariant.lines setting facts stands)
