use Rattle.std.proofs.Common.{◌≡◌, ℕ, ap, refl, ◌∙◌, arith}
use Rattle.std.specs.List.{flat_map, range_with_len}
use Rattle.pmb_io.proofs.Writing.{writes_nothing}
use Rattle.pmb_stats_table.specs.Table.{paragraphs, wanted_paragraph}
use Rattle.pmb_stats_table.proofs.Puts.{puts_as, puts_then}
use Rattle.pmb_stats_table.proofs.Texts.{numbers_more}
use Rattle.pmb_stats_table.proofs.table.put_paragraphs.Goals as goal

pub loop-addr-init : goal.loop-addr-init
loop-addr-init g c = record {
  puts = λ setting facts stands. writes_nothing (g.W.Sink.told c.args.writer.now).held c.args.waiting.now.items;
  failures = refl;
}

-- one address more
pub loop-addr-preserved : goal.loop-addr-preserved
loop-addr-preserved g c = record {
  puts = λ setting facts stands.
      let text = wanted_paragraph setting facts c.args.widths c.args.digits c.args.devices.now in
      puts_as (numbers_more text c.loop-addr.addr)
      (puts_then (flat_map text (range_with_len 0 c.loop-addr.addr)) (text c.loop-addr.addr)
      (c.loop-addr.invariant.puts setting facts stands) (c.in_ok-put_if_wanted.ensures.puts setting facts stands));
  failures = c.in_ok-put_if_wanted.ensures.failed ∙ c.loop-addr.invariant.failures;
}

pub returns-clause-puts : goal.returns-clause-puts
unfolding paragraphs
returns-clause-puts g c = λ setting facts stands.
    let text = wanted_paragraph setting facts c.args.widths c.args.digits c.args.devices.now in
    let all : c.loop-addr.addr ≡ 128 = omega (arith, c.loop-addr-test.false, c.loop-addr.auto.addr-end) in
    puts_as (ap (λ (n : ℕ). flat_map text (range_with_len 0 n)) all) (c.loop-addr.invariant.puts setting facts stands)
