use Rattle.std.proofs.Common.{◌++◌, codes}
use Rattle.pmb_stats_table.specs.Table.{bit_lines, head, number_lines}
use Rattle.pmb_stats_table.proofs.Headed.{on_ok}
use Rattle.pmb_stats_table.proofs.Puts.{puts_then}
use Rattle.pmb_stats_table.proofs.table.put_paragraph.Goals as goal

-- one after the other
pub returns-clause-puts : goal.returns-clause-puts
returns-clause-puts g c = λ setting facts stands.
    let first = head setting.profile c.args.addr facts in
    let bits = bit_lines setting facts c.args.widths c.args.addr in
    let numbers = number_lines setting facts c.args.widths c.args.digits c.args.addr in
    on_ok c.put.result (λ end.
    puts_then (first ++ bits ++ numbers) (codes "\n")
    (puts_then (first ++ bits) numbers
    (puts_then first bits (c.in_ok-put_head.ensures.puts setting facts stands)
    (c.in_ok-put_bits.ensures.puts setting facts stands))
    (c.in_ok-put_numbers.ensures.puts setting facts stands)) end) c.put.ensures.ok
