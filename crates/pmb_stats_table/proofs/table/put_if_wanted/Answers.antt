use Rattle.std.proofs.Common.{◌&&◌, Some, sym, ◌∙◌}
use Rattle.pmb_io.proofs.Writing.{writes_nothing}
use Rattle.pmb_json_objects.specs.Object.{is_wanted}
use Rattle.pmb_stats_counts.specs.Counts.{has_come}
use Rattle.pmb_stats_table.specs.Table.{paragraph}
use Rattle.pmb_stats_table.proofs.Headed.{on_ok}
use Rattle.pmb_stats_table.proofs.Puts.{if_not, if_so, puts_as}
use Rattle.pmb_stats_table.proofs.table.put_if_wanted.Goals as goal

pub returns-then-has_paragraph-clause-puts : goal.returns-then-has_paragraph-clause-puts
returns-then-has_paragraph-clause-puts g c = λ setting facts stands.
    on_ok c.put_paragraph.result (λ puts.
    puts_as (if_so (is_wanted c.args.devices.now (Some c.args.addr) && has_come c.args.addr facts)
    (paragraph setting facts c.args.widths c.args.digits c.args.addr)
    (sym (c.has_paragraph.ensures setting facts stands) ∙ c.if-has_paragraph.true)) puts)
    (c.put_paragraph.ensures.puts setting facts stands)

pub returns-clause-puts : goal.returns-clause-puts
returns-clause-puts g c = λ setting facts stands.
    puts_as (if_not (is_wanted c.args.devices.now (Some c.args.addr) && has_come c.args.addr facts)
    (paragraph setting facts c.args.widths c.args.digits c.args.addr)
    (sym (c.has_paragraph.ensures setting facts stands) ∙ c.if-has_paragraph.false))
    (writes_nothing (g.W.Sink.told c.args.writer.now).held c.args.waiting.now.items)
