use Rattle.std.proofs.Common.{List, option_map, ap, ◌∙◌}
use Rattle.pmb_command.specs.Parts.{DeviceParts}
use Rattle.pmb_observed.specs.Observing.{first_time, last_time}
use Rattle.pmb_stats_table.specs.declared.widths.Widths.{Widths}
use Rattle.pmb_stats_table.specs.Table.{paragraphs, total_line}
use Rattle.pmb_stats_table.specs.Widths.{widths_of}
use Rattle.pmb_stats_table.proofs.Headed.{on_ok}
use Rattle.pmb_stats_table.proofs.Puts.{puts_as, puts_then}
use Rattle.pmb_stats_table.proofs.table.put_table.Goals as goal

pub returns-clause-puts : goal.returns-clause-puts
returns-clause-puts g c = λ setting facts stands.
    let widths = c.of-widths.ensures.widths
    ∙ ap (λ (profile : List DeviceParts). widths_of profile (option_map (λ time. time.now) c.last.result))
    (c.profile.ensures setting facts stands)
    ∙ ap (widths_of setting.profile) (c.last.ensures.time setting facts stands) in
    let text = λ (w : Widths). paragraphs setting facts w c.args.digits c.args.devices.now in
    on_ok c.put_total.result (λ total.
    puts_then (text (widths_of setting.profile (last_time facts)))
    (total_line facts (first_time facts) (last_time facts))
    (puts_as (ap text widths) (c.in_ok-put_paragraphs.ensures.puts setting facts stands)) total)
    (c.put_total.ensures.puts setting facts stands)
