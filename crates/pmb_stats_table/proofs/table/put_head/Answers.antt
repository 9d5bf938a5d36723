use Rattle.std.proofs.Common.{◌++◌, ap, ◌∙◌}
use Rattle.pmb_command.specs.Parts.{DeviceParts}
use Rattle.std.proofs.Common.{List}
use Rattle.pmb_stats_table.specs.Table.{head}
use Rattle.pmb_stats_table.proofs.Puts.{puts_appended}
use Rattle.pmb_stats_table.proofs.table.put_head.Goals as goal

pub returns-clause-puts : goal.returns-clause-puts
returns-clause-puts g c = λ setting facts stands.
    let appends = c.append_head.ensures.says facts (c.counts.ensures setting facts stands) in
    puts_appended c.in_ok-make_room.ensures.ok
    (appends.items
    ∙ ap (λ (profile : List DeviceParts). c.make_room.new.waiting.items ++ head profile c.args.addr facts)
    (c.profile.ensures setting facts stands))
