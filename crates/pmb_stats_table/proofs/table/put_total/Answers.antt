use Rattle.std.proofs.Common.{ℕ, List, Option, ◌++◌, option_map, ap, ◌∙◌}
use Rattle.pmb_stats_table.specs.Table.{total_line}
use Rattle.pmb_observed.specs.Observing.{first_time}
use Rattle.pmb_stats_table.proofs.Puts.{puts_appended}
use Rattle.pmb_stats_table.proofs.table.put_total.Goals as goal

pub returns-clause-puts : goal.returns-clause-puts
returns-clause-puts g c = λ setting facts stands.
    let appends = c.append_total.ensures.says facts (c.totals.ensures setting facts stands) in
    let before = c.make_room.new.waiting.items in
    puts_appended c.in_ok-make_room.ensures.ok
    (appends.items
    ∙ ap (λ (first : Option (List ℕ)). before
    ++ total_line facts first (option_map (λ time. time.now) c.last.result)) (c.first.ensures.time setting facts stands)
    ∙ ap (λ (last : Option (List ℕ)). before ++ total_line facts (first_time facts) last)
    (c.last.ensures.time setting facts stands))
