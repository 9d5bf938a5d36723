use Rattle.std.proofs.Common.{ap, map, sym}
use Rattle.pmb_keys.specs.CommandView.{command_parts}
use Rattle.pmb_mean.specs.Numbers.{kept}
use Rattle.pmb_stats_objects.specs.Pages.{numbers_item}
use Rattle.pmb_stats_objects.proofs.Found.{no_numbers, some_numbers}
use Rattle.pmb_stats_objects.proofs.Putting.{called_items, none_put, one_put}
use Rattle.pmb_stats_objects.proofs.items.put_command_numbers.Goals as goal

pub returns-then-count-eq0-clause-puts : goal.returns-then-count-eq0-clause-puts
returns-then-count-eq0-clause-puts g c = λ page numbers stands.
    called_items (sym (ap (map (numbers_item c.args.digits)) (no_numbers page c.args.phase
    (command_parts c.args.command.now) (kept numbers) c.count.result (c.count.ensures numbers stands)
    c.if-count-eq0.true)))
    (none_put c.args.place.now (c.texts_add_up.ensures.nothing _ _))

pub returns-clause-puts : goal.returns-clause-puts
returns-clause-puts g c = λ page numbers stands.
    called_items (sym (ap (map (numbers_item c.args.digits)) (some_numbers page c.args.phase
    (command_parts c.args.command.now) (kept numbers) c.count.result (c.count.ensures numbers stands)
    c.if-count-eq0.false)))
    (one_put c.texts_add_up.ensures.both c.texts_add_up.ensures.waits c.args.place.now _ c.in_ok-make_room.ensures.ok
    (c.append_numbers.ensures.item page numbers stands))
