use Rattle.std.proofs.Common.{ap, map, sym}
use Rattle.pmb_keys.specs.CommandView.{command_parts}
use Rattle.pmb_stats_objects.specs.Pages.{bit_item}
use Rattle.pmb_stats_objects.proofs.Found.{kept_some, kept_zero, no_bit, one_bit}
use Rattle.pmb_stats_objects.proofs.Putting.{called_items, none_put, one_put}
use Rattle.pmb_stats_objects.proofs.items.put_bit.Goals as goal

pub returns-then-count-eq0-clause-puts : goal.returns-then-count-eq0-clause-puts
returns-then-count-eq0-clause-puts g c = λ page reads stands.
    called_items (sym (ap (map bit_item) (no_bit page c.args.phase (command_parts c.args.command.now) reads c.args.bit
    (kept_zero c.count.result _ (c.count.ensures reads c.args.bit stands) c.if-count-eq0.true))))
    (none_put c.args.place.now (c.texts_add_up.ensures.nothing _ _))

pub returns-clause-puts : goal.returns-clause-puts
returns-clause-puts g c = λ page reads stands.
    called_items (sym (ap (map bit_item) (one_bit page c.args.phase (command_parts c.args.command.now) reads c.args.bit
    (kept_some c.count.result _ (c.count.ensures reads c.args.bit stands) c.if-count-eq0.false))))
    (one_put c.texts_add_up.ensures.both c.texts_add_up.ensures.waits c.args.place.now _ c.in_ok-make_room.ensures.ok
    (c.append_bit.ensures.item page reads stands))
