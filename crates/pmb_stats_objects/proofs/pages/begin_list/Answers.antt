use Rattle.pmb_json_text.specs.Member.{array_text}
use Rattle.pmb_stats_objects.proofs.Putting.{appended}
use Rattle.pmb_stats_objects.proofs.pages.begin_list.Goals as goal

pub returns-clause-puts : goal.returns-clause-puts
returns-clause-puts g c =
    appended c.texts_add_up.ensures.both c.texts_add_up.ensures.waits (array_text c.args.place c.args.key.now)
    c.in_ok-make_room.ensures.ok c.begin_array.ensures.begun
