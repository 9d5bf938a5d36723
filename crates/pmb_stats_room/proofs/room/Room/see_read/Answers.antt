use Rattle.pmb_stats_room.specs.declared.sight.Sight.TheVariants.{Read}
use Rattle.pmb_stats_room.proofs.Telling.{one_more}
use Rattle.pmb_stats_room.proofs.room.Room.see_read.Goals as goal

pub returns : goal.returns
returns c = one_more c.args.spot (Read c.args.word c.args.time) c.args.self.now c.see.new.self c.see.ensures
