use Rattle.pmb_stats_room.specs.declared.sight.Sight.TheVariants.{Number}
use Rattle.pmb_stats_room.proofs.Telling.{one_more}
use Rattle.pmb_stats_room.proofs.room.Room.see_number.Goals as goal

pub returns : goal.returns
returns c = one_more c.args.spot (Number c.args.number) c.args.self.now c.see.new.self c.see.ensures
