use Rattle.pmb_stats_objects.proofs.Pieces.{nothing}
use Rattle.pmb_stats_objects.proofs.member.append_text.Goals as goal

pub returns-in_default : goal.returns-in_default
returns-in_default g c =
    rw c.in_default.is (nothing 262 _ c.args.out.now.items)
