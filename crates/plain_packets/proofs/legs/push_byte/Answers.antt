use Rattle.std.proofs.Common.{rules}
use Rattle.plain_packets.proofs.Stops.{one_more}
use Rattle.plain_packets.proofs.legs.push_byte.Goals as goal

-- Neither the byte nor the answer is STOP.
pub returns : goal.returns
returns c = λ none. rw c.in_ok-push-2.ensures.items
    (one_more c.push.new.self.items c.args.answer (rw c.in_ok-push.ensures.items (one_more _ _ none (search rules)))
    c.requires.other)
