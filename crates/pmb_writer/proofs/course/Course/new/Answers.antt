use Rattle.std.proofs.Common.{true, ◌++◌, ap}
use Rattle.pmb_writer.specs.machine.Legs.{code_on, leg_events, legs_data, legs_events}
use Rattle.pmb_writer.proofs.course.Course.new.Goals as goal

pub returns : goal.returns
unfolding code_on
returns c = ap (λ l. leg_events 0 l ++ legs_events true (code_on 0 l.bytes) (legs_data c.args.legs)) c.none.ensures
