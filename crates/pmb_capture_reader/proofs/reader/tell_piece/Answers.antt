use Rattle.std.proofs.Common.{Some, List, ℕ, ◌++◌, subst}
use Rattle.pmb_io.specs.Engines.{Either, PutsOut}
use Rattle.pmb_io.specs.declared.engine.Flow.{Flow}
use Rattle.pmb_io.specs.declared.engine.Flow.TheVariants.{More, Stop}
use Rattle.pmb_io.proofs.Running.{put_and_sent}
use Rattle.pmb_telling.specs.Tell.{StopsTold}
use Rattle.pmb_telling.specs.Teller.{TellerStands, counted_by}
use Rattle.pmb_capture_reader.proofs.Reading.{piece_more, piece_stop}
use Rattle.pmb_capture_reader.proofs.reader.tell_piece.Goals as goal

pub returns-in-More : goal.returns-in-More
returns-in-More c choice profile after given told stands =
    let all = given ++ c.args.piece.now in
    let Holds = λ (flow : Flow) (made : List ℕ). Either
    (TellerStands choice profile after c.take.new.self all (told ++ made))
    (StopsTold choice profile after all (told ++ made) (counted_by c.take.new.self)) flow in
    let puts = subst (λ (flow : Flow). PutsOut (Holds flow) (Some c.clear.new.self.bytes.items) c.clear-2.new.self.items
    (Some c.take.new.writer.bytes.items) c.take.new.waiting.items) c.in-More.is
    (c.in-Ok.ensures.takes choice profile after given told stands) in
    piece_more choice profile after c.take.new.self all told c.clear.new.self.bytes.items
    c.send.new.writer.bytes.items c.clear.ensures
    (put_and_sent (Holds More) _ _ _ _ _ _ c.clear-2.ensures c.in-Ok-send.ensures.empty puts
    c.in-Ok-send.ensures.ok)

pub returns-in-Stop : goal.returns-in-Stop
returns-in-Stop c choice profile after given told stands =
    let all = given ++ c.args.piece.now in
    let Holds = λ (flow : Flow) (made : List ℕ). Either
    (TellerStands choice profile after c.take.new.self all (told ++ made))
    (StopsTold choice profile after all (told ++ made) (counted_by c.take.new.self)) flow in
    let puts = subst (λ (flow : Flow). PutsOut (Holds flow) (Some c.clear.new.self.bytes.items) c.clear-2.new.self.items
    (Some c.take.new.writer.bytes.items) c.take.new.waiting.items) c.in-Stop.is
    (c.in-Ok.ensures.takes choice profile after given told stands) in
    piece_stop choice profile after c.take.new.self all told c.clear.new.self.bytes.items
    c.send.new.writer.bytes.items c.clear.ensures
    (put_and_sent (Holds Stop) _ _ _ _ _ _ c.clear-2.ensures c.in-Ok-send.ensures.empty puts
    c.in-Ok-send.ensures.ok)
