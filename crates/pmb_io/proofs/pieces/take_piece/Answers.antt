use Rattle.std.proofs.Common.{◌++◌}
use Rattle.pmb_io.specs.Engines.{Either}
use Rattle.pmb_io.proofs.Running.{put_and_sent}
use Rattle.pmb_io.proofs.pieces.take_piece.Goals as goal

-- what the engine put out for the piece is written
pub returns-clause-takes : goal.returns-clause-takes
returns-clause-takes g c start bytes text stands =
    put_and_sent (λ more. Either (g.E.Engine.Stands start c.take.new.self (bytes ++ c.args.piece.now) (text ++ more))
    (g.E.Engine.Stops start c.take.new.self (bytes ++ c.args.piece.now) (text ++ more)) c.in_ok-flow.flow) _ _ _ _ _ _
    c.requires c.in_ok-send.ensures.empty
    (c.in_ok-flow.ensures.takes start bytes text stands) c.in_ok-send.ensures.ok
