use Rattle.std.proofs.Common.{[], append-nil}
use Rattle.pmb_colour.specs.machine.Painter.{held_by}
use Rattle.pmb_colour.proofs.Puts.{err_holds, front_behind, front_more, puts_as}
use Rattle.pmb_colour.proofs.painter.Painter.pass_held.Goals as goal

-- what is held was put out, and what waits was sent
pub returns-clause-puts : goal.returns-clause-puts
returns-clause-puts g c =
    puts_as _ _ _ _ _ _ (append-nil (held_by c.args.self.now).line)
    (c.texts_add_up.ensures.both _ _ _ _ _ _ _ _ c.in_ok-put_held.ensures.puts c.in_ok-send_all.ensures.puts)

-- a front of what waited and was held went out
pub returns-in_err-put_held-clause-front : goal.returns-in_err-put_held-clause-front
returns-in_err-put_held-clause-front g c =
    err_holds c.from_residual.result (front_more _ _ _ (held_by c.args.self.now).line c.in_err-put_held.ensures.front)

pub returns-in_err-send_all-clause-front : goal.returns-in_err-send_all-clause-front
returns-in_err-send_all-clause-front g c =
    err_holds c.from_residual-in_err-send_all.result
    (front_behind _ _ _ _ _ _ [] _ (append-nil (held_by c.args.self.now).line) c.in_ok-put_held.ensures.puts
    c.in_err-send_all.ensures.front)
