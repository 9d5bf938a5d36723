use Rattle.std.proofs.Common.{sym, subst}
use Rattle.pmb_linear.specs.Linear.{linear16}
use Rattle.pmb_format.specs.Row.{IsLeast}
use Rattle.pmb_linear.specs.machine.Row.{linear16_row}
use Rattle.pmb_format.proofs.EvenRows.{first_is_least}
use Rattle.pmb_linear.proofs.LinearRows.{rises-linear16}
use Rattle.pmb_linear.proofs.linear16.Linear16Codes.least.Goals as goal

pub returns : goal.returns
returns g c =
    let f = linear16 g.W.Word.number c.args.self.now in
    let row = linear16_row g.W.Word.at g.W.Word.least_number c.args.self.now in
    subst (IsLeast f) (sym c.at.ensures) (first_is_least f row
    (rises-linear16 g.W.Word.number g.W.Word.at g.W.Word.least_number c.args.self.now c.counts.ensures))
