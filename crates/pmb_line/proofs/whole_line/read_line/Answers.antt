use Rattle.std.proofs.Common.{sym, subst}
use Rattle.pmb_line.specs.LineFault.{IsLineFault}
use Rattle.pmb_line.proofs.NamedFault.{told}
use Rattle.pmb_line.proofs.whole_line.read_line.Goals as goal

pub returns-in-Err-clause-err : goal.returns-in-Err-clause-err
returns-in-Err-clause-err c =
    subst (IsLineFault c.args.profile.now c.args.line.now) (sym c.of_words.ensures)
    (told c.args.profile.now c.args.line.now c.in-Err.fault c.in-Err.ensures.err)
