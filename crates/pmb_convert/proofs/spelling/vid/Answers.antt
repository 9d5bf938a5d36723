use Rattle.std.proofs.Common.{refl, sym}
use Rattle.pmb_convert.specs.Spelling.{spelled, other, vid}
use Rattle.pmb_convert.proofs.Tables.{names_none, names_one}
use Rattle.pmb_convert.proofs.spelling.vid.Goals as goal

pub returns-in-Some : goal.returns-in-Some
returns-in-Some c = spelled (vid c.in-Some.table)
    (c.in-Some.table, names_one c.args.name.now c.in-Some.table (sym c.in-Some.ensures), refl) refl

pub returns-in-None : goal.returns-in-None
returns-in-None c = other (λ s says. names_none c.args.name.now (sym c.in-None.ensures) says.0 says.1) refl
