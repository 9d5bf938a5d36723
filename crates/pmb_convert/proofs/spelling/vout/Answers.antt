use Rattle.std.proofs.Common.{refl}
use Rattle.pmb_convert.specs.Spelling.{spelled, other, vout}
use Rattle.pmb_convert.proofs.spelling.vout.Goals as goal

pub returns-in-Some : goal.returns-in-Some
returns-in-Some c = spelled (vout c.in-Some.mode) (c.in-Some.mode, c.in-Some.ensures, refl) c.of_mode.ensures

pub returns-in-None : goal.returns-in-None
returns-in-None c = other (λ s says. c.in-None.ensures says.0 says.1) refl
