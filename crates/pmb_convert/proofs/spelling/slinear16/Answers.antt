use Rattle.std.proofs.Common.{refl, ap, ◌∙◌, w8}
use Rattle.std.proofs.lemmas.Int.{to_z-of_z}
use Rattle.pmb_value.specs.declared.vout.VoutFormat.TheVariants.{Signed}
use Rattle.pmb_value.specs.declared.number_format.NumberFormat.TheVariants.{Word}
use Rattle.pmb_convert.specs.Spelling.{named_linear, spelled, other, slinear16}
use Rattle.pmb_convert.proofs.spelling.slinear16.Goals as goal

pub returns-in-Some : goal.returns-in-Some
returns-in-Some c =
    let read = c.in-Some.ensures in
    spelled (slinear16 c.in-Some.exponent) (c.in-Some.exponent, record { writes = read.0; fits = read.1 }, refl)
    (c.signed.ensures ∙ ap (named_linear (λ e. Word (Signed e))) (to_z-of_z w8 c.in-Some.exponent read.1))

pub returns-in-None : goal.returns-in-None
returns-in-None c = other (λ s says. c.in-None.ensures says.0 says.1.writes says.1.fits) refl
