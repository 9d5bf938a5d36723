use Rattle.std.proofs.Common.{refl, ap, ◌∙◌, w8}
use Rattle.std.proofs.lemmas.Int.{to_z-of_z}
use Rattle.pmb_value.specs.declared.number_format.NumberFormat.TheVariants.{Linear11Fixed}
use Rattle.pmb_convert.specs.Spelling.{named_linear, spelled, other, linear11_fixed}
use Rattle.pmb_convert.proofs.spelling.linear11_fixed.Goals as goal

pub returns-in-Some : goal.returns-in-Some
returns-in-Some c =
    let read = c.in-Some.ensures in
    spelled (linear11_fixed c.in-Some.exponent) (c.in-Some.exponent, record { writes = read.0; fits = read.1 }, refl)
    (c.fixed.ensures ∙ ap (named_linear Linear11Fixed) (to_z-of_z w8 c.in-Some.exponent read.1))

pub returns-in-None : goal.returns-in-None
returns-in-None c = other (λ s says. c.in-None.ensures says.0 says.1.writes says.1.fits) refl
