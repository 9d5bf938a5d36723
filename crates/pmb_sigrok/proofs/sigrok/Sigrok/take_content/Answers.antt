use Rattle.std.proofs.Common.{arith, sym}
use Rattle.pmb_sigrok_line.specs.Shown.{line_shown}
use Rattle.pmb_sigrok.proofs.Lengths.{name_short}
use Rattle.pmb_sigrok.proofs.sigrok.Sigrok.take_content.Goals as goal

pub take_decoded-requires : goal.take_decoded-requires
take_decoded-requires g c =
    omega (arith, name_short c.args.text.now (line_shown c.in-Some.line) (sym c.in-Some.ensures), c.requires)
